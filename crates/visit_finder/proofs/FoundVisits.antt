-- What is found of the states that were eliminated.
use Rattle.std.proofs.Common.{◌≡◌, ◌⊎◌, inl, inr, ℕ, ◌*◌, ◌^◌, ◌<◌, false, List, [], ◌∷◌, ◌++◌, Contains, sym, subst, subst₂}
use Rattle.std.specs.BTreeMap.{insert_entry}
use Rattle.std.specs.Ordering.{nat_cmp}
use Rattle.std.proofs.lemmas.List.Elements.{Contains-append_left, Contains-push, Contains-push_cases}
use Rattle.narrow_fractions.specs.Remainders.{Same}
use Rattle.visit_finder.specs.declared.residues.Moduli.{Moduli}
use Rattle.visit_finder.specs.declared.residues.Residues.{Residues}
use Rattle.visit_finder.specs.declared.solving.Pivot.{Pivot}
use Rattle.visit_finder.specs.Equations.{AllForms}
use Rattle.visit_finder.specs.Places.{modulus, form_at, is_lost, AreForms, Loses}
use Rattle.visit_finder.specs.inner.Columns.{sum_at, HasKey}
use Rattle.visit_finder.specs.inner.Pivots.{PivotHolds, PivotsHold, FoundHolds}
use Rattle.visit_finder.proofs.AtPlaces.{same_modulus, forms_before, loses_none, loses_after}
use Rattle.visit_finder.proofs.Entries.{none_in, put_or_before, put_key, put_keeps}

-- the pivots that are left and the states that are told are all, and what is told holds
pub record IsTold (old new : Moduli) (pivots left : List Pivot) (visits : List (ℕ × Residues)) : Type 0 where
  pub loses : Loses old new
  pub forms : AllForms old visits
  pub within : (pivot : Pivot) → Contains left pivot → Contains pivots pivot
  pub all : (pivot : Pivot) → Contains pivots pivot → Contains left pivot ⊎ HasKey visits pivot.state
  pub known : (place : ℕ) → place < 5 → is_lost new place ≡ false → (once : ℕ) (v : ℕ → ℕ) → PivotsHold old place once v pivots → FoundHolds old place once v visits

pub told_none : (moduli : Moduli) (pivots : List Pivot) (visits : List (ℕ × Residues)) → visits ≡ [] → IsTold moduli moduli pivots pivots visits
told_none moduli pivots visits none = subst (IsTold moduli moduli pivots pivots) (sym none) (record {
  loses = loses_none moduli;
  forms = λ k r has. absurd (none_in (k, r) has);
  within = λ pivot has. has;
  all = λ pivot has. inl has;
  known = λ place within kept once v holds s r has. absurd (none_in (s, r) has);
})

-- what a visit that is found says, also where moduli were lost since
known_before : (old new : Moduli) (visits : List (ℕ × Residues)) (pivot : Pivot) (visited : Residues) (place once : ℕ) (v : ℕ → ℕ) → Loses old new →
    (PivotHolds new place once v pivot.state pivot.leaves pivot.column → FoundHolds new place once v visits → Same (modulus new place) (2 ^ 64 * v pivot.state) (once * form_at place visited)) →
    PivotHolds old place once v pivot.state pivot.leaves pivot.column → FoundHolds old place once v visits → Same (modulus old place) (2 ^ 64 * v pivot.state) (once * form_at place visited)
known_before old new visits pivot visited place once v loses clause =
    subst (λ p. Same p (2 ^ 64 * (2 ^ 64 * v pivot.state)) (form_at place pivot.leaves * sum_at place once v pivot.column.entered pivot.column.from.items) →
    ((s : ℕ) (r : Residues) → Contains visits (s, r) → Same p (2 ^ 64 * v s) (once * form_at place r)) → Same p (2 ^ 64 * v pivot.state) (once * form_at place visited))
    (same_modulus old new place loses) clause

-- the visits of one pivot more
pub told_more : (old new newer : Moduli) (pivots left rest : List Pivot) (visits : List (ℕ × Residues)) (pivot : Pivot) (visited : Residues) → left ≡ rest ++ pivot ∷ [] → Loses new newer →
    AreForms new visited →
    ((place : ℕ) → place < 5 → is_lost newer place ≡ false → (once : ℕ) (v : ℕ → ℕ) → PivotHolds new place once v pivot.state pivot.leaves pivot.column → FoundHolds new place once v visits →
    Same (modulus new place) (2 ^ 64 * v pivot.state) (once * form_at place visited)) →
    IsTold old new pivots left visits → IsTold old newer pivots rest (insert_entry nat_cmp visits pivot.state visited)
told_more old new newer pivots left rest visits pivot visited is loses visited_forms clause h = record {
  loses = loses_after old new newer h.loses loses;
  forms = λ k r has. forms k r (put_or_before visits pivot.state visited k r has);
  within = λ other has. h.within other (subst (λ ps. Contains ps other) (sym is) (Contains-append_left rest (pivot ∷ []) other has));
  all = λ other has. all other (h.all other has);
  known = λ place small kept once v holds s r has. known place small kept once v holds s r (put_or_before visits pivot.state visited s r has);
}
  where
    forms : (k : ℕ) (r : Residues) → ((k ≡ pivot.state) × (r ≡ visited)) ⊎ Contains visits (k, r) → AreForms old r
    forms k r (inl same) = subst (AreForms old) (sym same.1) (forms_before old new visited h.loses visited_forms)
    forms k r (inr there) = h.forms k r there

    one : (other : Pivot) → Contains rest other ⊎ (pivot ≡ other) → Contains rest other ⊎ HasKey (insert_entry nat_cmp visits pivot.state visited) other.state
    one other (inl there) = inl there
    one other (inr same) = inr (subst (λ (other : Pivot). HasKey (insert_entry nat_cmp visits pivot.state visited) other.state) same (put_key visits pivot.state visited))

    all : (other : Pivot) → Contains left other ⊎ HasKey visits other.state → Contains rest other ⊎ HasKey (insert_entry nat_cmp visits pivot.state visited) other.state
    all other (inl there) = one other (Contains-push_cases rest pivot other (subst (λ ps. Contains ps other) is there))
    all other (inr key) = inr (put_keeps visits pivot.state visited other.state key)

    known : (place : ℕ) → place < 5 → is_lost newer place ≡ false → (once : ℕ) (v : ℕ → ℕ) → PivotsHold old place once v pivots → (s : ℕ) (r : Residues) →
        ((s ≡ pivot.state) × (r ≡ visited)) ⊎ Contains visits (s, r) → Same (modulus old place) (2 ^ 64 * v s) (once * form_at place r)
    known place small kept once v holds s r (inl same) =
        let has : Contains pivots pivot = h.within pivot (subst (λ ps. Contains ps pivot) (sym is) (Contains-push rest pivot)) in
        let found = h.known place small (loses.1 place kept) once v holds in
        subst₂ (λ s r. Same (modulus old place) (2 ^ 64 * v s) (once * form_at place r)) (sym same.0) (sym same.1)
        (known_before old new visits pivot visited place once v h.loses (clause place small kept once v) (holds pivot has) found)
    known place small kept once v holds s r (inr there) = h.known place small (loses.1 place kept) once v holds s r there

pub told_all : (old new : Moduli) (pivots left : List Pivot) (visits : List (ℕ × Residues)) → left ≡ [] → IsTold old new pivots left visits → (pivot : Pivot) → Contains pivots pivot →
    HasKey visits pivot.state
told_all old new pivots left visits none h pivot has = by (h.all pivot has)
  where
    by : Contains left pivot ⊎ HasKey visits pivot.state → HasKey visits pivot.state
    by (inl there) = absurd (none_in pivot (subst (λ ps. Contains ps pivot) none there))
    by (inr key) = key
