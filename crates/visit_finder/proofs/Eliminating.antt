-- States that are eliminated, one after the other.
use Rattle.std.proofs.Common.{◌≡◌, ◌⊎◌, inl, inr, ℕ, ◌+◌, ◌*◌, ◌^◌, ◌<◌, false, List, [], ◌∷◌, ◌++◌, length, Contains, sym, ap, subst, arith}
use Rattle.std.proofs.lemmas.List.Elements.{Contains-append_left, Contains-push, Contains-push_cases}
use Rattle.narrow_fractions.specs.Remainders.{Same}
use Rattle.narrow_fractions.proofs.Congruence.{chained}
use Rattle.visit_finder.specs.declared.columns.Column.{Column}
use Rattle.visit_finder.specs.declared.residues.Moduli.{Moduli}
use Rattle.visit_finder.specs.declared.residues.Residues.{Residues}
use Rattle.visit_finder.specs.declared.solving.Pivot.{Pivot}
use Rattle.visit_finder.specs.Equations.{entered_at, led_at, AreKnown}
use Rattle.visit_finder.specs.Places.{modulus, form_at, is_lost, Loses}
use Rattle.visit_finder.specs.inner.Columns.{sum_at, HasKey, ColumnHolds, ColumnsForms, ColumnsHold}
use Rattle.visit_finder.specs.inner.Pivots.{Takes, Renews, PivotForms, PivotsForms, PivotHolds, PivotsHold, FoundHolds}
use Rattle.visit_finder.proofs.AtPlaces.{loses_none, loses_after}
use Rattle.visit_finder.proofs.Losing.{pivot_forms_before, pivot_before, column_after, renews_before, found_before}

-- a state is one of those that are left, or was eliminated
abbrev pub IsAmong : List (ℕ × Column) → List Pivot → ℕ → Type 0
IsAmong left pivots s = HasKey left s ⊎ ((pivot : Pivot) × Contains pivots pivot × (pivot.state ≡ s))

pub record Eliminating (old new : Moduli) (columns left : List (ℕ × Column)) (pivots : List Pivot) : Type 0 where
  pub loses : Loses old new
  pub forms : ColumnsForms old left
  pub over : PivotsForms old pivots
  pub among : (s : ℕ) → HasKey columns s → IsAmong left pivots s
  pub hold : (place : ℕ) → place < 5 → is_lost new place ≡ false → (once : ℕ) (v : ℕ → ℕ) → ColumnsHold old place once v columns →
      ColumnsHold old place once v left × PivotsHold old place once v pivots

pub eliminating_none : (moduli : Moduli) (columns : List (ℕ × Column)) (pivots : List Pivot) → pivots ≡ [] → ColumnsForms moduli columns → Eliminating moduli moduli columns columns pivots
eliminating_none moduli columns pivots none forms = record {
  loses = loses_none moduli;
  forms = forms;
  over = λ pivot has. nothing pivot has;
  among = λ s has. inl has;
  hold = λ place within kept once v h. (h, λ pivot has. nothing pivot has);
}
  where
    nothing : {A : Type 0} (pivot : Pivot) → Contains pivots pivot → A
    nothing pivot has = let l = has.1 in absurd (let e = ap length none in omega (arith, e, l))

pub eliminating_more : (old new newer : Moduli) (columns left taken renewed : List (ℕ × Column)) (pivots : List Pivot) (column : Column) (pivot : Pivot) → Eliminating old new columns left pivots
    → Takes left pivot.state column taken → Loses new newer → PivotForms new pivot.leaves pivot.column → Renews new pivot.state pivot.leaves pivot.column taken renewed
    → ((place : ℕ) → place < 5 → is_lost newer place ≡ false → (once : ℕ) (v : ℕ → ℕ) → ColumnHolds new place once v pivot.state column →
    PivotHolds new place once v pivot.state pivot.leaves pivot.column)
    → Eliminating old newer columns renewed (pivots ++ pivot ∷ [])
eliminating_more old new newer columns left taken renewed pivots column pivot h takes loses over_new renews_new told = record {
  loses = loses_after old new newer h.loses loses;
  forms = renews.forms (λ s c has. h.forms s c (takes.from s c has));
  over = λ other has. over_at other (Contains-push_cases pivots pivot other has);
  among = λ s has. among_at s (h.among s has);
  hold = λ place within kept once v holds.
      let before = h.hold place within (loses.1 place kept) once v holds in
      let now = pivot_before old new h.loses place once v pivot.state pivot.leaves pivot.column (told place within kept once v (column_after old new h.loses place once v pivot.state column (before.0 pivot.state column takes.had))) in (
        renews.hold place within once v now (λ s c has. before.0 s c (takes.from s c has)),
        λ other has. hold_at place once v now before.1 other (Contains-push_cases pivots pivot other has),
      );
}
  where
    renews : Renews old pivot.state pivot.leaves pivot.column taken renewed
    renews = renews_before old new h.loses pivot.state pivot.leaves pivot.column taken renewed renews_new

    over_at : (other : Pivot) → Contains pivots other ⊎ (pivot ≡ other) → PivotForms old other.leaves other.column
    over_at other (inl before) = h.over other before
    over_at other (inr same) = subst (λ pivot. PivotForms old pivot.leaves pivot.column) same (pivot_forms_before old new h.loses pivot.leaves pivot.column over_new)

    hold_at : (place once : ℕ) (v : ℕ → ℕ) → PivotHolds old place once v pivot.state pivot.leaves pivot.column → PivotsHold old place once v pivots → (other : Pivot) → Contains pivots other ⊎ (pivot ≡ other) →
        PivotHolds old place once v other.state other.leaves other.column
    hold_at place once v now before other (inl there) = before other there
    hold_at place once v now before other (inr same) = subst (λ pivot. PivotHolds old place once v pivot.state pivot.leaves pivot.column) same now

    among_at : (s : ℕ) → IsAmong left pivots s → IsAmong renewed (pivots ++ pivot ∷ []) s
    among_at s (inr there) = inr (there.0, Contains-append_left pivots (pivot ∷ []) there.0 there.1, there.2)
    among_at s (inl has) = by (takes.others s has.0 has.1)
      where
        by : (s ≡ pivot.state) ⊎ Contains {X = ℕ × Column} taken (s, has.0) → IsAmong renewed (pivots ++ pivot ∷ []) s
        by (inl here) = inr (pivot, Contains-push pivots pivot, sym here)
        by (inr there) = inl (renews.keys s (has.0, there))

-- where no state is left, what is found of all that were eliminated is known
pub all_known : (old new last : Moduli) (columns : List (ℕ × Column)) (pivots : List Pivot) (entered : List (ℕ × Residues)) (parts : List ((ℕ × ℕ) × Residues)) (states : List ℕ) (found : List (ℕ × Residues))
    → Eliminating old new columns [] pivots → Loses new last
    → ((s : ℕ) → Contains states s → HasKey columns s)
    → ((place : ℕ) → place < 5 → (once : ℕ) (v : ℕ → ℕ) → (s : ℕ) (column : Column) → Contains {X = ℕ × Column} columns (s, column) → Contains states s ×
    Same (modulus old place) (entered_at place entered s * once + led_at place parts v s) (sum_at place once v column.entered column.from.items))
    → ((pivot : Pivot) → Contains pivots pivot → HasKey found pivot.state)
    → ((place : ℕ) → place < 5 → is_lost last place ≡ false → (once : ℕ) (v : ℕ → ℕ) → PivotsHold new place once v pivots → FoundHolds new place once v found)
    → (place : ℕ) → place < 5 → is_lost last place ≡ false → AreKnown old place entered parts states found
all_known old new last columns pivots entered parts states found h loses keys told all known place within kept once v balances s has =
    let holds = h.hold place within (loses.1 place kept) once v (λ t c here. let is = told place within once v t c here in chained (modulus old place) _ _ _ (balances t is.0) is.1) in
    let found_holds = found_before old new h.loses pivots found place once v (known place within kept once v) holds.1 in
    by found_holds (h.among s (keys s has))
  where
    by : FoundHolds old place once v found → IsAmong [] pivots s → (r : Residues) × Contains {X = ℕ × Residues} found (s, r) × Same (modulus old place) (2 ^ 64 * v s) (once * form_at place r)
    by found_holds (inl none) = absurd (let l = none.1.1 in omega (arith, l))
    by found_holds (inr there) =
        let key = subst (HasKey found) there.2 (all there.0 there.1) in
        (key.0, key.1, found_holds s key.0 key.1)
