-- The columns of states, from what the loop is entered with and from the parts of its turns.
use Rattle.std.proofs.Common.{◌≡◌, ◌⊎◌, inl, inr, ℕ, ◌+◌, ◌*◌, ◌<◌, ◌==◌, if◌then◌else◌, Bool, true, false, List, [], ◌∷◌, ◌++◌, Option, Some, None, IsSome, Contains, refl, sym, ap, subst, subst₂, ◌∙◌, arith}
use Rattle.std.specs.BTreeMap.{BTreeMap, get, is_at, IsOrdered, Updates, WritesThrough}
use Rattle.std.specs.Cmp.{nat_cmp_total, eq_by_cmp_equiv}
use Rattle.std.specs.Map.{lookup}
use Rattle.std.specs.Ordering.{nat_cmp}
use Rattle.std.specs.Prelude.{cond}
use Rattle.std.proofs.lemmas.Bool.Decides.{nat_tests}
use Rattle.std.proofs.lemmas.List.Elements.{Contains-append_left, Contains-push, Contains-push_cases}
use Rattle.std.proofs.lemmas.Map.Lookups.{exact_unsigned}
use Rattle.std.proofs.lemmas.Map.Views.{btree_map_get_iff}
use Rattle.narrow_fractions.specs.Remainders.{Same}
use Rattle.narrow_fractions.proofs.Congruence.{equal, turned, chained, added, times}
use Rattle.visit_finder.specs.declared.columns.Column.{Column}
use Rattle.visit_finder.specs.declared.residues.Moduli.{Moduli}
use Rattle.visit_finder.specs.declared.residues.Residues.{Residues}
use Rattle.visit_finder.specs.Equations.{entered_at, led_at, AllForms}
use Rattle.visit_finder.specs.Places.{modulus, form_at, AreAt, AreOf, AreForms}
use Rattle.visit_finder.specs.inner.Columns.{row_at, sum_at, HasKey, ColumnForms, ColumnsForms}
use Rattle.visit_finder.proofs.AtPlaces as places
use Rattle.visit_finder.proofs.Entries.{at_key, later, first_is, has_found}

some_is : {A : Type 0} (a b : A) → ◌≡◌ {A = Option A} (Some a) (Some b) → a ≡ b
some_is a b e = cc

some_of : {A : Type 0} (o : Option A) → IsSome o → (a : A) × (o ≡ Some a)
some_of None is = absurd (cc)
some_of (Some a) is = (a, refl)

not_at : (k s : ℕ) → is_at (nat_cmp k) s ≡ false → s ≡ k → ⊥
not_at k s not same =
    let is : is_at (nat_cmp k) s ≡ true = subst (λ s. is_at (nat_cmp k) s ≡ true) (sym same) ((eq_by_cmp_equiv nat_cmp_total).refl k) in
    cc

-- each of these states has a column, and each column has something
pub record Each (states : List ℕ) (Has : ℕ → Column → Type 0) (columns : BTreeMap ℕ Column) : Type 0 where
  pub all : (s : ℕ) → Contains states s → IsSome (get nat_cmp columns s)
  pub only : (s : ℕ) (column : Column) → get nat_cmp columns s ≡ Some column → Contains states s
  pub ordered : IsOrdered nat_cmp columns
  pub has : (s : ℕ) (column : Column) → get nat_cmp columns s ≡ Some column → Has s column

pub each_none : (Has : ℕ → Column → Type 0) (columns : BTreeMap ℕ Column) → columns.entries ≡ [] → IsOrdered nat_cmp columns → Each [] Has columns
each_none Has columns none ordered = record {
  all = λ s has. let below = has.1 in absurd (omega (arith, below));
  only = λ s column found. absurd (nothing s column found);
  ordered = ordered;
  has = λ s column found. absurd (nothing s column found);
}
  where
    nothing : (s : ℕ) (column : Column) → get nat_cmp columns s ≡ Some column → ⊥
    nothing s column found = let is : ◌≡◌ {A = Option Column} None (Some column) = subst (λ es. lookup (is_at (nat_cmp s)) es ≡ Some column) none found in cc

found_still : (o : Option Column) (b : Bool) (column : Column) → IsSome o → IsSome (cond b (Some column) o)
found_still o true column some = refl
found_still o false column some = some

-- the column of a state is put
pub each_put : (states : List ℕ) (Has : ℕ → Column → Type 0) (old new : BTreeMap ℕ Column) (k : ℕ) (column : Column) → Updates nat_cmp old new k (Some column) → IsOrdered nat_cmp new → Has k column →
    Each states Has old → Each (states ++ k ∷ []) Has new
each_put states Has old new k column updates ordered is h = record {
  all = λ s has. all s (Contains-push_cases states k s has);
  only = λ s other found. only s other (is_at (nat_cmp k) s) refl (sym (updates.0 s) ∙ found);
  ordered = ordered;
  has = λ s other found. has s other (is_at (nat_cmp k) s) refl (sym (updates.0 s) ∙ found);
}
  where
    all : (s : ℕ) → Contains states s ⊎ (k ≡ s) → IsSome (get nat_cmp new s)
    all s (inl there) = subst IsSome (sym (updates.0 s)) (found_still (get nat_cmp old s) (is_at (nat_cmp k) s) column (h.all s there))
    all s (inr same) = subst (λ s. IsSome (get nat_cmp new s)) same (subst IsSome (sym updates.1) refl)

    only : (s : ℕ) (other : Column) (b : Bool) → is_at (nat_cmp k) s ≡ b → cond b (Some column) (get nat_cmp old s) ≡ Some other → Contains (states ++ k ∷ []) s
    only s other true at found = subst (Contains (states ++ k ∷ [])) (at_key k s at) (Contains-push states k)
    only s other false at found = Contains-append_left states (k ∷ []) s (h.only s other found)

    has : (s : ℕ) (other : Column) (b : Bool) → is_at (nat_cmp k) s ≡ b → cond b (Some column) (get nat_cmp old s) ≡ Some other → Has s other
    has s other true at found = subst₂ Has (at_key k s at) (some_is column other found) is
    has s other false at found = h.has s other found

-- the column of a state that has one is written
pub each_written : (states : List ℕ) (Had Has : ℕ → Column → Type 0) (old new : BTreeMap ℕ Column) (k : ℕ) (before after : Column) → get nat_cmp old k ≡ Some before →
    WritesThrough nat_cmp (nat_cmp k) old after new → (Had k before → Has k after) → ((s : ℕ) (column : Column) → (s ≡ k → ⊥) → Had s column → Has s column) → Each states Had old → Each states Has new
each_written states Had Has old new k before after found writes here other h = record {
  all = λ s has. subst IsSome (sym (updates.0 s)) (found_still (get nat_cmp old s) (is_at (nat_cmp k) s) after (h.all s has));
  only = λ s column is. only s column (is_at (nat_cmp k) s) refl (sym (updates.0 s) ∙ is);
  ordered = writes.4;
  has = λ s column is. has s column (is_at (nat_cmp k) s) refl (sym (updates.0 s) ∙ is);
}
  where
    updates : Updates nat_cmp old new k (Some after)
    updates = writes.3 (subst IsSome (sym found) refl)

    only : (s : ℕ) (column : Column) (b : Bool) → is_at (nat_cmp k) s ≡ b → cond b (Some after) (get nat_cmp old s) ≡ Some column → Contains states s
    only s column true at is = subst (Contains states) (at_key k s at) (h.only k before found)
    only s column false at is = h.only s column is

    has : (s : ℕ) (column : Column) (b : Bool) → is_at (nat_cmp k) s ≡ b → cond b (Some after) (get nat_cmp old s) ≡ Some column → Has s column
    has s column true at is = subst₂ Has (at_key k s at) (some_is after column is) (here (h.has k before found))
    has s column false at is = other s column (not_at k s at) (h.has s column is)

-- the state has no column
pub each_passed : (states : List ℕ) (Had Has : ℕ → Column → Type 0) (old new : BTreeMap ℕ Column) (k : ℕ) → get nat_cmp old k ≡ None → new ≡ old →
    ((s : ℕ) (column : Column) → (s ≡ k → ⊥) → Had s column → Has s column) → Each states Had old → Each states Has new
each_passed states Had Has old new k none same other h = subst (Each states Has) (sym same) (record {
  all = h.all;
  only = h.only;
  ordered = h.ordered;
  has = λ s column found. other s column (apart s column found) (h.has s column found);
})
  where
    apart : (s : ℕ) (column : Column) → get nat_cmp old s ≡ Some column → s ≡ k → ⊥
    apart s column found is = let there : get nat_cmp old k ≡ Some column = subst (λ s. get nat_cmp old s ≡ Some column) is found in cc

pub each_same : (states : List ℕ) (Had Has : ℕ → Column → Type 0) (columns : BTreeMap ℕ Column) → ((s : ℕ) (column : Column) → Had s column → Has s column) → Each states Had columns → Each states Has columns
each_same states Had Has columns still h = record { all = h.all; only = h.only; ordered = h.ordered; has = λ s column found. still s column (h.has s column found) }

counted_itself : (k n : ℕ) → (if k == k then n else 0) ≡ n
counted_itself k n = grind (arith, nat_tests)

counted_apart : (k s n : ℕ) → (s ≡ k → ⊥) → (if k == s then n else 0) ≡ 0
counted_apart k s n apart = grind (arith, nat_tests)

row_pushed : (place : ℕ) (row : List (ℕ × Residues)) (k : ℕ) (part : Residues) (v : ℕ → ℕ) → row_at place (row ++ (k, part) ∷ []) v ≡ row_at place row v + form_at place part * v k
row_pushed place [] k part v = omega arith
row_pushed place (e ∷ row) k part v = let rest = row_pushed place row k part v in omega (arith, rest)

module _ (moduli : Moduli) (entered : List (ℕ × Residues)) where
  -- the column has what the entries that are passed give
  pub record HasEntered (rest : List (ℕ × Residues)) (s : ℕ) (column : Column) : Type 0 where
    pub forms : AreForms moduli column.entered
    pub none : column.from.items ≡ []
    pub sums : (place : ℕ) → place < 5 → Same (modulus moduli place) (entered_at place entered s) (form_at place column.entered + entered_at place rest s)

  pub nothing_entered : (s : ℕ) (column : Column) → AreOf moduli column.entered 0 → column.from.items ≡ [] → HasEntered entered s column
  nothing_entered s column is none = record {
    forms = λ place small. (is place small).0;
    none = none;
    sums = λ place small.
        let m = modulus moduli place in
        chained m _ _ _ (equal m _ (0 + entered_at place entered s) (omega arith)) (added m 0 (form_at place column.entered) _ _ (turned m _ _ (is place small).1) (equal m _ _ refl));
  }

  pub entered_here : (rest : List (ℕ × Residues)) (k : ℕ) (part sum : Residues) (old new : Column) → AreForms moduli part →
      ((place : ℕ) → place < 5 → (v u : ℕ) → AreAt moduli place old.entered v → AreAt moduli place part u → AreAt moduli place sum (v + u)) →
      new.entered ≡ sum → new.from.items ≡ old.from.items → HasEntered ((k, part) ∷ rest) k old → HasEntered rest k new
  entered_here rest k part sum old new part_forms clause e e' h = record {
    forms = subst (AreForms moduli) (sym e) (λ place small. (is place small).0);
    none = e' ∙ h.none;
    sums = λ place small.
        let m = modulus moduli place in
        let n = counted_itself k (form_at place part) in
        let same = ap (form_at place) e in
        chained m _ _ _ (h.sums place small) (chained m _ _ _ (equal m _ (form_at place old.entered + form_at place part + entered_at place rest k) (omega (arith, n)))
        (chained m _ _ _ (added m _ _ _ _ (turned m _ _ (is place small).1) (equal m _ _ refl)) (equal m _ _ (omega (arith, same)))));
  }
    where
      is : (place : ℕ) → place < 5 → (form_at place sum < modulus moduli place) × Same (modulus moduli place) (form_at place sum) (form_at place old.entered + form_at place part)
      is place small = places.sum_at moduli place old.entered part sum (clause place small) (h.forms place small) (part_forms place small)

  pub entered_apart : (rest : List (ℕ × Residues)) (k : ℕ) (part : Residues) (s : ℕ) (column : Column) → (s ≡ k → ⊥) → HasEntered ((k, part) ∷ rest) s column → HasEntered rest s column
  entered_apart rest k part s column apart h = record {
    forms = h.forms;
    none = h.none;
    sums = λ place small.
        let m = modulus moduli place in
        let n = counted_apart k s (form_at place part) apart in
        chained m _ _ _ (h.sums place small) (equal m _ _ (omega (arith, n)));
  }

  -- the column has all that is entered, and what the parts that are passed give
  pub record HasLed (parts rest : List ((ℕ × ℕ) × Residues)) (s : ℕ) (column : Column) : Type 0 where
    pub forms : ColumnForms moduli column
    pub whole : (place : ℕ) → place < 5 → Same (modulus moduli place) (entered_at place entered s) (form_at place column.entered)
    pub led : (place : ℕ) (v : ℕ → ℕ) → led_at place parts v s ≡ row_at place column.from.items v + led_at place rest v s

  pub nothing_led : (parts : List ((ℕ × ℕ) × Residues)) (s : ℕ) (column : Column) → HasEntered [] s column → HasLed parts parts s column
  nothing_led parts s column h = record {
    forms = record { entered = h.forms; from = subst (AllForms moduli) (sym h.none) (λ k r has. let below = has.1 in absurd (omega (arith, below))) };
    whole = λ place small. chained (modulus moduli place) _ _ _ (h.sums place small) (equal (modulus moduli place) _ _ (omega arith));
    led = λ place v. let none = ap (λ row. row_at place row v) h.none in omega (arith, none);
  }

  pub led_here : (parts rest : List ((ℕ × ℕ) × Residues)) (from k : ℕ) (part : Residues) (old new : Column) → AreForms moduli part → new.entered ≡ old.entered →
      new.from.items ≡ old.from.items ++ (from, part) ∷ [] → HasLed parts (((from, k), part) ∷ rest) k old → HasLed parts rest k new
  led_here parts rest from k part old new part_forms e e' h = record {
    forms = record { entered = subst (AreForms moduli) (sym e) h.forms.entered; from = subst (AllForms moduli) (sym e') (λ s r has. forms s r (Contains-push_cases old.from.items (from, part) (s, r) has)) };
    whole = λ place small. subst (λ r. Same (modulus moduli place) (entered_at place entered k) (form_at place r)) (sym e) (h.whole place small);
    led = λ place v.
        let n = counted_itself k (form_at place part * v from) in
        let before = h.led place v in
        let row = ap (λ row. row_at place row v) e' ∙ row_pushed place old.from.items from part v in
        omega (arith, n, before, row);
  }
    where
      forms : (s : ℕ) (r : Residues) → Contains old.from.items (s, r) ⊎ (◌≡◌ {A = ℕ × Residues} (from, part) (s, r)) → AreForms moduli r
      forms s r (inl there) = h.forms.from s r there
      forms s r (inr same) = subst (AreForms moduli) (ap (λ (e : ℕ × Residues). e.1) same) part_forms

  pub led_apart : (parts rest : List ((ℕ × ℕ) × Residues)) (from k : ℕ) (part : Residues) (s : ℕ) (column : Column) → (s ≡ k → ⊥) → HasLed parts (((from, k), part) ∷ rest) s column →
      HasLed parts rest s column
  led_apart parts rest from k part s column apart h = record {
    forms = h.forms;
    whole = h.whole;
    led = λ place v. let n = counted_apart k s (form_at place part * v from) apart in let before = h.led place v in omega (arith, n, before);
  }

  -- all entries are passed
  pub all_told : (parts : List ((ℕ × ℕ) × Residues)) (states : List ℕ) (columns : BTreeMap ℕ Column) → Each states (HasLed parts []) columns →
      ColumnsForms moduli columns.entries × ((s : ℕ) → Contains states s → HasKey columns.entries s) ×
      ((s : ℕ) (column : Column) → Contains columns.entries (s, column) → Contains states s) ×
      ((place : ℕ) → place < 5 → (once : ℕ) (v : ℕ → ℕ) (s : ℕ) (column : Column) → Contains columns.entries (s, column) →
      Same (modulus moduli place) (entered_at place entered s * once + led_at place parts v s) (sum_at place once v column.entered column.from.items))
  all_told parts states columns h = (
    λ s column has. (is s column has).forms,
    λ s has. let found = some_of (get nat_cmp columns s) (h.all s has) in (found.0, has_found columns.entries s found.0 found.1),
    λ s column has. h.only s column (found s column has),
    λ place small once v s column has.
        let m = modulus moduli place in
        let all = (is s column has).led place v in
        added m _ _ _ _ (chained m _ _ _ (equal m _ (once * entered_at place entered s) (omega arith)) (chained m _ _ _ (times m once _ _ ((is s column has).whole place small)) (equal m _ _ (omega arith))))
        (equal m _ _ (omega (arith, all))),
  )
    where
      found : (s : ℕ) (column : Column) → Contains columns.entries (s, column) → get nat_cmp columns s ≡ Some column
      found s column has = (btree_map_get_iff nat_cmp_total exact_unsigned columns h.ordered s column).1 has

      is : (s : ℕ) (column : Column) → Contains columns.entries (s, column) → HasLed parts [] s column
      is s column has = h.has s column (found s column has)

pub first_forms : {K : Type 0} (moduli : Moduli) (all rest : List (K × Residues)) (e : K × Residues) → all ≡ e ∷ rest → AllForms moduli all → AreForms moduli e.1
first_forms moduli all rest e is forms = forms e.0 e.1 (subst (λ es. Contains es e) (sym is) (first_is e rest))

pub later_forms : {K : Type 0} (moduli : Moduli) (all rest : List (K × Residues)) (e : K × Residues) → all ≡ e ∷ rest → AllForms moduli all → AllForms moduli rest
later_forms moduli all rest e is forms k r has = forms k r (subst (λ es. Contains es (k, r)) (sym is) (later e rest (k, r) has))
