-- One column is taken away from those that are left.
use Rattle.std.proofs.Common.{◌≡◌, ◌⊎◌, inl, inr, ℕ, ◌+◌, List, ◌∷◌, length, Option, Some, None, IfSome, Contains, refl, sym, ap, subst, ◌∙◌, arith}
use Rattle.std.specs.BTreeMap.{is_at}
use Rattle.std.specs.Map.{lookup, remove_entry}
use Rattle.std.specs.Ordering.{nat_cmp}
use Rattle.visit_finder.specs.declared.columns.Column.{Column}
use Rattle.visit_finder.specs.inner.Pivots.{Takes}
use Rattle.visit_finder.proofs.Entries.{first_is, later, first_or_later, has_found, from_removed, stays_removed}

-- a key is removed
pub takes_removed : (old new : List (ℕ × Column)) (s : ℕ) (column : Column) → lookup (is_at (nat_cmp s)) old ≡ Some column → new ≡ remove_entry (is_at (nat_cmp s)) old → length new + 1 ≡ length old →
    Takes old s column new
takes_removed old new s column found is count = record {
  count = omega (arith, count);
  had = has_found old s column found;
  from = λ t c has. from_removed old s t c (subst (λ es. Contains es (t, c)) is has);
  others = λ t c has. subst (λ es. (t ≡ s) ⊎ Contains es (t, c)) (sym is) (stays_removed old s t c has);
}

-- the first is taken
takes_first : (old new : List (ℕ × Column)) (first : ℕ × Column) → old ≡ first ∷ new → Takes old first.0 first.1 new
takes_first old new first is = subst (λ old. Takes old first.0 first.1 new) (sym is) (record {
  count = refl;
  had = first_is first new;
  from = λ t c has. later first new (t, c) has;
  others = λ t c has. which t c (first_or_later first new (t, c) has);
})
  where
    which : (t : ℕ) (c : Column) → (first ≡ (t, c)) ⊎ Contains new (t, c) → (t ≡ first.0) ⊎ Contains new (t, c)
    which t c (inl same) = inl (sym (ap (λ (e : ℕ × Column). e.0) same))
    which t c (inr there) = inr there

pub takes_first_if : (old before new : List (ℕ × Column)) (found : Option (ℕ × Column)) → before ≡ old → IfSome found (λ first. before ≡ first ∷ new) → IfSome found (λ t. Takes old t.0 t.1 new)
takes_first_if old before new None same is = is
takes_first_if old before new (Some first) same is = takes_first old new first (sym same ∙ is)
