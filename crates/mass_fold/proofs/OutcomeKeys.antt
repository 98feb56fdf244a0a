-- Outcomes as the keys of a table.
use Rattle.std.proofs.Common.{◌≡◌, ◌<◌, true, Ordering, subst}
use Rattle.std.specs.declared.cmp.Ordering.TheVariants.{Equal}
use Rattle.std.specs.Ordering.{MatchOrdering}
use Rattle.std.specs.Cmp.{IsTotalOrder}
use Rattle.std.specs.BTreeMap.{insert_entry}
use Rattle.std.specs.Map.{keys_of}
use Rattle.std.specs.List.Sorted.{IsStrictlySortedBy}
use Rattle.gcl_core.specs.declared.answers.Outcome.{Outcome}
use Rattle.gcl_core.specs.weighing.Fractions.{Fraction}
use Rattle.gcl_core.specs.meaning.Order.{is_before}
use Rattle.mass_fold.specs.inner.Amounts.{SumAt}
use Rattle.mass_fold.specs.Rows.{Rows}
use Rattle.mass_fold.specs.inner.Outcomes.{AddGives}
use Rattle.mass_fold.proofs.Insertion.{put_gives}

-- what the order of outcomes tells
abbrev pub Tells : (Outcome → Outcome → Ordering) → Type 0
Tells order = (x y : Outcome) → MatchOrdering (order x y) (is_before x y ≡ true) (x ≡ y) (is_before y x ≡ true)

module _ (order : Outcome → Outcome → Ordering) (tells : Tells order) where
  pub equal_is : (x y : Outcome) → order x y ≡ Equal → x ≡ y
  equal_is x y e = subst (λ o. MatchOrdering o (is_before x y ≡ true) (x ≡ y) (is_before y x ≡ true)) e (tells x y)

  pub add_gives : IsTotalOrder order → (x : Outcome) (f v : Fraction) (es : Rows) → IsStrictlySortedBy order (keys_of es) → 0 < f.0 → SumAt order es x f v → AddGives es (insert_entry order es x v) x f
  add_gives total x f v es h p s N pos r w = put_gives order total equal_is x f v es h s N pos r p w
