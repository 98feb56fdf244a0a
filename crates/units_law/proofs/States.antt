-- States and their order.
use Rattle.std.proofs.Common.{◌≡◌, ℕ, Bool, cond, Ordering, refl, ap, ◌∙◌}
use Rattle.std.specs.declared.cmp.Ordering.TheVariants.{Less, Equal}
use Rattle.std.specs.Bool.{Decides}
use Rattle.std.specs.Ordering.{int_eq, int_cmp, is_eq, eq_by_cmp, ordering_reverse}
use Rattle.std.specs.Cmp.{IsTotalOrder, IsEquivalence, int_eq_equiv, int_cmp_total, signed_Decides}
use Rattle.std.specs.Cmp.Lexicographic.{pointwise, lists_equiv, lists_total, lists_ties, pointwise_decides}
use Rattle.gcl_core.specs.meaning.Value.{State}
use Rattle.units_law.specs.Merged.{order}

abbrev pub same : State → State → Bool
same = pointwise int_eq

pub order_total : IsTotalOrder order
order_total = lists_total int_cmp_total

pub same_equiv : IsEquivalence same
same_equiv = lists_equiv int_eq_equiv

pub same_order : (x y : State) → same x y ≡ eq_by_cmp order x y
same_order = lists_ties int_cmp (λ x y. refl)

pub same_is : (x y : State) → Decides (same x y) (x ≡ y)
same_is = pointwise_decides signed_Decides

pub equal_is : (x y : State) → order x y ≡ Equal → x ≡ y
equal_is x y e = (same_is x y).0 (same_order x y ∙ ap is_eq e)

pub reversed : (x y : State) (a : Ordering) → order x y ≡ a → order y x ≡ ordering_reverse a
reversed x y a e = order_total.antisymm y x ∙ ap ordering_reverse e

-- what counts one state
abbrev pub at : State → State → ℕ
at s x = cond (same s x) 1 0

pub at_itself : (s : State) → at s s ≡ 1
at_itself s = ap (λ b. cond b 1 0) ((same_is s s).1 refl)

pub at_above : (s x : State) → order s x ≡ Less → at s x ≡ 0
at_above s x p = ap (λ b. cond b 1 0) (same_order s x ∙ ap is_eq p)
