-- With one more turn a loop gives no end less, but the limit of turns.
use Rattle.std.proofs.Common.{ℕ, zero, suc, Bool, true, false, cond, Ok, Err}
use Rattle.gcl_core.specs.declared.answers.Limit.TheVariants.{Turns}
use Rattle.gcl_core.specs.meaning.Value.{State, Value, is_zero}
use Rattle.gcl_core.specs.meaning.Blocks.{End, on, failed, fault, limit, by_truth, by_end}
use Rattle.gcl_core.specs.weighing.WeightedEnds.{Weighted, sure, end_weighted}
use Rattle.table_flow.proofs.WeightedParts.{value_weighted, loop_weighted}
use Rattle.unlimited_law.proofs.Numbers.{Rational, ◌⊑◌, nought, unit, below_refl, below_trans, nought_below}
use Rattle.unlimited_law.proofs.Integrals.{integral, integral_below, integral_sure, integral_taken}
use Rattle.unlimited_law.proofs.Bounded.{Small, onward, onward_small}

-- a test counts at most 1 for each end, and nothing for the limit of turns
pub record IsTest (H : End → Rational) : Type 0 where
  pub small : Small H
  pub spared : H (limit Turns) ⊑ nought

pub onward_test : (H : End → Rational) (k : State → Weighted End) → IsTest H → ((s : State) → integral H (k s) ⊑ unit) → IsTest (onward H k)
onward_test H k t h = record { small = onward_small H t.small k h; spared = below_trans (integral_sure H (limit Turns)).below t.spared }

module _ (H : End → Rational) where
  value_rises : (v : Value) (a b c : Weighted End) → integral H a ⊑ integral H b →
      integral H (value_weighted v (λ z. by_truth z a c)) ⊑ integral H (value_weighted v (λ z. by_truth z b c))
  value_rises (Err f) a b c h = below_refl _
  value_rises (Ok z) a b c h = by_test (is_zero z)
    where
      by_test : (t : Bool) → integral H (cond t c a) ⊑ integral H (cond t c b)
      by_test true = below_refl _
      by_test false = h

  onward_rises : (k l : State → Weighted End) → ((s : State) → integral H (k s) ⊑ integral H (l s)) → (e : End) → onward H k e ⊑ onward H l e
  onward_rises k l h (on s) = h s
  onward_rises k l h failed = below_refl _
  onward_rises k l h (fault f) = below_refl _
  onward_rises k l h (limit m) = below_refl _

  then_rises : (m : Weighted End) (k l : State → Weighted End) → ((s : State) → integral H (k s) ⊑ integral H (l s)) → integral H (end_weighted m k) ⊑ integral H (end_weighted m l)
  then_rises m k l h =
      below_trans (integral_taken H m (λ e. by_end e sure k)).below
      (below_trans (integral_below (onward H k) (onward H l) m (onward_rises k l h)) (integral_taken H m (λ e. by_end e sure l)).above)

  pub loop_rises : H (limit Turns) ⊑ nought → (v : State → Value) (body : State → Weighted End) (t : ℕ) (s : State) →
      integral H (loop_weighted v body t s) ⊑ integral H (loop_weighted v body (suc t) s)
  loop_rises spared v body zero s =
      value_rises (v s) (sure (limit Turns)) (end_weighted (body s) (loop_weighted v body 0)) (sure (on s))
      (below_trans (integral_sure H (limit Turns)).below (below_trans spared (nought_below _)))
  loop_rises spared v body (suc t) s =
      value_rises (v s) (end_weighted (body s) (loop_weighted v body t)) (end_weighted (body s) (loop_weighted v body (suc t))) (sure (on s))
      (then_rises (body s) (loop_weighted v body t) (loop_weighted v body (suc t)) (loop_rises spared v body t))
