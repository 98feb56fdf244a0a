-- That a walk of the code stands where a round over pairs does: its tables are the merged ones. This project's own rule.
use Rattle.std.specs.Prelude.{◌≡◌, ℕ, ◌*◌, ◌^◌, List, [], ◌∷◌}
use Rattle.numbers.specs.declared.units.TheConstants.{ALL}
use Rattle.gcl_core.specs.meaning.Blocks.{End}
use Rattle.gcl_core.specs.meaning.Outcomes.{zeros}
use Rattle.gcl_core.specs.meaning.Value.{State}
use Rattle.gcl_core.specs.weighing.Fractions.{Fraction}
use Rattle.units_law.specs.Merged.{IsMerged}
use Rattle.units_law.specs.Units.{held}
use Rattle.scaled_law.specs.Pairs.{Pair, Pairs, InOrder, at_least, at_most, merged_pairs}
use Rattle.scaled_law.specs.Scaled.{Scaled}
use Rattle.scaled_fold.specs.declared.walk.Walk.{Walk}
use Rattle.scaled_fold.specs.inner.Ended.{units_of, EndAlike}
use Rattle.scaled_fold.specs.inner.Stack.{stack_of}

-- a merged table of a list in which no state has more at least than at most
pub record IsMergedOf (es J : Pairs State) : Type 0 where
  pub is : es ≡ merged_pairs J
  pub in_order : InOrder J

abbrev pub AreMergedOf : List (Pairs State) → List (Pairs State) → Type 0
AreMergedOf [] [] = Unit {0}
AreMergedOf [] (J ∷ Js) = ⊥
AreMergedOf (es ∷ ess) [] = ⊥
AreMergedOf (es ∷ ess) (J ∷ Js) = IsMergedOf es J × AreMergedOf ess Js

-- how many units make one whole, where they were doubled so often
abbrev pub scale_of : ℕ → Fraction
scale_of doubled = (ALL * 2 ^ doubled, 1)

pub record Holds (f : Scaled) (w : Walk) : Type 0 where
  pub next : IsMergedOf w.next.states.entries f.next
  pub aside : AreMergedOf (stack_of w.aside) f.aside
  pub ended : EndAlike (units_of w.ended) [] f.ended []
  pub loose : w.loose ≡ f.loose
  pub scale : f.scale ≡ scale_of w.doubled

-- what a walk has beside its tables and what has ended
abbrev pub beside : Walk → Pair × ℕ
beside w = (w.loose, w.doubled)

-- after a step of the round, as before it
pub record Follows (g : Scaled → Scaled) (w t : Walk) : Type 0 where
  pub holds : (f : Scaled) → Holds f w → Holds (g f) t
  pub vars : t.next.vars ≡ w.next.vars

-- where each state stands once in its table already
pub record FollowsMerged (g : Scaled → Scaled) (w t : Walk) : Type 0 where
  pub holds : (f : Scaled) → IsMerged (at_most f.next) → Holds f w → Holds (g f) t
  pub vars : t.next.vars ≡ w.next.vars

-- A walk begins where each of so many variables is 0, with all units.
pub record Begins (vars : ℕ) (w : Walk) : Type 0 where
  pub next : w.next.states.entries ≡ (zeros vars, (ALL, ALL)) ∷ []
  pub aside : stack_of w.aside ≡ []
  pub ended : (G : End → ℕ) → (held G (at_least (units_of w.ended)) ≡ 0) × (held G (at_most (units_of w.ended)) ≡ 0)
  pub loose : w.loose ≡ (0, 0)
  pub doubled : w.doubled ≡ 0
