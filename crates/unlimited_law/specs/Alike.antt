-- Weighted lists that weigh the same.
use Rattle.std.specs.Prelude.{◌≤◌, Bool, [], ◌∷◌}
use Rattle.numbers.specs.Fraction.{IsEqual}
use Rattle.gcl_core.specs.weighing.Mass.{sum_of}
use Rattle.gcl_core.specs.weighing.WeightedEnds.{Weighted}

-- no second number is 0
abbrev pub AreFractions : {A : Type 0} → Weighted A → Type 0
AreFractions [] = Unit {0}
AreFractions (e ∷ m) = (1 ≤ e.0.1) × AreFractions m

-- each event has the same weight in both
pub record Alike {A : Type 0} (m o : Weighted A) : Type 0 where
  pub each : (event : A → Bool) → IsEqual (sum_of event m) (sum_of event o)
  pub first : AreFractions m
  pub second : AreFractions o
