-- Products rounded up to whole units. This project's own rule.
use Rattle.std.specs.Prelude.{◌≡◌, ℕ, ◌-◌, ◌*◌, ◌≤◌, ◌<◌, Option, Some, None}
use Rattle.std.specs.Int.{div_ceil}
use Rattle.numbers.specs.declared.units.TheConstants.{ALL}
use Rattle.numbers.specs.Units.{shared_up, power_down, power_up}
use Rattle.gcl_core.specs.weighing.WeightedEnds.{class_weight, no_class_weight}
use Rattle.units_law.specs.Down.{again_down, again_up}
use Rattle.units_law.specs.Rounding.{Rounding}

-- no part is less than its weight says, and where that is nothing there is no unit
pub record RoundsUp (cut : Rounding) : Type 0 where
  pub shares : (b : ℕ) (r : Option ℕ) (c w : ℕ) → 0 < b → (class_weight b r c).0 * w ≤ (class_weight b r c).1 * cut.share b r c w
  pub rests : (b : ℕ) (r : Option ℕ) (w : ℕ) → 0 < b → (no_class_weight b r).0 * w ≤ (no_class_weight b r).1 * cut.rest b r w
  pub no_share : (b : ℕ) (r : Option ℕ) (c w : ℕ) → 0 < b → (class_weight b r c).0 * w ≡ 0 → cut.share b r c w ≡ 0
  pub no_rest : (b : ℕ) (r : Option ℕ) (w : ℕ) → 0 < b → (no_class_weight b r).0 * w ≡ 0 → cut.rest b r w ≡ 0

-- some attempt is not rejected, and gives a class of c of b numbers
abbrev pub share_up : ℕ → Option ℕ → (c w : ℕ) → ℕ
share_up b None c w = div_ceil (w * c) b
share_up b (Some r) c w = div_ceil (shared_up w (ALL - power_down (again_down b) r) * c) b

-- each attempt is rejected
abbrev pub rest_up : ℕ → Option ℕ → ℕ → ℕ
rest_up b None w = 0
rest_up b (Some r) w = shared_up w (power_up (again_up b) r)

abbrev pub up : Rounding
up = record { share = share_up; rest = rest_up }
