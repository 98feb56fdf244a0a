-- Units that are as small as what stands allows: no factor is 0, and what stands comes to at most ALL and to more than half of it.
use Rattle.std.proofs.Common.{◌≡◌, ◌⊎◌, inl, inr, ℕ, zero, suc, ◌*◌, ◌^◌, ◌≤◌, ◌<◌, [], ◌∷◌, refl, arith}
use Rattle.std.proofs.lemmas.Bool.{cases_lt}
use Rattle.std.proofs.Math.Nat.{mul-le-mul_left, pow-zero, pow-suc}
use Rattle.numbers.specs.declared.units.TheConstants.{ALL}
use Rattle.gcl_core.specs.meaning.Draw.{bits_for}
use Rattle.gcl_core.specs.meaning.Value.{State}
use Rattle.gcl_core.proofs.Classes.{bits_enough, bits_le}
use Rattle.table_flow.proofs.Draws.{power_pos}
use Rattle.scaled_law.specs.Growth.{growth, growing, left_of}
use Rattle.scaled_law.specs.Pairs.{Pair, Pairs}
use Rattle.scaled_law.specs.Scaled.{IsPositive}

some_growth : (J : Pairs State) (w : ℕ) → 0 < (growth J w).0
some_growth [] w = omega arith
some_growth (e ∷ es) w = omega arith

growth_fraction : (J : Pairs State) (w : ℕ) → 0 < (growth J w).1
growth_fraction [] w = omega arith
growth_fraction (e ∷ es) w = power_pos (bits_for w)

pub growing_positive : IsPositive growing
growing_positive = record { some = λ f. some_growth f.next (left_of f); fraction = λ f. growth_fraction f.next (left_of f) }

pub grows_within : (e : State × Pair) (es : Pairs State) (w : ℕ) → w * (growth (e ∷ es) w).0 ≤ ALL * (growth (e ∷ es) w).1
grows_within e es w = let x = mul-le-mul_left ALL (bits_enough w) in omega arith

pub grows_near : (e : State × Pair) (es : Pairs State) (w : ℕ) → 0 < w → ALL * (growth (e ∷ es) w).1 < 2 * (w * (growth (e ∷ es) w).0)
grows_near e es w some = by (bits_for w) refl
  where
    by : (k : ℕ) → bits_for w ≡ k → ALL * 2 ^ k < 2 * (w * ALL)
    by zero e = let x = pow-zero 2 in omega (arith, x, some)
    by (suc k) e = half (cases_lt (2 ^ k) w)
      where
        half : (2 ^ k < w) ⊎ (w ≤ 2 ^ k) → ALL * 2 ^ suc k < 2 * (w * ALL)
        half (inl less) = let x = pow-suc 2 k in omega (arith, x, less)
        half (inr more) = let x = bits_le w k more in absurd (omega (arith, x, e))
