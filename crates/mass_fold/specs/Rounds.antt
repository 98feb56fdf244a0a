-- What further rounds make of the weights of one round, at a scale.
use Rattle.std.specs.Prelude.{◌≡◌, ℕ, zero, suc, ◌+◌, ◌*◌, ◌^◌, ◌<◌, ◌≤◌}
use Rattle.gcl_core.specs.weighing.Fractions.{Fraction}
use Rattle.table_flow.specs.Scale.{whole, Whole}
use Rattle.numbers.specs.Fraction.{Overfills}

-- 1 + f + .. + f ^ (R - 1), as parts of d ^ (R - 1), where d is the denominator of f
abbrev pub geometric : Fraction → ℕ → ℕ
geometric f zero = 0
geometric f (suc n) = f.1 ^ n + f.0 * geometric f n

-- the scale of the weights of R rounds, where N is that of one round
abbrev pub scale_of : ℕ → Fraction → ℕ → ℕ
scale_of N f zero = N
scale_of N f (suc n) = N * f.1 ^ n

-- s is given by each round that is made, f leads to a further one, and C bounds what s comes to in up to R rounds
pub record MayRepeat (N C : ℕ) (s f : Fraction) (R : ℕ) : Type 0 where
  pub positive : 0 < N
  pub some : 1 ≤ C
  pub first : Whole N s
  pub second : Whole N f
  pub bound : (k : ℕ) → k < R → geometric f (suc k) * whole N s ≤ N * f.1 ^ k * C

-- t is what s comes to in R rounds
abbrev pub IsRepeated : Fraction → Fraction → ℕ → Fraction → Type 0
IsRepeated s f R t =
    (N : ℕ) → 0 < N → Whole N s → Whole N f → Whole (scale_of N f R) t × (whole (scale_of N f R) t ≡ geometric f R * whole N s)

abbrev pub RepeatBlames : Fraction → Fraction → ℕ → Type 0
RepeatBlames s f R = (N C : ℕ) → MayRepeat N C s f R → Overfills (scale_of N f R * C)
