-- The masses of some outcomes and of all others add up to 1, so what the others have at least leaves a bound of the first.
use Rattle.std.proofs.Common.{◌≡◌, ℕ, zero, suc, ◌+◌, ◌-◌, ◌*◌, ◌≤◌, ◌<◌, Bool, true, false, cond, ap, arith}
use Rattle.std.specs.Prelude.{not}
use Rattle.std.proofs.Math.Nat.{mul-le-mul_right, le_of_mul-le-mul_right}
use Rattle.gcl_core.specs.weighing.Fractions.{Fraction, zero_share, plus, times, power, power_sum, AtMost}
use Rattle.weighing_law.proofs.Shares.{Share}
use Rattle.numbers.proofs.Divisors.{cancel}

abbrev pub AddUp : Fraction → Fraction → Type 0
AddUp m m' = m.0 * m'.1 + m'.0 * m.1 ≡ m.1 * m'.1

-- ---- what is left of a whole
within : (W L : ℕ) (m m' : Fraction) → 0 < m.1 → 0 < m'.1 → AddUp m m' → AtMost (L, W) m' → L ≤ W
within W L m m' some some' e h =
    let less : m'.0 ≤ m'.1 = le_of_mul-le-mul_right {k = m.1} (omega arith) some in
    le_of_mul-le-mul_right {k = m'.1} (let x = mul-le-mul_right W less in omega arith) some'

pub left_over : (W L : ℕ) (m m' : Fraction) → 0 < m.1 → 0 < m'.1 → AddUp m m' → AtMost (L, W) m' → AtMost m (W - L, W)
left_over W L m m' some some' e h =
    let l = within W L m m' some some' e h in
    by (W - L) (omega arith)
  where
    by : (k : ℕ) → W ≡ L + k → m.0 * W ≤ k * m.1
    by k q =
        le_of_mul-le-mul_right {k = m'.1} (let x = ap (λ t. t * W) e in let y = mul-le-mul_right m.1 h in let z = ap (λ t. m.1 * m'.1 * t) q in omega arith) some'

-- ---- a whole in three parts: what is given, what others are given, and what fails
module _ (N P F A B : ℕ) (some : 0 < N) (passed : A + B ≡ P) (all : P + F ≡ N) (m n f : Fraction) (s : Share N A m) (t : Share N B n) (u : Share N F f) where
  -- over what does not fail
  pub rest_adds_up : f.0 ≤ f.1 → AddUp (m.0 * f.1, m.1 * (f.1 - f.0)) (n.0 * f.1, n.1 * (f.1 - f.0))
  rest_adds_up h = cancel N _ _ some (by m.0 m.1 n.0 n.1 f.0 f.1 (f.1 - f.0) s t u (omega arith))
    where
      by : (m0 m1 n0 n1 f0 f1 d : ℕ) → m1 * A ≡ m0 * N → n1 * B ≡ n0 * N → f1 * F ≡ f0 * N → f1 ≡ f0 + d → N * (m0 * f1 * (n1 * d) + n0 * f1 * (m1 * d)) ≡ N * (m1 * d * (n1 * d))
      by m0 m1 n0 n1 f0 f1 d s t u e =
          let g : f1 * P ≡ N * d = let x = ap (λ z. f1 * z) all in let y = ap (λ z. z * N) e in omega arith in
          let a = ap (λ z. f1 * d * n1 * z) s in
          let b = ap (λ z. f1 * d * m1 * z) t in
          let c = ap (λ z. f1 * d * m1 * n1 * z) passed in
          let w = ap (λ z. d * m1 * n1 * z) g in
          omega arith

  -- what some of R rounds give, and what fails in each
  rounds_add_up : (R : ℕ) → P * (power_sum f R).0 * (power f R).1 + N * ((power_sum f R).1 * (power f R).0) ≡ N * ((power_sum f R).1 * (power f R).1)
  rounds_add_up zero = omega arith
  rounds_add_up (suc R) = by f.0 f.1 (power_sum f R).0 (power_sum f R).1 (power f R).0 (power f R).1 u (rounds_add_up R)
    where
      by : (f0 f1 q0 q1 w0 w1 : ℕ) → f1 * F ≡ f0 * N → P * q0 * w1 + N * (q1 * w0) ≡ N * (q1 * w1) →
          P * (1 * (f1 * q1) + f0 * q0 * 1) * (f1 * w1) + N * (1 * (f1 * q1) * (f0 * w0)) ≡ N * (1 * (f1 * q1) * (f1 * w1))
      by f0 f1 q0 q1 w0 w1 u h =
          let x = ap (λ z. f0 * f1 * z) h in
          let y = ap (λ z. f1 * q1 * w1 * z) u in
          let z = ap (λ z. f1 * q1 * f1 * w1 * z) all in
          omega arith

  abbrev given_in : ℕ → Fraction → Bool → Fraction
  given_in R x b = plus (times x (power_sum f R)) (cond b (power f R) zero_share)

  -- with what fails in each
  joined : (A B : ℕ) (m n : Fraction) (R : ℕ) → A + B ≡ P → Share N A m → Share N B n → AddUp (given_in R m true) (given_in R n false)
  joined A B m n R e s t = cancel N _ _ some (by m.0 m.1 n.0 n.1 (power_sum f R).0 (power_sum f R).1 (power f R).0 (power f R).1 s t (rounds_add_up R))
    where
      by : (m0 m1 n0 n1 q0 q1 w0 w1 : ℕ) → m1 * A ≡ m0 * N → n1 * B ≡ n0 * N → P * q0 * w1 + N * (q1 * w0) ≡ N * (q1 * w1) →
          N * ((m0 * q0 * w1 + w0 * (m1 * q1)) * (n1 * q1 * 1) + (n0 * q0 * 1 + 0 * (n1 * q1)) * (m1 * q1 * w1)) ≡ N * (m1 * q1 * w1 * (n1 * q1 * 1))
      by m0 m1 n0 n1 q0 q1 w0 w1 s t h =
          let a = ap (λ z. n1 * q1 * q0 * w1 * z) s in
          let b = ap (λ z. m1 * q1 * q0 * w1 * z) t in
          let c = ap (λ z. q1 * m1 * n1 * q0 * w1 * z) e in
          let d = ap (λ z. q1 * m1 * n1 * z) h in
          omega arith

  pub given_adds_up : (R : ℕ) (b : Bool) → AddUp (given_in R m b) (given_in R n (not b))
  given_adds_up R true = joined A B m n R passed s t
  given_adds_up R false = let e = joined B A n m R (omega arith) t s in omega arith
