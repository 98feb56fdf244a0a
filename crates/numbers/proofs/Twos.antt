-- Factors of 2, and what they leave of a greatest common divisor.
use Rattle.std.proofs.Common.{◌≡◌, ℕ, zero, suc, ◌-◌, ◌*◌, ◌/◌, ◌%◌, ◌^◌, ◌≤◌, ◌<◌, min, ◌⊎◌, inl, inr, sym, ap, ◌∙◌, subst, arith}
use Prim.Native.Nat.{◌∣◌}
use native.Mathlib.Nat.{dvd_refl, dvd_trans, le_of_dvd, dvd-mul_right, one-dvd, pow-suc, pow-zero, div-one, div-div-eq-div-mul, mod-eq_of_lt, mul_assoc, mul_comm}
use Rattle.std.proofs.lemmas.Bool.{cases_order}
use Rattle.std.proofs.lemmas.Nat.{pow_pos, pow-add}
use Rattle.std.proofs.lemmas.Nat.Bits.{bit_at-suc, bit_at_lowest, bit_at-trailing_zeros}
use Rattle.std.proofs.lemmas.Nat.Gcd.{IsGcd-swap, IsGcd-from_sub, mod-eq-zero_of_dvd}
use Rattle.std.specs.Int.{IsGcd, bit_at, trailing_zeros, w128}
use Rattle.numbers.specs.Divisor.{gcd}
use Rattle.numbers.proofs.Divisors.{gcd_unique, gauss, scaled_gcd, coprime_parts, coprime_product}

-- a number whose lowest k bits are 0 is as many times 2 ^ k as its others say
low_zeros : (k n : ℕ) → ((i : ℕ) → i < k → bit_at n i ≡ 0) → n / 2 ^ k * 2 ^ k ≡ n
low_zeros zero n h = ap (λ p. n / p * p) (pow-zero 2) ∙ ap (λ q. q * 1) (div-one n) ∙ omega arith
low_zeros (suc k) n h =
    let even : n % 2 ≡ 0 = sym (bit_at_lowest n) ∙ h 0 (omega arith) in
    let power : 2 ^ suc k ≡ 2 * 2 ^ k = pow-suc 2 k ∙ mul_comm (2 ^ k) 2 in
    let part : n / 2 ^ suc k ≡ n / 2 / 2 ^ k = ap (λ p. n / p) power ∙ sym (div-div-eq-div-mul n 2 (2 ^ k)) in
    let half = low_zeros k (n / 2) (λ i l. sym (bit_at-suc n i) ∙ h (suc i) (omega arith)) in
    ap (λ q. q * 2 ^ suc k) part ∙ ap (λ p. n / 2 / 2 ^ k * p) power ∙ doubled (n / 2 / 2 ^ k) (2 ^ k) (n / 2) half ∙ omega arith
  where
    doubled : (q p m : ℕ) → q * p ≡ m → q * (2 * p) ≡ 2 * m
    doubled q p m e = sym (ap (λ x. 2 * x) (sym e) ∙ omega arith)

-- without its factors of 2 a number is odd
module _ (n : ℕ) (some : 0 < n) (fits : n < 2 ^ 128) where
  pub odd_times : n / 2 ^ trailing_zeros w128 n * 2 ^ trailing_zeros w128 n ≡ n
  odd_times = low_zeros (trailing_zeros w128 n) n (bit_at-trailing_zeros w128 n some fits).2

  pub odd_is : n / 2 ^ trailing_zeros w128 n % 2 ≡ 1
  odd_is = (bit_at-trailing_zeros w128 n some fits).1

-- ---- an odd number has no factor of 2

below_three : (x d : ℕ) → x % 2 ≡ 1 → d ∣ x → d ≤ 2 → d ∣ 2 → d ∣ 1
below_three x zero odd p h q = absurd (let z = mod-eq-zero_of_dvd 0 q in omega (arith, z))
below_three x (suc zero) odd p h q = one-dvd 1
below_three x (suc (suc zero)) odd p h q = absurd (let z = mod-eq-zero_of_dvd 2 p in omega (arith, z, odd))
below_three x (suc (suc (suc d))) odd p h q = absurd (omega arith)

two_apart : (x : ℕ) → x % 2 ≡ 1 → IsGcd 2 x 1
two_apart x odd = (one-dvd 2, one-dvd x, λ d p q. below_three x d odd q (le_of_dvd (omega arith) p) p)

power_apart : (x k : ℕ) → x % 2 ≡ 1 → IsGcd (2 ^ k) x 1
power_apart x zero odd = subst (λ p. IsGcd p x 1) (sym (pow-zero 2)) (one-dvd 1, one-dvd x, λ d p q. p)
power_apart x (suc k) odd = subst (λ p. IsGcd p x 1) (sym (pow-suc 2 k)) (coprime_product (2 ^ k) 2 x (power_apart x k odd) (two_apart x odd))

-- so factors of 2 of the other number leave the greatest common divisor as it is
pub with_twos : (x z k g : ℕ) → x % 2 ≡ 1 → 0 < z → IsGcd x z g → IsGcd x (z * 2 ^ k) g
with_twos x z k g odd some h = (
  h.0,
  dvd_trans g h.1 (dvd-mul_right z (2 ^ k)),
  λ d p q. h.2 d p
      (gauss d (2 ^ k) z some (IsGcd-swap (2 ^ k) d 1 (coprime_parts (2 ^ k) x (2 ^ k) d (dvd_refl (2 ^ k)) p (power_apart x k odd))) (subst (λ m. d ∣ m) (mul_comm z (2 ^ k)) q)),
)

-- one step by a difference, without its factors of 2
pub by_difference : (x y z k g : ℕ) → x % 2 ≡ 1 → 0 < z → x ≤ y → z * 2 ^ k ≡ y - x → IsGcd x z g → IsGcd x y g
by_difference x y z k g odd some le is h =
    let less : IsGcd x (y - x) g = subst (λ m. IsGcd x m g) is (with_twos x z k g odd some h) in
    IsGcd-swap y x g (IsGcd-from_sub y x g le (IsGcd-swap x (y - x) g less))

-- ---- two numbers, each with its factors of 2

scaled : (c x y g : ℕ) → 0 < c → IsGcd x y g → IsGcd (x * c) (y * c) (g * c)
scaled c x y g some h =
    let s = scaled_gcd x y c some in
    subst (λ m. IsGcd (x * c) m (g * c)) (mul_comm c y) (subst (λ m. IsGcd m (c * y) (g * c)) (mul_comm c x)
    (subst (λ m. IsGcd (c * x) (c * y) m) (ap (λ m. c * m) (sym (gcd_unique x y g h)) ∙ mul_comm c g) s))

more_in_second : (x y i j g : ℕ) → x % 2 ≡ 1 → 0 < y → i ≤ j → IsGcd x y g → IsGcd (x * 2 ^ i) (y * 2 ^ j) (g * 2 ^ i)
more_in_second x y i j g odd some le h =
    let power : y * 2 ^ (j - i) * 2 ^ i ≡ y * 2 ^ j = mul_assoc y (2 ^ (j - i)) (2 ^ i) ∙ ap (λ p. y * p) (sym (pow-add 2 (j - i) i) ∙ ap (λ k. 2 ^ k) (omega arith)) in
    subst (λ m. IsGcd (x * 2 ^ i) m (g * 2 ^ i)) power (scaled (2 ^ i) x (y * 2 ^ (j - i)) g (pow_pos i) (with_twos x y (j - i) g odd some h))

-- of both the lesser power of 2 is left
module _ (x y i j g : ℕ) (odd : x % 2 ≡ 1) (odd' : y % 2 ≡ 1) (h : IsGcd x y g) where
  first_less : i ≤ j → IsGcd (x * 2 ^ i) (y * 2 ^ j) (g * 2 ^ min i j)
  first_less l = subst (λ k. IsGcd (x * 2 ^ i) (y * 2 ^ j) (g * 2 ^ k)) (omega arith) (more_in_second x y i j g odd (omega (arith, odd')) l h)

  second_less : j ≤ i → IsGcd (x * 2 ^ i) (y * 2 ^ j) (g * 2 ^ min i j)
  second_less l = subst (λ k. IsGcd (x * 2 ^ i) (y * 2 ^ j) (g * 2 ^ k)) (omega arith)
      (IsGcd-swap (y * 2 ^ j) (x * 2 ^ i) (g * 2 ^ j) (more_in_second y x j i g odd' (omega (arith, odd)) l (IsGcd-swap x y g h)))

  by_order : ((i ≡ j) ⊎ ((i < j) ⊎ (j < i))) → IsGcd (x * 2 ^ i) (y * 2 ^ j) (g * 2 ^ min i j)
  by_order (inl e) = first_less (omega arith)
  by_order (inr (inl l)) = first_less (omega arith)
  by_order (inr (inr l)) = second_less (omega arith)

  pub with_both : IsGcd (x * 2 ^ i) (y * 2 ^ j) (g * 2 ^ min i j)
  with_both = by_order (cases_order i j)

-- the greatest common divisor of two numbers, by that of what is left of both
pub shifted_divisor : (a b x y i j g : ℕ) → 0 < a → a < 2 ^ 128 → x * 2 ^ i ≡ a → y * 2 ^ j ≡ b → x % 2 ≡ 1 → y % 2 ≡ 1 → IsGcd x y g → g * 2 ^ min i j % 2 ^ 128 ≡ gcd a b
shifted_divisor a b x y i j g some fits e f odd odd' h =
    let is : IsGcd a b (g * 2 ^ min i j) = subst (λ m. IsGcd a m (g * 2 ^ min i j)) f (subst (λ m. IsGcd m (y * 2 ^ j) (g * 2 ^ min i j)) e (with_both x y i j g odd odd' h)) in
    let few = le_of_dvd some is.0 in
    mod-eq_of_lt (omega (arith, few, fits)) ∙ gcd_unique a b _ is
