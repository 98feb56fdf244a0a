-- Powers in units, rounded down and up, beside the exact ones.
use Rattle.std.proofs.Common.{◌≡◌, ℕ, zero, suc, ◌+◌, ◌*◌, ◌^◌, ◌≤◌, ◌<◌, ap, ◌∙◌, arith, ⊎_elim}
use Rattle.std.proofs.lemmas.Bool.{cases_lt}
use Rattle.std.proofs.Math.Nat.{mul-le-mul_left, div-mul-le_self, lt-div-mul-add, pow-suc, pow-zero}
use Rattle.std.proofs.lemmas.Nat.{pow-add}
use Rattle.std.proofs.lemmas.Grind.{div_ceil_times}
use Rattle.numbers.specs.declared.units.TheConstants.{ALL}
use Rattle.numbers.specs.Units.{shared, shared_up, power_down, power_up}
use Rattle.units_law.proofs.Orders.{from_left}

-- ---- one product more, over plain numbers

less_more : (S M q d P P2 D Q : ℕ) → 0 < S → d * M ≤ q * S → P2 * S ≤ d * P → P * D ≤ Q * S → P2 * (M * D) ≤ q * Q * S
less_more S M q d P P2 D Q p h k i =
    let x = mul-le-mul_left (M * D) k in
    let y = mul-le-mul_left (P * D) h in
    let z = mul-le-mul_left (q * S) i in
    from_left S (P2 * (M * D)) (q * Q * S) p (omega arith)

more_more : (S M q u P P2 D Q : ℕ) → 0 < S → q * S ≤ u * M → u * P ≤ P2 * S → Q * S ≤ P * D → q * Q * S ≤ P2 * (M * D)
more_more S M q u P P2 D Q p h k i =
    let x = mul-le-mul_left (M * D) k in
    let y = mul-le-mul_left (P * D) h in
    let z = mul-le-mul_left (q * S) i in
    from_left S (q * Q * S) (P2 * (M * D)) p (omega arith)

near_less : (S M q d P P2 D Q : ℕ) → 0 < S → 2 * q ≤ M → P ≤ S → q * S ≤ d * M + M → d * P ≤ P2 * S + S → Q * S ≤ (P + 4) * D → q * Q * S ≤ (P2 + 4) * (M * D)
near_less S M q d P P2 D Q p half top h k i =
    let a = mul-le-mul_left (q * S) i in
    let b = mul-le-mul_left (P * D) h in
    let c = mul-le-mul_left (M * D) k in
    let e = mul-le-mul_left (M * D) top in
    let f = mul-le-mul_left (2 * S * D) half in
    from_left S (q * Q * S) ((P2 + 4) * (M * D)) p (omega arith)

near_more : (S M q u P P2 D Q : ℕ) → 0 < S → 2 * q ≤ M → P ≤ S → u * M ≤ q * S + M → P2 * S ≤ u * P + S → P * D ≤ Q * S + 4 * D → P2 * (M * D) ≤ q * Q * S + 4 * (M * D)
near_more S M q u P P2 D Q p half top h k i =
    let a = mul-le-mul_left (q * S) i in
    let b = mul-le-mul_left (P * D) h in
    let c = mul-le-mul_left (M * D) k in
    let e = mul-le-mul_left (M * D) top in
    let f = mul-le-mul_left (2 * S * D) half in
    from_left S (P2 * (M * D)) (q * Q * S + 4 * (M * D)) p (omega arith)

-- ---- products

pub some_all : 0 < ALL
some_all = omega arith

pub shared_low : (a b : ℕ) → shared a b * ALL ≤ a * b
shared_low a b = div-mul-le_self (a * b) ALL

pub shared_near : (a b : ℕ) → a * b ≤ shared a b * ALL + ALL
shared_near a b = let x = lt-div-mul-add {a = a * b} {b = ALL} some_all in omega arith

shared_high : (a b : ℕ) → a * b ≤ shared_up a b * ALL
shared_high a b = (div_ceil_times (a * b) ALL some_all).0

shared_up_near : (a b : ℕ) → shared_up a b * ALL < a * b + ALL
shared_up_near a b = (div_ceil_times (a * b) ALL some_all).1

pub less_before : (u v m : ℕ) → u * m < v * m → u < v
less_before u v m h = ⊎_elim (λ (less : u < v). less) (λ (more : v ≤ u). let x = mul-le-mul_left m more in absurd (omega arith)) (cases_lt u v)

within_down : (S a P P2 : ℕ) → 0 < S → a ≤ S → P ≤ S → P2 * S ≤ a * P → P2 ≤ S
within_down S a P P2 p h k l = let x = mul-le-mul_left P h in let y = mul-le-mul_left S k in from_left S P2 S p (omega arith)

within_up : (S a P P2 : ℕ) → 0 < S → a ≤ S → P ≤ S → P2 * S < a * P + S → P2 ≤ S
within_up S a P P2 p h k l =
    let x = mul-le-mul_left P h in
    let y = mul-le-mul_left S k in
    let z = less_before P2 (S + 1) S (omega arith) in
    omega arith

pub power_down_most : (d r : ℕ) → d ≤ ALL → power_down d r ≤ ALL
power_down_most d zero h = omega arith
power_down_most d (suc r) h = within_down ALL d (power_down d r) (power_down d (suc r)) some_all h (power_down_most d r h) (shared_low d (power_down d r))

pub power_up_most : (u r : ℕ) → u ≤ ALL → power_up u r ≤ ALL
power_up_most u zero h = omega arith
power_up_most u (suc r) h = within_up ALL u (power_up u r) (power_up u (suc r)) some_all h (power_up_most u r h) (shared_up_near u (power_up u r))

-- ---- powers of q over 2 ^ k

all_step : (k r : ℕ) → 2 ^ (k * suc r) ≡ 2 ^ k * 2 ^ (k * r)
all_step k r = let e : k * suc r ≡ k + k * r = omega arith in ap (λ t. 2 ^ t) e ∙ pow-add 2 k (k * r)

none_step : (k : ℕ) → 2 ^ (k * 0) ≡ 1
none_step k = let e : k * 0 ≡ 0 = omega arith in ap (λ t. 2 ^ t) e ∙ pow-zero 2

module _ (k q : ℕ) where
  pub power_below : (d : ℕ) → d * 2 ^ k ≤ q * ALL → (r : ℕ) → power_down d r * 2 ^ (k * r) ≤ q ^ r * ALL
  power_below d h zero = rw (none_step k, pow-zero q) (omega arith)
  power_below d h (suc r) =
      rw (all_step k r, pow-suc q r) (let x = less_more ALL (2 ^ k) q d (power_down d r) (power_down d (suc r)) (2 ^ (k * r)) (q ^ r) some_all h (shared_low d (power_down d r)) (power_below d h r) in omega arith)

  pub power_above : (u : ℕ) → q * ALL ≤ u * 2 ^ k → (r : ℕ) → q ^ r * ALL ≤ power_up u r * 2 ^ (k * r)
  power_above u h zero = rw (none_step k, pow-zero q) (omega arith)
  power_above u h (suc r) =
      rw (all_step k r, pow-suc q r) (let x = more_more ALL (2 ^ k) q u (power_up u r) (power_up u (suc r)) (2 ^ (k * r)) (q ^ r) some_all h (shared_high u (power_up u r)) (power_above u h r) in omega arith)

  module _ (half : 2 * q ≤ 2 ^ k) where
    pub power_down_near : (d : ℕ) → d ≤ ALL → q * ALL ≤ d * 2 ^ k + 2 ^ k → (r : ℕ) → q ^ r * ALL ≤ (power_down d r + 4) * 2 ^ (k * r)
    power_down_near d m h zero = rw (none_step k, pow-zero q) (omega arith)
    power_down_near d m h (suc r) =
        rw (all_step k r, pow-suc q r)
        (let x = near_less ALL (2 ^ k) q d (power_down d r) (power_down d (suc r)) (2 ^ (k * r)) (q ^ r) some_all half (power_down_most d r m) h (shared_near d (power_down d r)) (power_down_near d m h r) in omega arith)

    pub power_up_near : (u : ℕ) → u ≤ ALL → u * 2 ^ k ≤ q * ALL + 2 ^ k → (r : ℕ) → power_up u r * 2 ^ (k * r) ≤ q ^ r * ALL + 4 * 2 ^ (k * r)
    power_up_near u m h zero = rw (none_step k, pow-zero q) (omega arith)
    power_up_near u m h (suc r) =
        rw (all_step k r, pow-suc q r)
        (let l = shared_up_near u (power_up u r) in let x = near_more ALL (2 ^ k) q u (power_up u r) (power_up u (suc r)) (2 ^ (k * r)) (q ^ r) some_all half (power_up_most u r m) h (omega arith) (power_up_near u m h r) in omega arith)
