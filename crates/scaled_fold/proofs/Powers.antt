-- Powers of two that fit.
use Rattle.std.proofs.Common.{◌≡◌, ℕ, zero, suc, ◌+◌, ◌-◌, ◌*◌, ◌/◌, ◌^◌, ◌≤◌, ◌<◌, refl, sym, ap, ◌∙◌, arith}
use Rattle.std.specs.Prelude.{if◌then◌else◌}
use Rattle.std.proofs.lemmas.Bool.{le-leb}
use Rattle.std.proofs.lemmas.Nat.{pow-add}
use Rattle.std.proofs.Math.Nat.{pow-suc, pow-le-pow_right, mul-le-mul_left}
use Rattle.numbers.specs.declared.units.TheConstants.{ALL}
use Rattle.scaled_fold.specs.Doubling.{doubled}

pub small : (m n : ℕ) → m ≤ 120 → n ≤ 2 ^ m → n < 2 ^ 128
small m n h l = let two : 0 < 2 = omega arith in let p = pow-le-pow_right {n = 2} two h in omega (arith, l, p)

twice_power : (r : ℕ) → 2 ^ (1 + r) ≡ 2 * 2 ^ r
twice_power r =
    let n : 1 + r ≡ suc r = omega arith in
    let c : 2 ^ r * 2 ≡ 2 * 2 ^ r = omega arith in
    ap (λ i. 2 ^ i) n ∙ pow-suc 2 r ∙ c

-- once more, where there is room for it
pub doubles_once : (m w r : ℕ) → ¬ (m ≡ 0) → 2 * w ≤ ALL → 2 ^ r ≡ doubled (m - 1) (2 * w) → 2 ^ (1 + r) ≡ doubled m w
doubles_once zero w r h l e = absurd (h refl)
doubles_once (suc m) w r h l e =
    let q : suc m - 1 ≡ m = omega arith in
    let d : 2 ^ r ≡ doubled m (2 * w) = e ∙ ap (λ i. doubled i (2 * w)) q in
    twice_power r ∙ ap (λ n. 2 * n) d ∙ sym (ap (λ b. if b then 2 * doubled m (2 * w) else 1) (le-leb (2 * w) ALL l))

-- ---- the bits of a number, from those of its half

pub bits_below : (n r : ℕ) → n / 2 < 2 ^ r → n < 2 ^ (1 + r)
bits_below n r h = let p = twice_power r in omega (arith, h, p)

pub bits_above : (n r : ℕ) → 0 < n → (0 < n / 2 → 2 ^ r ≤ 2 * (n / 2)) → (n / 2 ≡ 0 → r ≡ 0) → 2 ^ (1 + r) ≤ 2 * n
bits_above n r some h z = by (n / 2) (omega arith) h z
  where
    by : (k : ℕ) → k ≡ n / 2 → (0 < k → 2 ^ r ≤ 2 * k) → (k ≡ 0 → r ≡ 0) → 2 ^ (1 + r) ≤ 2 * n
    by zero e h z = let q = ap (λ i. 2 ^ (1 + i)) (z refl) in omega (arith, q, some)
    by (suc k) e h z = let p = twice_power r in let x = h (omega arith) in omega (arith, p, x, e)

-- ---- attempts that are enough

-- over plain numbers
products_within : (S D L A B E M : ℕ) → D < B → M ≤ 2 * L → B * E * (2 * (S * S)) ≤ A * M → D * S * (S * E) ≤ A * L
products_within S D L A B E M below above h =
    let d : D ≤ B = omega (arith, below) in
    let x = mul-le-mul_left (2 * (S * S) * E) d in
    let y = mul-le-mul_left A above in
    let z : 2 * (D * S * (S * E)) ≤ 2 * (A * L) = omega (arith, x, y, h) in
    omega (arith, z)

-- where D has b bits, and L has l
pub attempts_enough : (D L a b d l : ℕ) → D < 2 ^ b → 2 ^ l ≤ 2 * L → b + d + 241 ≤ a + l → D * ALL * (ALL * 2 ^ d) ≤ 2 ^ a * L
attempts_enough D L a b d l below above enough =
    let two : 0 < 2 = omega arith in
    let p = pow-le-pow_right {n = 2} two enough in
    let e = pow-add 2 a l in
    let g = pow-add 2 (b + d) 241 in
    let y = ap (λ n. n * (2 * (ALL * ALL))) (pow-add 2 b d) in
    products_within ALL D L (2 ^ a) (2 ^ b) (2 ^ d) (2 ^ l) below above (omega (arith, p, e, g, y))
