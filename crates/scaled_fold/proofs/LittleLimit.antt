-- How little the outcome of a limit of attempts weighs where units pass, and what that makes of bounds, over plain numbers.
use Rattle.std.proofs.Common.{◌≡◌, ℕ, ◌+◌, ◌-◌, ◌*◌, ◌≤◌, ◌<◌, ap, arith}
use Rattle.std.proofs.Math.Nat.{mul-le-mul_left, mul-le-mul_right}
use Rattle.numbers.proofs.Divisors.{product_pos}
use Rattle.units_law.proofs.Orders.{from_left}

-- where a and b and c are N, of which c fail, and L of S units are within a: L of S are within what does not fail
pub passing_units : (N a b c q0 q1 f0 f1 L S : ℕ) → 0 < N → 0 < q1 → q1 * a ≡ q0 * N → f1 * c ≡ f0 * N → a + b + c ≡ N → f0 < f1 → L * (1 * q1) ≤ q0 * S → L * f1 ≤ (f1 - f0) * S
passing_units N a b c q0 q1 f0 f1 L S some fraction given failing all below h = by (f1 - f0) (omega (arith, below))
  where
    within : L * N ≤ a * S
    within = from_left q1 (L * N) (a * S) fraction (let x = mul-le-mul_right N h in let y = ap (λ t. t * S) given in omega (arith, x, y))

    by : (e : ℕ) → f1 ≡ f0 + e → L * f1 ≤ e * S
    by e g =
        let x = ap (λ t. f1 * t) all in
        let y = ap (λ t. t * N) g in
        let k : f1 * a ≤ e * N = omega (arith, x, y, failing) in
        let u = mul-le-mul_right f1 within in
        let v = mul-le-mul_left S k in
        from_left N (L * f1) (e * S) some (omega (arith, u, v))

-- a0 / a1 is at most M / T / (e / f1), and M at most D
pub weighs_little : (a0 a1 M D T e f1 L S Z : ℕ) → 0 < T → 0 < e → 0 < S → a0 * (T * e) ≤ M * f1 * a1 → M ≤ D → L * f1 ≤ e * S → D * Z * S ≤ T * L → a0 * Z ≤ 1 * a1
weighs_little a0 a1 M D T e f1 L S Z some_t some_e some_s h m k l =
    let w = mul-le-mul_left (f1 * a1) m in
    let x = mul-le-mul_right (Z * S) (let n : a0 * (T * e) ≤ D * f1 * a1 = omega (arith, h, w) in n) in
    let y = mul-le-mul_left (f1 * a1) l in
    let z = mul-le-mul_left (a1 * T) k in
    from_left (T * e * S) (a0 * Z) (1 * a1) (product_pos (T * e) S (product_pos T e some_t some_e) some_s) (omega (arith, x, y, z))

-- ---- of S parts, where the limit weighs A0 / A1, one part at most

pub one_less : (S a b M0 M1 m0 m1 A0 A1 : ℕ) → 0 < M1 → 0 < A1 → a ≡ b + 1 → a * M1 ≤ M0 * S → M0 * (m1 * A1) ≤ (m0 * A1 + A0 * m1) * M1 → A0 * S ≤ 1 * A1 → b * m1 ≤ m0 * S
one_less S a b M0 M1 m0 m1 A0 A1 some_m some_a e h k l =
    let w = ap (λ t. t * (M1 * m1 * A1)) e in
    let x = mul-le-mul_right (m1 * A1) h in
    let y = mul-le-mul_right S k in
    let z = mul-le-mul_right (m1 * M1) l in
    from_left (M1 * A1) (b * m1) (m0 * S) (product_pos M1 A1 some_m some_a) (omega (arith, w, x, y, z))

pub one_more : (S o M0 M1 m0 m1 A0 A1 : ℕ) → 0 < M1 → 0 < A1 → M0 * S ≤ o * M1 → m0 * (M1 * A1) ≤ (M0 * A1 + A0 * M1) * m1 → A0 * S ≤ 1 * A1 → m0 * S ≤ (o + 1) * m1
one_more S o M0 M1 m0 m1 A0 A1 some_m some_a h k l =
    let x = mul-le-mul_right (m1 * A1) h in
    let y = mul-le-mul_right S k in
    let z = mul-le-mul_right (m1 * M1) l in
    from_left (M1 * A1) (m0 * S) ((o + 1) * m1) (product_pos M1 A1 some_m some_a) (omega (arith, x, y, z))

-- two bounds, where the lower one is a part less
pub near_less : (S a b l0 l1 k0 k1 h0 h1 g L : ℕ) → 0 < l1 → a ≡ b + 1 → l0 * S ≡ a * l1 → k0 * S ≡ b * k1 →
    h0 * (l1 * L * S) ≤ ((l0 * L + g * l1) * S + 2 * (l1 * L)) * h1 → h0 * (k1 * L * S) ≤ ((k0 * L + g * k1) * S + 3 * (k1 * L)) * h1
near_less S a b l0 l1 k0 k1 h0 h1 g L some e p q near =
    let w = ap (λ t. t * (l1 * k1 * L * h1)) e in
    let x = mul-le-mul_left k1 near in
    let y = ap (λ t. t * (k1 * L * h1)) p in
    let z = ap (λ t. t * (l1 * L * h1)) q in
    from_left l1 (h0 * (k1 * L * S)) (((k0 * L + g * k1) * S + 3 * (k1 * L)) * h1) some (omega (arith, w, x, y, z))

-- part of a whole rises with the part, and falls as the rest does
pub part_rises : (m0 m1 h l u k : ℕ) → 0 < h + l → m0 * (h + l) ≤ h * m1 → h ≤ u → k ≤ l → m0 * (u + k) ≤ u * m1
part_rises m0 m1 h l u k p a b c =
    from_left (h + l) (m0 * (u + k)) (u * m1) p
    (let x = mul-le-mul_left (u + k) a in let y = mul-le-mul_left (m1 * u) c in let z = mul-le-mul_left (m1 * k) b in omega arith)

-- where a and b and c are N, of which c fail, a is no more than what does not fail
pub within_all : (N a b c q0 q1 f0 f1 : ℕ) → 0 < N → q1 * a ≡ q0 * N → f1 * c ≡ f0 * N → a + b + c ≡ N → f0 < f1 → q0 * f1 ≤ q1 * (f1 - f0)
within_all N a b c q0 q1 f0 f1 some given failing all below = by (f1 - f0) (omega (arith, below))
  where
    by : (e : ℕ) → f1 ≡ f0 + e → q0 * f1 ≤ q1 * e
    by e g =
        let x = ap (λ t. f1 * t) all in
        let y = ap (λ t. t * N) g in
        let k : f1 * a ≤ e * N = omega (arith, x, y, failing) in
        let u = mul-le-mul_left q1 k in
        let v = ap (λ t. t * f1) given in
        from_left N (q0 * f1) (q1 * e) some (omega (arith, u, v))
