-- Sums and products as the code computes them.
use Rattle.std.proofs.Common.{◌≡◌, ℕ, ◌*◌, ◌/◌, ◌≤◌, ◌<◌, ◌^◌, Some, None, sym, ap, ◌∙◌, arith}
use Prim.Native.Nat.{◌∣◌}
use Rattle.std.proofs.lemmas.Bool.Decides.{nat_tests}
use native.Mathlib.Nat.{mul-div_cancel', mul-div_right, mul-div_left, dvd-mul_left}
use Rattle.std.proofs.lemmas.Nat.Gcd.{IsGcd-swap}
use Rattle.numbers.specs.Divisor.{gcd}
use Rattle.numbers.specs.Fraction.{Fraction, lowest}
use Rattle.numbers.specs.Arithmetic.{InLowest, raised, if_all_fit, common_of, if_fits}
use Rattle.numbers.proofs.Divisors.{gcd_is, gcd_pos, along_to, coprime_parts, coprime_products, coprime_rests, product_pos, lcm_is, lowest_from, lowest_in_lowest, lowest_equal, factor_pos, crosswise}

raised_left : (n d k : ℕ) → 1 ≤ d → n * (d * k / d) ≡ n * k
raised_left n d k h = ap (λ x. n * x) (mul-div_right k (let p : 0 < d = omega arith in p))

raised_right : (n d e : ℕ) → 1 ≤ d → 1 ≤ e → n * (d * (e / gcd d e) / e) ≡ n * (d / gcd d e)
raised_right n d e h k =
    let g = gcd d e in
    let x : g * (d / g) ≡ d = mul-div_cancel' g (gcd_is d e).0 in
    let y : g * (e / g) ≡ e = mul-div_cancel' g (gcd_is d e).1 in
    let z : d * (e / g) ≡ d / g * e = sym (crosswise g d e (d / g) (e / g) x y) in
    ap (λ m. n * (m / e)) z ∙ ap (λ x. n * x) (mul-div_left (d / g) (let p : 0 < e = omega arith in p))

-- both over the least common multiple, as the code has the parts
pub common_result : (a b c d g : ℕ) → 1 ≤ b → 1 ≤ d → g ≡ gcd b d → common_of (a, b) (c, d) ≡ if_all_fit (b * (d / g), a * (d / g), c * (b / g))
common_result a b c d g h k e =
    rw e (ap (λ l. if_all_fit (l, raised (a, b) l, raised (c, d) l)) (lcm_is b d)
    ∙ ap (λ m. if_all_fit (b * (d / gcd b d), m, raised (c, d) (b * (d / gcd b d)))) (raised_left a b (d / gcd b d) h)
    ∙ ap (λ m. if_all_fit (b * (d / gcd b d), a * (d / gcd b d), m)) (raised_right c b d h k))

-- a product of fractions in lowest terms, cross by cross
abbrev pub crossed : Fraction → Fraction → Fraction
crossed p q = (p.0 / gcd p.0 q.1 * (q.0 / gcd q.0 p.1), p.1 / gcd q.0 p.1 * (q.1 / gcd p.0 q.1))

part_of : (g a : ℕ) → g ∣ a → a / g ∣ a
part_of g a h = along_to (a / g) (g * (a / g)) a (mul-div_cancel' g h) (dvd-mul_left (a / g) g)

pub part_pos : (g a : ℕ) → 0 < a → g ∣ a → 0 < a / g
part_pos g a h d = factor_pos g (a / g) a h (mul-div_cancel' g d)

pub crossed_lowest : (p q : Fraction) → InLowest p → InLowest q → InLowest (crossed p q)
crossed_lowest p q h k =
    let g = gcd p.0 q.1 in
    let e = gcd q.0 p.1 in
    let a = part_of g p.0 (gcd_is p.0 q.1).0 in
    let b = part_of e q.0 (gcd_is q.0 p.1).0 in
    let c = part_of e p.1 (gcd_is q.0 p.1).1 in
    let d = part_of g q.1 (gcd_is p.0 q.1).1 in
    let pp : 0 < p.1 = omega (arith, h.positive) in
    let qq : 0 < q.1 = omega (arith, k.positive) in
    record {
      positive = let s : 0 < p.1 / e * (q.1 / g) = product_pos _ _ (part_pos e p.1 pp (gcd_is q.0 p.1).1) (part_pos g q.1 qq (gcd_is p.0 q.1).1) in omega arith;
      coprime = coprime_products (p.0 / g) (q.0 / e) (p.1 / e) (q.1 / g)
          (coprime_parts p.0 p.1 _ _ a c h.coprime)
          (coprime_rests p.0 q.1 qq)
          (coprime_rests q.0 p.1 pp)
          (coprime_parts q.0 q.1 _ _ b d k.coprime);
    }

pub lowest_crossed : (p q : Fraction) → InLowest p → InLowest q → lowest (p.0 * q.0, p.1 * q.1) ≡ crossed p q
lowest_crossed p q h k =
    let g = gcd p.0 q.1 in
    let e = gcd q.0 p.1 in
    let pp : 0 < p.1 = omega (arith, h.positive) in
    let qq : 0 < q.1 = omega (arith, k.positive) in
    let l = crossed_lowest p q h k in
    let n : p.0 * q.0 ≡ (g * e) * (p.0 / g * (q.0 / e)) = factors g e p.0 q.0 (p.0 / g) (q.0 / e) (mul-div_cancel' g (gcd_is p.0 q.1).0) (mul-div_cancel' e (gcd_is q.0 p.1).0) in
    let d : p.1 * q.1 ≡ (g * e) * (p.1 / e * (q.1 / g)) = factors' g e p.1 q.1 (p.1 / e) (q.1 / g) (mul-div_cancel' e (gcd_is q.0 p.1).1) (mul-div_cancel' g (gcd_is p.0 q.1).1) in
    let low : 0 < (crossed p q).1 = omega (arith, l.positive) in
    ap (λ m. lowest (m, p.1 * q.1)) n ∙ ap (λ m. lowest ((g * e) * (p.0 / g * (q.0 / e)), m)) d
    ∙ lowest_from (g * e) (p.0 / g * (q.0 / e)) (p.1 / e * (q.1 / g)) (product_pos g e (gcd_pos p.0 q.1 qq) (gcd_pos q.0 p.1 pp)) low l.coprime
  where
    factors : (g e a b x y : ℕ) → g * x ≡ a → e * y ≡ b → a * b ≡ (g * e) * (x * y)
    factors g e a b x y p q = rw (← p, ← q) (omega arith)

    factors' : (g e a b x y : ℕ) → e * x ≡ a → g * y ≡ b → a * b ≡ (g * e) * (x * y)
    factors' g e a b x y p q = rw (← p, ← q) (omega arith)

pub product_result : (a b c d g e : ℕ) → InLowest (a, b) → InLowest (c, d) → g ≡ gcd a d → e ≡ gcd c b → if_fits (lowest (a * c, b * d)) ≡ if_fits (a / g * (c / e), b / e * (d / g))
product_result a b c d g e h k p q = rw (p, q) (ap if_fits (lowest_crossed (a, b) (c, d) h k))

pub product_lowest : (a b c d g e : ℕ) → InLowest (a, b) → InLowest (c, d) → g ≡ gcd a d → e ≡ gcd c b → InLowest (a / g * (c / e), b / e * (d / g))
product_lowest a b c d g e h k p q = rw (p, q) (crossed_lowest (a, b) (c, d) h k)

pub lowest_by : (a b g : ℕ) → 1 ≤ b → g ≡ gcd a b → InLowest (a / g, b / g)
lowest_by a b g h e = rw e (lowest_in_lowest a b h)

pub equal_by : (a b g : ℕ) → g ≡ gcd a b → a / g * b ≡ a * (b / g)
equal_by a b g e = rw e (lowest_equal a b)

pub lowest_at : (p : Fraction) (a b : ℕ) → InLowest p → a ≡ p.0 → b ≡ p.1 → InLowest (a, b)
lowest_at p a b h e f = rw (e, f) h

pub lowest_turned : (p : Fraction) (a b : ℕ) → InLowest p → a ≡ p.0 → b ≡ p.1 → 1 ≤ a → InLowest (b, a)
lowest_turned p a b h e f pos = rw (e, f) (record { positive = rw (← e) pos; coprime = IsGcd-swap p.0 p.1 1 h.coprime })

pub none_first : (l a b : ℕ) → ¬ (l < 2 ^ 128) → if_all_fit (l, a, b) ≡ None
none_first l a b h = grind (arith, nat_tests)

pub none_second : (l a b : ℕ) → ¬ (a < 2 ^ 128) → if_all_fit (l, a, b) ≡ None
none_second l a b h = grind (arith, nat_tests)

pub none_third : (l a b : ℕ) → ¬ (b < 2 ^ 128) → if_all_fit (l, a, b) ≡ None
none_third l a b h = grind (arith, nat_tests)

pub some_all : (l a b : ℕ) → l < 2 ^ 128 → a < 2 ^ 128 → b < 2 ^ 128 → if_all_fit (l, a, b) ≡ Some (l, a, b)
some_all l a b h k m = grind (arith, nat_tests)

pub none_num : (n d : ℕ) → ¬ (n < 2 ^ 128) → if_fits (n, d) ≡ None
none_num n d h = grind (arith, nat_tests)

pub none_den : (n d : ℕ) → ¬ (d < 2 ^ 128) → if_fits (n, d) ≡ None
none_den n d h = grind (arith, nat_tests)

pub some_both : (n d : ℕ) → n < 2 ^ 128 → d < 2 ^ 128 → if_fits (n, d) ≡ Some (n, d)
some_both n d h k = grind (arith, nat_tests)

pub some_parts : (l a b x y z : ℕ) → l < 2 ^ 128 → x ≡ l → a < 2 ^ 128 → y ≡ a → b < 2 ^ 128 → z ≡ b → Some (x, y, z) ≡ if_all_fit (l, a, b)
some_parts l a b x y z h e k f m i = rw (e, f, i) (sym (some_all l a b h k m))

pub some_pair : (n d x y : ℕ) → n < 2 ^ 128 → x ≡ n → d < 2 ^ 128 → y ≡ d → Some (x, y) ≡ if_fits (n, d)
some_pair n d x y h e k f = rw (e, f) (sym (some_both n d h k))

pub common_positive : (b d g l : ℕ) → 1 ≤ b → 1 ≤ d → g ≡ gcd b d → l ≡ b * (d / g) → 1 ≤ l
common_positive b d g l h k e f =
    let x : 0 < d / gcd b d = part_pos (gcd b d) d (let p : 0 < d = omega arith in p) (gcd_is b d).1 in
    let y : 0 < b * (d / gcd b d) = product_pos b (d / gcd b d) (omega arith) x in
    rw (f, e) (omega arith)
