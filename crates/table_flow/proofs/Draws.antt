-- What the parts of a draw weigh.
use Rattle.std.proofs.Common.{◌≡◌, ℕ, zero, suc, ◌+◌, ◌*◌, ◌^◌, ◌<◌, Option, Some, None, refl, ap, arith}
use Rattle.std.proofs.Math.Nat.{pow-suc, pow-zero}
use Rattle.gcl_core.specs.meaning.Draw.{bits_for, rejected_numbers, strings_to_a_number}
use Rattle.gcl_core.specs.weighing.Fractions.{Fraction, times}
use Rattle.gcl_core.specs.weighing.WeightedEnds.{class_weight, no_class_weight}
use Rattle.gcl_core.proofs.Classes.{bits_enough}
use Rattle.gcl_core.proofs.DrawTrees.{parts_all}
use Rattle.table_flow.specs.Scale.{whole, Whole}
use Rattle.numbers.proofs.Divisors.{cancel}

pub power_pos : (n : ℕ) → 0 < 2 ^ n
power_pos zero = rw (pow-zero 2) (omega arith)
power_pos (suc n) = let i = power_pos n in rw (pow-suc 2 n) (omega arith)

-- the parts of a draw with b parts, as whole numbers of a total
abbrev pub each_part : ℕ → Option ℕ → ℕ
each_part b None = 1
each_part b (Some r) = strings_to_a_number (bits_for b) (rejected_numbers b) r

abbrev pub no_part : ℕ → Option ℕ → ℕ
no_part b None = 0
no_part b (Some r) = rejected_numbers b ^ r

abbrev pub all_parts : ℕ → Option ℕ → ℕ
all_parts b None = b
all_parts b (Some r) = 2 ^ (bits_for b * r)

pub parts_add_up : (b : ℕ) (r : Option ℕ) → b * each_part b r + no_part b r ≡ all_parts b r
parts_add_up b None = omega arith
parts_add_up b (Some r) = let h = bits_enough b in parts_all b (bits_for b) (rejected_numbers b) r (omega arith)

pub all_parts_pos : (b : ℕ) (r : Option ℕ) → 0 < b → 0 < all_parts b r
all_parts_pos b None h = h
all_parts_pos b (Some r) h = power_pos (bits_for b * r)

pub class_is : (b : ℕ) (r : Option ℕ) (a : ℕ) → class_weight b r a ≡ (a * each_part b r, all_parts b r)
class_is b None a = ap (λ x. (x, b)) (let e : a ≡ a * 1 = omega arith in e)
class_is b (Some r) a = refl

pub class_pos : (b : ℕ) (r : Option ℕ) (a : ℕ) → 0 < b → 0 < (class_weight b r a).1
class_pos b None a h = h
class_pos b (Some r) a h = power_pos (bits_for b * r)

pub no_class_pos : (b : ℕ) (r : Option ℕ) → 0 < (no_class_weight b r).1
no_class_pos b None = omega arith
no_class_pos b (Some r) = power_pos (bits_for b * r)

-- so many of the total
pub class_share : (b : ℕ) (r : Option ℕ) (a : ℕ) → (class_weight b r a).0 * all_parts b r ≡ a * each_part b r * (class_weight b r a).1
class_share b None a = omega arith
class_share b (Some r) a = refl

pub no_class_share : (b : ℕ) (r : Option ℕ) → (no_class_weight b r).0 * all_parts b r ≡ no_part b r * (no_class_weight b r).1
no_class_share b None = omega arith
no_class_share b (Some r) = refl

-- w of f, at a scale
pub share : (N : ℕ) (f w : Fraction) → Whole N f → Whole N (times f w) → w.1 * whole N (times f w) ≡ w.0 * whole N f
share N f w a b = cancel f.1 _ _ a.positive (turned f.0 f.1 w.0 w.1 (whole N f) (whole N (times f w)) N a.exact b.exact)
  where
    turned : (f0 f1 w0 w1 U V N : ℕ) → f1 * U ≡ f0 * N → f1 * w1 * V ≡ f0 * w0 * N → f1 * (w1 * V) ≡ f1 * (w0 * U)
    turned f0 f1 w0 w1 U V N p q = let z = ap (λ x. w0 * x) p in omega arith

-- the same, where the second number of w is another
pub share_of : (N : ℕ) (f w : Fraction) (n d : ℕ) → 0 < w.1 → w.0 * d ≡ n * w.1 → Whole N f → Whole N (times f w) → d * whole N (times f w) ≡ n * whole N f
share_of N f w n d pos e a b = cancel w.1 _ _ pos (turned w.0 w.1 n d (whole N f) (whole N (times f w)) e (share N f w a b))
  where
    turned : (x y n d U V : ℕ) → x * d ≡ n * y → y * V ≡ x * U → y * (d * V) ≡ y * (n * U)
    turned x y n d U V e s = let p = ap (λ z. d * z) s in let q = ap (λ z. z * U) e in omega arith

-- all parts of a draw, and none, of a weight
pub draw_kept : (N b : ℕ) (r : Option ℕ) (w : Fraction) → 0 < b → Whole N w → Whole N (times w (class_weight b r 1)) → Whole N (times w (no_class_weight b r)) →
    b * whole N (times w (class_weight b r 1)) + whole N (times w (no_class_weight b r)) ≡ whole N w
draw_kept N b r w pos h k l =
    let D = all_parts b r in
    let x = share_of N w (class_weight b r 1) (1 * each_part b r) D (class_pos b r 1 pos) (class_share b r 1) h k in
    let y = share_of N w (no_class_weight b r) (no_part b r) D (no_class_pos b r) (no_class_share b r) h l in
    cancel D _ _ (all_parts_pos b r pos) (added b (each_part b r) (no_part b r) D _ _ _ (parts_add_up b r) x y)
  where
    added : (b S Q D X Y W : ℕ) → b * S + Q ≡ D → D * X ≡ 1 * S * W → D * Y ≡ Q * W → D * (b * X + Y) ≡ D * W
    added b S Q D X Y W e x y = let z = ap (λ u. b * u) x in let u = ap (λ u. u * W) e in omega arith
