-- Sums and products of fractions at a scale, and why one is refused.
use Rattle.std.proofs.Common.{◌≡◌, ℕ, ◌+◌, ◌*◌, ◌/◌, ◌≤◌, ◌<◌, ◌^◌, Some, None, true, false, cond, Bool, ◌&&◌, refl, sym, ap, ◌∙◌, subst, arith, ⊎_elim}
use Prim.Native.Nat.{◌∣◌}
use native.Mathlib.Nat.{mul-div_cancel', mul-div_right, dvd-mul_right, le_of_dvd, dvd_of_mul-dvd-mul_left, mul-dvd-mul_left}
use Rattle.std.proofs.Math.Nat.{le_of_mul-le-mul_right, mul-le-mul_left, mul-le-mul_right}
use Rattle.std.proofs.lemmas.Bool.{cases_lt}
use Rattle.std.proofs.lemmas.Bool.Decides.{nat_tests}
use Rattle.std.proofs.lemmas.Nat.Gcd.{IsGcd-swap}
use Rattle.numbers.specs.Divisor.{gcd}
use Rattle.numbers.specs.Fraction.{Fraction, lowest, fits}
use Rattle.numbers.specs.Arithmetic.{InLowest, if_all_fit, common_of, sum_over, sum_of, if_fits, product_of}
use Rattle.table_flow.specs.Scale.{whole, Whole}
use Rattle.numbers.proofs.Divisors.{gcd_is, gcd_pos, gauss, along_to, coprime_rests, product_pos, lowest_in_lowest, cancel, factor_pos}
use Rattle.numbers.proofs.Terms.{common_result, some_all, some_both, part_pos}

pub whole_from : (N : ℕ) (p : Fraction) (u : ℕ) → 0 < p.1 → p.1 * u ≡ p.0 * N → (whole N p ≡ u) × Whole N p
whole_from N p u pos e =
    let q : whole N p ≡ u = ap (λ x. x / p.1) (sym e) ∙ mul-div_right u pos in
    (q, record { positive = pos; exact = ap (λ x. p.1 * x) q ∙ e })

pub whole_multiple : (N D : ℕ) (p : Fraction) → Whole N p → (whole (N * D) p ≡ D * whole N p) × Whole (N * D) p
whole_multiple N D p w = whole_from (N * D) p (D * whole N p) w.positive (multiplied p.0 p.1 (whole N p) N D w.exact)
  where
    multiplied : (a b W N D : ℕ) → b * W ≡ a * N → b * (D * W) ≡ a * (N * D)
    multiplied a b W N D e = let x = ap (λ z. D * z) e in omega arith

pub whole_lowest : (N n d : ℕ) → Whole N (n, d) → (whole N (lowest (n, d)) ≡ whole N (n, d)) × Whole N (lowest (n, d))
whole_lowest N n d w =
    let g = gcd n d in
    let W = whole N (n, d) in
    let low = lowest_in_lowest n d (let p : 0 < d = w.positive in omega arith) in
    let x : g * (n / g) ≡ n = mul-div_cancel' g (gcd_is n d).0 in
    let y : g * (d / g) ≡ d = mul-div_cancel' g (gcd_is n d).1 in
    let e : g * (d / g * W) ≡ g * (n / g * N) = turned g (n / g) (d / g) n d W N x y w.exact in
    let pos : 0 < d / g = omega (arith, low.positive) in
    whole_from N (lowest (n, d)) W pos (cancel g _ _ (gcd_pos n d w.positive) e)
  where
    turned : (g x y n d W N : ℕ) → g * x ≡ n → g * y ≡ d → d * W ≡ n * N → g * (y * W) ≡ g * (x * N)
    turned g x y n d W N p q e =
        let a = ap (λ z. z * W) q in
        let b = ap (λ z. z * N) p in
        omega arith

-- the denominator of a fraction in lowest terms divides its scale
pub lowest_divides : (N : ℕ) (p : Fraction) → 0 < N → InLowest p → Whole N p → p.1 ∣ N
lowest_divides N p pos l w =
    gauss p.1 p.0 N pos (IsGcd-swap p.0 p.1 1 l.coprime) (along_to p.1 (p.1 * whole N p) (p.0 * N) w.exact (dvd-mul_right p.1 (whole N p)))

-- ---- sums

module _ (N : ℕ) (p q : Fraction) (wp : Whole N p) (wq : Whole N q) where
  abbrev first_factor : ℕ
  first_factor = q.1 / gcd p.1 q.1

  abbrev second_factor : ℕ
  second_factor = p.1 / gcd p.1 q.1

  abbrev over : ℕ
  over = p.1 * first_factor

  abbrev numerators : ℕ
  numerators = p.0 * first_factor + q.0 * second_factor

  over_too : p.1 * first_factor ≡ q.1 * second_factor
  over_too =
      let g = gcd p.1 q.1 in
      let x : g * (p.1 / g) ≡ p.1 = mul-div_cancel' g (gcd_is p.1 q.1).0 in
      let y : g * (q.1 / g) ≡ q.1 = mul-div_cancel' g (gcd_is p.1 q.1).1 in
      swapped g p.1 q.1 (p.1 / g) (q.1 / g) x y
    where
      swapped : (g d e j k : ℕ) → g * j ≡ d → g * k ≡ e → d * k ≡ e * j
      swapped g d e j k x y = rw (← x, ← y) (omega arith)

  over_positive : 0 < over
  over_positive = product_pos p.1 first_factor wp.positive (part_pos (gcd p.1 q.1) q.1 wq.positive (gcd_is p.1 q.1).1)

  sum_exact : over * (whole N p + whole N q) ≡ numerators * N
  sum_exact = joined p.0 p.1 q.0 q.1 first_factor second_factor (whole N p) (whole N q) N over_too wp.exact wq.exact
    where
      joined : (a b c d j k U V N : ℕ) → b * j ≡ d * k → b * U ≡ a * N → d * V ≡ c * N → b * j * (U + V) ≡ (a * j + c * k) * N
      joined a b c d j k U V N e f h =
          let x = ap (λ z. j * z) f in
          let y = ap (λ z. k * z) h in
          let z = ap (λ z. z * V) e in
          omega arith

  sum_parts : common_of p q ≡ if_all_fit (over, p.0 * first_factor, q.0 * second_factor)
  sum_parts = common_result p.0 p.1 q.0 q.1 (gcd p.1 q.1) (omega (arith, wp.positive)) (omega (arith, wq.positive)) refl

  over_divides : 0 < N → InLowest p → InLowest q → over ∣ N
  over_divides pos lp lq =
      let g = gcd p.1 q.1 in
      let dp : p.1 ∣ N = lowest_divides N p pos lp wp in
      let dq : q.1 ∣ N = lowest_divides N q pos lq wq in
      let x = N / p.1 in
      let e : p.1 * x ≡ N = mul-div_cancel' p.1 dp in
      let gp : g * (p.1 / g) ≡ p.1 = mul-div_cancel' g (gcd_is p.1 q.1).0 in
      let gq : g * (q.1 / g) ≡ q.1 = mul-div_cancel' g (gcd_is p.1 q.1).1 in
      let a : g * (q.1 / g) ∣ g * (p.1 / g * x) = both_sides q.1 N _ _ (sym gq) (regroup g (p.1 / g) p.1 x N gp e) dq in
      let b : q.1 / g ∣ p.1 / g * x = dvd_of_mul-dvd-mul_left (q.1 / g) (gcd_pos p.1 q.1 wq.positive) a in
      let c : q.1 / g ∣ x = gauss (q.1 / g) (p.1 / g) x (factor_pos p.1 x N pos e) (IsGcd-swap _ _ 1 (coprime_rests p.1 q.1 wq.positive)) b in
      along_to (p.1 * (q.1 / g)) (p.1 * x) N e (mul-dvd-mul_left (q.1 / g) p.1 c)
    where
      both_sides : (a b x y : ℕ) → a ≡ x → b ≡ y → a ∣ b → x ∣ y
      both_sides a b x y e f h = subst (λ z. z ∣ y) e (subst (λ z. a ∣ z) f h)

      regroup : (g j d x N : ℕ) → g * j ≡ d → d * x ≡ N → N ≡ g * (j * x)
      regroup g j d x N e f = rw (← f, ← e) (omega arith)

  -- where the scale times a bound of the sum is below the limit, so is each number of the sum
  sum_fits : (C : ℕ) → 0 < N → 1 ≤ C → N * C < 2 ^ 128 → InLowest p → InLowest q → whole N p + whole N q ≤ N * C → (over < 2 ^ 128) × (numerators < 2 ^ 128)
  sum_fits C pos some small lp lq h =
      let a : over ≤ N = le_of_dvd pos (over_divides pos lp lq) in
      let b : numerators ≤ over * C = le_of_mul-le-mul_right {k = N} (let m = mul-le-mul_left over h in omega (arith, sum_exact)) pos in
      let c : over * C ≤ N * C = mul-le-mul_right C a in
      let d : N * 1 ≤ N * C = mul-le-mul_left N some in
      (omega arith, omega arith)

sum_some : (l a b : ℕ) → l < 2 ^ 128 → a + b < 2 ^ 128 → sum_over (if_all_fit (l, a, b)) ≡ Some (lowest (a + b, l))
sum_some l a b h k =
    ap sum_over (some_all l a b h (omega arith) (omega arith)) ∙ if_small (a + b) (lowest (a + b, l)) k
  where
    if_small : (n : ℕ) (f : Fraction) → n < 2 ^ 128 → cond (fits n) (Some f) None ≡ Some f
    if_small n f h = grind (arith, nat_tests)

same_lowest : (l a b : ℕ) (h : Fraction) → sum_over (if_all_fit (l, a, b)) ≡ Some h → h ≡ lowest (a + b, l)
same_lowest l a b h e = by_all (fits l) (fits a) (fits b) e
  where
    by_sum : (w : Bool) (f : Fraction) → cond w (Some f) None ≡ Some h → h ≡ f
    by_sum true f e = cc
    by_sum false f e = cc

    by_all : (t u v : Bool) → sum_over (cond (t && u && v) (Some (l, a, b)) None) ≡ Some h → h ≡ lowest (a + b, l)
    by_all true true true e = by_sum (fits (a + b)) (lowest (a + b, l)) e
    by_all true true false e = cc
    by_all true false v e = cc
    by_all false u v e = cc

pub sum_whole : (N : ℕ) (p q h : Fraction) → Whole N p → Whole N q → sum_of p q ≡ Some h → (whole N h ≡ whole N p + whole N q) × Whole N h
sum_whole N p q h wp wq e =
    let l = over N p q wp wq in
    let n = numerators N p q wp wq in
    let is : h ≡ lowest (n, l) = same_lowest l _ _ h (ap sum_over (sym (sum_parts N p q wp wq)) ∙ e) in
    let a = whole_from N (n, l) (whole N p + whole N q) (over_positive N p q wp wq) (sum_exact N p q wp wq) in
    let b = whole_lowest N n l a.1 in
    (ap (whole N) is ∙ b.0 ∙ a.0, subst (Whole N) (sym is) b.1)

pub sum_wide : (N C : ℕ) (p q : Fraction) → 0 < N → 1 ≤ C → Whole N p → Whole N q → InLowest p → InLowest q → whole N p + whole N q ≤ N * C → sum_of p q ≡ None → 2 ^ 128 ≤ N * C
sum_wide N C p q pos one wp wq lp lq h e =
    ⊎_elim (λ small. let f = sum_fits N p q wp wq C pos one small lp lq h in
    let some = ap sum_over (sum_parts N p q wp wq) ∙ sum_some _ _ _ f.0 f.1 in
    let bad : None ≡ Some _ = sym e ∙ some in cc) (λ large. large) (cases_lt (N * C) (2 ^ 128))

pub sum_refused : (N : ℕ) (p q : Fraction) → 0 < N → Whole N p → Whole N q → InLowest p → InLowest q → whole N p + whole N q ≤ N → sum_of p q ≡ None → 2 ^ 128 ≤ N
sum_refused N p q pos wp wq lp lq h e = let all = sum_wide N 1 p q pos (omega arith) wp wq lp lq (omega arith) e in omega arith

-- ---- products
same_if_fits : (f h : Fraction) → if_fits f ≡ Some h → h ≡ f
same_if_fits f h e = by_both (fits f.0) (fits f.1) e
  where
    by_both : (t u : Bool) → cond (t && u) (Some f) None ≡ Some h → h ≡ f
    by_both true true e = cc
    by_both true false e = cc
    by_both false u e = cc

pub product_whole : (N : ℕ) (p q h : Fraction) → Whole N (p.0 * q.0, p.1 * q.1) → product_of p q ≡ Some h → (whole N h ≡ whole N (p.0 * q.0, p.1 * q.1)) × Whole N h
product_whole N p q h w e =
    let b = whole_lowest N (p.0 * q.0) (p.1 * q.1) w in
    let is : h ≡ lowest (p.0 * q.0, p.1 * q.1) = same_if_fits (lowest (p.0 * q.0, p.1 * q.1)) h e in
    (ap (whole N) is ∙ b.0, subst (Whole N) (sym is) b.1)

pub product_wide : (N C : ℕ) (p q : Fraction) → 0 < N → 1 ≤ C → Whole N (p.0 * q.0, p.1 * q.1) → whole N (p.0 * q.0, p.1 * q.1) ≤ N * C → product_of p q ≡ None → 2 ^ 128 ≤ N * C
product_wide N C p q pos one w h e =
    let n = p.0 * q.0 in
    let d = p.1 * q.1 in
    let low = lowest_in_lowest n d (omega (arith, w.positive)) in
    let wl = whole_lowest N n d w in
    let l = lowest (n, d) in
    ⊎_elim (λ (small : N * C < 2 ^ 128).
    let a : l.1 ≤ N = le_of_dvd pos (lowest_divides N l pos low wl.1) in
    let b : l.0 ≤ l.1 * C = le_of_mul-le-mul_right {k = N} (let m : l.1 * whole N l ≤ l.1 * (N * C) = mul-le-mul_left l.1 (rw wl.0 h) in omega (arith, wl.1.exact)) pos in
    let c : l.1 * C ≤ N * C = mul-le-mul_right C a in
    let m : N * 1 ≤ N * C = mul-le-mul_left N one in
    let some : product_of p q ≡ Some l = some_both l.0 l.1 (omega arith) (omega arith) in
    let bad : None ≡ Some l = sym e ∙ some in cc) (λ large. large) (cases_lt (N * C) (2 ^ 128))

pub product_refused : (N : ℕ) (p q : Fraction) → 0 < N → Whole N (p.0 * q.0, p.1 * q.1) → whole N (p.0 * q.0, p.1 * q.1) ≤ N → product_of p q ≡ None → 2 ^ 128 ≤ N
product_refused N p q pos w h e = let all = product_wide N 1 p q pos (omega arith) w (omega arith) e in omega arith
