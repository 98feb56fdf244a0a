-- Powers of a fraction, and the weights of a draw.
use Rattle.std.proofs.Common.{◌≡◌, ℕ, zero, suc, ◌+◌, ◌-◌, ◌*◌, ◌/◌, ◌^◌, ◌≤◌, ◌<◌, Bool, true, false, cond, ◌&&◌, Some, None, refl, sym, ap, ◌∙◌, subst, arith}
use Prim.Native.Nat.{◌∣◌}
use native.Mathlib.Nat.{mul-div_cancel', dvd-mul_left}
use Rattle.std.proofs.Math.Nat.{pow-suc, pow-zero, one-dvd, mul-le-mul_left, le_of_mul-le-mul_left}
use Rattle.std.proofs.lemmas.Nat.{pow-add}
use Rattle.std.proofs.lemmas.Nat.Gcd.{dvd_trans, dvd_refl, IsGcd-swap}
use Rattle.std.specs.Int.{IsGcd}
use Rattle.gcl_core.specs.meaning.Draw.{bits_for, rejected_numbers}
use Rattle.gcl_core.specs.weighing.Fractions.{Fraction, times, power}
use Rattle.gcl_core.specs.weighing.WeightedEnds.{class_weight, no_class_weight}
use Rattle.numbers.specs.Fraction.{lowest, IsEqual, fits}
use Rattle.numbers.specs.Arithmetic.{InLowest, product_of}
use Rattle.numbers.proofs.Divisors.{coprime_parts, coprime_product, coprime_products, product_pos, lowest_in_lowest, lowest_equal, cancel, equal_trans}
use Rattle.table_flow.specs.Scale.{whole, Whole}
use Rattle.table_flow.proofs.Wholes.{whole_from, lowest_divides, product_refused}
use Rattle.table_flow.proofs.Draws.{each_part, no_part, all_parts, parts_add_up}
use Rattle.mass_fold.specs.inner.Steps.{IsPower, PowerBlames, IsParts, PartsBlame}

-- two fractions of one value
pub equal_whole : (N : ℕ) (f g : Fraction) → 0 < f.1 → IsEqual f g → Whole N g → (whole N f ≡ whole N g) × Whole N f
equal_whole N f g fp e w = whole_from N f (whole N g) fp (cancel g.1 _ _ w.positive (crossed f.0 f.1 g.0 g.1 (whole N g) N e w.exact))
  where
    crossed : (a b c d u N : ℕ) → a * d ≡ c * b → d * u ≡ c * N → d * (b * u) ≡ d * (a * N)
    crossed a b c d u N e x = let p = ap (λ z. b * z) x in let q = ap (λ z. z * N) e in omega arith

pub whole_at_most : (N n d : ℕ) → n ≤ d → Whole N (n, d) → whole N (n, d) ≤ N
whole_at_most N n d h w = le_of_mul-le-mul_left {k = d} (let m = mul-le-mul_left N h in omega (arith, w.exact)) w.positive

pub product_is : (f p h : Fraction) → product_of f p ≡ Some h → h ≡ lowest (times f p)
product_is f p h e = by_both (fits (lowest (times f p)).0) (fits (lowest (times f p)).1) e
  where
    by_both : (t u : Bool) → cond (t && u) (Some (lowest (times f p))) None ≡ Some h → h ≡ lowest (times f p)
    by_both true true e = cc
    by_both true false e = cc
    by_both false u e = cc

times_at_most : (f p : Fraction) → f.0 ≤ f.1 → p.0 ≤ p.1 → (times f p).0 ≤ (times f p).1
times_at_most f p h k = let a = mul-le-mul_left f.0 k in let b = mul-le-mul_left p.1 h in omega arith

-- the value of a product that fits
pub product_equal : (f p h : Fraction) → product_of f p ≡ Some h → h.0 * (times f p).1 ≡ (times f p).0 * h.1
product_equal f p h e = rw (product_is f p h e) (lowest_equal (times f p).0 (times f p).1)

pub product_pos_den : (f p h : Fraction) → 0 < f.1 → 0 < p.1 → product_of f p ≡ Some h → 0 < h.1
product_pos_den f p h a b e =
    let l = lowest_in_lowest (times f p).0 (times f p).1 (let z = product_pos f.1 p.1 a b in omega arith) in
    subst (λ h. 0 < h.1) (sym (product_is f p h e)) (let z = l.positive in omega arith)

module _ (p : Fraction) (l : InLowest p) where
  den_pos : 0 < p.1
  den_pos = let z = l.positive in omega arith

  dens : (n : ℕ) → IsGcd (power p n).1 p.0 1
  dens zero = coprime_parts p.1 p.0 1 p.0 (one-dvd p.1) (dvd_refl p.0) (IsGcd-swap p.0 p.1 1 l.coprime)
  dens (suc n) = coprime_product p.1 (power p n).1 p.0 (IsGcd-swap p.0 p.1 1 l.coprime) (dens n)

  nums : (n : ℕ) → IsGcd (power p n).0 p.1 1
  nums zero = coprime_parts p.0 p.1 1 p.1 (one-dvd p.0) (dvd_refl p.1) l.coprime
  nums (suc n) = coprime_product p.0 (power p n).0 p.1 l.coprime (nums n)

  power_coprime : (n : ℕ) → IsGcd (power p n).0 (power p n).1 1
  power_coprime zero = coprime_parts p.0 p.1 1 1 (one-dvd p.0) (one-dvd p.1) l.coprime
  power_coprime (suc n) = coprime_products p.0 (power p n).0 p.1 (power p n).1 l.coprime (IsGcd-swap (power p n).1 p.0 1 (dens n)) (nums n) (power_coprime n)

  pub power_pos : (n : ℕ) → 0 < (power p n).1
  power_pos zero = omega arith
  power_pos (suc n) = product_pos p.1 (power p n).1 den_pos (power_pos n)

  -- where a power is whole, so is each before it
  lower : (N n : ℕ) → 0 < N → Whole N (power p (suc n)) → Whole N (power p n)
  lower N n Np w =
      let low : InLowest (power p (suc n)) = record { positive = let z = power_pos (suc n) in omega arith; coprime = power_coprime (suc n) } in
      let d : p.1 * (power p n).1 ∣ N = lowest_divides N (power p (suc n)) Np low w in
      let e : (power p n).1 ∣ N = dvd_trans _ (dvd-mul_left (power p n).1 p.1) d in
      let k = N / (power p n).1 in
      let x : (power p n).1 * k ≡ N = mul-div_cancel' (power p n).1 e in
      (whole_from N (power p n) ((power p n).0 * k) (power_pos n) (crossed (power p n).0 (power p n).1 k N x)).1
    where
      crossed : (a b k N : ℕ) → b * k ≡ N → b * (a * k) ≡ a * N
      crossed a b k N e = rw (← e) (omega arith)

  lowered : (N n d : ℕ) → 0 < N → Whole N (power p (n + d)) → Whole N (power p n)
  lowered N n zero Np w = subst (λ m. Whole N (power p m)) (let e : n + 0 ≡ n = omega arith in e) w
  lowered N n (suc d) Np w = lowered N n d Np (lower N (n + d) Np (subst (λ m. Whole N (power p m)) (let e : n + suc d ≡ suc (n + d) = omega arith in e) w))

  module _ (small : p.0 ≤ p.1) where
    pub power_none : (f : Fraction) → f ≡ lowest (1, 1) → IsEqual f (1, 1) → InLowest f → IsPower p 0 f
    power_none f q e k = record { positive = let z = k.positive in omega arith; at_most_one = omega arith; is = e }

    pub power_next : (f h : Fraction) (n : ℕ) → IsPower p n f → product_of f p ≡ Some h → IsPower p (n + 1) h
    power_next f h n i e =
        let q = product_equal f p h e in
        let hp = product_pos_den f p h i.positive den_pos e in
        let P = power p n in
        let is : IsEqual h (power p (suc n)) = cancel f.1 _ _ i.positive (crossed f.0 f.1 p.0 p.1 P.0 P.1 h.0 h.1 i.is q) in
        let m = times_at_most f p i.at_most_one small in
        let t : 0 < (times f p).1 = product_pos f.1 p.1 i.positive den_pos in
        record {
          positive = hp;
          at_most_one = le_of_mul-le-mul_left {k = (times f p).1} (let z = mul-le-mul_left h.1 m in omega arith) t;
          is = subst (λ m. IsEqual h (power p m)) (let e : suc n ≡ n + 1 = omega arith in e) is;
        }
      where
        crossed : (f0 f1 p0 p1 P0 P1 h0 h1 : ℕ) → f0 * P1 ≡ P0 * f1 → h0 * (f1 * p1) ≡ f0 * p0 * h1 → f1 * (h0 * (p1 * P1)) ≡ f1 * (p0 * P0 * h1)
        crossed f0 f1 p0 p1 P0 P1 h0 h1 e q = let x = ap (λ z. z * P1) q in let y = ap (λ z. z * (p0 * h1)) e in omega arith

    pub power_wide : (f : Fraction) (n r : ℕ) → IsPower p n f → n < r → product_of f p ≡ None → PowerBlames p r
    power_wide f n r i lt e N Np w =
        let P = power p n in
        let q : suc n + (r - suc n) ≡ r = omega arith in
        let v : Whole N (power p (suc n)) = lowered N (suc n) (r - suc n) Np (subst (λ m. Whole N (power p m)) (sym q) w) in
        let t : 0 < (times f p).1 = product_pos f.1 p.1 i.positive den_pos in
        let x = equal_whole N (times f p) (power p (suc n)) t (crossed f.0 f.1 p.0 p.1 P.0 P.1 i.is) v in
        product_refused N f p Np x.1 (whole_at_most N (times f p).0 (times f p).1 (times_at_most f p i.at_most_one small) x.1) e
      where
        crossed : (f0 f1 p0 p1 P0 P1 : ℕ) → f0 * P1 ≡ P0 * f1 → f0 * p0 * (p1 * P1) ≡ p0 * P0 * (f1 * p1)
        crossed f0 f1 p0 p1 P0 P1 e = let x = ap (λ z. z * (p0 * p1)) e in omega arith

-- a power, beside that of the same fraction in other terms
power_as : (p : Fraction) (q k : ℕ) → IsEqual p (q, 2 ^ k) → (r : ℕ) → (power p r).0 * 2 ^ (k * r) ≡ q ^ r * (power p r).1
power_as p q k e zero = let z : k * 0 ≡ 0 = omega arith in rw (z, pow-zero 2, pow-zero q) refl
power_as p q k e (suc r) =
    let z : k * suc r ≡ k + k * r = omega arith in
    rw (z, pow-add 2 k (k * r), pow-suc q r) (more p.0 p.1 q (2 ^ k) (power p r).0 (power p r).1 (q ^ r) (2 ^ (k * r)) e (power_as p q k e r))
  where
    more : (p0 p1 q K P0 P1 Q D : ℕ) → p0 * K ≡ q * p1 → P0 * D ≡ Q * P1 → p0 * P0 * (K * D) ≡ Q * q * (p1 * P1)
    more p0 p1 q K P0 P1 Q D e i = let x = ap (λ z. z * (P0 * D)) e in let y = ap (λ z. z * (q * p1)) i in omega arith

-- ---- the parts of a draw
module _ (b : ℕ) (bp : 1 ≤ b) where
  b0 : 0 < b
  b0 = omega arith

  pub parts_unlimited : (part rest : Fraction) → InLowest part → InLowest rest → IsEqual part (1, b) → IsEqual rest (0, 1) → IsParts b None part rest
  parts_unlimited part rest l k p q = record { part_positive = let z = l.positive in omega arith; rest_positive = let z = k.positive in omega arith; part_is = p; rest_is = q }

  module _ (r : ℕ) (rp : 1 ≤ r) (again : Fraction) (l : InLowest again) (is : IsEqual again (rejected_numbers b, 2 ^ bits_for b)) where
    abbrev D : ℕ
    D = all_parts b (Some r)

    abbrev S : ℕ
    S = each_part b (Some r)

    abbrev Q : ℕ
    Q = no_part b (Some r)

    none_again : again.0 ≡ 0 → Q ≡ 0
    none_again z = zero_power r rp (rejected_numbers b) (zero_left (rejected_numbers b) again.1 (let x = l.positive in omega arith) (let y = ap (λ u. u * 2 ^ bits_for b) z in omega (arith, is)))
      where
        zero_left : (a b : ℕ) → 0 < b → a * b ≡ 0 → a ≡ 0
        zero_left zero b h e = refl
        zero_left (suc a) b h e = absurd (omega arith)

        zero_power : (r : ℕ) → 1 ≤ r → (q : ℕ) → q ≡ 0 → q ^ r ≡ 0
        zero_power zero h q e = absurd (omega arith)
        zero_power (suc r) h q e = rw (pow-suc q r, e) (omega arith)

    pub parts_certain : (part rest : Fraction) → again.0 ≡ 0 → InLowest part → InLowest rest → IsEqual part (1, b) → IsEqual rest (0, 1) → IsParts b (Some r) part rest
    parts_certain part rest z k m p q =
        let n = none_again z in
        let t = parts_add_up b (Some r) in
        record {
          part_positive = let z = k.positive in omega arith;
          rest_positive = let z = m.positive in omega arith;
          part_is = cancel b _ _ b0 (joined part.0 part.1 b S Q D p n t);
          rest_is = none rest.0 rest.1 Q D q n;
        }
      where
        joined : (x y b S Q D : ℕ) → x * b ≡ 1 * y → Q ≡ 0 → b * S + Q ≡ D → b * (x * D) ≡ b * (1 * S * y)
        joined x y b S Q D e n t = let a = ap (λ z. z * D) e in let c : b * S ≡ D = omega arith in let d = ap (λ z. y * z) c in omega arith

        none : (x y Q D : ℕ) → x * 1 ≡ 0 * y → Q ≡ 0 → x * D ≡ Q * y
        none x y Q D e n = let z : x ≡ 0 = omega arith in rw (z, n) (omega arith)

    -- the power of what is rejected
    rest_as : (rest : Fraction) → IsPower again r rest → rest.0 * D ≡ Q * rest.1
    rest_as rest i =
        equal_trans rest (power again r) (Q, D) (power_pos again l r) i.is (power_as again (rejected_numbers b) (bits_for b) is r)

    pub parts_refused : PowerBlames again r → PartsBlame b (Some r)
    parts_refused h N Np w v = h N Np (equal_whole N (power again r) (no_class_weight b (Some r)) (power_pos again l r) (power_as again (rejected_numbers b) (bits_for b) is r) v).1

    module _ (rest given over : Fraction) (i : IsPower again r rest) (gl : InLowest given) (ol : InLowest over) (ge : IsEqual given (rest.1 - rest.0, rest.1)) (oe : IsEqual over (1, b)) where
      part_as : (times given over).0 * D ≡ 1 * S * (times given over).1
      part_as =
          let x : rest.1 - rest.0 + rest.0 ≡ rest.1 = let z = i.at_most_one in omega arith in
          let k = difference (rest.1 - rest.0) rest.0 rest.1 b S Q D x (rest_as rest i) (parts_add_up b (Some r)) in
          cancel (rest.1 * b) _ _ (product_pos rest.1 b i.positive b0) (joined given.0 given.1 over.0 over.1 (rest.1 - rest.0) rest.1 b S D ge oe k)
        where
          difference : (z x y b S Q D : ℕ) → z + x ≡ y → x * D ≡ Q * y → b * S + Q ≡ D → z * D ≡ y * b * S
          difference z x y b S Q D e f g = let a = ap (λ u. u * D) e in let c = ap (λ u. y * u) g in omega arith

          joined : (g0 g1 o0 o1 z y b S D : ℕ) → g0 * y ≡ z * g1 → o0 * b ≡ 1 * o1 → z * D ≡ y * b * S → y * b * (g0 * o0 * D) ≡ y * b * (1 * S * (g1 * o1))
          joined g0 g1 o0 o1 z y b S D e f k =
              let a = ap (λ u. u * (o0 * b * D)) e in
              let c = ap (λ u. u * (z * g1 * D)) f in
              let d = ap (λ u. u * (g1 * o1)) k in
              omega arith

      given_pos : 0 < (times given over).1
      given_pos = product_pos given.1 over.1 (let z = gl.positive in omega arith) (let z = ol.positive in omega arith)

      pub parts_limited : (part : Fraction) → product_of given over ≡ Some part → IsParts b (Some r) part rest
      parts_limited part e = record {
        part_positive = product_pos_den given over part (let z = gl.positive in omega arith) (let z = ol.positive in omega arith) e;
        rest_positive = i.positive;
        part_is = cancel (times given over).1 _ _ given_pos (joined part.0 part.1 (times given over).0 (times given over).1 S D (product_equal given over part e) part_as);
        rest_is = rest_as rest i;
      }
        where
          joined : (x y t0 t1 S D : ℕ) → x * t1 ≡ t0 * y → t0 * D ≡ 1 * S * t1 → t1 * (x * D) ≡ t1 * (1 * S * y)
          joined x y t0 t1 S D e f = let a = ap (λ u. u * D) e in let c = ap (λ u. u * y) f in omega arith

      pub part_refused : product_of given over ≡ None → PartsBlame b (Some r)
      part_refused e N Np w v =
          let x = equal_whole N (times given over) (class_weight b (Some r) 1) given_pos part_as w in
          let m : 1 * S ≤ D = let t = parts_add_up b (Some r) in let o = mul-le-mul_left S bp in omega arith in
          product_refused N given over Np x.1 (let z = whole_at_most N (class_weight b (Some r) 1).0 (class_weight b (Some r) 1).1 m w in omega (arith, x.0)) e

-- ---- as the code has them
pub as_again : (b a w : ℕ) (again : Fraction) → w ≡ b → a ≡ 2 ^ bits_for b → IsEqual again (a - w, a) → IsEqual again (rejected_numbers b, 2 ^ bits_for b)
as_again b a w again p q e = subst (λ a. IsEqual again (a - b, a)) q (subst (λ w. IsEqual again (a - w, a)) p e)

pub as_over : (b w : ℕ) (f : Fraction) → w ≡ b → IsEqual f (1, w) → IsEqual f (1, b)
as_over b w f p e = subst (λ w. IsEqual f (1, w)) p e

pub as_given : (rest given : Fraction) (x y z : ℕ) → x ≡ rest.1 → y ≡ rest.0 → z ≡ rest.1 → IsEqual given (x - y, z) → IsEqual given (rest.1 - rest.0, rest.1)
as_given rest given x y z p q r e = subst (λ z. IsEqual given (rest.1 - rest.0, z)) r (subst (λ y. IsEqual given (rest.1 - y, z)) q (subst (λ x. IsEqual given (x - y, z)) p e))

pub as_power : (b k : ℕ) → k ≡ bits_for b → (a : ℕ) → a ≡ 2 ^ k → a ≡ 2 ^ bits_for b
as_power b k e a f = f ∙ ap (λ k. 2 ^ k) e
