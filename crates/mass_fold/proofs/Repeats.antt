-- A weight of one round in some rounds: that it is exact, and why it is refused.
use Rattle.std.proofs.Common.{◌≡◌, ℕ, zero, suc, ◌+◌, ◌-◌, ◌*◌, ◌^◌, ◌≤◌, ◌<◌, Some, None, sym, ap, ◌∙◌, subst, arith}
use Rattle.std.proofs.Math.Nat.{pow-suc, pow-zero, one-le-pow, pow-le-pow_right, mul-le-mul_left, mul-le-mul_right, le_of_mul-le-mul_left, le_of_mul-le-mul_right}
use Rattle.gcl_core.specs.weighing.Fractions.{Fraction, times}
use Rattle.numbers.specs.Arithmetic.{InLowest, sum_of, product_of}
use Rattle.numbers.proofs.Divisors.{product_pos, lowest_in_lowest}
use Rattle.table_flow.specs.Scale.{whole, Whole}
use Rattle.table_flow.proofs.Wholes.{whole_from, sum_whole, sum_wide, product_whole, product_wide, whole_multiple}
use Rattle.mass_fold.specs.Rounds.{geometric, scale_of, MayRepeat, IsRepeated, RepeatBlames}
use Rattle.mass_fold.specs.inner.Rounds.{ArePartsOfOne}
use Rattle.mass_fold.proofs.Powers.{product_is}

-- ---- numbers

-- what does not fail in one of R rounds, beside what fails in all
telescoped : (f : Fraction) (c : ℕ) → f.1 ≡ f.0 + c → (R : ℕ) → c * geometric f R + f.0 ^ R ≡ f.1 ^ R
telescoped f c e zero = rw (pow-zero f.0, pow-zero f.1) (omega arith)
telescoped f c e (suc R) =
    rw (pow-suc f.0 R, pow-suc f.1 R) (more f.0 f.1 c (f.1 ^ R) (geometric f R) (f.0 ^ R) e (telescoped f c e R))
  where
    more : (n d c D g p : ℕ) → d ≡ n + c → c * g + p ≡ D → c * (D + n * g) + p * n ≡ D * d
    more n d c D g p e i = let x = ap (λ z. n * z) i in let y = ap (λ z. D * z) e in omega arith

-- parts of one whole stay parts of it, whatever the rounds
pub within : (f : Fraction) (N F H k : ℕ) → f.1 * F ≡ f.0 * N → H + F ≤ N → f.0 ≤ f.1 → 0 < f.1 → geometric f (suc k) * H + f.0 ^ k * F ≤ N * f.1 ^ k
within f N F H k e s m pos =
    let c = f.1 - f.0 in
    let d : f.1 ≡ f.0 + c = omega arith in
    let t = telescoped f c d (suc k) in
    let x = pow-suc f.0 k in
    let y = pow-suc f.1 k in
    let h : f.1 * H + f.1 * F ≤ f.1 * N = let z = mul-le-mul_left f.1 s in omega arith in
    le_of_mul-le-mul_left {k = f.1} (joined f.0 f.1 c N F H (geometric f (suc k)) (f.0 ^ k) (f.1 ^ k) d e h (let z = t in rw (← x, ← y) z)) pos
  where
    joined : (n d c N F H g p D : ℕ) → d ≡ n + c → d * F ≡ n * N → d * H + d * F ≤ d * N → c * g + p * n ≡ D * d → d * (g * H + p * F) ≤ d * (N * D)
    joined n d c N F H g p D e f h t =
        let a : d * H ≤ c * N = let z = ap (λ z. z * N) e in omega arith in
        let b = mul-le-mul_left g a in
        let q = ap (λ z. p * z) f in
        let r = ap (λ z. N * z) t in
        omega arith

at_most_all : (N : ℕ) (f : Fraction) → 0 < N → Whole N f → whole N f ≤ N → f.0 ≤ f.1
at_most_all N f pos w h = le_of_mul-le-mul_right {k = N} (let m = mul-le-mul_left f.1 h in omega (arith, w.exact)) pos

-- ---- one round more
module _ (s f : Fraction) where
  pub repeated_once : IsRepeated s f 1 s
  repeated_once N Np ws wf =
      let z : f.1 ^ 0 ≡ 1 = pow-zero f.1 in
      let e : N * f.1 ^ 0 ≡ N = ap (λ x. N * x) z ∙ (let y : N * 1 ≡ N = omega arith in y) in
      (subst (λ M. Whole M s) (sym e) ws, ap (λ M. whole M s) e ∙ (let x = ap (λ x. (x + f.0 * 0) * whole N s) z in let y : (1 + f.0 * 0) * whole N s ≡ whole N s = omega arith in sym (x ∙ y)))

  -- where nothing fails, one round is all
  pub repeated_never : (R : ℕ) → 1 ≤ R → f.0 ≡ 0 → IsRepeated s f R s
  repeated_never zero h z N Np ws wf = absurd (omega arith)
  repeated_never (suc k) h z N Np ws wf =
      let D = f.1 ^ k in
      let W = whole N s in
      let x = whole_multiple N D s ws in
      (x.1, x.0 ∙ (let y = ap (λ n. (D + n * geometric f k) * W) z in let u : (D + 0 * geometric f k) * W ≡ D * W = omega arith in sym (y ∙ u)))

  module _ (j : ℕ) (t : Fraction) (is : IsRepeated s f (suc j) t) (N : ℕ) (Np : 0 < N) (ws : Whole N s) (wf : Whole N f) where
    abbrev M : ℕ
    M = N * f.1 ^ suc j

    abbrev W : ℕ
    W = whole N s

    pos : 0 < M
    pos = product_pos N (f.1 ^ suc j) Np (one-le-pow (suc j) f.1 wf.positive)

    first_part : (whole M s ≡ f.1 ^ suc j * W) × Whole M s
    first_part = whole_multiple N (f.1 ^ suc j) s ws

    second_part : (whole M (times f t) ≡ f.0 * (geometric f (suc j) * W)) × Whole M (times f t)
    second_part =
        let i = is N Np ws wf in
        let e = pow-suc f.1 j in
        let x = whole_from M (times f t) (f.0 * whole (N * f.1 ^ j) t) (product_pos f.1 t.1 wf.positive i.0.positive)
        (rw e (exact f.0 f.1 t.0 t.1 (whole (N * f.1 ^ j) t) N (f.1 ^ j) i.0.exact)) in
        (x.0 ∙ ap (λ z. f.0 * z) i.1, x.1)
      where
        exact : (n d a b V N D : ℕ) → b * V ≡ a * (N * D) → d * b * (n * V) ≡ n * a * (N * (D * d))
        exact n d a b V N D e = let x = ap (λ z. d * n * z) e in omega arith

    both_parts : (C : ℕ) → geometric f (suc (suc j)) * W ≤ M * C → f.1 ^ suc j * W + f.0 * (geometric f (suc j) * W) ≤ M * C
    both_parts C h = omega arith

    pub repeated_more : (u v : Fraction) → product_of f t ≡ Some u → sum_of s u ≡ Some v → Whole M v × (whole M v ≡ geometric f (suc (suc j)) * W)
    repeated_more u v e h =
        let a = first_part in
        let b = second_part in
        let q = product_whole M f t u b.1 e in
        let r = sum_whole M s u v a.1 q.1 h in
        (r.1, omega (arith, r.0, q.0, a.0, b.0))

    pub product_large : (C : ℕ) → 1 ≤ C → geometric f (suc (suc j)) * W ≤ M * C → product_of f t ≡ None → 2 ^ 128 ≤ M * C
    product_large C one most e = let b = second_part in let h = both_parts C most in product_wide M C f t pos one b.1 (omega (arith, b.0)) e

    pub sum_large : (C : ℕ) → 1 ≤ C → geometric f (suc (suc j)) * W ≤ M * C → (u : Fraction) → InLowest s → product_of f t ≡ Some u → sum_of s u ≡ None → 2 ^ 128 ≤ M * C
    sum_large C one most u l e h =
        let a = first_part in
        let b = second_part in
        let m : InLowest u = subst InLowest (sym (product_is f t u e)) (lowest_in_lowest (times f t).0 (times f t).1 (let z = b.1.positive in omega arith)) in
        let q = product_whole M f t u b.1 e in
        let k = both_parts C most in
        sum_wide M C s u pos one a.1 q.1 l m (omega (arith, q.0, a.0, b.0)) h

-- ---- as the loop has it
scale_more : (N d j R : ℕ) → 0 < d → suc j < R → N * d ^ suc j ≤ N * d ^ (R - 1)
scale_more N d j R pos h = mul-le-mul_left N (pow-le-pow_right pos (let z : suc j ≤ R - 1 = omega arith in z))

pub scale_is : (N : ℕ) (f : Fraction) (R : ℕ) → 1 ≤ R → N * f.1 ^ (R - 1) ≡ scale_of N f R
scale_is N f zero h = absurd (omega arith)
scale_is N f (suc k) h = ap (λ i. N * f.1 ^ i) (let z : suc k - 1 ≡ k = omega arith in z)

up_to : (N : ℕ) (f : Fraction) (j R C : ℕ) → 0 < f.1 → suc j < R → 2 ^ 128 ≤ N * f.1 ^ suc j * C → 2 ^ 128 ≤ scale_of N f R * C
up_to N f j R C pos h w = let a = mul-le-mul_right C (scale_more N f.1 j R pos h) in let b = ap (λ z. z * C) (scale_is N f R (omega arith)) in omega arith

-- some rounds, at least one
pub record Rounds (s f t : Fraction) (k : ℕ) : Type 0 where
  pub some : 1 ≤ k
  pub is : IsRepeated s f k t

pub rounds_next : (s f t u v : Fraction) (k : ℕ) → Rounds s f t k → product_of f t ≡ Some u → sum_of s u ≡ Some v → Rounds s f v (k + 1)
rounds_next s f t u v zero r e h = absurd (let z = r.some in omega arith)
rounds_next s f t u v (suc j) r e h =
    subst (Rounds s f v) (let z : suc (suc j) ≡ suc j + 1 = omega arith in z) (record { some = omega arith; is = λ N Np ws wf. repeated_more s f j t r.is N Np ws wf u v e h })

pub product_blames : (s f t : Fraction) (k R : ℕ) → k < R → Rounds s f t k → product_of f t ≡ None → RepeatBlames s f R
product_blames s f t zero R l r e N C p = absurd (let z = r.some in omega arith)
product_blames s f t (suc j) R l r e N C p = up_to N f j R C p.second.positive l (product_large s f j t r.is N p.positive p.first p.second C p.some (p.bound (suc j) l) e)

pub sum_blames : (s f t u : Fraction) (k R : ℕ) → k < R → Rounds s f t k → InLowest s → product_of f t ≡ Some u → sum_of s u ≡ None → RepeatBlames s f R
sum_blames s f t u zero R l r a e h N C p = absurd (let z = r.some in omega arith)
sum_blames s f t u (suc j) R l r a e h N C p = up_to N f j R C p.second.positive l (sum_large s f j t r.is N p.positive p.first p.second C p.some (p.bound (suc j) l) u a e h)

-- ---- parts of one whole
pub parts_repeat : (N : ℕ) (s f : Fraction) (R : ℕ) → ArePartsOfOne N s f → MayRepeat N 1 s f R
parts_repeat N s f R p = record {
  positive = p.positive;
  some = omega arith;
  first = p.first;
  second = p.second;
  bound = λ k l.
      let m : whole N f ≤ N = let z = p.sum in omega arith in
      let h = within f N (whole N f) (whole N s) k p.second.exact p.sum (at_most_all N f p.positive p.second m) p.second.positive in
      omega arith;
}

pub parts_blame : (s f : Fraction) (R : ℕ) → RepeatBlames s f R → (N : ℕ) → ArePartsOfOne N s f → 2 ^ 128 ≤ scale_of N f R
parts_blame s f R x N p = let h = x N 1 (parts_repeat N s f R p) in omega arith

pub parts_turn : (s f : Fraction) (R : ℕ) (t : Fraction) → IsRepeated s f R t → (N : ℕ) → ArePartsOfOne N s f → Whole (scale_of N f R) t × (whole (scale_of N f R) t ≡ geometric f R * whole N s)
parts_turn s f R t x N p = x N p.positive p.first p.second
