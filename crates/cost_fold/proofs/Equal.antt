-- Fractions of one value, and averages of them.
use Rattle.std.proofs.Common.{◌≡◌, ℕ, zero, suc, ◌+◌, ◌*◌, ◌<◌, Bool, true, false, not, cond, [], ◌∷◌, ◌++◌, Ok, Err, refl, sym, ap, ◌∙◌, subst, arith}
use Rattle.gcl_core.specs.meaning.Value.{State, Value, is_zero}
use Rattle.gcl_core.specs.meaning.Blocks.{by_value, by_truth}
use Rattle.gcl_core.specs.weighing.Fractions.{Fraction, zero_share, plus, times}
use Rattle.gcl_core.specs.weighing.WeightedEnds.{Weighted, scaled, taken_on}
use Rattle.cost_law.specs.ExpectedBits.{on_average}
use Rattle.numbers.specs.Fraction.{IsEqual}
use Rattle.numbers.proofs.Divisors.{product_pos}
use Rattle.table_flow.specs.Tables.{Table, holds, fails, only}
use Rattle.table_flow.proofs.Positive.{Positive}
use Rattle.table_flow.proofs.EqualFractions.{equal_plus, equal_times}

-- ---- fractions
pair_is : (a b c d : ℕ) → a ≡ c → b ≡ d → ◌≡◌ {A = Fraction} (a, b) (c, d)
pair_is a b c d e f = let x : ◌≡◌ {A = Fraction} (a, b) (c, b) = ap (λ x. (x, b)) e in let y : ◌≡◌ {A = Fraction} (c, b) (c, d) = ap (λ y. (c, y)) f in x ∙ y

pub plus_assoc : (p q t : Fraction) → plus (plus p q) t ≡ plus p (plus q t)
plus_assoc p q t = pair_is _ _ _ _ (omega arith) (omega arith)

pub nothing_plus : (q : Fraction) → q ≡ plus zero_share q
nothing_plus q = pair_is q.0 q.1 _ _ (omega arith) (omega arith)

-- ---- averages
pub average_positive : {A : Type 0} (m : Weighted A) (g : A → Fraction) → Positive m → ((a : A) → 0 < (g a).1) → 0 < (on_average m g).1
average_positive [] g h k = omega arith
average_positive (e ∷ m) g h k = product_pos (e.0.1 * (g e.1).1) (on_average m g).1 (product_pos e.0.1 (g e.1).1 h.0 (k e.1)) (average_positive m g h.1 k)

pub average_append : {A : Type 0} (m n : Weighted A) (g : A → Fraction) → on_average (m ++ n) g ≡ plus (on_average m g) (on_average n g)
average_append [] n g = nothing_plus (on_average n g)
average_append (e ∷ m) n g = ap (plus (times e.0 (g e.1))) (average_append m n g) ∙ sym (plus_assoc (times e.0 (g e.1)) (on_average m g) (on_average n g))

pub average_equal : {A : Type 0} (m : Weighted A) (f g : A → Fraction) → ((a : A) → IsEqual (f a) (g a)) → IsEqual (on_average m f) (on_average m g)
average_equal [] f g h = refl
average_equal (e ∷ m) f g h = equal_plus (times e.0 (f e.1)) (times e.0 (g e.1)) (on_average m f) (on_average m g) (equal_times e.0 e.0 (f e.1) (g e.1) refl (h e.1)) (average_equal m f g h)

pub average_nothing : {A : Type 0} (m : Weighted A) (g : A → Fraction) → ((a : A) → (g a).0 ≡ 0) → (on_average m g).0 ≡ 0
average_nothing [] g h = refl
average_nothing (e ∷ m) g h = rw (h e.1, average_nothing m g h) (omega arith)

-- multiplied by one weight
pub average_scaled : {A : Type 0} (w : Fraction) (m : Weighted A) (g : A → Fraction) → IsEqual (on_average (scaled w m) g) (times w (on_average m g))
average_scaled (zero, d) m g = omega arith
average_scaled (suc n, d) [] g = omega arith
average_scaled (suc n, d) (e ∷ m) g =
    let x = on_average (scaled (suc n, d) m) g in
    let a = on_average m g in
    joined (suc n) d e.0.0 e.0.1 (g e.1).0 (g e.1).1 x.0 x.1 a.0 a.1 (average_scaled (suc n, d) m g)
  where
    joined : (w0 w1 e0 e1 g0 g1 x0 x1 a0 a1 : ℕ) → x0 * (w1 * a1) ≡ w0 * a0 * x1 → (w0 * e0 * g0 * x1 + x0 * (w1 * e1 * g1)) * (w1 * (e1 * g1 * a1)) ≡ w0 * (e0 * g0 * a1 + a0 * (e1 * g1)) * (w1 * e1 * g1 * x1)
    joined w0 w1 e0 e1 g0 g1 x0 x1 a0 a1 e = let z = ap (λ z. z * (w1 * e1 * g1 * (e1 * g1))) e in omega arith

pub average_within : {A : Type 0} (w : Fraction) (m : Weighted A) (g : A → Fraction) → IsEqual (on_average m (λ a. times w (g a))) (times w (on_average m g))
average_within w [] g = omega arith
average_within w (e ∷ m) g =
    let x = on_average m (λ a. times w (g a)) in
    let a = on_average m g in
    joined w.0 w.1 e.0.0 e.0.1 (g e.1).0 (g e.1).1 x.0 x.1 a.0 a.1 (average_within w m g)
  where
    joined : (w0 w1 e0 e1 g0 g1 x0 x1 a0 a1 : ℕ) → x0 * (w1 * a1) ≡ w0 * a0 * x1 → (e0 * (w0 * g0) * x1 + x0 * (e1 * (w1 * g1))) * (w1 * (e1 * g1 * a1)) ≡ w0 * (e0 * g0 * a1 + a0 * (e1 * g1)) * (e1 * (w1 * g1) * x1)
    joined w0 w1 e0 e1 g0 g1 x0 x1 a0 a1 e = let z = ap (λ z. z * (w1 * e1 * g1 * (e1 * g1))) e in omega arith

-- what each entry goes on to, taken on
pub average_taken : {A B : Type 0} (m : Weighted A) (k : A → Weighted B) (g : B → Fraction) → IsEqual (on_average (taken_on m k) g) (on_average m (λ a. on_average (k a) g))
average_taken [] k g = refl
average_taken (e ∷ m) k g =
    subst (λ x. IsEqual x (on_average (e ∷ m) (λ a. on_average (k a) g))) (sym (average_append (scaled e.0 (k e.1)) (taken_on m k) g))
    (equal_plus (on_average (scaled e.0 (k e.1)) g) (times e.0 (on_average (k e.1) g)) (on_average (taken_on m k) g) (on_average m (λ a. on_average (k a) g)) (average_scaled e.0 (k e.1) g) (average_taken m k g))

-- a sum
pub average_sum : {A : Type 0} (m : Weighted A) (f g : A → Fraction) → IsEqual (on_average m (λ a. plus (f a) (g a))) (plus (on_average m f) (on_average m g))
average_sum [] f g = refl
average_sum (e ∷ m) f g =
    let x = on_average m (λ a. plus (f a) (g a)) in
    let F = on_average m f in
    let G = on_average m g in
    joined e.0.0 e.0.1 (f e.1).0 (f e.1).1 (g e.1).0 (g e.1).1 x.0 x.1 F.0 F.1 G.0 G.1 (average_sum m f g)
  where
    joined : (w0 w1 f0 f1 g0 g1 x0 x1 F0 F1 G0 G1 : ℕ) → x0 * (F1 * G1) ≡ (F0 * G1 + G0 * F1) * x1 →
        (w0 * (f0 * g1 + g0 * f1) * x1 + x0 * (w1 * (f1 * g1))) * (w1 * f1 * F1 * (w1 * g1 * G1)) ≡ ((w0 * f0 * F1 + F0 * (w1 * f1)) * (w1 * g1 * G1) + (w0 * g0 * G1 + G0 * (w1 * g1)) * (w1 * f1 * F1)) * (w1 * (f1 * g1) * x1)
    joined w0 w1 f0 f1 g0 g1 x0 x1 F0 F1 G0 G1 e = let z = ap (λ z. z * (w1 * f1 * g1 * (w1 * f1 * (w1 * g1)))) e in omega arith

-- by a guard
module _ (v : State → Value) (f g : State → Fraction) where
  abbrev guarded : Value → State → Fraction
  guarded o s = by_value o (λ e. zero_share) (λ z. by_truth z (f s) (g s))

  pub average_guard : (I : Table) → IsEqual (on_average I (λ s. guarded (v s) s)) (plus (on_average (only (holds v) I) f) (on_average (only (fails v) I) g))
  average_guard [] = refl
  average_guard (e ∷ I) = at_head (v e.1) refl (average_guard I)
    where
      X : Fraction
      X = on_average I (λ s. guarded (v s) s)

      F : Fraction
      F = on_average (only (holds v) I) f

      G : Fraction
      G = on_average (only (fails v) I) g

      none : (w0 w1 x0 x1 a0 a1 : ℕ) → x0 * a1 ≡ a0 * x1 → (w0 * 0 * x1 + x0 * (w1 * 1)) * a1 ≡ a0 * (w1 * 1 * x1)
      none w0 w1 x0 x1 a0 a1 e = let z = ap (λ z. z * w1) e in omega arith

      first : (p0 p1 x0 x1 F0 F1 G0 G1 : ℕ) → x0 * (F1 * G1) ≡ (F0 * G1 + G0 * F1) * x1 → (p0 * x1 + x0 * p1) * (p1 * F1 * G1) ≡ ((p0 * F1 + F0 * p1) * G1 + G0 * (p1 * F1)) * (p1 * x1)
      first p0 p1 x0 x1 F0 F1 G0 G1 e = let z = ap (λ z. z * (p1 * p1)) e in omega arith

      second : (p0 p1 x0 x1 F0 F1 G0 G1 : ℕ) → x0 * (F1 * G1) ≡ (F0 * G1 + G0 * F1) * x1 → (p0 * x1 + x0 * p1) * (F1 * (p1 * G1)) ≡ (F0 * (p1 * G1) + (p0 * G1 + G0 * p1) * F1) * (p1 * x1)
      second p0 p1 x0 x1 F0 F1 G0 G1 e = let z = ap (λ z. z * (p1 * p1)) e in omega arith

      by_zero : (b : Bool) → IsEqual X (plus F G) →
          IsEqual (plus (times e.0 (cond b (g e.1) (f e.1))) X) (plus (on_average (cond (not b) (e ∷ only (holds v) I) (only (holds v) I)) f) (on_average (cond b (e ∷ only (fails v) I) (only (fails v) I)) g))
      by_zero true i = let p = times e.0 (g e.1) in second p.0 p.1 X.0 X.1 F.0 F.1 G.0 G.1 i
      by_zero false i = let p = times e.0 (f e.1) in first p.0 p.1 X.0 X.1 F.0 F.1 G.0 G.1 i

      at_head : (o : Value) → v e.1 ≡ o → IsEqual X (plus F G) → IsEqual (on_average (e ∷ I) (λ s. guarded (v s) s)) (plus (on_average (only (holds v) (e ∷ I)) f) (on_average (only (fails v) (e ∷ I)) g))
      at_head (Err y) p i = rw p (none e.0.0 e.0.1 X.0 X.1 (plus F G).0 (plus F G).1 i)
      at_head (Ok z) p i = rw p (by_zero (is_zero z) i)
