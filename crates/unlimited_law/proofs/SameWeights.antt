-- Lists in which each event has the same weight have the same integral of whatever function.
use Rattle.std.proofs.Common.{◌*◌, ◌<◌, Bool, true, false, cond, [], ◌∷◌, refl, arith}
use Rattle.std.specs.Prelude.{◌&&◌, ◌==◌}
use Rattle.std.proofs.lemmas.Bool.{eqb-true, eq-eqb}
use Rattle.gcl_core.specs.weighing.Fractions.{plus}
use Rattle.gcl_core.specs.weighing.Mass.{sum_of}
use Rattle.gcl_core.specs.weighing.WeightedEnds.{Weighted}
use Rattle.unlimited_law.specs.Alike.{AreFractions, Alike}
use Rattle.unlimited_law.proofs.Numbers.{Rational, ◌⊕◌, ◌⊗◌, ◌≃◌, nought, unit, same_refl, same_sym, same_trans, add_same, equal, times_nought, times_unit, nought_add}
use Rattle.unlimited_law.proofs.FractionNumbers.{of, of_plus, of_equal, of_zero}
use Rattle.unlimited_law.proofs.Integrals.{integral, integral_same}
use Rattle.unlimited_law.proofs.Covers.{sign, kept, integral_kept, other, covered_same}
use Rattle.weighing_law.proofs.Shares.{product_pos}

-- ---- sums of fractions
module _ {A : Type 0} (test : A → Bool) where
  pub sum_some : (m : Weighted A) → AreFractions m → 0 < (sum_of test m).1
  sum_some [] h = omega arith
  sum_some (e ∷ m) h = by (test e.1) (sum_some m h.1)
    where
      by : (b : Bool) → 0 < (sum_of test m).1 → 0 < (cond b (plus e.0 (sum_of test m)) (sum_of test m)).1
      by true i = product_pos e.0.1 (sum_of test m).1 (let z = h.0 in omega arith) i
      by false i = i

  pub sum_is : (m : Weighted A) → AreFractions m → of (sum_of test m) ≃ integral (sign test) m
  sum_is [] h = of_zero 1
  sum_is (e ∷ m) h = by (test e.1) (sum_is m h.1)
    where
      by : (b : Bool) → of (sum_of test m) ≃ integral (sign test) m → of (cond b (plus e.0 (sum_of test m)) (sum_of test m)) ≃ of e.0 ⊗ cond b unit nought ⊕ integral (sign test) m
      by true i = same_trans (of_plus e.0 (sum_of test m) (let z = h.0 in omega arith) (sum_some m h.1)) (add_same (same_sym (times_unit (of e.0))) i)
      by false i = same_trans i (same_sym (same_trans (add_same (times_nought (of e.0)) (same_refl (integral (sign test) m))) (nought_add (integral (sign test) m))))

module _ {A : Type 0} where
  pub sign_both : (t u : A → Bool) (m : Weighted A) → integral (sign t) (kept u m) ≃ integral (sign (λ x. t x && u x)) m
  sign_both t u m = same_trans (integral_kept (sign t) u m) (integral_same (λ x. cond (u x) (cond (t x) unit nought) nought) (sign (λ x. t x && u x)) m (λ x. by (t x) (u x)))
    where
      by : (b c : Bool) → cond c (cond b unit nought) nought ≃ cond (b && c) unit nought
      by true true = same_refl unit
      by true false = same_refl nought
      by false true = same_refl nought
      by false false = same_refl nought

  abbrev SameEvents : Weighted A → Weighted A → Type 0
  SameEvents m o = (test : A → Bool) → integral (sign test) m ≃ integral (sign test) o

  module _ (F : A → Rational) where
    -- whether F gives two members the same
    abbrev same : A → A → Bool
    same a x = (F a).num * (F x).den == (F x).num * (F a).den

    pub same_integral : (m o : Weighted A) → SameEvents m o → integral F m ≃ integral F o
    same_integral =
        covered_same same (λ a. eq-eqb _ _ refl) F (λ a x e. same_sym (equal (eqb-true _ _ e))) SameEvents
        (λ a m o e test. same_trans (sign_both test (other same a) m) (same_trans (e (λ x. test x && other same a x)) (same_sym (sign_both test (other same a) o))))
        (λ a m o e. e (same a))

  -- lists that weigh the same
  pub alike_integral : (m o : Weighted A) → Alike m o → (F : A → Rational) → integral F m ≃ integral F o
  alike_integral m o h F =
      same_integral F m o
      (λ test. same_trans (same_sym (sum_is test m h.first)) (same_trans (of_equal (sum_of test m) (sum_of test o) (sum_some test m h.first) (sum_some test o h.second) (h.each test)) (sum_is test o h.second)))
