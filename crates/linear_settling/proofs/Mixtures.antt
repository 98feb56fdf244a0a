-- Lists that are two others together, the first by a weight: whatever function counts so.
use Rattle.std.proofs.Common.{ℕ, zero, suc, ◌*◌, ◌≤◌, ◌<◌, Bool, cond, [], ◌∷◌, ◌++◌, Ok, Err, arith}
use Rattle.gcl_core.specs.meaning.Value.{State, Value}
use Rattle.gcl_core.specs.meaning.Blocks.{End, fault, by_value}
use Rattle.gcl_core.specs.weighing.Fractions.{Fraction}
use Rattle.gcl_core.specs.weighing.Mass.{sum_of}
use Rattle.gcl_core.specs.weighing.WeightedEnds.{Weighted, scaled}
use Rattle.table_flow.specs.Tables.{Table, only, faults}
use Rattle.weighing_law.proofs.Shares.{product_pos}
use Rattle.unlimited_law.specs.Alike.{AreFractions, Alike}
use Rattle.unlimited_law.proofs.Numbers.{Rational, ◌⊕◌, ◌⊗◌, ◌≃◌, nought, same_refl, same_sym, same_trans, add_same, times_same, factor_same, times_assoc, times_turned, times_sum, times_nought, nought_add, add_nought}
use Rattle.unlimited_law.proofs.FractionNumbers.{of, equal_of}
use Rattle.unlimited_law.proofs.Integrals.{integral, regroup4, integral_append, integral_scaled}
use Rattle.unlimited_law.proofs.ByState.{kept_fractions, append_fractions}
use Rattle.unlimited_law.proofs.Covers.{sign, integral_kept}
use Rattle.unlimited_law.proofs.SameWeights.{sum_some, sum_is, alike_integral}

-- ---- fractions of lists
pub front_fractions : {A : Type 0} (m o : Weighted A) → AreFractions (m ++ o) → AreFractions m
front_fractions [] o h = tt
front_fractions (e ∷ m) o h = (h.0, front_fractions m o h.1)

pub product_some : (a b : ℕ) → 1 ≤ a → 1 ≤ b → 1 ≤ a * b
product_some a b h k = let p : 0 < a = omega arith in let q : 0 < b = omega arith in let r = product_pos a b p q in omega arith

scaled_fractions : {A : Type 0} (w : Fraction) (m : Weighted A) → 1 ≤ w.1 → AreFractions m → AreFractions (scaled w m)
scaled_fractions (zero, d) m h k = tt
scaled_fractions (suc n, d) [] h k = tt
scaled_fractions (suc n, d) (e ∷ m) h k = (product_some d e.0.1 h k.0, scaled_fractions (suc n, d) m h k.1)

faults_fractions : (v : State → Value) (I : Table) → AreFractions I → AreFractions (faults v I)
faults_fractions v [] h = tt
faults_fractions v (e ∷ I) h = at_head (v e.1) (faults_fractions v I h.1)
  where
    at_head : (o : Value) → AreFractions (faults v I) → AreFractions (by_value o (λ f. (e.0, fault f) ∷ faults v I) (λ z. faults v I))
    at_head (Ok z) i = i
    at_head (Err f) i = (h.0, i)

-- ---- lists that weigh the same
pub alike_of : {A : Type 0} (m o : Weighted A) → AreFractions m → AreFractions o → ((F : A → Rational) → integral F m ≃ integral F o) → Alike m o
alike_of m o f g h = record {
  each = λ event. equal_of (sum_of event m) (sum_of event o) (sum_some event m f) (sum_some event o g) (same_trans (sum_is event m f) (same_trans (h (sign event)) (same_sym (sum_is event o g))));
  first = f;
  second = g;
}

-- ---- mixtures
pub record Mixes {A : Type 0} (w : Fraction) (m o whole : Weighted A) : Type 0 where
  pub first : AreFractions m
  pub second : AreFractions o
  pub fractions : AreFractions whole
  pub each : (F : A → Rational) → integral F whole ≃ of w ⊗ integral F m ⊕ integral F o

-- what is put together of sums
pub mixed_sum : (w a b c d : Rational) → w ⊗ a ⊕ c ⊕ (w ⊗ b ⊕ d) ≃ w ⊗ (a ⊕ b) ⊕ (c ⊕ d)
mixed_sum w a b c d = same_trans (regroup4 (w ⊗ a) c (w ⊗ b) d) (add_same (same_sym (times_sum w a b)) (same_refl (c ⊕ d)))

mixed_scaled : (u w a c : Rational) → u ⊗ (w ⊗ a ⊕ c) ≃ w ⊗ (u ⊗ a) ⊕ u ⊗ c
mixed_scaled u w a c =
    same_trans (times_sum u (w ⊗ a) c)
    (add_same (same_trans (same_sym (times_assoc u w a)) (same_trans (factor_same a (times_turned u w)) (times_assoc w u a))) (same_refl (u ⊗ c)))

module _ (w : Fraction) where
  pub mixes_joined : {A : Type 0} (m o : Weighted A) → 1 ≤ w.1 → AreFractions m → AreFractions o → Mixes w m o (scaled w m ++ o)
  mixes_joined m o some h k = record {
    first = h;
    second = k;
    fractions = append_fractions (scaled w m) o (scaled_fractions w m some h) k;
    each = λ F. same_trans (integral_append F (scaled w m) o) (add_same (integral_scaled w F m) (same_refl (integral F o)));
  }

  pub mixes_none : {A : Type 0} → Mixes {A = A} w [] [] []
  mixes_none {A} = record { first = tt; second = tt; fractions = tt; each = λ F. same_sym (same_trans (add_nought (of w ⊗ nought)) (times_nought (of w))) }

  -- wholes of parts that weigh the same do so
  pub mixes_same : {A : Type 0} {m o q m' o' q' : Weighted A} → Mixes w m o q → Mixes w m' o' q' → Alike m m' → Alike o o' → Alike q q'
  mixes_same {A} {m} {o} {q} {m'} {o'} {q'} h k a c =
      alike_of q q' h.fractions k.fractions
      (λ F. same_trans (h.each F) (same_trans (add_same (times_same (of w) (alike_integral m m' a F)) (alike_integral o o' c F)) (same_sym (k.each F))))

  pub mixes_append : {A : Type 0} {m o q m' o' q' : Weighted A} → Mixes w m o q → Mixes w m' o' q' → Mixes w (m ++ m') (o ++ o') (q ++ q')
  mixes_append {A} {m} {o} {q} {m'} {o'} {q'} h k = record {
    first = append_fractions m m' h.first k.first;
    second = append_fractions o o' h.second k.second;
    fractions = append_fractions q q' h.fractions k.fractions;
    each = λ F.
        same_trans (integral_append F q q')
        (same_trans (add_same (h.each F) (k.each F))
        (same_trans (mixed_sum (of w) (integral F m) (integral F m') (integral F o) (integral F o'))
        (same_sym (add_same (times_same (of w) (integral_append F m m')) (integral_append F o o')))));
  }

  pub mixes_scaled : {A : Type 0} {m o q : Weighted A} (u : Fraction) → 1 ≤ u.1 → Mixes w m o q → Mixes w (scaled u m) (scaled u o) (scaled u q)
  mixes_scaled {A} {m} {o} {q} u some h = record {
    first = scaled_fractions u m some h.first;
    second = scaled_fractions u o some h.second;
    fractions = scaled_fractions u q some h.fractions;
    each = λ F.
        same_trans (integral_scaled u F q)
        (same_trans (times_same (of u) (h.each F))
        (same_trans (mixed_scaled (of u) (of w) (integral F m) (integral F o))
        (same_sym (add_same (times_same (of w) (integral_scaled u F m)) (integral_scaled u F o)))));
  }

  -- ---- parts of a table by a guard
  pub mixes_only : {I J K : Table} (test : State → Bool) → Mixes w I J K → Mixes w (only test I) (only test J) (only test K)
  mixes_only {I} {J} {K} test h = record {
    first = kept_fractions test I h.first;
    second = kept_fractions test J h.second;
    fractions = kept_fractions test K h.fractions;
    each = λ F.
        same_trans (integral_kept F test K)
        (same_trans (h.each (λ s. cond (test s) (F s) nought))
        (same_sym (add_same (times_same (of w) (integral_kept F test I)) (integral_kept F test J))));
  }

  abbrev faulty : (State → Value) → (End → Rational) → State → Rational
  faulty v F s = by_value (v s) (λ f. F (fault f)) (λ z. nought)

  integral_faults : (F : End → Rational) (v : State → Value) (I : Table) → integral F (faults v I) ≃ integral (faulty v F) I
  integral_faults F v [] = same_refl nought
  integral_faults F v (e ∷ I) = at_head (v e.1) (integral_faults F v I)
    where
      at_head : (o : Value) → integral F (faults v I) ≃ integral (faulty v F) I →
          integral F (by_value o (λ f. (e.0, fault f) ∷ faults v I) (λ z. faults v I)) ≃ of e.0 ⊗ by_value o (λ f. F (fault f)) (λ z. nought) ⊕ integral (faulty v F) I
      at_head (Ok z) i = same_trans i (same_sym (same_trans (add_same (times_nought (of e.0)) (same_refl _)) (nought_add _)))
      at_head (Err f) i = add_same (same_refl (of e.0 ⊗ F (fault f))) i

  pub mixes_faults : {I J K : Table} (v : State → Value) → Mixes w I J K → Mixes w (faults v I) (faults v J) (faults v K)
  mixes_faults {I} {J} {K} v h = record {
    first = faults_fractions v I h.first;
    second = faults_fractions v J h.second;
    fractions = faults_fractions v K h.fractions;
    each = λ F.
        same_trans (integral_faults F v K)
        (same_trans (h.each (faulty v F))
        (same_sym (add_same (times_same (of w) (integral_faults F v I)) (integral_faults F v J))));
  }
