-- What tends to a number from below: never above it, and near it from some number on. It is said of functions of what is read afterwards.
use Rattle.std.proofs.Common.{ℕ, ◌+◌, ◌*◌, ◌≤◌, ◌<◌, max, [], ◌∷◌, arith}
use Rattle.gcl_core.specs.meaning.Value.{State}
use Rattle.unlimited_law.proofs.Numbers.{Rational, ◌⊕◌, ◌⊑◌, ◌≃◌, below_refl, below_trans, add_below, add_nought, nought_below}
use Rattle.unlimited_law.proofs.OneScale.{Each, none, next, together, le_to, le_from, at_sum}
use Rattle.unlimited_law.proofs.FractionNumbers.{of, of_join, of_equal}
use Rattle.bits_law.proofs.Readers.{Reads}

-- ---- parts of a part
pub two_halves : (k : ℕ) → 0 < k → of (1, 2 * k) ⊕ of (1, 2 * k) ⊑ of (1, k)
two_halves k some =
    let h : 0 < 2 * k = omega arith in
    below_trans (of_join 1 1 (2 * k) h).below (of_equal (1 + 1, 2 * k) (1, k) h some (omega arith)).below

-- ---- what follows is read after the first
-- with a greater number, and more to be read afterwards, no less
pub record Rising (X : ℕ → Reads) : Type 0 where
  pub rises : (n m : ℕ) → n ≤ m → (F G : State → Rational) → ((s : State) → F s ⊑ G s) → X n F ⊑ X m G

pub record Tends (X : ℕ → Reads) (T : Reads) : Type 0 where
  pub most : (n : ℕ) (F : State → Rational) → X n F ⊑ T F
  pub near : (F : State → Rational) (k : ℕ) → 0 < k → (n : ℕ) × (T F ⊑ X n F ⊕ of (1, k))

pub tends_exact : (X : ℕ → Reads) (T : Reads) → ((n : ℕ) (F : State → Rational) → X n F ≃ T F) → Tends X T
tends_exact X T h = record {
  most = λ n F. (h n F).below;
  near = λ F k some. (0, below_trans (h 0 F).above (below_trans (add_nought (X 0 F)).above (add_below (below_refl (X 0 F)) (nought_below (of (1, k))))));
}

pub tends_same : (X Y : ℕ → Reads) (T U : Reads) → ((n : ℕ) (F : State → Rational) → X n F ≃ Y n F) → ((F : State → Rational) → T F ≃ U F) → Tends X T → Tends Y U
tends_same X Y T U e f h = record {
  most = λ n F. below_trans (e n F).above (below_trans (h.most n F) (f F).below);
  near = λ F k some.
      let x = h.near F k some in
      (x.0, below_trans (f F).above (below_trans x.1 (add_below (e x.0 F).below (below_refl (of (1, k))))));
}

both_near : (t u x y d e : Rational) → t ⊑ x ⊕ d → u ⊑ y ⊕ d → d ⊕ d ⊑ e → t ⊕ u ⊑ x ⊕ y ⊕ e
both_near t u x y d e a b c = by (together (t ∷ u ∷ x ∷ y ∷ d ∷ e ∷ [])).some (together (t ∷ u ∷ x ∷ y ∷ d ∷ e ∷ [])).each
  where
    by : {N : ℕ} → 0 < N → Each N (t ∷ u ∷ x ∷ y ∷ d ∷ e ∷ []) → t ⊕ u ⊑ x ⊕ y ⊕ e
    by n (next v1 a1 (next v2 a2 (next v3 a3 (next v4 a4 (next v5 a5 (next v6 a6 none)))))) =
        let p = le_to n a1 (at_sum a3 a5) a in
        let q = le_to n a2 (at_sum a4 a5) b in
        let r = le_to n (at_sum a5 a5) a6 c in
        le_from n (at_sum a1 a2) (at_sum (at_sum a3 a4) a6) (omega arith)

pub then_near : (t u x d e : Rational) → t ⊑ u ⊕ d → u ⊑ x ⊕ d → d ⊕ d ⊑ e → t ⊑ x ⊕ e
then_near t u x d e a b c = by (together (t ∷ u ∷ x ∷ d ∷ e ∷ [])).some (together (t ∷ u ∷ x ∷ d ∷ e ∷ [])).each
  where
    by : {N : ℕ} → 0 < N → Each N (t ∷ u ∷ x ∷ d ∷ e ∷ []) → t ⊑ x ⊕ e
    by n (next v1 a1 (next v2 a2 (next v3 a3 (next v4 a4 (next v5 a5 none))))) =
        let p = le_to n a1 (at_sum a2 a4) a in
        let q = le_to n a2 (at_sum a3 a4) b in
        let r = le_to n (at_sum a4 a4) a5 c in
        le_from n a1 (at_sum a3 a5) (omega arith)

pub left_max : (a b : ℕ) → a ≤ max a b
left_max a b = omega arith

pub right_max : (a b : ℕ) → b ≤ max a b
right_max a b = omega arith

pub rising_both : (X Y : ℕ → Reads) → Rising X → Rising Y → Rising (λ n F. X n F ⊕ Y n F)
rising_both X Y p q = record { rises = λ n m le F G h. add_below (p.rises n m le F G h) (q.rises n m le F G h) }

pub tends_both : (X Y : ℕ → Reads) (T U : Reads) → Rising X → Rising Y → Tends X T → Tends Y U → Tends (λ n F. X n F ⊕ Y n F) (λ F. T F ⊕ U F)
tends_both X Y T U p q h g = record {
  most = λ n F. add_below (h.most n F) (g.most n F);
  near = λ F k some.
      let two : 0 < 2 * k = omega arith in
      let x = h.near F (2 * k) two in
      let y = g.near F (2 * k) two in
      let m = max x.0 y.0 in
      let same = λ (s : State). below_refl (F s) in (
        m,
        both_near (T F) (U F) (X m F) (Y m F) (of (1, 2 * k)) (of (1, k))
            (below_trans x.1 (add_below (p.rises x.0 m (left_max x.0 y.0) F F same) (below_refl (of (1, 2 * k)))))
            (below_trans y.1 (add_below (q.rises y.0 m (right_max x.0 y.0) F F same) (below_refl (of (1, 2 * k)))))
            (two_halves k some),
      );
}

pub beside : (d t x e : Rational) → t ⊑ x ⊕ e → d ⊕ t ⊑ d ⊕ x ⊕ e
beside d t x e a = by (together (d ∷ t ∷ x ∷ e ∷ [])).some (together (d ∷ t ∷ x ∷ e ∷ [])).each
  where
    by : {N : ℕ} → 0 < N → Each N (d ∷ t ∷ x ∷ e ∷ []) → d ⊕ t ⊑ d ⊕ x ⊕ e
    by n (next v1 a1 (next v2 a2 (next v3 a3 (next v4 a4 none)))) =
        let p = le_to n a2 (at_sum a3 a4) a in
        le_from n (at_sum a1 a2) (at_sum (at_sum a1 a3) a4) (omega arith)

-- something that is read before
pub tends_beside : (d : Rational) (X : ℕ → Reads) (T : Reads) → Tends X T → Tends (λ n F. d ⊕ X n F) (λ F. d ⊕ T F)
tends_beside d X T h = record {
  most = λ n F. add_below (below_refl d) (h.most n F);
  near = λ F k some. let x = h.near F k some in (x.0, beside d (T F) (X x.0 F) (of (1, k)) x.1);
}

-- first X, and what Y reads after each state in which that ends: of a table, Z
pub tends_then : (X : ℕ → Reads) (T : Reads) (Y : ℕ → State → Reads) (Z : ℕ → Reads) (U V : Reads) (d : Rational) → Rising X → ((s : State) → Rising (λ n. Y n s)) → Tends X T →
    Tends Z U → ((n : ℕ) (F : State → Rational) → T (λ s. Y n s F) ≃ d ⊕ Z n F) → ((F : State → Rational) → d ⊕ U F ≃ V F) →
    Tends (λ n F. X n (λ s. Y n s F)) V
tends_then X T Y Z U V d p q h g e f = record {
  most = λ n F. below_trans (h.most n (λ s. Y n s F)) (below_trans (e n F).below (below_trans (add_below (below_refl d) (g.most n F)) (f F).below));
  near = λ F k some.
      let two : 0 < 2 * k = omega arith in
      let y = g.near F (2 * k) two in
      let x = h.near (λ s. Y y.0 s F) (2 * k) two in
      let m = max x.0 y.0 in
      let D = of (1, 2 * k) in (
        m,
        then_near (V F) (T (λ s. Y y.0 s F)) (X m (λ s. Y m s F)) D (of (1, k))
            (below_trans (f F).above (below_trans (beside d (U F) (Z y.0 F) D y.1) (add_below (e y.0 F).above (below_refl D))))
            (below_trans x.1 (add_below (p.rises x.0 m (left_max x.0 y.0) (λ s. Y y.0 s F) (λ s. Y m s F) (λ s. (q s).rises y.0 m (right_max x.0 y.0) F F (λ s. below_refl (F s)))) (below_refl D)))
            (two_halves k some),
      );
}
