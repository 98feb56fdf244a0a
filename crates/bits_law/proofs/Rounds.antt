-- What all rounds read, from what one reads and fails with.
use Rattle.std.proofs.Common.{◌≡◌, ℕ, zero, suc, ◌+◌, ◌-◌, ◌*◌, ◌≤◌, ◌<◌, max, [], ◌∷◌, arith}
use Rattle.gcl_core.specs.weighing.Fractions.{Fraction, zero_share, one, plus, times, power, power_sum, divided_by_rest}
use Rattle.weighing_law.proofs.Fractions.{power_below}
use Rattle.weighing_law.proofs.Shares.{product_pos, power_pos, power_sum_pos}
use Rattle.unlimited_law.proofs.Numbers.{Rational, ◌⊕◌, ◌⊗◌, ◌⊑◌, ◌≃◌, nought, unit, below_refl, same_refl, below_trans, same_sym, same_trans, add_below, add_same, times_below, times_same, factor_below, factor_same, times_assoc, times_turned, times_sum, sum_times, times_nought, times_unit, unit_times, nought_below, nought_add}
use Rattle.unlimited_law.proofs.OneScale.{Each, none, next, together, le_to, le_from, at_sum}
use Rattle.unlimited_law.proofs.FractionNumbers.{of, of_times, of_plus, of_zero, of_one, of_join, of_equal, of_pos}
use Rattle.bits_law.proofs.Tends.{two_halves}
use Rattle.bits_law.proofs.LoopTends.{small_part}

-- at most R rounds, each of which reads b, and fails with f
abbrev pub series : ℕ → Rational → Rational → Rational
series zero b f = nought
series (suc R) b f = b ⊕ f ⊗ series R b f

pub series_is : (B f : Fraction) → 0 < f.1 → (R : ℕ) → of (times B (power_sum f R)) ≃ series R (of B) (of f)
series_is B f some zero = same_trans (of_times B zero_share) (same_trans (times_same (of B) (of_zero 1)) (times_nought (of B)))
series_is B f some (suc R) =
    let P = power_sum f R in
    let pos = product_pos f.1 P.1 some (power_sum_pos f some R) in
    same_trans (of_times B (plus one (times f P)))
    (same_trans (times_same (of B) (of_plus one (times f P) (omega arith) pos))
    (same_trans (times_sum (of B) (of one) (of (times f P)))
    (add_same (same_trans (times_same (of B) of_one) (times_unit (of B)))
    (same_trans (times_same (of B) (of_times f P))
    (same_trans (same_sym (times_assoc (of B) (of f) (of P)))
    (same_trans (factor_same (of P) (times_turned (of B) (of f)))
    (same_trans (times_assoc (of f) (of B) (of P)) (times_same (of f) (same_trans (same_sym (of_times B P)) (series_is B f some R))))))))))

times_both : (p q x y : Rational) → p ⊑ q → x ⊑ y → p ⊗ x ⊑ q ⊗ y
times_both p q x y h g = below_trans (factor_below x h) (times_below q g)

pub series_rises : (R Q : ℕ) → R ≤ Q → (b c f g : Rational) → b ⊑ c → f ⊑ g → series R b f ⊑ series Q c g
series_rises zero Q le b c f g h k = nought_below _
series_rises (suc R) zero le b c f g h k = absurd (omega arith)
series_rises (suc R) (suc Q) le b c f g h k = add_below h (times_both f g (series R b f) (series Q c g) k (series_rises R Q (omega arith) b c f g h k))

pub series_most : (b x f g X : Rational) → b ⊑ x → f ⊑ g → x ⊕ g ⊗ X ⊑ X → (R : ℕ) → series R b f ⊑ X
series_most b x f g X h k e zero = nought_below X
series_most b x f g X h k e (suc R) = below_trans (add_below h (times_both f g (series R b f) X k (series_most b x f g X h k e R))) e

-- ---- what all rounds come to
pub all_rounds : (x g : Fraction) → 0 < x.1 → g.0 < g.1 → of x ⊕ of g ⊗ of (divided_by_rest x g) ≃ of (divided_by_rest x g)
all_rounds x g some less =
    let d = g.1 - g.0 in
    let X = divided_by_rest x g in
    let gs : 0 < g.1 = omega arith in
    let ds : 0 < d = omega arith in
    let e : g.1 ≡ g.0 + d = omega arith in
    let Xs = product_pos x.1 d some ds in
    let ts = product_pos g.1 X.1 gs Xs in
    same_trans (add_same (same_refl (of x)) (same_sym (of_times g X)))
    (same_trans (same_sym (of_plus x (times g X) some ts)) (of_equal (plus x (times g X)) X (product_pos x.1 (times g X).1 some ts) Xs (same x.0 x.1 g.0 g.1 d e)))
  where
    same : (a c f h d : ℕ) → h ≡ f + d → (a * (h * (c * d)) + f * (a * h) * c) * (c * d) ≡ a * h * (c * (h * (c * d)))
    same a c f h d e = rw e (omega arith)

-- what is left after so many rounds
abbrev tail : ℕ → Rational → Rational → Rational
tail zero g X = X
tail (suc R) g X = g ⊗ tail R g X

regroup : (x y z : Rational) → x ⊕ (y ⊕ z) ⊑ x ⊕ y ⊕ z
regroup x y z = by (together (x ∷ y ∷ z ∷ [])).some (together (x ∷ y ∷ z ∷ [])).each
  where
    by : {N : ℕ} → 0 < N → Each N (x ∷ y ∷ z ∷ []) → x ⊕ (y ⊕ z) ⊑ x ⊕ y ⊕ z
    by n (next v1 a1 (next v2 a2 (next v3 a3 none))) = le_from n (at_sum a1 (at_sum a2 a3)) (at_sum (at_sum a1 a2) a3) (omega arith)

with_tail : (x g X : Rational) → X ⊑ x ⊕ g ⊗ X → (R : ℕ) → X ⊑ series R x g ⊕ tail R g X
with_tail x g X e zero = (nought_add X).above
with_tail x g X e (suc R) =
    below_trans e
    (below_trans (add_below (below_refl x) (below_trans (times_below g (with_tail x g X e R)) (times_sum g (series R x g) (tail R g X)).below)) (regroup x (g ⊗ series R x g) (g ⊗ tail R g X)))

tail_is : (g : Fraction) (X : Rational) (R : ℕ) → tail R (of g) X ≃ of (power g R) ⊗ X
tail_is g X zero = same_sym (same_trans (factor_same X of_one) (unit_times X))
tail_is g X (suc R) =
    same_trans (times_same (of g) (tail_is g X R)) (same_trans (same_sym (times_assoc (of g) (of (power g R)) X)) (factor_same X (same_sym (of_times g (power g R)))))

pub fewer_parts : (a b : ℕ) → 0 < a → a ≤ b → of (1, b) ⊑ of (1, a)
fewer_parts a b some le =
    let h : 0 < b = omega arith in
    below_trans (of_pos (1, b) h).below (below_trans (record { le = omega arith }) (of_pos (1, a) some).above)

-- enough rounds
tail_small : (g : Fraction) → g.0 < g.1 → (X : Rational) (j : ℕ) → 0 < j → tail ((j * X.num + 1) * g.0 + 1) (of g) X ⊑ of (1, j)
tail_small g less X j some =
    let M = j * X.num + 1 in
    let R = M * g.0 + 1 in
    let Ms : 0 < M = omega arith in
    let gs : 0 < g.1 = omega arith in
    let p = power_below g M R less (omega arith) in
    let ps = power_pos g gs R in
    below_trans (tail_is g X R).below
    (below_trans (factor_below X (below_trans (of_pos (power g R) ps).below (below_trans (record { le = p }) (of_pos (1, M) Ms).above))) (small_part j some X))

-- ---- so many rounds, each near one
three_thirds : (j : ℕ) → 0 < j → of (1, 3 * j) ⊕ of (1, 3 * j) ⊕ of (1, 3 * j) ⊑ of (1, j)
three_thirds j some =
    let h : 0 < 3 * j = omega arith in
    below_trans (add_below (of_join 1 1 (3 * j) h).below (below_refl (of (1, 3 * j)))) (below_trans (of_join (1 + 1) 1 (3 * j) h).below (of_equal (1 + 1 + 1, 3 * j) (1, j) h some (omega arith)).below)

near_round : (x y s b t d e : Rational) → x ⊑ b ⊕ d → y ⊑ t ⊕ d ⊕ d → s ⊑ x ⊕ y → d ⊕ d ⊕ d ⊑ e → s ⊑ b ⊕ t ⊕ e
near_round x y s b t d e h k l m = by (together (x ∷ y ∷ s ∷ b ∷ t ∷ d ∷ e ∷ [])).some (together (x ∷ y ∷ s ∷ b ∷ t ∷ d ∷ e ∷ [])).each
  where
    by : {N : ℕ} → 0 < N → Each N (x ∷ y ∷ s ∷ b ∷ t ∷ d ∷ e ∷ []) → s ⊑ b ⊕ t ⊕ e
    by n (next v1 a1 (next v2 a2 (next v3 a3 (next v4 a4 (next v5 a5 (next v6 a6 (next v7 a7 none))))))) =
        let p = le_to n a1 (at_sum a4 a6) h in
        let q = le_to n a2 (at_sum (at_sum a5 a6) a6) k in
        let r = le_to n a3 (at_sum a1 a2) l in
        let u = le_to n (at_sum (at_sum a6 a6) a6) a7 m in
        le_from n a3 (at_sum (at_sum a4 a5) a7) (omega arith)

pub record IsClose (M : ℕ) (x g b f : Rational) : Type 0 where
  pub reads : x ⊑ b ⊕ of (1, M)
  pub fails : g ⊑ f ⊕ of (1, M)
  pub less : f ⊑ unit

closer : (M K : ℕ) → 0 < M → M ≤ K → (x g b f : Rational) → IsClose K x g b f → IsClose M x g b f
closer M K some le x g b f c = record {
  reads = below_trans c.reads (add_below (below_refl b) (fewer_parts M K some le));
  fails = below_trans c.fails (add_below (below_refl f) (fewer_parts M K some le));
  less = c.less;
}

pub rounds_near : (x g : Rational) (R j : ℕ) → 0 < j → (M : ℕ) × (0 < M) × ((b f : Rational) → IsClose M x g b f → series R x g ⊑ series R b f ⊕ of (1, j))
rounds_near x g zero j some = (1, (let one : 0 < 1 = omega arith in one), λ b f c. nought_below _)
rounds_near x g (suc R) j some =
    let three : 0 < 3 * j = omega arith in
    let y = rounds_near x g R (3 * j) three in
    let S = series R x g in
    let A = 3 * j * S.num + 1 in
    let As : 0 < A = omega arith in
    let K = max (max y.0 A) (3 * j) in
    let Ks : 0 < K = omega arith in
    let D = of (1, 3 * j) in (
      K,
      Ks,
      λ b f c.
          let T = series R b f in
          let a : S ⊑ T ⊕ D = y.2 b f (closer y.0 K y.1 (omega arith) x g b f c) in
          let one_more : g ⊗ S ⊑ f ⊗ T ⊕ D ⊕ D =
          below_trans (factor_below S (below_trans c.fails (add_below (below_refl f) (fewer_parts A K As (omega arith)))))
          (below_trans (sum_times f (of (1, A)) S).below
          (add_below (below_trans (times_below f a) (below_trans (times_sum f T D).below (add_below (below_refl (f ⊗ T)) (below_trans (factor_below D c.less) (unit_times D).below)))) (small_part (3 * j) three S))) in
          near_round x (g ⊗ S) (x ⊕ g ⊗ S) b (f ⊗ T) D (of (1, j)) (below_trans c.reads (add_below (below_refl b) (fewer_parts (3 * j) K three (omega arith)))) one_more (below_refl (x ⊕ g ⊗ S)) (three_thirds j some),
    )

last_near : (X s t d e : Rational) → X ⊑ s ⊕ d → s ⊑ t ⊕ d → d ⊕ d ⊑ e → X ⊑ t ⊕ e
last_near X s t d e h k l = by (together (X ∷ s ∷ t ∷ d ∷ e ∷ [])).some (together (X ∷ s ∷ t ∷ d ∷ e ∷ [])).each
  where
    by : {N : ℕ} → 0 < N → Each N (X ∷ s ∷ t ∷ d ∷ e ∷ []) → X ⊑ t ⊕ e
    by n (next v1 a1 (next v2 a2 (next v3 a3 (next v4 a4 (next v5 a5 none))))) =
        let p = le_to n a1 (at_sum a2 a4) h in
        let q = le_to n a2 (at_sum a3 a4) k in
        let r = le_to n (at_sum a4 a4) a5 l in
        le_from n a1 (at_sum a3 a5) (omega arith)

-- from some number of rounds on, where a round is near enough
pub all_rounds_near : (x g : Fraction) → 0 < x.1 → g.0 < g.1 → (j : ℕ) → 0 < j →
    (R : ℕ) × (M : ℕ) × (0 < M) × ((Q : ℕ) → R ≤ Q → (b f : Rational) → IsClose M (of x) (of g) b f → of (divided_by_rest x g) ⊑ series Q b f ⊕ of (1, j))
all_rounds_near x g some less j pos =
    let two : 0 < 2 * j = omega arith in
    let X = of (divided_by_rest x g) in
    let R = (2 * j * X.num + 1) * g.0 + 1 in
    let y = rounds_near (of x) (of g) R (2 * j) two in
    let D = of (1, 2 * j) in
    let far : X ⊑ series R (of x) (of g) ⊕ D =
    below_trans (with_tail (of x) (of g) X (all_rounds x g some less).above R) (add_below (below_refl (series R (of x) (of g))) (tail_small g less X (2 * j) two)) in (
      R,
      y.0,
      y.1,
      λ Q le b f c.
          last_near X (series R (of x) (of g)) (series Q b f) D (of (1, j)) far
          (below_trans (y.2 b f c) (add_below (series_rises R Q le b b f f (below_refl b) (below_refl f)) (below_refl D))) (two_halves j pos),
    )
