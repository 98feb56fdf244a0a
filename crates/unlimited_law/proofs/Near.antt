-- Numbers that are near their limit: not above it, and short of it by an n-th of a cost.
use Rattle.std.proofs.Common.{◌≡◌, ℕ, ◌*◌, ◌<◌, [], ◌∷◌, arith}
use Rattle.weighing_law.proofs.Shares.{product_pos}
use Rattle.gcl_core.specs.weighing.Fractions.{Fraction, zero_share, plus}
use Rattle.unlimited_law.proofs.Numbers.{Rational, ◌⊕◌, ◌⊗◌, ◌⊑◌, ◌≃◌, below_refl, below_trans, same_trans, add_below, times_same, times_sum, add_nought, nought_below}
use Rattle.unlimited_law.proofs.OneScale.{Each, none, next, together, le_to, le_from, at_sum}
use Rattle.unlimited_law.proofs.FractionNumbers.{of, of_plus, of_equal}

pub record Near (n : ℕ) (x e : Rational) (cost : Fraction) : Type 0 where
  pub some : 0 < cost.1
  pub low : x ⊑ e
  pub high : e ⊑ x ⊕ of (1, n) ⊗ of cost

module _ (n : ℕ) where
  pub near_exact : {x e : Rational} → x ≃ e → Near n x e zero_share
  near_exact {x} {e} h = record {
    some = omega arith;
    low = h.below;
    high = below_trans h.above (below_trans (add_nought x).above (add_below (below_refl x) (nought_below (of (1, n) ⊗ of (0, 1)))));
  }

  pub near_same : {x x' e e' : Rational} {c : Fraction} → x ≃ x' → e ≃ e' → Near n x' e' c → Near n x e c
  near_same {x} {x'} {e} {e'} {c} a b h = record {
    some = h.some;
    low = below_trans a.below (below_trans h.low b.above);
    high = below_trans b.below (below_trans h.high (add_below a.above (below_refl (of (1, n) ⊗ of c))));
  }

  -- at an equal cost
  pub near_cost : {x e : Rational} {c d : Fraction} → 0 < d.1 → d.0 * c.1 ≡ c.0 * d.1 → Near n x e c → Near n x e d
  near_cost {x} {e} {c} {d} some same h = record {
    some = some;
    low = h.low;
    high = below_trans h.high (add_below (below_refl x) (times_same (of (1, n)) (of_equal d c some h.some same)).above);
  }

  pub near_beside : {x e : Rational} {c : Fraction} (f : Rational) → Near n x e c → Near n (f ⊕ x) (f ⊕ e) c
  near_beside {x} {e} {c} f h = record {
    some = h.some;
    low = add_below (below_refl f) h.low;
    high = by (together (f ∷ x ∷ e ∷ (of (1, n) ⊗ of c) ∷ [])).some (together (f ∷ x ∷ e ∷ (of (1, n) ⊗ of c) ∷ [])).each;
  }
    where
      by : {N : ℕ} → 0 < N → Each N (f ∷ x ∷ e ∷ (of (1, n) ⊗ of c) ∷ []) → f ⊕ e ⊑ f ⊕ x ⊕ of (1, n) ⊗ of c
      by s (next v1 a1 (next v2 a2 (next v3 a3 (next v4 a4 none)))) =
          let k = le_to s a3 (at_sum a2 a4) h.high in le_from s (at_sum a1 a3) (at_sum (at_sum a1 a2) a4) (omega arith)

  -- a cost that is two
  costs : (c d : Fraction) → 0 < c.1 → 0 < d.1 → of (1, n) ⊗ of (plus c d) ≃ of (1, n) ⊗ of c ⊕ of (1, n) ⊗ of d
  costs c d a b = same_trans (times_same (of (1, n)) (of_plus c d a b)) (times_sum (of (1, n)) (of c) (of d))

  pub near_both : {x e y d : Rational} {c k : Fraction} → Near n x e c → Near n y d k → Near n (x ⊕ y) (e ⊕ d) (plus c k)
  near_both {x} {e} {y} {d} {c} {k} h g = record {
    some = product_pos c.1 k.1 h.some g.some;
    low = add_below h.low g.low;
    high = below_trans (by (together (x ∷ e ∷ y ∷ d ∷ (of (1, n) ⊗ of c) ∷ (of (1, n) ⊗ of k) ∷ [])).some (together (x ∷ e ∷ y ∷ d ∷ (of (1, n) ⊗ of c) ∷ (of (1, n) ⊗ of k) ∷ [])).each)
        (add_below (below_refl (x ⊕ y)) (costs c k h.some g.some).above);
  }
    where
      by : {N : ℕ} → 0 < N → Each N (x ∷ e ∷ y ∷ d ∷ (of (1, n) ⊗ of c) ∷ (of (1, n) ⊗ of k) ∷ []) → e ⊕ d ⊑ x ⊕ y ⊕ (of (1, n) ⊗ of c ⊕ of (1, n) ⊗ of k)
      by s (next v1 a1 (next v2 a2 (next v3 a3 (next v4 a4 (next v5 a5 (next v6 a6 none)))))) =
          let p = le_to s a2 (at_sum a1 a5) h.high in
          let q = le_to s a4 (at_sum a3 a6) g.high in
          le_from s (at_sum a2 a4) (at_sum (at_sum a1 a3) (at_sum a5 a6)) (omega arith)

  -- first one part, then what follows a part of it
  pub near_then : {x y w : Rational} {c k : Fraction} (z : Rational) → Near n x (y ⊕ z) c → Near n y w k → Near n x (w ⊕ z) (plus c k)
  near_then {x} {y} {w} {c} {k} z h g = record {
    some = product_pos c.1 k.1 h.some g.some;
    low = below_trans h.low (add_below g.low (below_refl z));
    high = below_trans (by (together (x ∷ y ∷ w ∷ z ∷ (of (1, n) ⊗ of c) ∷ (of (1, n) ⊗ of k) ∷ [])).some (together (x ∷ y ∷ w ∷ z ∷ (of (1, n) ⊗ of c) ∷ (of (1, n) ⊗ of k) ∷ [])).each)
        (add_below (below_refl x) (costs c k h.some g.some).above);
  }
    where
      by : {N : ℕ} → 0 < N → Each N (x ∷ y ∷ w ∷ z ∷ (of (1, n) ⊗ of c) ∷ (of (1, n) ⊗ of k) ∷ []) → w ⊕ z ⊑ x ⊕ (of (1, n) ⊗ of c ⊕ of (1, n) ⊗ of k)
      by s (next v1 a1 (next v2 a2 (next v3 a3 (next v4 a4 (next v5 a5 (next v6 a6 none)))))) =
          let p = le_to s (at_sum a2 a4) (at_sum a1 a5) h.high in
          let q = le_to s a3 (at_sum a2 a6) g.high in
          le_from s (at_sum a3 a4) (at_sum a1 (at_sum a5 a6)) (omega arith)
