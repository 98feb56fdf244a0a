-- The turns of a loop in numbers: what is left to go round is paid once for all turns, so that n turns leave an n-th of it.
use Rattle.std.proofs.Common.{ℕ, zero, suc, ◌<◌, [], ◌∷◌, arith}
use Rattle.unlimited_law.proofs.Numbers.{Rational, ◌⊕◌, ◌⊗◌, ◌⊑◌, below_refl, below_trans, add_below, times_below, times_sum, nought_below, add_cancel}
use Rattle.unlimited_law.proofs.OneScale.{Each, none, next, together, le_to, le_from, at_sum}
use Rattle.unlimited_law.proofs.FractionNumbers.{of, many, many_below, part_of_many}

one_turn : (r i' x' d x tr ti ti' td : Rational) → tr ⊑ ti ⊕ x ⊕ td → ti ⊑ ti' → r ⊕ x ⊑ i' ⊕ x' ⊕ d → r ⊕ tr ⊑ i' ⊕ ti' ⊕ x' ⊕ (d ⊕ td)
one_turn r i' x' d x tr ti ti' td a b c = by (together (r ∷ i' ∷ x' ∷ d ∷ x ∷ tr ∷ ti ∷ ti' ∷ td ∷ [])).some (together (r ∷ i' ∷ x' ∷ d ∷ x ∷ tr ∷ ti ∷ ti' ∷ td ∷ [])).each
  where
    by : {N : ℕ} → 0 < N → Each N (r ∷ i' ∷ x' ∷ d ∷ x ∷ tr ∷ ti ∷ ti' ∷ td ∷ []) → r ⊕ tr ⊑ i' ⊕ ti' ⊕ x' ⊕ (d ⊕ td)
    by n (next v1 a1 (next v2 a2 (next v3 a3 (next v4 a4 (next v5 a5 (next v6 a6 (next v7 a7 (next v8 a8 (next v9 a9 none))))))))) =
        let h = le_to n a6 (at_sum (at_sum a7 a5) a9) a in
        let k = le_to n a7 a8 b in
        let l = le_to n (at_sum a1 a5) (at_sum (at_sum a2 a3) a4) c in
        le_from n (at_sum a1 a6) (at_sum (at_sum (at_sum a2 a8) a3) (at_sum a4 a9)) (omega arith)

module _ (i x : ℕ → Rational) (r d X : Rational) (i_rises : (t : ℕ) → i t ⊑ i (suc t)) (x_rises : (t : ℕ) → x t ⊑ x (suc t)) where
  -- from below
  module _ (low : (t : ℕ) → i (suc t) ⊕ x (suc t) ⊑ r ⊕ x t) where
    pub below_limit : (t : ℕ) → i t ⊑ r
    below_limit t = below_trans (i_rises t) (add_cancel (i (suc t)) r (x (suc t)) (below_trans (low t) (add_below (below_refl r) (x_rises t))))

  -- from above
  module _ (high : (t : ℕ) → r ⊕ x t ⊑ i (suc t) ⊕ x (suc t) ⊕ d) where
    all_turns : (t : ℕ) → many t r ⊑ many t (i t) ⊕ x t ⊕ many t d
    all_turns zero = nought_below _
    all_turns (suc t) =
        one_turn r (i (suc t)) (x (suc t)) d (x t) (many t r) (many t (i t)) (many t (i (suc t))) (many t d) (all_turns t) (many_below t (i t) (i (suc t)) (i_rises t)) (high t)

    pub above_limit : (n : ℕ) → 0 < n → x n ⊑ X → r ⊑ i n ⊕ of (1, n) ⊗ X ⊕ d
    above_limit n some top =
        let part = of (1, n) in
        let a = times_below part (all_turns n) in
        let b = times_sum part (many n (i n) ⊕ x n) (many n d) in
        let c = times_sum part (many n (i n)) (x n) in
        below_trans (part_of_many n some r).above
        (below_trans a (below_trans b.below
        (add_below (below_trans c.below (add_below (part_of_many n some (i n)).below (times_below part top))) (part_of_many n some d).below)))
