-- Fractions as rational numbers. One over 0 is 0, so that products need no premise.
use Rattle.std.proofs.Common.{◌≡◌, ℕ, zero, suc, ◌+◌, ◌*◌, ◌<◌, refl, sym, subst, arith}
use Rattle.gcl_core.specs.weighing.Fractions.{Fraction, one, times, plus, AtMost}
use Rattle.weighing_law.proofs.Shares.{product_pos}
use Rattle.unlimited_law.proofs.Numbers.{Rational, ◌⊕◌, ◌⊗◌, ◌⊑◌, ◌≃◌, nought, unit, below_refl, same_refl, below_trans, same_sym, same_trans, add_below, add_same, times_same, factor_same, equal, times_assoc, sum_times, times_nought, nought_times, unit_times}
use Rattle.unlimited_law.proofs.OneScale.{At}

pub of : Fraction → Rational
of (n, zero) = nought
of (n, suc d) = record { num = n; den = suc d; some = omega arith }

of_pair : (n d : ℕ) (some : 0 < d) → of (n, d) ≃ record { num = n; den = d; some = some }
unfolding of
of_pair n zero h = absurd (omega arith)
of_pair n (suc d) h = equal refl

of_none : (n d : ℕ) → d ≡ 0 → of (n, d) ≃ nought
unfolding of
of_none n zero e = same_refl nought
of_none n (suc d) e = absurd (omega arith)

of_product : (a b c d : ℕ) → of (a * c, b * d) ≃ of (a, b) ⊗ of (c, d)
unfolding of ◌⊗◌ nought
of_product a zero c d = same_trans (of_none (a * c) (0 * d) (omega arith)) (same_sym (nought_times (of (c, d))))
of_product a (suc b) c zero = same_trans (of_none (a * c) (suc b * 0) (omega arith)) (same_sym (times_nought (of (a, suc b))))
of_product a (suc b) c (suc d) =
    same_trans (of_pair (a * c) (suc b * suc d) (product_pos (suc b) (suc d) (omega arith) (omega arith))) (equal refl)

pub of_times : (p q : Fraction) → of (times p q) ≃ of p ⊗ of q
of_times p q = of_product p.0 p.1 q.0 q.1

pub of_zero : (d : ℕ) → of (0, d) ≃ nought
unfolding of nought
of_zero zero = same_refl nought
of_zero (suc d) = equal (omega arith)

pub of_one : of one ≃ unit
unfolding of unit
of_one = equal refl

pub of_pos : (p : Fraction) (some : 0 < p.1) → of p ≃ record { num = p.0; den = p.1; some = some }
of_pos p some = of_pair p.0 p.1 some

pub of_plus : (p q : Fraction) → 0 < p.1 → 0 < q.1 → of (plus p q) ≃ of p ⊕ of q
unfolding ◌⊕◌
of_plus p q a b =
    same_trans (of_pair (p.0 * q.1 + q.0 * p.1) (p.1 * q.1) (product_pos p.1 q.1 a b))
    (same_trans (equal refl) (add_same (same_sym (of_pair p.0 p.1 a)) (same_sym (of_pair q.0 q.1 b))))

pub of_join : (x y b : ℕ) → 0 < b → of (x, b) ⊕ of (y, b) ≃ of (x + y, b)
unfolding ◌⊕◌
of_join x y b h = same_trans (add_same (of_pair x b h) (of_pair y b h)) (same_trans (equal (omega arith)) (same_sym (of_pair (x + y) b h)))

pub of_full : (b : ℕ) → 0 < b → of (b, b) ≃ unit
unfolding unit
of_full b h = same_trans (of_pair b b h) (equal (omega arith))

pub of_equal : (p q : Fraction) → 0 < p.1 → 0 < q.1 → p.0 * q.1 ≡ q.0 * p.1 → of p ≃ of q
of_equal p q a b e = same_trans (of_pair p.0 p.1 a) (same_trans (equal e) (same_sym (of_pair q.0 q.1 b)))

pub below_of : (p q : Fraction) → 0 < p.1 → 0 < q.1 → of p ⊑ of q → AtMost p q
below_of p q a b h = (below_trans (of_pair p.0 p.1 a).above (below_trans h (of_pair q.0 q.1 b).below)).le

pub equal_of : (p q : Fraction) → 0 < p.1 → 0 < q.1 → of p ≃ of q → p.0 * q.1 ≡ q.0 * p.1
equal_of p q a b h = let x = below_of p q a b h.below in let y = below_of q p b a h.above in omega arith

pub at_number : (N v : ℕ) (p : Fraction) → 0 < p.1 → At N v (of p) → p.1 * v ≡ p.0 * N
unfolding of
at_number N v (n, zero) h a = absurd (omega arith)
at_number N v (n, suc d) h a = a.at

-- ---- many times
abbrev pub many : ℕ → Rational → Rational
many zero p = nought
many (suc t) p = p ⊕ many t p

pub many_below : (t : ℕ) (p q : Rational) → p ⊑ q → many t p ⊑ many t q
many_below zero p q h = below_refl nought
many_below (suc t) p q h = add_below h (many_below t p q h)

many_is : (t : ℕ) (p : Rational) → many t p ≃ of (t, 1) ⊗ p
many_is zero p = same_sym (same_trans (factor_same p (of_zero 1)) (nought_times p))
many_is (suc t) p =
    let e : 1 + t ≡ suc t = omega arith in
    same_trans (add_same (same_sym (unit_times p)) (many_is t p))
    (same_trans (same_sym (sum_times unit (of (t, 1)) p))
    (factor_same p (same_trans (add_same (same_sym (of_full 1 (omega arith))) (same_refl (of (t, 1)))) (subst (λ x. of (1, 1) ⊕ of (t, 1) ≃ of (x, 1)) e (of_join 1 t 1 (omega arith))))))

part_whole : (n : ℕ) → 0 < n → of (1, n) ⊗ of (n, 1) ≃ unit
part_whole n h = same_trans (same_sym (of_product 1 n n 1)) (let e : 1 * n ≡ n * 1 = omega arith in let o : 0 < n * 1 = omega arith in subst (λ x. of (x, n * 1) ≃ unit) (sym e) (of_full (n * 1) o))

-- one part of n, n times
pub part_of_many : (n : ℕ) → 0 < n → (p : Rational) → of (1, n) ⊗ many n p ≃ p
part_of_many n h p =
    same_trans (times_same (of (1, n)) (many_is n p))
    (same_trans (same_sym (times_assoc (of (1, n)) (of (n, 1)) p)) (same_trans (factor_same p (part_whole n h)) (unit_times p)))
