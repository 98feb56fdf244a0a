-- Rational numbers that are not negative, compared by cross products.
use Rattle.std.proofs.Common.{◌≡◌, ℕ, ◌+◌, ◌*◌, ◌≤◌, ◌<◌, arith}
use Rattle.std.proofs.Math.Nat.{mul-le-mul_left, mul-le-mul_right, le_of_mul-le-mul_right}
use Rattle.weighing_law.proofs.Shares.{product_pos}

pub record Rational : Type 0 where
  pub num : ℕ
  pub den : ℕ
  pub some : 0 < den

infixl 6 ◌⊕◌
infixl 7 ◌⊗◌
infixl 4 ◌⊑◌
infixl 4 ◌≃◌
unfoldable pub nought : Rational
nought = record { num = 0; den = 1; some = omega arith }

unfoldable pub unit : Rational
unit = record { num = 1; den = 1; some = omega arith }

unfoldable pub ◌⊕◌ : Rational → Rational → Rational
p ⊕ q = record { num = p.num * q.den + q.num * p.den; den = p.den * q.den; some = product_pos p.den q.den p.some q.some }

unfoldable pub ◌⊗◌ : Rational → Rational → Rational
p ⊗ q = record { num = p.num * q.num; den = p.den * q.den; some = product_pos p.den q.den p.some q.some }

pub record ◌⊑◌ (p q : Rational) : Type 0 where
  pub le : p.num * q.den ≤ q.num * p.den

pub record ◌≃◌ (p q : Rational) : Type 0 where
  pub below : p ⊑ q
  pub above : q ⊑ p

-- ---- laws
pub below_refl : (p : Rational) → p ⊑ p
below_refl p = record { le = omega arith }

pub same_refl : (p : Rational) → p ≃ p
same_refl p = record { below = below_refl p; above = below_refl p }

pub below_trans : {p q r : Rational} → p ⊑ q → q ⊑ r → p ⊑ r
below_trans {p} {q} {r} a b =
    record { le = le_of_mul-le-mul_right {k = q.den} (let x = mul-le-mul_right r.den a.le in let y = mul-le-mul_right p.den b.le in omega arith) q.some }

pub same_sym : {p q : Rational} → p ≃ q → q ≃ p
same_sym e = record { below = e.above; above = e.below }

pub same_trans : {p q r : Rational} → p ≃ q → q ≃ r → p ≃ r
same_trans a b = record { below = below_trans a.below b.below; above = below_trans b.above a.above }

pub add_below : {p q r s : Rational} → p ⊑ q → r ⊑ s → p ⊕ r ⊑ q ⊕ s
unfolding ◌⊕◌
add_below {p} {q} {r} {s} a b = record { le = let x = mul-le-mul_right (r.den * s.den) a.le in let y = mul-le-mul_right (p.den * q.den) b.le in omega arith }

pub add_same : {p q r s : Rational} → p ≃ q → r ≃ s → p ⊕ r ≃ q ⊕ s
add_same a b = record { below = add_below a.below b.below; above = add_below a.above b.above }

pub times_below : (p : Rational) {q r : Rational} → q ⊑ r → p ⊗ q ⊑ p ⊗ r
unfolding ◌⊗◌
times_below p {q} {r} a = record { le = let x = mul-le-mul_left (p.num * p.den) a.le in omega arith }

pub times_same : (p : Rational) {q r : Rational} → q ≃ r → p ⊗ q ≃ p ⊗ r
times_same p a = record { below = times_below p a.below; above = times_below p a.above }

pub factor_below : {p q : Rational} (r : Rational) → p ⊑ q → p ⊗ r ⊑ q ⊗ r
unfolding ◌⊗◌
factor_below {p} {q} r a = record { le = let x = mul-le-mul_right (r.num * r.den) a.le in omega arith }

pub factor_same : {p q : Rational} (r : Rational) → p ≃ q → p ⊗ r ≃ q ⊗ r
factor_same r a = record { below = factor_below r a.below; above = factor_below r a.above }

pub equal : {p q : Rational} → p.num * q.den ≡ q.num * p.den → p ≃ q
equal e = record { below = record { le = omega arith }; above = record { le = omega arith } }

pub nought_below : (p : Rational) → nought ⊑ p
unfolding nought
nought_below p = record { le = omega arith }

pub times_assoc : (p q r : Rational) → p ⊗ q ⊗ r ≃ p ⊗ (q ⊗ r)
unfolding ◌⊗◌
times_assoc p q r = equal (omega arith)

pub times_turned : (p q : Rational) → p ⊗ q ≃ q ⊗ p
unfolding ◌⊗◌
times_turned p q = equal (omega arith)

pub times_sum : (p q r : Rational) → p ⊗ (q ⊕ r) ≃ p ⊗ q ⊕ p ⊗ r
unfolding ◌⊗◌ ◌⊕◌
times_sum p q r = equal (omega arith)

pub sum_times : (p q r : Rational) → (p ⊕ q) ⊗ r ≃ p ⊗ r ⊕ q ⊗ r
unfolding ◌⊗◌ ◌⊕◌
sum_times p q r = equal (omega arith)

pub times_nought : (p : Rational) → p ⊗ nought ≃ nought
unfolding ◌⊗◌ nought
times_nought p = equal (omega arith)

pub nought_times : (p : Rational) → nought ⊗ p ≃ nought
unfolding ◌⊗◌ nought
nought_times p = equal (omega arith)

pub unit_times : (p : Rational) → unit ⊗ p ≃ p
unfolding ◌⊗◌ unit
unit_times p = equal (omega arith)

pub times_unit : (p : Rational) → p ⊗ unit ≃ p
unfolding ◌⊗◌ unit
times_unit p = equal (omega arith)

pub nought_add : (p : Rational) → nought ⊕ p ≃ p
unfolding ◌⊕◌ nought
nought_add p = equal (omega arith)

pub add_nought : (p : Rational) → p ⊕ nought ≃ p
unfolding ◌⊕◌ nought
add_nought p = equal (omega arith)

pub add_assoc : (p q r : Rational) → p ⊕ q ⊕ r ≃ p ⊕ (q ⊕ r)
unfolding ◌⊕◌
add_assoc p q r = equal (omega arith)

pub add_turned : (p q : Rational) → p ⊕ q ≃ q ⊕ p
unfolding ◌⊕◌
add_turned p q = equal (omega arith)

pub add_cancel : (p q r : Rational) → p ⊕ r ⊑ q ⊕ r → p ⊑ q
unfolding ◌⊕◌
add_cancel p q r h = record { le = le_of_mul-le-mul_right {k = r.den * r.den} (let x = h.le in omega arith) (product_pos r.den r.den r.some r.some) }
