-- Rational numbers at one scale, where they are whole numbers: so a fact of their sums is one of sums of whole numbers.
use Rattle.std.proofs.Common.{◌≡◌, ℕ, ◌+◌, ◌*◌, ◌≤◌, ◌<◌, List, [], ◌∷◌, ap, arith}
use Rattle.std.proofs.Math.Nat.{mul-le-mul_left, mul-le-mul_right, le_of_mul-le-mul_right}
use Rattle.weighing_law.proofs.Shares.{product_pos}
use Rattle.unlimited_law.proofs.Numbers.{Rational, ◌⊕◌, ◌⊑◌, ◌≃◌, nought, unit}

-- v is p of N
pub record At (N v : ℕ) (p : Rational) : Type 0 where
  pub at : p.den * v ≡ p.num * N

pub le_to : {N v u : ℕ} {p q : Rational} → 0 < N → At N v p → At N u q → p ⊑ q → v ≤ u
le_to {N} {v} {u} {p} {q} n a b h =
    le_of_mul-le-mul_right {k = p.den * q.den}
    (let x = ap (λ x. q.den * x) a.at in let y = ap (λ x. p.den * x) b.at in let z = mul-le-mul_right N h.le in omega arith)
    (product_pos p.den q.den p.some q.some)

pub le_from : {N v u : ℕ} {p q : Rational} → 0 < N → At N v p → At N u q → v ≤ u → p ⊑ q
le_from {N} {v} {u} {p} {q} n a b h =
    record { le = le_of_mul-le-mul_right {k = N} (let x = ap (λ x. q.den * x) a.at in let y = ap (λ x. p.den * x) b.at in let z = mul-le-mul_left (p.den * q.den) h in omega arith) n }

pub eq_to : {N v u : ℕ} {p q : Rational} → 0 < N → At N v p → At N u q → p ≃ q → v ≡ u
eq_to n a b h = let x = le_to n a b h.below in let y = le_to n b a h.above in omega arith

pub eq_from : {N v u : ℕ} {p q : Rational} → 0 < N → At N v p → At N u q → v ≡ u → p ≃ q
eq_from n a b h = record { below = le_from n a b (omega arith); above = le_from n b a (omega arith) }

pub at_sum : {N v u : ℕ} {p q : Rational} → At N v p → At N u q → At N (v + u) (p ⊕ q)
unfolding ◌⊕◌
at_sum {N} {v} {u} {p} {q} a b = record { at = let x = ap (λ x. q.den * x) a.at in let y = ap (λ x. p.den * x) b.at in omega arith }

pub at_nought : {N : ℕ} → At N 0 nought
unfolding nought
at_nought {N} = record { at = omega arith }

at_more : {N v : ℕ} {p : Rational} (k : ℕ) → At N v p → At (N * k) (v * k) p
at_more {N} {v} {p} k a = record { at = let x = ap (λ x. x * k) a.at in omega arith }

-- each of these at the scale
pub data Each (N : ℕ) : List Rational → Type 0 where
  none : Each N []
  next : {p : Rational} {ps : List Rational} (v : ℕ) → At N v p → Each N ps → Each N (p ∷ ps)

each_more : {N : ℕ} {ps : List Rational} (k : ℕ) → Each N ps → Each (N * k) ps
each_more k none = none
each_more k (next v a e) = next (v * k) (at_more k a) (each_more k e)

pub record Together (ps : List Rational) : Type 0 where
  pub scale : ℕ
  pub some : 0 < scale
  pub each : Each scale ps

pub together : (ps : List Rational) → Together ps
together [] = record { scale = 1; some = omega arith; each = none }
together (p ∷ ps) =
    let t = together ps in
    record {
      scale = t.scale * p.den;
      some = product_pos t.scale p.den t.some p.some;
      each = next (p.num * t.scale) (record { at = omega arith }) (each_more p.den t.each);
    }

pub at_unit : {N v : ℕ} → At N v unit → v ≡ N
unfolding unit
at_unit a = let x = a.at in omega arith
