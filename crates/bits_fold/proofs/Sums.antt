-- A sum and a product that fit are what they stand for, and what an answer of `ok_or` is.
use Rattle.std.proofs.Common.{◌≡◌, ℕ, ◌*◌, ◌<◌, Option, Some, None, Result, Ok, Err, IfSome, IfOk, ap, ◌∙◌, subst, arith}
use Rattle.std.specs.Option.{ok_or}
use Rattle.numbers.specs.Arithmetic.{sum_of, product_of}
use Rattle.numbers.specs.Fraction.{IsEqual}
use Rattle.numbers.proofs.Divisors.{product_pos}
use Rattle.gcl_core.specs.weighing.Fractions.{Fraction, plus, times}
use Rattle.table_flow.specs.Scale.{whole, Whole}
use Rattle.table_flow.proofs.Wholes.{whole_from, sum_whole, product_whole}

-- a fraction above 0 in its second number
pub record Is (v p : Fraction) : Type 0 where
  pub some : 0 < v.1
  pub equal : IsEqual v p

of_whole : (N : ℕ) (v p : Fraction) → p.1 ≡ N → Whole N v → whole N v ≡ p.0 → Is v p
of_whole N v p e w h = record { some = w.positive; equal = let x = w.exact in let y = ap (λ z. v.1 * z) h in let z = ap (λ z. v.0 * z) e in omega arith }

pub sum_is : (p q v : Fraction) → 0 < p.1 → 0 < q.1 → sum_of p q ≡ Some v → Is v (plus p q)
sum_is p q v h k e =
    let N = p.1 * q.1 in
    let a = whole_from N p (p.0 * q.1) h (omega arith) in
    let b = whole_from N q (q.0 * p.1) k (omega arith) in
    let s = sum_whole N p q v a.1 b.1 e in
    let t = s.0 in
    let x = a.0 in
    let y = b.0 in
    of_whole N v (plus p q) (omega arith) s.1 (omega arith)

pub product_is : (p q v : Fraction) → 0 < p.1 → 0 < q.1 → product_of p q ≡ Some v → Is v (times p q)
product_is p q v h k e =
    let N = p.1 * q.1 in
    let a = whole_from N (p.0 * q.0, p.1 * q.1) (p.0 * q.0) (product_pos p.1 q.1 h k) (omega arith) in
    let s = product_whole N p q v a.1 e in
    of_whole N v (times p q) (omega arith) s.1 (s.0 ∙ a.0)

-- what holds of a value that is there
pub some_answered : {T E : Type 0} (o : Option T) (e : E) (x : T) (P : T → Type 0) → IfSome o P → Ok x ≡ ok_or o e → P x
some_answered None e x P h b = cc
some_answered (Some y) e x P h b = let p : y ≡ x = cc in subst P p h

pub answered : {T E : Type 0} (o p : Option T) (e : E) (x : T) → o ≡ p → Ok x ≡ ok_or o e → p ≡ Some x
answered None p e x a b = cc
answered (Some y) p e x a b = cc

-- what holds of an answer that is returned as it is
pub both_ok : {T E : Type 0} (r : Result T E) {P Q R : T → Type 0} → ((x : T) → P x → Q x → R x) → IfOk r P → IfOk r Q → IfOk r R
both_ok (Ok x) f h k = f x h k
both_ok (Err e) f h k = h
