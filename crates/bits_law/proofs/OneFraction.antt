-- What is expected in the limit is one fraction.
use Rattle.std.proofs.Common.{⊎_elim, ℕ, ◌+◌, ◌*◌, ◌≤◌, ◌<◌, arith}
use Rattle.std.proofs.lemmas.Bool.{cases_lt}
use Rattle.std.proofs.Math.Nat.{mul-le-mul_right}
use Rattle.numbers.specs.Fraction.{IsEqual}
use Rattle.gcl_core.specs.declared.answers.Limits.{Limits}
use Rattle.gcl_core.specs.weighing.Fractions.{Fraction, plus, AtMost}
use Rattle.weighing_law.proofs.Fractions.{at_most_then, at_most_plus}
use Rattle.weighing_law.proofs.Shares.{product_pos}
use Rattle.bits_law.specs.InTheLimit.{ComesTo}

-- no more than each fraction above q is no more than q
no_gap : (p q : Fraction) → 0 < p.1 → 0 < q.1 → ((k : ℕ) → 1 ≤ k → AtMost p (plus q (1, k))) → AtMost p q
no_gap p q h g all = ⊎_elim (λ (lt : q.0 * p.1 < p.0 * q.1). absurd (gap lt)) (λ (le : p.0 * q.1 ≤ q.0 * p.1). le) (cases_lt (q.0 * p.1) (p.0 * q.1))
  where
    -- at k = 2 times both second numbers
    gap : q.0 * p.1 < p.0 * q.1 → ⊥
    gap lt =
        let k = 2 * (p.1 * q.1) in
        let some : 0 < p.1 * q.1 = product_pos p.1 q.1 h g in
        let a = all k (omega arith) in
        let b = mul-le-mul_right k (let le : q.0 * p.1 + 1 ≤ p.0 * q.1 = omega arith in le) in
        omega arith

module _ (under : Limits → Fraction) (under_some : (l : Limits) → 0 < (under l).1) where
  one_below : (number other : Fraction) → ComesTo under number → ComesTo under other → AtMost number other
  one_below number other h g =
      let hs = h.fraction in
      let gs = g.fraction in
      no_gap number other (omega arith) (omega arith)
      (λ k some.
      let x = h.near k some in
      let l : Limits = record { turns = x.0; attempts = x.0; rounds = x.0 } in
      let e = under l in
      at_most_then number (plus e (1, k)) (plus other (1, k)) (product_pos e.1 k (under_some l) (omega arith)) (x.1 l (record { turns = omega arith; attempts = omega arith; rounds = omega arith }))
      (at_most_plus e other (1, k) (1, k) (g.within l) (omega arith)))

  pub one_fraction : (number other : Fraction) → ComesTo under number → ComesTo under other → IsEqual number other
  one_fraction number other h g =
      let a = one_below number other h g in
      let b = one_below other number g h in
      omega arith
