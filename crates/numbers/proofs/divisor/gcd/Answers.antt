use Rattle.std.proofs.Common.{◌≡◌, ◌*◌, ◌%◌, ◌^◌, ap, ◌∙◌, arith}
use Rattle.std.proofs.lemmas.Nat.Gcd.{IsGcd-from_zero, IsGcd-swap}
use Rattle.numbers.specs.Divisor.{gcd}
use Rattle.numbers.proofs.Divisors.{gcd_unique, gcd_pos}
use Rattle.numbers.proofs.Twos.{shifted_divisor}
use Rattle.numbers.proofs.divisor.gcd.Goals as goal

pub returns-then-a-eq0-clause-value : goal.returns-then-a-eq0-clause-value
returns-then-a-eq0-clause-value c = gcd_unique _ _ _ (IsGcd-swap _ _ _ (IsGcd-from_zero _ _ (omega arith)))

pub returns-then-b-eq0-clause-value : goal.returns-then-b-eq0-clause-value
returns-then-b-eq0-clause-value c = gcd_unique _ _ _ (IsGcd-from_zero _ _ (omega arith))

value : (c : goal.After-odd_divisor) → c.odd_divisor.result * 2 ^ c.min-twos.result % 2 ^ 128 ≡ gcd c.args.a c.args.b
value c =
    let a = c.odd_part.ensures in
    let b = c.odd_part-2.ensures in
    ap (λ k. c.odd_divisor.result * 2 ^ k % 2 ^ 128) c.min-twos.ensures
    ∙ shifted_divisor c.args.a c.args.b _ _ _ _ c.odd_divisor.result (omega arith) c.ranges.a.fits a.value b.value a.odd b.odd c.odd_divisor.ensures

pub returns-clause-value : goal.returns-clause-value
returns-clause-value c = value c

pub returns-clause-positive : goal.returns-clause-positive
returns-clause-positive c h = let v = value c in let p = gcd_pos c.args.a c.args.b (omega (arith, h)) in omega (arith, v, p)
