use Rattle.std.proofs.Common.{arith}
use Rattle.std.proofs.lemmas.Nat.Gcd.{IsGcd-from_sub, IsGcd-from_zero, IsGcd-swap}
use Rattle.numbers.proofs.Twos.{by_difference}
use Rattle.numbers.proofs.divisor.odd_divisor.Goals as goal

pub loop-first-preserved-then-first-second : goal.loop-first-preserved-then-first-second
loop-first-preserved-then-first-second c =
    let i = c.loop-first.invariant in
    let o = c.odd_part-second.ensures in
    (i.0, o.odd, λ g h. i.2 g (by_difference c.loop-first.first c.loop-first.second _ _ g i.0 (omega (arith, o.odd)) (omega arith) o.value h))

pub loop-first-preserved : goal.loop-first-preserved
loop-first-preserved c =
    let i = c.loop-first.invariant in
    let o = c.odd_part-first.ensures in
    (o.odd, i.1, λ g h. i.2 g (IsGcd-swap _ _ g (by_difference c.loop-first.second c.loop-first.first _ _ g i.1 (omega (arith, o.odd)) (omega arith) o.value (IsGcd-swap _ _ g h))))

pub returns : goal.returns
returns c = c.loop-first.invariant.2 _ (IsGcd-swap _ _ _ (IsGcd-from_sub _ _ _ (omega arith) (IsGcd-swap _ _ _ (IsGcd-from_zero _ _ (omega arith)))))
