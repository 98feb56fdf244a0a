use Rattle.std.proofs.Common.{arith}
use Rattle.std.proofs.lemmas.Nat.{mod_below}
use Rattle.numbers.proofs.Quotients.{quotient_is, part_sum}
use Rattle.numbers.proofs.scaling.part_down.Goals as goal

pub returns-clause-value : goal.returns-clause-value
returns-clause-value c = let a = c.args in
    rw (c.from-num.ensures, c.from-den.ensures)
    (quotient_is _ _ _ _ (part_sum a.w a.num a.den) (mod_below _ a.den (omega (arith, c.requires.some))))
