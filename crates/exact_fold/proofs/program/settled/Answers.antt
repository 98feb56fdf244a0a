use Rattle.std.proofs.Common.{arith}
use Rattle.gcl_core.specs.meaning.Views.{source_of}
use Rattle.exact_fold.proofs.InTheLimit.{is_exact_in_the_limit, fails_in_the_limit}
use Rattle.exact_fold.proofs.Rows.{exact_of, fails_always}
use Rattle.exact_fold.proofs.program.settled.Goals as goal

pub returns-clause-masses : goal.returns-clause-masses
returns-clause-masses c =
    exact_of _ _ _ _ _ c.in_ok-round.ensures (omega (arith, c.if-num-den.false, c.num.ensures.value, c.den.ensures.value)) c.in_ok-masses.ensures

pub returns-clause-limits : goal.returns-clause-limits
returns-clause-limits c =
    is_exact_in_the_limit (source_of c.args.program.now) c.is_kept.ensures.kept _ _
    (exact_of _ _ _ _ _ c.in_ok-round.ensures (omega (arith, c.if-num-den.false, c.num.ensures.value, c.den.ensures.value)) c.in_ok-masses.ensures)

pub returns-then-num-den-clause-fails : goal.returns-then-num-den-clause-fails
returns-then-num-den-clause-fails c = λ all.
    fails_in_the_limit (source_of c.args.program.now) c.is_kept.ensures.kept
    (fails_always _ _ _ c.in_ok-round.ensures (omega (arith, c.if-num-den.true, c.num.ensures.value, c.den.ensures.value)))
