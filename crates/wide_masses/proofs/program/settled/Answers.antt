use Rattle.std.proofs.Common.{◌<◌, arith}
use Rattle.gcl_core.specs.meaning.Views.{source_of}
use Rattle.exact_fold.proofs.InTheLimit.{is_exact_in_the_limit, fails_in_the_limit}
use Rattle.exact_fold.proofs.Rows.{exact_of, fails_always}
use Rattle.wide_masses.proofs.Keys.{below_from}
use Rattle.wide_masses.proofs.program.settled.Goals as goal

pub returns-clause-masses : goal.returns-clause-masses
returns-clause-masses c =
    let f = c.in_ok-round.round.failed in
    let below : f.0 < f.1
    = let z = below_from c.is_at_most.result c.num.result.now c.den.result.now c.is_at_most.ensures.1 c.if-is_at_most.false in omega (arith, z, c.num.ensures.value, c.den.ensures.value) in
    exact_of _ _ _ _ _ c.in_ok-round.ensures below c.in_ok-masses.ensures

pub returns-clause-limits : goal.returns-clause-limits
returns-clause-limits c = is_exact_in_the_limit (source_of c.args.program.now) c.is_kept.ensures.kept _ _ (returns-clause-masses c)

pub returns-then-is_at_most-clause-fails : goal.returns-then-is_at_most-clause-fails
returns-then-is_at_most-clause-fails c = λ all.
    fails_in_the_limit (source_of c.args.program.now) c.is_kept.ensures.kept
    (fails_always _ _ _ c.in_ok-round.ensures (omega (arith, c.is_at_most.ensures.0 c.if-is_at_most.true, c.num.ensures.value, c.den.ensures.value)))
