use Rattle.std.proofs.Common.{◌<◌, arith}
use Rattle.gcl_core.specs.meaning.Views.{source_of}
use Rattle.mass_fold.proofs.RoundBits.{bits_are, failed_lowest}
use Rattle.mass_fold.proofs.bits.round_bits.Goals as goal

pub returns-clause-bits : goal.returns-clause-bits
returns-clause-bits c =
    let fb : 0 < c.of-nothing.result.1 = omega (arith, c.of-nothing.ensures.lowest.positive) in
    bits_are (source_of c.args.p.now) c.args.turns c.args.attempts c.of-nothing.result c.fold_body.new.meter c.bits_of.result c.of-nothing.ensures.equal fb c.bits_of.ensures c.in_ok-_table.ensures.bits

pub returns-clause-failed : goal.returns-clause-failed
returns-clause-failed c =
    failed_lowest (source_of c.args.p.now) c.args.turns c.args.attempts c.in_ok-_table.ended.failed c.is_kept.ensures.weights c.is_lowest.ensures c.in_ok-_table.ensures.ok.failed

pub returns-clause-mass : goal.returns-clause-mass
returns-clause-mass c = let ok = c.in_ok-_table.ensures.ok in record { parts = ok.ends.kept.0; at_most_all = omega (arith, ok.total) }
