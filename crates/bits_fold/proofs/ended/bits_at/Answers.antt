use Rattle.std.proofs.Common.{None, subst}
use Rattle.gcl_core.specs.meaning.Views.{source_of}
use Rattle.mass_fold.specs.Body.{RoundBits}
use Rattle.bits_fold.proofs.EndedRounds.{bits_wide, rounds_wide, round_reads, round_fails}
use Rattle.bits_fold.proofs.ended.bits_at.Goals as goal

pub count_over_rounds-requires-clause-costs : goal.count_over_rounds-requires-clause-costs
count_over_rounds-requires-clause-costs c =
    let p = source_of c.args.p.now in
    round_reads p c.is_kept.ensures.kept c.args.turns c.requires.ended c.in-Some.read (subst (RoundBits p c.args.turns None) c.in-Some.is c.in_ok-read.ensures.bits)

pub count_over_rounds-requires-clause-fails : goal.count_over_rounds-requires-clause-fails
count_over_rounds-requires-clause-fails c = round_fails (source_of c.args.p.now) c.is_kept.ensures.kept c.args.turns c.requires.ended c.in_ok-read.failed c.in_ok-read.ensures.failed

pub returns-in-None-clause-refused : goal.returns-in-None-clause-refused
returns-in-None-clause-refused c =
    let p = source_of c.args.p.now in
    bits_wide p c.is_kept.ensures.kept c.args.turns (subst (RoundBits p c.args.turns None) c.in-None.is c.in_ok-read.ensures.bits)

pub returns-in-None-count_over_rounds-clause-refused : goal.returns-in-None-count_over_rounds-clause-refused
returns-in-None-count_over_rounds-clause-refused c =
    let p = source_of c.args.p.now in
    rounds_wide p c.is_kept.ensures.kept c.args.turns c.in-Some.read c.in_ok-read.failed (subst (RoundBits p c.args.turns None) c.in-Some.is c.in_ok-read.ensures.bits) c.in_ok-read.ensures.mass c.in-None-count_over_rounds.ensures.cause
