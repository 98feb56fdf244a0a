use Rattle.gcl_core.specs.meaning.Views.{source_of}
use Rattle.bits_fold.proofs.EndedRounds.{round_fails}
use Rattle.bits_fold.proofs.rounds.failed_at.Goals as goal

pub returns-clause-fails : goal.returns-clause-fails
returns-clause-fails c = round_fails (source_of c.args.p.now) c.is_kept.ensures.kept c.args.turns c.requires.ended c.in_ok-_read.failed c.in_ok-_read.ensures.failed
