use Rattle.std.proofs.Common.{arith}
use Rattle.numbers.specs.Fraction.{lowest}
use Rattle.gcl_core.specs.declared.answers.Limit.TheVariants.{Turns}
use Rattle.gcl_core.specs.declared.answers.Outcome.TheVariants as outcome
use Rattle.gcl_core.specs.meaning.Outcomes.{same_outcome}
use Rattle.gcl_core.specs.meaning.Views.{source_of}
use Rattle.gcl_core.specs.weighing.Mass.{round_mass}
use Rattle.std.specs.Prelude.{None}
use Rattle.exact_fold.specs.declared.program.TheConstants.{TURNS_TRIED}
use Rattle.bits_fold.proofs.EndedRounds.{still_runs, none_runs}
use Rattle.bits_fold.proofs.ended.runs_on.Goals as goal

pub returns-in-Some-clause-goes_on : goal.returns-in-Some-clause-goes_on
returns-in-Some-clause-goes_on c = λ _.
    still_runs (source_of c.args.p.now) c.is_kept.ensures.kept TURNS_TRIED (c.in_ok-round.ensures.rows.each (outcome.Limit Turns) c.in-Some.field-0 c.in-Some.ensures.found).0

pub returns-clause-ended : goal.returns-clause-ended
returns-clause-ended c = λ _.
    let p = source_of c.args.p.now in
    none_runs p c.is_kept.ensures.kept TURNS_TRIED (omega arith)
    (λ some. c.in-None.ensures.none (lowest (round_mass p TURNS_TRIED None (same_outcome (outcome.Limit Turns)))) (c.in_ok-round.ensures.rows.all (outcome.Limit Turns) some))
