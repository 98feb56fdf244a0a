-- The numbers of a command are in range.
use Rattle.std.specs.Prelude.{◌≤◌, IfSome}
use Rattle.dice_roll.specs.declared.rules.TheConstants.{LEAST_LABELS, MOST_LABELS, MOST_FLIPS}
use Rattle.gcl_core.specs.meaning.LimitRange.{InRange}
use Rattle.gcl_core.specs.declared.rules.TheConstants.{MOST_LIMIT}
use Rattle.generated_program.specs.declared.generating.TheConstants.{GREATEST_NUMBER}
use Rattle.mass_fold.specs.Refused.{IsLimit}
use Rattle.stream_runs.specs.Ranges.{IsRange, IsWorkers}
use Rattle.weighted_roll.specs.Weights.{AreWeights}
use Rattle.zar_cli.specs.declared.command.Command.{Command}
use Rattle.zar_cli.specs.declared.command.Command.TheVariants.{Checked, Gen, Fast, Roll}
use Rattle.zar_cli.specs.declared.command.Source.{Source}
use Rattle.zar_cli.specs.declared.command.Source.TheVariants.{File, Stream}
use Rattle.zar_cli.specs.declared.command.Work.{Work}
use Rattle.zar_cli.specs.declared.command.Work.TheVariants.{Sample, Mass, Cost, Posterior, Enclose, Audit, Tally, Runs, Hunt}
use Rattle.zar_io.specs.declared.stream_bits.TheConstants.{MOST_BUDGET}
use Rattle.audit_walk.specs.declared.auditing.TheConstants.{MOST_DEPTH}

abbrev pub SourceHasRange : Source → Type 0
SourceHasRange (File name) = Unit {0}
SourceHasRange (Stream seed stream budget) = budget ≤ MOST_BUDGET

abbrev pub WorkHasRange : Work → Type 0
WorkHasRange (Sample source limits) = InRange limits × SourceHasRange source
WorkHasRange (Mass turns attempts rounds d) = (turns ≤ MOST_LIMIT) × IfSome attempts IsLimit × IfSome rounds IsLimit
WorkHasRange (Cost limits d) = IfSome limits InRange
WorkHasRange (Posterior turns d) = turns ≤ MOST_LIMIT
WorkHasRange (Enclose turns attempts rounds all_turns d) =
    (turns ≤ MOST_LIMIT) × IfSome attempts IsLimit × IfSome rounds IsLimit
WorkHasRange (Audit depth limits d) = (depth ≤ MOST_DEPTH) × InRange limits
WorkHasRange (Tally range limits named) = InRange limits × IsRange range × IsWorkers range.workers
WorkHasRange (Runs range limits named) = InRange limits × IsRange range × IsWorkers range.workers
WorkHasRange (Hunt range limits want named) = InRange limits × IsRange range × IsWorkers range.workers
WorkHasRange _ = Unit {0}

abbrev pub HasRange : Command → Type 0
HasRange (Checked program work) = WorkHasRange work
HasRange (Gen k) = k ≤ GREATEST_NUMBER
HasRange (Fast labels flips source d) =
    (LEAST_LABELS ≤ labels) × (labels ≤ MOST_LABELS) × (flips ≤ MOST_FLIPS) × IfSome source SourceHasRange
HasRange (Roll weights flips source d) = AreWeights weights × (flips ≤ MOST_FLIPS) × IfSome source SourceHasRange
HasRange _ = Unit {0}
