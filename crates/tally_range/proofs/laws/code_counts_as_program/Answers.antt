use Rattle.gcl_core.specs.meaning.Runs.{run_on}
use Rattle.sampler_run.specs.Held.{run_begun}
use Rattle.stream_runs.proofs.OneAnswer.{runs_agree}
use Rattle.tally_range.proofs.Counting.{count_same}
use Rattle.tally_range.proofs.laws.code_counts_as_program.Goals as goal

pub returns : goal.returns
returns c = λ code p l is run also r key. count_same run (run_on p l) r.seed r.budget r.from r.to key (runs_agree (run_begun code l) run (run_on p l) also is)
