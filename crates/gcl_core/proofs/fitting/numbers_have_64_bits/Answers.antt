use Rattle.gcl_core.proofs.FittingRuns.{block_state, round_state, run_value}
use Rattle.gcl_core.proofs.FittingValues.{signed_64, value_fits}
use Rattle.gcl_core.proofs.fitting.numbers_have_64_bits.Goals as goal

pub returns-clause-width : goal.returns-clause-width
returns-clause-width c = signed_64

pub returns-clause-values : goal.returns-clause-values
returns-clause-values c = value_fits

pub returns-clause-states : goal.returns-clause-states
returns-clause-states c = block_state

pub returns-clause-rounds : goal.returns-clause-rounds
returns-clause-rounds c = round_state

pub returns-clause-runs : goal.returns-clause-runs
returns-clause-runs c = run_value
