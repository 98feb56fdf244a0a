use Rattle.forgetful_peaks.proofs.Blocks.{no_greater_peak}
use Rattle.forgetful_peaks.proofs.forgetting_adds_no_states.Goals as goal

pub returns : goal.returns
returns c = no_greater_peak
