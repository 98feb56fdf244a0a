use Rattle.sampler_run.proofs.RestLeft.{leaves_the_rest}
use Rattle.sampler_run.proofs.laws.runs_leave_the_rest.Goals as goal

pub returns : goal.returns
returns c = leaves_the_rest
