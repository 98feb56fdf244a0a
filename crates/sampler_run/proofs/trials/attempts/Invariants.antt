use Rattle.std.proofs.Common.{◌<◌, ◌≤◌}
use Rattle.sampler_run.specs.inner.Tried.{HasTried}
use Rattle.sampler_run.proofs.trials.attempts.Given as goal

abbrev pub invariant-loop-trial : goal.invariant-loop-trial
invariant-loop-trial l = record {
  need : l.trial.need < 64;
  left : l.trial.left ≤ l.initial.trial.left;
  tried : HasTried l.bound l.word l.initial.trial l.trial;
}

abbrev pub decreases-loop-trial : goal.decreases-loop-trial
decreases-loop-trial l = l.trial.tries
