use Rattle.std.proofs.Common.{◌≡◌, ◌≤◌, ◌-◌, Bool, List}
use Rattle.gcl_core.specs.declared.answers.Answer.{Answer}
use Rattle.hunt_range.specs.Sought.{sought_of, NoneWanted}
use Rattle.sampler_run.specs.Held.{IsRestOf, set_back}
use Rattle.one_thread.proofs.hunting.hunt_alone.Given as goal

-- none of the streams so far is wanted
abbrev pub invariant-loop-at : goal.invariant-loop-at
invariant-loop-at l = record {
  from : l.range.from ≤ l.at;
  within : l.at ≤ l.range.to;
  start : set_back l.state ≡ set_back l.initial.state;
  none : (run : List Bool → Answer) → IsRestOf (set_back l.state) run → NoneWanted (sought_of run l.range l.want) l.range.from l.at;
}

abbrev pub decreases-loop-at : goal.decreases-loop-at
decreases-loop-at l = l.range.to - l.at
