-- What steps of a run never change of its registers.
use Rattle.std.specs.Prelude.{◌≡◌, length}
use Rattle.sampler_run.specs.declared.machine.Registers.{Registers}

-- the same numbers of counters and of variables, and the same room for values
pub record SameShape (old new : Registers) : Type 0 where
  pub turns : length new.turns.items ≡ length old.turns.items
  pub vars : length new.vars.items ≡ length old.vars.items
  pub stack : new.stack ≡ old.stack
