-- Parts of tables of units, as of tables of any kind.
use Rattle.std.proofs.Common.{◌≡◌, ℕ, Bool, refl}
use Rattle.gcl_core.specs.meaning.Value.{State, Value}
use Rattle.gcl_core.specs.meaning.Blocks.{End}
use Rattle.table_flow.specs.Counts.{moved, stopped, kept_if}
use Rattle.units_law.specs.Units.{Units, held, counted_units, only_units, fault_units, set_units}
use Rattle.units_law.proofs.Counted.{Counts, of_only, of_faults, of_set}
use Rattle.units_law.proofs.Held.{held_append}

abbrev pub units_counted : Counts counted_units
units_counted = record {
  many = λ e. e.1;
  of = held;
  of_ended = held;
  none = λ G. refl;
  more = λ G e J. refl;
  none_ended = λ G. refl;
  more_ended = λ G z e K. refl;
  append_ended = held_append;
  moved_state = λ s e. refl;
  moved_many = λ s e. refl;
}

pub held_only : (G : State → ℕ) (test : State → Bool) (J : Units State) → held G (only_units test J) ≡ held (kept_if test G) J
held_only = of_only counted_units units_counted

pub held_faults : (G : End → ℕ) (v : State → Value) (J : Units State) → held G (fault_units v J) ≡ held (stopped v G) J
held_faults = of_faults counted_units units_counted

pub held_set : (G : State → ℕ) (x : ℕ) (v : State → Value) (J : Units State) → held G (set_units x v J) ≡ held (moved x v G) J
held_set = of_set counted_units units_counted
