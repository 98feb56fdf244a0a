-- What the one file shows under every name: its bytes, its record, what is left of it, and its step.
use Rattle.std.specs.Prelude.{ℕ, List, Some}
use Rattle.zar_io.specs.Trace.{World, left_in}
use Rattle.zar_io.specs.declared.one_file.OneFile.{OneFile}
use Rattle.zar_io.specs.declared.trace.Event.{Event}

-- the bytes of the file, whatever the name
abbrev pub any_file : OneFile → World
any_file file name = Some file.bytes.items

-- what was answered so far
abbrev pub file_answered : OneFile → List Event
file_answered file = file.trace.events

-- the bytes that are left of it, where it is open
abbrev pub rest_of_file : OneFile → List ℕ
rest_of_file file = left_in (any_file file) (file_answered file)

-- the most bytes that a read gives
abbrev pub file_step : OneFile → ℕ
file_step file = file.step
