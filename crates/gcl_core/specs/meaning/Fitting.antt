-- States of numbers of 64 bits.
use Rattle.std.specs.Prelude.{Bool}
use Rattle.std.specs.List.{list_all}
use Rattle.gcl_core.specs.meaning.Value.{State, fits_64}

abbrev pub state_fits : State → Bool
state_fits s = list_all fits_64 s
