-- Two fields of what is said of a command, as words.
use Rattle.std.specs.Prelude.{ℕ, List, take, reverse, Option, ◌⊎◌}
use Rattle.zar_io.specs.declared.trace.Event.{Event}
use Rattle.zar_io.specs.GoesOn.{GoesOn}
use Rattle.zar_cli.specs.declared.command.Command.{Command}
use Rattle.zar_cli.specs.ByStages.{Output}
use Rattle.zar_cli.specs.Fits.{MaySay}
use Rattle.zar_cli.specs.Forms.{CallWord}
use Rattle.zar_cli.specs.Output.{IsOutput}

abbrev pub Fits : Command → Output → Type 0
Fits command output = MaySay command output ⊎ ((file : CallWord → Option (List ℕ)) × IsOutput file command output)

abbrev pub Asks : List CallWord → List Event → List Event → Type 0
Asks names before now = (k : ℕ) × GoesOn (reverse (take k names)) before now
