-- What a command needs: the files that it names, and memory.
use Rattle.std.specs.Prelude.{Bool, true, false, List, [], ◌∷◌, Some}
use Rattle.zar_cli.specs.declared.command.Command.{Command}
use Rattle.zar_cli.specs.declared.command.Command.TheVariants.{Checked, Show, Fast, Roll, Help}
use Rattle.zar_cli.specs.declared.command.Source.{Source}
use Rattle.zar_cli.specs.declared.command.Source.TheVariants.{File, Stream}
use Rattle.zar_cli.specs.declared.command.Work.{Work}
use Rattle.zar_cli.specs.declared.command.Work.TheVariants.{Sample}
use Rattle.zar_cli.specs.Forms.{CallWord}

abbrev pub names_of_bits : Source → List CallWord
names_of_bits (File bits) = bits ∷ []
names_of_bits (Stream seed stream budget) = []

-- those of the files that work reads, beside its program's
abbrev pub names_in_work : Work → List CallWord
names_in_work (Sample source limits) = names_of_bits source
names_in_work _ = []

-- the names of the files that a command reads, in their order
abbrev pub names_in : Command → List CallWord
names_in (Checked program work) = program ∷ names_in_work work
names_in (Show program) = program ∷ []
names_in (Fast labels flips (Some source) d) = names_of_bits source
names_in (Roll weights flips (Some source) d) = names_of_bits source
names_in _ = []

-- whether it takes memory: help takes none, nor does a roll of `fast` on the bits of a stream
abbrev pub takes_memory : Command → Bool
takes_memory (Fast labels flips (Some (Stream seed stream budget)) d) = false
takes_memory (Help topic) = false
takes_memory _ = true
