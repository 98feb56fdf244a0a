-- What a command may say beside what it says over some files.
use Rattle.std.specs.Prelude.{◌<◌, IsTrue, length, Some, Ok, Err}
use Rattle.report_text.specs.declared.refusals.Refusal.TheVariants.{Read, Memory, NoFile}
use Rattle.zar_cli.specs.declared.said.Said.TheVariants.{Answered, Rolled}
use Rattle.zar_cli.specs.declared.command.Command.{Command}
use Rattle.zar_cli.specs.declared.command.Command.TheVariants.{Checked, Fast, Roll}
use Rattle.zar_cli.specs.declared.command.Source.TheVariants.{File}
use Rattle.zar_cli.specs.declared.command.Work.TheVariants.{Sample}
use Rattle.zar_cli.specs.ByStages.{Output}
use Rattle.zar_cli.specs.Needs.{names_in, takes_memory}

-- A read fails, and a file is missing, only of a command that names one. On the bits of a file there may be any answer.
abbrev pub MaySay : Command → Output → Type 0
MaySay command (Err Read) = 0 < length (names_in command)
MaySay command (Err NoFile) = 0 < length (names_in command)
MaySay command (Err Memory) = IsTrue (takes_memory command)
MaySay (Checked program (Sample (File bits) limits)) (Ok (Answered answer)) = Unit {0}
MaySay (Fast labels flips (Some (File bits)) d) (Ok (Rolled roll)) = Unit {0}
MaySay (Roll weights flips (Some (File bits)) d) (Ok (Rolled roll)) = Unit {0}
MaySay _ _ = ⊥
