-- The answer of a call: what is said of its words over its files, and how that is shown, by the records of what files and sinks
-- answered before the call and after it.
use Rattle.std.specs.Prelude.{◌≡◌, ℕ, List, ◌++◌, take, reverse, Some, Result, Ok, Err, ◌⊎◌}
use Rattle.gcl_core.specs.declared.refusals.TheConstants.{BAD_WORDS}
use Rattle.report_text.specs.declared.refusals.Refusal.TheVariants.{Coded}
use Rattle.zar_io.specs.declared.trace.Event.{Event}
use Rattle.zar_io.specs.GoesOn.{sought, AreApart, GoesOn}
use Rattle.zar_io.specs.Trace.{World, Agrees, failures}
use Rattle.zar_cli.specs.declared.command.Command.{Command}
use Rattle.zar_cli.specs.Delivery.{IsDelivered}
use Rattle.zar_cli.specs.Fits.{MaySay}
use Rattle.zar_cli.specs.Needs.{names_in}
use Rattle.zar_cli.specs.ByStages.{Output}
use Rattle.zar_cli.specs.Output.{IsOutput, SaysOrRunsOut}
use Rattle.zar_cli.specs.Stages.{refusal_in, Leaves}
use Rattle.zar_cli.specs.Forms.{CallWord}
use Rattle.zar_cli.specs.Words.{command_of}

-- what is said of a command over the files
pub record IsSaidOf (command : Command) (before now : List Event) (output : Output) : Type 0 where
  -- whatever the files are, it is what the command says over some files, or what it may say beside that
  pub fits : MaySay command output ⊎ ((file : World) × IsOutput file command output)
  pub leaves : Leaves (names_in command) (refusal_in output) before now
  -- of the files that the command names the first are sought, each once, in their order, and no other
  pub asks : (k : ℕ) × GoesOn (reverse (take k (names_in command))) before now
  -- where no read failed, it is what is said over any files that may have answered so
  pub tells : failures now ≡ failures before → (file : World) → Agrees file now → SaysOrRunsOut file command output
  -- and there are such files, if there were before and no name is sought twice
  pub some : (file : World) × Agrees file before → AreApart (names_in command ++ sought before) → (file : World) × Agrees file now

-- words that are no command are refused at the place of the first wrong one, and no file is asked
abbrev pub IsSaid : Result Command ℕ → List Event → List Event → Output → Type 0
IsSaid (Ok command) before now output = IsSaidOf command before now output
IsSaid (Err at) before now output = (output ≡ Err (Coded BAD_WORDS (Some at))) × (now ≡ before)

-- The answer of a call: its output, and how that is shown.
pub record IsAnswer (words : List CallWord) (status : ℕ) (files files_now out out_now err err_now : List Event) : Type 0 where
  pub output : Output
  pub said : IsSaid (command_of words) files files_now output
  pub delivered : IsDelivered output status out out_now err err_now
