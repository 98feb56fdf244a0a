-- What work on a checked program owes.
use Rattle.std.specs.Prelude.{◌≡◌, ℕ, List, Option, Ok, Err, ◌⊎◌}
use Rattle.gcl_core.specs.meaning.Syntax.{SourceProgram}
use Rattle.report_text.specs.declared.refusals.Refusal.TheVariants.{Coded, Read, Write, Memory, NoFile}
use Rattle.zar_io.specs.declared.trace.Event.{Event}
use Rattle.zar_io.specs.Trace.{World, Agrees, failures}
use Rattle.zar_cli.specs.declared.command.Command.TheVariants.{Checked}
use Rattle.zar_cli.specs.declared.command.Work.{Work}
use Rattle.zar_cli.specs.ByStages.{Output}
use Rattle.zar_cli.specs.Fits.{MaySay}
use Rattle.zar_cli.specs.Forms.{CallWord}
use Rattle.zar_cli.specs.Needs.{names_in_work}
use Rattle.zar_cli.specs.Output.{IsWorkedOut}
use Rattle.zar_cli.specs.Stages.{refusal_in}
use Rattle.zar_cli.specs.inner.Stage.{IsStage}

-- over files: what it says over any that may have answered so, whatever it may say beside that, and its stage
pub record Works (work : Work) (p : SourceProgram) (before now : List Event) (output : Output) : Type 0 where
  pub fits : (program : CallWord)
      → MaySay (Checked program work) output ⊎ ((file : CallWord → Option (List ℕ)) → IsWorkedOut file p work output)
  pub stage : IsStage (names_in_work work) before now (refusal_in output)
  pub tells : failures now ≡ failures before → (file : World) → Agrees file now
      → (output ≡ Err Memory) ⊎ IsWorkedOut file p work output

-- that is said, or memory has run out; no file was read
abbrev pub Gives : (Output → Type 0) → Output → Type 0
Gives Says (Ok said) = Says (Ok said)
Gives Says (Err (Coded code at)) = Says (Err (Coded code at))
Gives Says (Err Memory) = Unit {0}
Gives Says (Err Read) = ⊥
Gives Says (Err Write) = ⊥
Gives Says (Err NoFile) = ⊥

-- without files: it says the same over all
pub record WorksAlone (work : Work) (p : SourceProgram) (output : Output) : Type 0 where
  pub gives : (file : CallWord → Option (List ℕ)) → Gives (IsWorkedOut file p work) output
