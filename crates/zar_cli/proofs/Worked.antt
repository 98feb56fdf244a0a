-- What is said of work on a checked program, from what reading the program gives and what the work owes.
use Rattle.std.proofs.Common.{◌≡◌, ℕ, List, [], ◌∷◌, Option, Some, None, Ok, Err, ◌⊎◌, inl, inr, refl, sym, ◌∙◌, subst, arith}
use Rattle.gcl_core.specs.declared.answers.Answer.{Answer}
use Rattle.gcl_core.specs.declared.answers.Limits.{Limits}
use Rattle.gcl_core.specs.meaning.Runs.{run_on}
use Rattle.gcl_core.specs.meaning.Syntax.{SourceProgram}
use Rattle.gcl_core.specs.text.Texts.{Spells, SpellsNone}
use Rattle.gcl_parse.specs.OneReading.{HasOneReading}
use Rattle.report_text.specs.declared.refusals.Refusal.{Refusal}
use Rattle.report_text.specs.declared.refusals.Refusal.TheVariants.{Coded, Read, Write, Memory, NoFile}
use Rattle.zar_io.specs.Trace.{World, Agrees, failures}
use Rattle.zar_io.specs.declared.trace.Event.{Event}
use Rattle.zar_cli.specs.declared.command.Command.{Command}
use Rattle.zar_cli.specs.declared.command.Command.TheVariants.{Checked}
use Rattle.zar_cli.specs.declared.command.Source.{Source}
use Rattle.zar_cli.specs.declared.command.Source.TheVariants.{File}
use Rattle.zar_cli.specs.declared.command.Work.{Work}
use Rattle.zar_cli.specs.declared.command.Work.TheVariants.{Sample}
use Rattle.zar_cli.specs.declared.said.Said.TheVariants.{Answered}
use Rattle.zar_cli.specs.ByStages.{Output, if_spelled}
use Rattle.zar_cli.specs.Fits.{MaySay}
use Rattle.zar_cli.specs.inner.Said.{Fits, Asks}
use Rattle.zar_cli.specs.Forms.{CallWord}
use Rattle.zar_cli.specs.Needs.{names_in_work}
use Rattle.zar_cli.specs.Output.{IsWorkedOut, SaysOrRunsOut}
use Rattle.zar_cli.specs.Stages.{refusal_in, Leaves}
use Rattle.zar_cli.specs.Answer.{IsSaidOf}
use Rattle.zar_cli.specs.inner.Readings.{InFile, NoneInFile, OfFile, GivesOnBits}
use Rattle.zar_cli.specs.inner.Stage.{IsStage, OfOutside}
use Rattle.zar_cli.specs.inner.Works.{Works, Gives, WorksAlone}
use Rattle.zar_cli.proofs.Saying.{no_read, spelled_none, checked_ok, bits_refused, bits_given, leaves_more, behind_first, outside_may, refused_text}
use Rattle.zar_io.proofs.TraceLemmas.{agrees_before, goes_on-none}
use Rattle.zar_cli.proofs.Going.{some_asked, asks_then}
use Rattle.zar_cli.proofs.Opening.{leaves_since}

-- ---- what work owes

-- without files
module _ (work : Work) (p : SourceProgram) (now : List Event) (names : names_in_work work ≡ []) where
  silent : (r : Option Refusal) → Leaves [] r now now → IsStage (names_in_work work) now now r
  silent r leaves = subst (λ l. IsStage l now now r) (sym names) (record { leaves = leaves; goes = goes_on-none now now refl })

  alone : (output : Output) → ((file : CallWord → Option (List ℕ)) → Gives (IsWorkedOut file p work) output) → Works work p now now output
  alone (Ok said) gives = record { fits = λ program. inr gives; stage = silent None refl; tells = λ quiet file agrees. inr (gives file) }
  alone (Err (Coded code at)) gives = record { fits = λ program. inr gives; stage = silent (Some (Coded code at)) refl; tells = λ quiet file agrees. inr (gives file) }
  alone (Err Memory) gives = record { fits = λ program. inl refl; stage = silent (Some Memory) refl; tells = λ quiet file agrees. inl refl }
  alone (Err Read) gives = absurd (gives (λ _. None))
  alone (Err Write) gives = absurd (gives (λ _. None))
  alone (Err NoFile) gives = absurd (gives (λ _. None))

pub works_alone : (work other : Work) (p : SourceProgram) (now : List Event) (output : Output) → work ≡ other → WorksAlone other p output → names_in_work other ≡ []
    → Works work p now now output
works_alone work other p now output same h names = subst (λ w. Works w p now now output) (sym same) (alone other p now names output h.gives)

pub works_as : (work other : Work) (p : SourceProgram) (before now : List Event) (output : Output) → work ≡ other → Works other p before now output → Works work p before now output
works_as work other p before now output same h = subst (λ w. Works w p before now output) (sym same) h

-- a run on the bits of a file
module _ (bits : CallWord) (limits : Limits) (p : SourceProgram) (before now : List Event) where
  pub sample_refused : (e : Refusal) → OfOutside e → IsStage (bits ∷ []) before now (Some e) → ((file : World) → Agrees file now → GivesOnBits (run_on p limits) (file bits) (Err e))
      → Works (Sample (File bits) limits) p before now (Err e)
  sample_refused e of stage answers = record {
    fits = λ program. inl (outside_may (Checked program (Sample (File bits) limits)) (omega arith) refl e of);
    stage = stage;
    tells = λ quiet file agrees. bits_refused (file bits) (run_on p limits) (λ w. Answered (run_on p limits w)) e (answers file agrees) (no_read (bits ∷ []) before now e stage.leaves quiet);
  }

  pub sample_answered : (answer : Answer) → IsStage (bits ∷ []) before now None → ((file : World) → Agrees file now → GivesOnBits (run_on p limits) (file bits) (Ok answer))
      → Works (Sample (File bits) limits) p before now (Ok (Answered answer))
  sample_answered answer stage answers = record {
    fits = λ program. inl tt;
    stage = stage;
    tells = λ quiet file agrees. inr (bits_given (file bits) (run_on p limits) Answered answer (answers file agrees));
  }

-- what the run answered is said
pub sample_said : (source : Source) (name bits : CallWord) (limits : Limits) (p : SourceProgram) (before now : List Event) (answer : Answer) → source ≡ File bits → name ≡ bits
    → IsStage (name ∷ []) before now None → ((file : World) → Agrees file now → GivesOnBits (run_on p limits) (file name) (Ok answer))
    → Works (Sample source limits) p before now (Ok (Answered answer))
sample_said source name bits limits p before now answer is same stage answers = subst (λ s. Works (Sample s limits) p before now (Ok (Answered answer))) (sym is)
    (sample_answered bits limits p before now answer (subst (λ n. IsStage (n ∷ []) before now None) same stage)
    (λ file agrees. subst (λ n. GivesOnBits (run_on p limits) (file n) (Ok answer)) same (answers file agrees)))

-- ---- from the program's file

module _ (command : Command) (name program : CallWord) (work : Work) (is : command ≡ Checked program work) (same : name ≡ program) where
  -- it gives no program
  pub refused_checked : (before now : List Event) (e : Refusal) → IsStage (name ∷ []) before now (Some e) → OfFile name now (λ file. NoneInFile HasOneReading SpellsNone file e)
      → IsSaidOf command before now (Err e)
  refused_checked before now e stage none = subst (λ c. IsSaidOf c before now (Err e)) (sym is)
      (refused_text (Checked program work) refl before now name program (names_in_work work) same refl HasOneReading SpellsNone (λ file. if_spelled (λ q. IsWorkedOut file q work))
      (λ file text code at one refused. spelled_none text (λ q. IsWorkedOut file q work) _ code at one refused refl) (λ file output said. said) e stage none)

  module _ (p : SourceProgram) (output : Output) where
    abbrev Has : Option (List ℕ) → Type 0
    Has file = InFile file HasOneReading (λ text. Spells text p)

    fits_some : (bytes : Option (List ℕ)) → Has bytes → MaySay (Checked program work) output ⊎ ((file : CallWord → Option (List ℕ)) → IsWorkedOut file p work output) → Fits (Checked program work) output
    fits_some bytes there (inl may) = inl may
    fits_some bytes there (inr says) = inr ((λ _. bytes), checked_ok bytes (λ q. IsWorkedOut (λ _. bytes) q work) output p there (says (λ _. bytes)))

    tells_all : (file : CallWord → Option (List ℕ)) → Has (file program) → (output ≡ Err Memory) ⊎ IsWorkedOut file p work output → SaysOrRunsOut file (Checked program work) output
    tells_all file there (inl memory) = inl memory
    tells_all file there (inr says) = inr (checked_ok (file program) (λ q. IsWorkedOut file q work) output p there says)

    -- a failure after the program was read is one since the call began
    since : (before mid now : List Event) (r : Option Refusal) → failures mid ≡ failures before → Leaves (names_in_work work) r mid now → Leaves (program ∷ names_in_work work) r before now
    since before mid now r read leaves = leaves_more (names_in_work work) (program ∷ names_in_work work) before now r (behind_first program (names_in_work work))
        (leaves_since (names_in_work work) before mid now r read leaves)

    -- the work begins where the program was read
    module _ (before mid now : List Event) (read : IsStage (name ∷ []) before mid None) (there : OfFile name mid Has) (works : Works work p mid now output) where
      asks : Asks (program ∷ names_in_work work) before now
      asks = asks_then name program (names_in_work work) before mid now same read.goes works.stage.goes

      pub worked_after : IsSaidOf command before now output
      worked_after = subst (λ c. IsSaidOf c before now output) (sym is) (record {
        fits = fits_some there.some.0 there.some.1 (works.fits program);
        leaves = since before mid now (refusal_in output) read.leaves works.stage.leaves;
        asks = asks;
        tells = λ quiet file agrees. tells_all file (subst (λ n. Has (file n)) same (there.tells file (agrees_before file _ mid now works.stage.goes agrees)))
            (works.tells (quiet ∙ sym read.leaves) file agrees);
        some = some_asked (program ∷ names_in_work work) before now asks;
      })
