-- What is said of a command that reads no program, whatever files there are.
use Rattle.std.proofs.Common.{◌≡◌, ℕ, ◌<◌, true, Bool, Option, None, Some, Result, Ok, Err, List, [], ◌∷◌, length, ◌⊎◌, inl, inr, refl, sym, subst, arith}
use Rattle.dice_roll.specs.declared.answers.Roll.{Roll as Rolling}
use Rattle.report_text.specs.declared.refusals.Refusal.{Refusal}
use Rattle.report_text.specs.declared.refusals.Refusal.TheVariants.{Memory}
use Rattle.zar_io.specs.declared.trace.Event.{Event}
use Rattle.zar_io.specs.Trace.{World, Agrees}
use Rattle.zar_cli.specs.declared.command.Command.{Command}
use Rattle.zar_cli.specs.declared.command.Command.TheVariants.{Gen}
use Rattle.zar_cli.specs.declared.said.Said.{Said}
use Rattle.zar_cli.specs.declared.said.Said.TheVariants.{Rolled}
use Rattle.zar_cli.specs.ByStages.{Output, on_bits}
use Rattle.zar_cli.specs.inner.Said.{Fits, Asks}
use Rattle.zar_cli.specs.Forms.{CallWord}
use Rattle.zar_cli.specs.Needs.{names_in, takes_memory}
use Rattle.zar_cli.specs.Output.{IsOutput}
use Rattle.zar_cli.specs.Rolls.{weights_said}
use Rattle.zar_cli.specs.Stages.{refusal_in, Leaves}
use Rattle.zar_cli.specs.Answer.{IsSaidOf}
use Rattle.zar_cli.specs.Fits.{MaySay}
use Rattle.zar_cli.specs.inner.Readings.{GivesOnBits}
use Rattle.zar_cli.specs.inner.Stage.{IsStage, OfOutside}
use Rattle.zar_cli.proofs.Going.{some_asked, asks_first, asks_none}
use Rattle.zar_cli.proofs.Saying.{no_read, bits_refused, bits_given, or_output, outside_may, said_refused, said_all, said_as, said_memory}

pub generated_memory : (k : ℕ) → Fits (Gen k) (Err Memory)
generated_memory k = inl refl

weights_leave : (names : List CallWord) (text : Option (List ℕ)) (now : List Event) → Leaves names (refusal_in (weights_said text)) now now
weights_leave names (Some text) now = refl
weights_leave names None now = refl

-- what labels weigh
pub weights_fit : (command other : Command) (text : Option (List ℕ)) (now : List Event) (output : Output) → command ≡ other → takes_memory other ≡ true
    → ((file : CallWord → Option (List ℕ)) (o : Output) → o ≡ weights_said text → IsOutput file other o) → (output ≡ Err Memory) ⊎ (output ≡ weights_said text) → IsSaidOf command now now output
weights_fit command other text now output same takes says (inl memory) = subst (λ c. IsSaidOf c now now output) (sym same)
    (said_as other now now output (Err Memory) memory (said_memory other now now takes refl (asks_none (names_in other) now)))
weights_fit command other text now output same takes says (inr is) = subst (λ c. IsSaidOf c now now output) (sym same) (record {
  fits = inr ((λ name. None), says (λ name. None) output is);
  leaves = subst (λ o. Leaves (names_in other) (refusal_in o) now now) (sym is) (weights_leave (names_in other) text now);
  asks = asks_none (names_in other) now;
  tells = λ quiet file agrees. inr (says file output is);
  some = some_asked (names_in other) now now (asks_none (names_in other) now);
})

-- what is the same over all files, of which none is sought
pub said_alone : (command other : Command) (now : List Event) (said : Said) → command ≡ other → ((file : CallWord → Option (List ℕ)) → IsOutput file other (Ok said))
    → IsSaidOf command now now (Ok said)
said_alone command other now said same is =
    subst (λ c. IsSaidOf c now now (Ok said)) (sym same) (said_all other now now said (inr ((λ name. None), is (λ name. None))) refl (asks_none (names_in other) now) (λ file agrees. is file))

-- or where memory runs out
pub said_or_memory : (command other : Command) (now : List Event) (output : Output) (said : Said) → command ≡ other → takes_memory other ≡ true
    → ((file : CallWord → Option (List ℕ)) → IsOutput file other (Ok said)) → (output ≡ Err Memory) ⊎ (output ≡ Ok said) → IsSaidOf command now now output
said_or_memory command other now output said same takes is (inl memory) =
    said_as command now now output (Err Memory) memory (subst (λ c. IsSaidOf c now now (Err Memory)) (sym same) (said_memory other now now takes refl (asks_none (names_in other) now)))
said_or_memory command other now output said same takes is (inr e) = said_as command now now output (Ok said) e (said_alone command other now said same is)

-- a roll on the bits of a file, by whichever walk
module _ (it : Command) (walk : List Bool → Rolling) (name bits : CallWord) (same : name ≡ bits) (names : names_in it ≡ bits ∷ []) (before now : List Event) where
  abbrev Gives : Result Rolling Refusal → Type 0
  Gives result = (file : World) → Agrees file now → GivesOnBits walk (file name) result

  abbrev Is : Type 0
  Is = (file : World) (output : Output) → on_bits (file bits) (λ w. Rolled (walk w)) output → IsOutput file it output

  of_bits : (result : Result Rolling Refusal) → Gives result → (file : World) → Agrees file now → GivesOnBits walk (file bits) result
  of_bits result gives file agrees = subst (λ n. GivesOnBits walk (file n) result) same (gives file agrees)

  some_names : 0 < length (names_in it)
  some_names = subst (λ l. 0 < length l) (sym names) (omega arith)

  pub roll_refused : Is → takes_memory it ≡ true → (e : Refusal) → OfOutside e → IsStage (name ∷ []) before now (Some e) → Gives (Err e) → IsSaidOf it before now (Err e)
  roll_refused is takes e of stage gives = said_refused it name bits [] before now e same names (inl (outside_may it some_names takes e of)) stage
      (λ quiet file agrees. or_output file it (on_bits (file bits) (λ w. Rolled (walk w))) (Err e) (is file (Err e))
      (bits_refused (file bits) walk (λ w. Rolled (walk w)) e (of_bits (Err e) gives file agrees) (no_read (name ∷ []) before now e stage.leaves quiet)))

  pub roll_said : Is → (roll : Rolling) → MaySay it (Ok (Rolled roll)) → IsStage (name ∷ []) before now None → Gives (Ok roll) → IsSaidOf it before now (Ok (Rolled roll))
  roll_said is roll may stage gives = said_all it before now (Rolled roll) (inl may) stage.leaves
      (subst (λ l. Asks l before now) (sym names) (asks_first name bits [] before now same stage.goes))
      (λ file agrees. is file (Ok (Rolled roll)) (bits_given (file bits) walk Rolled roll (of_bits (Ok roll) gives file agrees)))
