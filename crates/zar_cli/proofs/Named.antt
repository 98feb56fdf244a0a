-- Which commands keep words.
use Rattle.std.proofs.Common.{◌≡◌, ℕ, true, false, List, Option, Some, None, Result, Ok, Err, refl, sym, subst, arith}
use Rattle.std.specs.Prelude.{Bool, is_some, MatchResult, if◌then◌else◌}
use Rattle.report_text.specs.declared.refusals.Refusal.TheVariants.{Memory}
use Rattle.zar_io.specs.declared.trace.Event.{Event}
use Rattle.zar_cli.specs.Answer.{IsSaid}
use Rattle.zar_cli.specs.declared.command.Command.{Command}
use Rattle.zar_cli.specs.declared.command.Command.TheVariants.{Checked, Show, Gen, Fast, Roll, Help}
use Rattle.zar_cli.specs.declared.command.Source.{Source}
use Rattle.zar_cli.specs.declared.command.Source.TheVariants.{File, Stream}
use Rattle.zar_cli.specs.declared.command.Work.{Work}
use Rattle.zar_cli.specs.declared.command.Work.TheVariants.{Forgetful}
use Rattle.zar_cli.specs.Needs.{names_in, takes_memory}
use Rattle.zar_cli.specs.Forms.{CallWord}
use Rattle.zar_cli.specs.OptionWords.{source_from}
use Rattle.zar_cli.specs.Spelling.{NamesBits, KeepsWords, AreKept}
use Rattle.zar_cli.proofs.Going.{asks_none}
use Rattle.zar_cli.proofs.Saying.{said_memory}

-- words that are kept take memory
takes_for_name : (c : Command) → KeepsWords c → takes_memory c ≡ true
takes_for_name (Checked program work) h = refl
takes_for_name (Show program) h = refl
takes_for_name (Gen k) h = refl
takes_for_name (Fast labels flips None d) h = refl
takes_for_name (Fast labels flips (Some (File bits)) d) h = refl
takes_for_name (Roll weights flips source d) h = refl
takes_for_name (Fast labels flips (Some (Stream seed stream budget)) d) h = absurd (omega (arith, h))
takes_for_name (Help topic) h = absurd (omega (arith, h))

-- words of a command that keeps some, where memory runs out before any file is sought
pub memory_said : (c : Result Command ℕ) (now : List Event) → AreKept c → IsSaid c now now (Err Memory)
memory_said (Ok c) now h = said_memory c now now (takes_for_name c h) refl (asks_none (names_in c) now)
memory_said (Err at) now h = absurd h

-- an answer that is a refusal
pub refused_with : {A E : Type 0} (Good : A → Type 0) (Bad : E → Type 0) (r : Result A E) (e : E) → r ≡ Err e → Bad e → MatchResult r Good Bad
refused_with Good Bad r e is bad = subst (λ (r : Result _ _). MatchResult r Good Bad) (sym is) bad

-- where the word behind `--bits` is given the bits are those of a file
pub names_bits : (h : Bool) (v : Option CallWord) (stream : Source) → h ≡ true → is_some v ≡ true → NamesBits (if h then Some (source_from v stream) else None)
names_bits true (Some bits) stream e s = tt
names_bits true None stream e s = absurd (cc)
names_bits false v stream e s = absurd (cc)

-- and a roll on them keeps that word
pub keeps_bits : (labels flips : ℕ) (source : Option Source) (d : ℕ) → NamesBits source → KeepsWords (Fast labels flips source d)
keeps_bits labels flips (Some (File bits)) d h = omega arith
keeps_bits labels flips (Some (Stream seed stream budget)) d h = absurd h
keeps_bits labels flips None d h = absurd h

-- what is worked out of a program keeps the name of its file, whichever of two it is
pub keeps_program : (first : Bool) (program : CallWord) (work other : Work) → KeepsWords (if first then Checked program work else Checked program other)
keeps_program true program work other = omega arith
keeps_program false program work other = omega arith

-- a text that is shown keeps the name of its file, as it is written and as its forgetful program
pub keeps_file : (forgetful : Bool) (program : CallWord) → KeepsWords (if forgetful then Checked program Forgetful else Show program)
keeps_file true program = omega arith
keeps_file false program = omega arith
