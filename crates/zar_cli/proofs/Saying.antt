-- What a command says, from what its stages give.
use Rattle.std.proofs.Common.{◌≡◌, ℕ, zero, suc, ◌+◌, ◌<◌, Bool, true, List, [], ◌∷◌, length, Option, Some, None, Ok, Err, ◌⊎◌, inl, inr, refl, sym, ◌∙◌, ap, subst, arith}
use Rattle.std.specs.List.{slice_index_or}
use Rattle.std.specs.Prelude.{Contains}
use Rattle.gcl_core.specs.meaning.Syntax.{SourceProgram}
use Rattle.gcl_core.specs.text.Texts.{IsWrittenIn, IsRefusedText, Spells, SpellsNone}
use Rattle.gcl_parse.specs.OneReading.{HasOneReadingAsWritten, HasOneReading}
use Rattle.gcl_print.specs.Canonical.{canonical_text}
use Rattle.report_text.specs.declared.refusals.Refusal.{Refusal}
use Rattle.report_text.specs.declared.refusals.Refusal.TheVariants.{Coded, Read, Write, Memory, NoFile}
use Rattle.zar_io.specs.FileBits.{file_bits}
use Rattle.zar_io.specs.Trace.{World, Agrees, failures}
use Rattle.zar_io.specs.declared.trace.Event.{Event}
use Rattle.zar_cli.specs.declared.command.Command.{Command}
use Rattle.zar_cli.specs.declared.command.Command.TheVariants.{Show}
use Rattle.zar_cli.specs.declared.said.Said.{Said}
use Rattle.zar_cli.specs.declared.said.Said.TheVariants.{Shown}
use Rattle.zar_cli.specs.Fits.{MaySay}
use Rattle.zar_cli.specs.inner.Said.{Fits}
use Rattle.zar_cli.specs.Needs.{names_in, takes_memory}
use Rattle.zar_cli.specs.ByStages.{Output, says, reading, on_bits, if_written, if_spelled}
use Rattle.zar_cli.specs.Output.{IsOutput, SaysOrRunsOut}
use Rattle.zar_cli.specs.inner.Readings.{InFile, NoneInFile, OfFile, GivesOnBits}
use Rattle.zar_cli.specs.inner.Stage.{IsStage, OfOutside}
use Rattle.zar_cli.specs.Stages.{Leaves}
use Rattle.zar_cli.specs.inner.Said.{Asks}
use Rattle.zar_cli.specs.Answer.{IsSaidOf}
use Rattle.zar_cli.specs.Forms.{CallWord}
use Rattle.zar_cli.proofs.Going.{some_asked, asks_first}

-- a stage that recorded no failure refuses no read
pub no_read : (names : List CallWord) (before now : List Event) (e : Refusal) → Leaves names (Some e) before now → failures now ≡ failures before → e ≡ Read → ⊥
no_read names before now e leaves quiet is =
    let failed = subst (λ x. Leaves names (Some x) before now) is leaves in
    let more : failures now ≡ failures before + 1 = failed.0 in
    omega arith

-- what is said of an equal output
pub said_as : (command : Command) (before now : List Event) (output other : Output) → output ≡ other → IsSaidOf command before now other → IsSaidOf command before now output
said_as command before now output other same said = subst (IsSaidOf command before now) (sym same) said

-- ---- texts

module _ (text : List ℕ) (go : SourceProgram → Output → Type 0) (output : Output) where
  spelled_ok : (p : SourceProgram) → HasOneReading text → Spells text p → go p output → if_spelled go text output
  spelled_ok p one is gone = record {
    right = inl (p, is, gone);
    program = λ q other. subst (λ s. go s output) (one.one_program p q is other) gone;
    refusal = λ code at none. absurd (one.apart p code at is none);
  }

  pub spelled_none : (code : ℕ) (at : Option ℕ) → HasOneReading text → SpellsNone text code at → output ≡ Err (Coded code at) → if_spelled go text output
  spelled_none code at one none e = record {
    right = inr (code, at, none, e);
    program = λ q is. absurd (one.apart q code at is none);
    refusal = λ other place refused.
        let same = one.one_refusal code other at place none refused in
        e ∙ ap (λ c. Err (Coded c at)) same.0 ∙ ap (λ a. Err (Coded other a)) same.1;
  }

  written_ok : (p : SourceProgram) (places : List ℕ) → HasOneReadingAsWritten text → IsWrittenIn text p places → go p output → if_written go text output
  written_ok p places one is gone = record {
    right = inl (p, (places, is), gone);
    program = λ q other. subst (λ s. go s output) (one.one_program p q places other.0 is other.1).0 gone;
    refusal = λ code at none. absurd (one.apart p places code at is none);
  }

  written_none : (code : ℕ) (at : Option ℕ) → HasOneReadingAsWritten text → IsRefusedText text code at → output ≡ Err (Coded code at) → if_written go text output
  written_none code at one none e = record {
    right = inr (code, at, none, e);
    program = λ q is. absurd (one.apart q is.0 code at is.1 none);
    refusal = λ other place refused.
        let same = one.one_refusal code other at place none refused in
        e ∙ ap (λ c. Err (Coded c at)) same.0 ∙ ap (λ a. Err (Coded other a)) same.1;
  }

-- ---- files

-- an output, or memory has run out
abbrev OrMemory : (Output → Type 0) → Output → Type 0
OrMemory Is output = (output ≡ Err Memory) ⊎ Is output

module _ (file : Option (List ℕ)) where
  -- there is none
  pub reading_none : (go : List ℕ → Output → Type 0) → file ≡ None → reading file go (Err NoFile)
  reading_none go none = subst (λ f. reading f go (Err NoFile)) (sym none) refl

  pub reading_bytes : (go : List ℕ → Output → Type 0) (output : Output) (bytes : List ℕ) → file ≡ Some bytes → go bytes output → reading file go output
  reading_bytes go output bytes there gone = subst (λ f. reading f go output) (sym there) gone

  -- a text of it is refused
  pub text_refused : (One : List ℕ → Type 0) (Refuses : List ℕ → ℕ → Option ℕ → Type 0) (go : List ℕ → Output → Type 0)
      → ((text : List ℕ) (code : ℕ) (at : Option ℕ) → One text → Refuses text code at → go text (Err (Coded code at)))
      → (e : Refusal) → NoneInFile One Refuses file e → (e ≡ Read → ⊥) → OrMemory (reading file go) (Err e)
  text_refused One Refuses go refused (Coded code at) none ne = inr (reading_bytes go _ none.text none.there (refused none.text code at none.one none.is))
  text_refused One Refuses go refused Read none ne = absurd (ne refl)
  text_refused One Refuses go refused Write none ne = absurd none
  text_refused One Refuses go refused Memory none ne = inl refl
  text_refused One Refuses go refused NoFile none ne = inr (reading_none go none)

  module _ (go : SourceProgram → Output → Type 0) (output : Output) (p : SourceProgram) where
    -- its text spells this program
    pub checked_ok : InFile file HasOneReading (λ text. Spells text p) → go p output → reading file (if_spelled go) output
    checked_ok h gone = reading_bytes (if_spelled go) output h.text h.there (spelled_ok h.text go output p h.one h.is gone)

    -- its text has this program
    pub written_there : (places : List ℕ) → InFile file HasOneReadingAsWritten (λ text. IsWrittenIn text p places) → go p output → reading file (if_written go) output
    written_there places h gone = reading_bytes (if_written go) output h.text h.there (written_ok h.text go output p places h.one h.is gone)

-- ---- bits of files

module _ (file : Option (List ℕ)) {A : Type 0} (f : List Bool → A) where
  pub bits_refused : (say : List Bool → Said) (e : Refusal) → GivesOnBits f file (Err e) → (e ≡ Read → ⊥) → OrMemory (on_bits file say) (Err e)
  bits_refused say (Coded code at) gives ne = absurd gives
  bits_refused say Read gives ne = absurd (ne refl)
  bits_refused say Write gives ne = absurd gives
  bits_refused say Memory gives ne = inl refl
  bits_refused say NoFile none ne = inr (reading_none file (λ bytes. says (say (file_bits bytes))) none)

  pub bits_given : (say : A → Said) (a : A) → GivesOnBits f file (Ok a) → on_bits file (λ w. say (f w)) (Ok (say a))
  bits_given say a gives = reading_bytes file (λ bytes. says (say (f (file_bits bytes)))) (Ok (say a)) gives.0 gives.1 (ap (λ x. Ok (say x)) gives.2)

-- ---- stages

-- a name of fewer is one of more
pub leaves_more : (few more : List CallWord) (before now : List Event) (r : Option Refusal) → ((name : CallWord) → Contains few name → Contains more name) → Leaves few r before now → Leaves more r before now
leaves_more few more before now (Some NoFile) h leaves = (leaves.0, (leaves.1.0, h leaves.1.0 leaves.1.1, leaves.1.2, leaves.1.3))
leaves_more few more before now (Some Read) h leaves = leaves
leaves_more few more before now (Some (Coded code at)) h leaves = leaves
leaves_more few more before now (Some Write) h leaves = leaves
leaves_more few more before now (Some Memory) h leaves = leaves
leaves_more few more before now None h leaves = leaves

pub behind_first : (first : CallWord) (names : List CallWord) (name : CallWord) → Contains names name → Contains (first ∷ names) name
behind_first first names name among = (suc among.0, omega (arith, among.1), among.2)

only_first : (name program : CallWord) (rest : List CallWord) → name ≡ program → (other : CallWord) → Contains (name ∷ []) other → Contains (program ∷ rest) other
only_first name program rest same other among = by_place among.0 among.1 among.2
  where
    by_place : (k : ℕ) → k < 1 → slice_index_or (name ∷ []) k other ≡ other → Contains (program ∷ rest) other
    by_place zero below is = (0, omega arith, sym same ∙ is)
    by_place (suc k) below is = absurd (omega (arith, below))

-- what the first stage of a command refuses is said
pub said_refused : (command : Command) (name program : CallWord) (rest : List CallWord) (before now : List Event) (e : Refusal) → name ≡ program → names_in command ≡ program ∷ rest
    → Fits command (Err e) → IsStage (name ∷ []) before now (Some e) → (failures now ≡ failures before → (file : World) → Agrees file now → SaysOrRunsOut file command (Err e))
    → IsSaidOf command before now (Err e)
said_refused command name program rest before now e same names fits stage tells = record {
  fits = fits;
  leaves = subst (λ l. Leaves l (Some e) before now) (sym names) (leaves_more (name ∷ []) (program ∷ rest) before now (Some e) (only_first name program rest same) stage.leaves);
  asks = asks;
  tells = tells;
  some = some_asked (names_in command) before now asks;
}
  where
    asks : Asks (names_in command) before now
    asks = subst (λ l. Asks l before now) (sym names) (asks_first name program rest before now same stage.goes)

-- what is said where no stage gave up
pub said_all : (command : Command) (before now : List Event) (said : Said) → Fits command (Ok said) → failures now ≡ failures before → Asks (names_in command) before now
    → ((file : World) → Agrees file now → IsOutput file command (Ok said)) → IsSaidOf command before now (Ok said)
said_all command before now said fits leaves asks tells = record { fits = fits; leaves = leaves; asks = asks; tells = λ quiet file agrees. inr (tells file agrees); some = some_asked (names_in command) before now asks }

-- a call that was refused where memory runs out
pub said_memory : (command : Command) (before now : List Event) → takes_memory command ≡ true → failures now ≡ failures before → Asks (names_in command) before now
    → IsSaidOf command before now (Err Memory)
said_memory command before now takes leaves asks = record { fits = inl takes; leaves = leaves; asks = asks; tells = λ quiet file agrees. inl refl; some = some_asked (names_in command) before now asks }

-- ---- a command that names a file

module _ (command : Command) (named : 0 < length (names_in command)) (takes : takes_memory command ≡ true) where
  pub outside_may : (e : Refusal) → OfOutside e → MaySay command (Err e)
  outside_may (Coded code at) of = absurd of
  outside_may Read of = named
  outside_may Write of = absurd of
  outside_may Memory of = takes
  outside_may NoFile of = named

  -- a text is refused over some bytes
  text_fits : (One : List ℕ → Type 0) (Refuses : List ℕ → ℕ → Option ℕ → Type 0) (file : Option (List ℕ)) (e : Refusal) → NoneInFile One Refuses file e
      → ((code : ℕ) (at : Option ℕ) (text : List ℕ) → One text → Refuses text code at → IsOutput (λ _. Some text) command (Err (Coded code at))) → Fits command (Err e)
  text_fits One Refuses file (Coded code at) none is = inr ((λ _. Some none.text), is code at none.text none.one none.is)
  text_fits One Refuses file Read none is = inl named
  text_fits One Refuses file Write none is = absurd none
  text_fits One Refuses file Memory none is = inl takes
  text_fits One Refuses file NoFile none is = inl named

pub or_output : (file : CallWord → Option (List ℕ)) (command : Command) (Is : Output → Type 0) (output : Output) → (Is output → IsOutput file command output)
    → OrMemory Is output → SaysOrRunsOut file command output
or_output file command Is output is (inl memory) = inl memory
or_output file command Is output is (inr h) = inr (is h)

-- the text of its first file is refused
module _ (command : Command) (takes : takes_memory command ≡ true) (before now : List Event) (name program : CallWord) (rest : List CallWord) (same : name ≡ program)
    (names : names_in command ≡ program ∷ rest) (One : List ℕ → Type 0) (Refuses : List ℕ → ℕ → Option ℕ → Type 0) (go : (CallWord → Option (List ℕ)) → List ℕ → Output → Type 0)
    (refused : (file : CallWord → Option (List ℕ)) (text : List ℕ) (code : ℕ) (at : Option ℕ) → One text → Refuses text code at → go file text (Err (Coded code at)))
    (is : (file : CallWord → Option (List ℕ)) (output : Output) → reading (file program) (go file) output → IsOutput file command output) where
  some_names : 0 < length (names_in command)
  some_names = subst (λ l. 0 < length l) (sym names) (omega arith)

  pub refused_text : (e : Refusal) → IsStage (name ∷ []) before now (Some e) → OfFile name now (λ file. NoneInFile One Refuses file e) → IsSaidOf command before now (Err e)
  refused_text e stage none =
      said_refused command name program rest before now e same names
      (text_fits command some_names takes One Refuses none.some.0 e none.some.1 (λ code at text one h. is (λ _. Some text) (Err (Coded code at)) (refused (λ _. Some text) text code at one h)))
      stage
      (λ quiet file agrees. or_output file command (reading (file program) (go file)) (Err e) (is file (Err e))
      (text_refused (file program) One Refuses (go file) (refused file) e (subst (λ n. NoneInFile One Refuses (file n) e) same (none.tells file agrees))
      (no_read (name ∷ []) before now e stage.leaves quiet)))

-- ---- a command that takes a program as it is written

module _ (before now : List Event) (name program : CallWord) (same : name ≡ program) where
  abbrev shown : SourceProgram → Output → Type 0
  shown p = says (Shown (canonical_text p))

  pub refused_written : (e : Refusal) → IsStage (name ∷ []) before now (Some e) → OfFile name now (λ file. NoneInFile HasOneReadingAsWritten IsRefusedText file e)
      → IsSaidOf (Show program) before now (Err e)
  refused_written = refused_text (Show program) refl before now name program [] same refl HasOneReadingAsWritten IsRefusedText (λ file. if_written shown)
      (λ file text code at one none. written_none text shown _ code at one none refl) (λ file output is. is)

  pub said_written : (p : SourceProgram) (places : List ℕ) (said : Said) → IsStage (name ∷ []) before now None
      → OfFile name now (λ file. InFile file HasOneReadingAsWritten (λ text. IsWrittenIn text p places)) → shown p (Ok said) → IsSaidOf (Show program) before now (Ok said)
  said_written p places said stage there gone =
      said_all (Show program) before now said (inr ((λ _. there.some.0), written_there there.some.0 shown (Ok said) p places there.some.1 gone)) stage.leaves
      (asks_first name program [] before now same stage.goes)
      (λ file agrees. written_there (file program) shown (Ok said) p places
      (subst (λ n. InFile (file n) HasOneReadingAsWritten (λ text. IsWrittenIn text p places)) same (there.tells file agrees)) gone)
