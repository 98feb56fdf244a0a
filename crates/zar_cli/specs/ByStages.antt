-- What is said in stages over the bytes of files: the program's file, its text, the other files, the work. The first stage that
-- is refused ends it. The order of the stages is this project's own rule.
use Rattle.std.specs.Prelude.{◌≡◌, ℕ, Bool, List, Option, Some, None, Result, Ok, Err, ◌⊎◌}
use Rattle.gcl_core.specs.meaning.Syntax.{SourceProgram}
use Rattle.gcl_core.specs.text.Texts.{IsWrittenIn, IsRefusedText, Spells, SpellsNone}
use Rattle.report_text.specs.declared.refusals.Refusal.{Refusal}
use Rattle.report_text.specs.declared.refusals.Refusal.TheVariants.{Coded, NoFile}
use Rattle.zar_io.specs.FileBits.{file_bits}
use Rattle.zar_cli.specs.declared.said.Said.{Said}

-- what a command says, or why it says nothing
abbrev pub Output : Type 0
Output = Result Said Refusal

-- ---- stages

abbrev pub says : Said → Output → Type 0
says said output = output ≡ Ok said

-- on with the bytes of a file, where it is there
abbrev pub reading : Option (List ℕ) → (List ℕ → Output → Type 0) → Output → Type 0
reading (Some bytes) go output = go bytes output
reading None go output = output ≡ Err NoFile

-- what is said of the bits of a file, where it is there
abbrev pub on_bits : Option (List ℕ) → (List Bool → Said) → Output → Type 0
on_bits file say = reading file (λ bytes. says (say (file_bits bytes)))

-- on with the program that a text has; where it has none, the refusal is said, with its code and place
pub record HasOrRefuses (Has : SourceProgram → Type 0) (Refuses : ℕ → Option ℕ → Type 0) (go : SourceProgram → Output → Type 0)
    (output : Output) : Type 0 where
  pub right : ((p : SourceProgram) × Has p × go p output)
      ⊎ ((code : ℕ) × (at : Option ℕ) × Refuses code at × (output ≡ Err (Coded code at)))
  pub program : (p : SourceProgram) → Has p → go p output
  pub refusal : (code : ℕ) (at : Option ℕ) → Refuses code at → output ≡ Err (Coded code at)

-- as it is written
abbrev pub if_written : (SourceProgram → Output → Type 0) → List ℕ → Output → Type 0
if_written go text = HasOrRefuses (λ p. (places : List ℕ) × IsWrittenIn text p places) (IsRefusedText text) go

-- as it is checked
abbrev pub if_spelled : (SourceProgram → Output → Type 0) → List ℕ → Output → Type 0
if_spelled go text = HasOrRefuses (Spells text) (SpellsNone text) go
