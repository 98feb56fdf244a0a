-- A text is read in exactly one way: as one program, or as none, with one code at one place. This project's own rule.
use Rattle.std.specs.Prelude.{◌≡◌, ℕ, ◌⊎◌, List, Option}
use Rattle.gcl_core.specs.meaning.Syntax.{SourceProgram}
use Rattle.gcl_core.specs.text.Texts.{IsWrittenIn, IsRefusedText, Spells, SpellsNone}

-- as it is written
pub record HasOneReadingAsWritten (text : List ℕ) : Type 0 where
  pub some : ((p : SourceProgram) × (places : List ℕ) × IsWrittenIn text p places)
      ⊎ ((code : ℕ) × (at : Option ℕ) × IsRefusedText text code at)
  pub one_program : (p q : SourceProgram) (places others : List ℕ) → IsWrittenIn text p places → IsWrittenIn text q others
      → (p ≡ q) × (places ≡ others)
  pub one_refusal : (code other : ℕ) (at place : Option ℕ) → IsRefusedText text code at → IsRefusedText text other place
      → (code ≡ other) × (at ≡ place)
  pub apart : (p : SourceProgram) (places : List ℕ) (code : ℕ) (at : Option ℕ) → IsWrittenIn text p places
      → IsRefusedText text code at → ⊥

-- as it is checked
pub record HasOneReading (text : List ℕ) : Type 0 where
  pub some : ((p : SourceProgram) × Spells text p) ⊎ ((code : ℕ) × (at : Option ℕ) × SpellsNone text code at)
  pub one_program : (p q : SourceProgram) → Spells text p → Spells text q → p ≡ q
  pub one_refusal : (code other : ℕ) (at place : Option ℕ) → SpellsNone text code at → SpellsNone text other place
      → (code ≡ other) × (at ≡ place)
  pub apart : (p : SourceProgram) (code : ℕ) (at : Option ℕ) → Spells text p → SpellsNone text code at → ⊥
