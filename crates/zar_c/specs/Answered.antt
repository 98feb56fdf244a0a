-- What a call answers that is to write lines.
use Rattle.std.specs.Prelude.{◌≡◌, ◌↔◌, ◌⊎◌, ℕ, ◌<◌, ◌≤◌, ◌++◌, List, length, drop, Option}
use Rattle.gcl_core.specs.meaning.Syntax.{SourceProgram}
use Rattle.gcl_core.specs.text.Texts.{IsWrittenIn}
use Rattle.zar_c.specs.Said.{place_of, bare, done, text_refused, mass_refused}
use Rattle.zar_c.specs.declared.said.ZarSaid.{ZarSaid}
use Rattle.zar_c.specs.declared.statuses.TheConstants.{DONE, TEXT_REFUSED, NUMBERS_REFUSED, OUT_OF_MEMORY, MASS_REFUSED}

-- The length of the lines is told. They are written to the front of the array where they fit, and else it stays.
pub record AreTold (Are : List ℕ → Type 0) (told : ℕ) (old new : List ℕ) : Type 0 where
  pub lines : List ℕ
  pub are : Are lines
  pub long : told ≡ length lines
  pub written : length lines ≤ length old → new ≡ lines ++ drop (length lines) old
  pub kept : length old < length lines → new ≡ old

-- A call with a text that has a program, or none for the reason of a code at a place, and with numbers that can be taken or not:
-- it tells lines of the program, or why there are none.
pub record IsReply (Has : SourceProgram → Type 0) (HasNone : ℕ → Option ℕ → Type 0) (Can : Type 0)
    (Are : SourceProgram → List ℕ → Type 0) (Refuses : SourceProgram → ℕ → Type 0) (old new : List ℕ) (s : ZarSaid) : Type 0 where
  pub told : s.status ≡ DONE → (p : SourceProgram) → Has p → AreTold (Are p) s.length old new
  pub reason : s.status ≡ MASS_REFUSED → (p : SourceProgram) → Has p → Refuses p s.code
  pub there : (s.status ≡ DONE) ⊎ (s.status ≡ MASS_REFUSED) → (p : SourceProgram) × Has p
  pub refused : s.status ≡ TEXT_REFUSED → HasNone s.code (place_of s)
  pub asked : (s.status ≡ NUMBERS_REFUSED) ↔ (Can → ⊥)
  pub untouched : (s.status ≡ DONE → ⊥) → new ≡ old
  pub form : (s ≡ done s.length) ⊎ (s ≡ text_refused s.code (place_of s)) ⊎ (s ≡ mass_refused s.code)
      ⊎ (s ≡ bare NUMBERS_REFUSED) ⊎ (s ≡ bare OUT_OF_MEMORY)

-- a call without numbers can be made
abbrev pub NoNumbers : Type 0
NoNumbers = Unit {0}

-- about lines that every program has
abbrev pub IsShown : (SourceProgram → Type 0) → (ℕ → Option ℕ → Type 0) → (SourceProgram → List ℕ) → List ℕ → List ℕ → ZarSaid
    → Type 0
IsShown Has HasNone text old new s = IsReply Has HasNone NoNumbers (λ p lines. lines ≡ text p) (λ p code. ⊥) old new s

-- a text has a program as it is written
abbrev pub IsWrittenAs : List ℕ → SourceProgram → Type 0
IsWrittenAs text p = (places : List ℕ) × IsWrittenIn text p places
