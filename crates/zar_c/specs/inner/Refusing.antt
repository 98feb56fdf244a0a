-- Why a call about lines gives none.
use Rattle.std.specs.Prelude.{◌≡◌, ◌⊎◌, ℕ, Option}
use Rattle.gcl_core.specs.meaning.Syntax.{SourceProgram}
use Rattle.gcl_text.specs.declared.refusing.TextRefusal.{TextRefusal}
use Rattle.gcl_text.specs.declared.refusing.TextRefusal.TheVariants.{Coded, OutOfMemory}
use Rattle.mass_lines.specs.declared.reasons.Reason.{Reason}
use Rattle.mass_lines.specs.declared.reasons.Reason.TheVariants as reasons
use Rattle.zar_c.specs.Said.{place_of, bare, text_refused, mass_refused}
use Rattle.zar_c.specs.declared.said.ZarSaid.{ZarSaid}
use Rattle.zar_c.specs.declared.statuses.TheConstants.{DONE, TEXT_REFUSED, NUMBERS_REFUSED, OUT_OF_MEMORY, MASS_REFUSED}

-- a text's refusal is told by its status, its code and its place, and nothing besides
abbrev pub IsSaid : TextRefusal → ZarSaid → Type 0
IsSaid (Coded code at) s =
    (s.status ≡ TEXT_REFUSED) × (s.code ≡ code) × (place_of s ≡ at) × (s ≡ text_refused s.code (place_of s))
IsSaid OutOfMemory s = s ≡ bare OUT_OF_MEMORY

-- a reason is told
abbrev pub IsToldReason : Reason → ZarSaid → Type 0
IsToldReason (reasons.Coded code) s = s ≡ mass_refused code
IsToldReason reasons.Memory s = s ≡ bare OUT_OF_MEMORY

-- the text has no program, or its lines are refused, or memory ran out
pub record IsRefusal (Has : SourceProgram → Type 0) (HasNone : ℕ → Option ℕ → Type 0) (Refuses : SourceProgram → ℕ → Type 0)
    (s : ZarSaid) : Type 0 where
  pub undone : s.status ≡ DONE → ⊥
  pub asked : s.status ≡ NUMBERS_REFUSED → ⊥
  pub refused : s.status ≡ TEXT_REFUSED → HasNone s.code (place_of s)
  pub reason : s.status ≡ MASS_REFUSED → (p : SourceProgram) → Has p → Refuses p s.code
  pub there : s.status ≡ MASS_REFUSED → (p : SourceProgram) × Has p
  pub form : (s ≡ text_refused s.code (place_of s)) ⊎ (s ≡ mass_refused s.code) ⊎ (s ≡ bare OUT_OF_MEMORY)
