-- What a text is read as: a program, or the first refusal, with its code and its place in the text. The order is this project's
-- own rule: the text's pieces, the nesting of its tokens, the grammar, and then the rules of acceptance.
use Rattle.std.specs.Prelude.{◌≡◌, ℕ, List, Option, Some, None}
use Rattle.std.specs.List.{slice_get}
use Rattle.gcl_core.specs.declared.refusals.TheConstants.{TEXT_TOO_LONG, BAD_BYTE, NUMBER_TOO_WIDE, NAME_TOO_LONG, UNEXPECTED, TOO_DEEP, KIND_MISMATCH, UNKNOWN_NAME, TOO_MANY_NAMES, ZERO_DENOMINATOR, WEIGHT_ABOVE_ONE, TOO_FINE}
use Rattle.gcl_core.specs.declared.tokens.Token.{Token}
use Rattle.gcl_core.specs.meaning.Syntax.{SourceProgram}
use Rattle.gcl_core.specs.text.Words.{kinds_of}
use Rattle.gcl_core.specs.text.Lexing.{IsLexed, IsRefused, text_too_long, bad_byte, number_too_wide, name_too_long}
use Rattle.gcl_core.specs.text.Nesting.{Nests, IsTooDeep}
use Rattle.gcl_core.specs.text.GrammarRefusal.{IsUnexpected}
use Rattle.gcl_core.specs.text.Derivation.{Derives}
use Rattle.gcl_core.specs.text.Acceptance.{Flaw, kind_mismatch, unknown_name, zero_denominator, weight_above_one, too_fine, too_many_names, flawed, refusal_of, IsAccepted}
use Rattle.gcl_core.specs.meaning.Lowest.{in_lowest}

-- ---- as it is written

-- the program that the text has as it is written, with the places of its statements and of `return`
pub record IsWrittenIn (text : List ℕ) (p : SourceProgram) (places : List ℕ) : Type 0 where
  pub tokens : List Token
  pub lexed : IsLexed text tokens
  pub nested : Nests (kinds_of tokens)
  pub derived : Derives text tokens p places

-- the text has none, for the reason of this code, at this place
pub data IsRefusedText (text : List ℕ) : ℕ → Option ℕ → Type 0 where
  too_long : IsRefused text text_too_long → IsRefusedText text TEXT_TOO_LONG None
  no_piece : {at : ℕ} → IsRefused text (bad_byte at) → IsRefusedText text BAD_BYTE (Some at)
  wide_number : {at : ℕ} → IsRefused text (number_too_wide at) → IsRefusedText text NUMBER_TOO_WIDE (Some at)
  long_name : {at : ℕ} → IsRefused text (name_too_long at) → IsRefusedText text NAME_TOO_LONG (Some at)
  unexpected : {at : ℕ} {tokens : List Token} → IsLexed text tokens → Nests (kinds_of tokens) → IsUnexpected text tokens at
      → IsRefusedText text UNEXPECTED (Some at)
  too_deep : {at : ℕ} {tokens : List Token} → IsLexed text tokens → IsTooDeep text tokens at
      → IsRefusedText text TOO_DEEP (Some at)

-- ---- as it is checked

abbrev pub flaw_code : Flaw → ℕ
flaw_code kind_mismatch = KIND_MISMATCH
flaw_code unknown_name = UNKNOWN_NAME
flaw_code zero_denominator = ZERO_DENOMINATOR
flaw_code weight_above_one = WEIGHT_ABOVE_ONE
flaw_code too_fine = TOO_FINE

-- a program with these places is not accepted, for the reason of this code, at the place of the statement that has the flaw
pub data IsRefusedProgram (p : SourceProgram) (places : List ℕ) : ℕ → Option ℕ → Type 0 where
  many_names : refusal_of p ≡ Some too_many_names → IsRefusedProgram p places TOO_MANY_NAMES None
  has_flaw : {flaw : Flaw} {n at : ℕ} → refusal_of p ≡ Some (flawed flaw n) → slice_get places n ≡ Some at
      → IsRefusedProgram p places (flaw_code flaw) (Some at)

-- the text spells this program: it has an accepted program, whose weights are in lowest terms here
pub record Spells (text : List ℕ) (p : SourceProgram) : Type 0 where
  pub written : SourceProgram
  pub places : List ℕ
  pub has : IsWrittenIn text written places
  pub accepted : IsAccepted written
  pub lowest : p ≡ in_lowest written

-- the text spells no program
pub data SpellsNone (text : List ℕ) : ℕ → Option ℕ → Type 0 where
  as_text : {code : ℕ} {at : Option ℕ} → IsRefusedText text code at → SpellsNone text code at
  as_program : {p : SourceProgram} {places : List ℕ} {code : ℕ} {at : Option ℕ} → IsWrittenIn text p places
      → IsRefusedProgram p places code at → SpellsNone text code at
