-- What is read of one piece.
use Rattle.std.specs.Prelude.{◌≡◌, ℕ, ◌<◌, nat_le, true, List, length, Option, Some, None, Result, Ok, Err, if◌then◌else◌}
use Rattle.std.specs.Str.Parse.{digits_value}
use Rattle.gcl_core.specs.declared.tokens.PieceKind.{PieceKind}
use Rattle.gcl_core.specs.declared.tokens.PieceKind.TheVariants as kind
use Rattle.gcl_core.specs.declared.tokens.TokenKind.{TokenKind}
use Rattle.gcl_core.specs.text.Tokens.{kind_of}
use Rattle.gcl_core.specs.text.Lexing.{may_stand}
use Rattle.gcl_core.specs.declared.rules.TheConstants.{GREATEST_LITERAL, LONGEST_NAME}
use Rattle.gcl_lex.specs.declared.error.LexError.{LexError}
use Rattle.gcl_lex.specs.declared.error.LexError.TheVariants.{NumberTooWide, NameTooLong}

-- the value of digits where a number may have it
abbrev pub number_of_digits : List ℕ → Option ℕ
number_of_digits ds = if nat_le (digits_value 10 ds) GREATEST_LITERAL then Some (digits_value 10 ds) else None

-- the piece may stand, and this is what its token is
pub record StandsAs (k : PieceKind) (bytes : List ℕ) (found : Option TokenKind) : Type 0 where
  pub stands : may_stand k bytes ≡ true
  pub kind : found ≡ kind_of k bytes

-- the piece, which begins at this place, may not stand for this reason
pub data Stops : PieceKind → List ℕ → ℕ → LexError → Type 0 where
  too_wide : {bytes : List ℕ} {at : ℕ} → GREATEST_LITERAL < digits_value 10 bytes → Stops kind.Number bytes at (NumberTooWide at)
  too_long : {bytes : List ℕ} {at : ℕ} → LONGEST_NAME < length bytes → Stops kind.Name bytes at (NameTooLong at)

abbrev pub ReadsPiece : PieceKind → List ℕ → ℕ → Result (Option TokenKind) LexError → Type 0
ReadsPiece k bytes at (Ok found) = StandsAs k bytes found
ReadsPiece k bytes at (Err e) = Stops k bytes at e
