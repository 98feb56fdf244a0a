-- The tokens of a text, or why it has none. This project's own rule.
use Rattle.std.specs.Prelude.{◌≡◌, ℕ, ◌+◌, ◌<◌, ◌≤◌, nat_le, Bool, true, IsTrue, List, length, take}
use Rattle.std.specs.List.{list_all}
use Rattle.std.specs.Str.Parse.{digits_value}
use Rattle.gcl_core.specs.declared.tokens.PieceKind.{PieceKind}
use Rattle.gcl_core.specs.declared.tokens.PieceKind.TheVariants as kind
use Rattle.gcl_core.specs.declared.tokens.Token.{Token}
use Rattle.gcl_core.specs.text.Pieces.{Longest, NoPiece, Piece, Leads, Pieces}
use Rattle.gcl_core.specs.text.Tokens.{tokens_of}
use Rattle.gcl_core.specs.declared.rules.TheConstants.{LONGEST_TEXT, GREATEST_LITERAL, LONGEST_NAME}

-- a number is at most GREATEST_LITERAL, and a name has at most LONGEST_NAME bytes
abbrev pub may_stand : PieceKind → List ℕ → Bool
may_stand kind.Number bytes = nat_le (digits_value 10 bytes) GREATEST_LITERAL
may_stand kind.Name bytes = nat_le (length bytes) LONGEST_NAME
may_stand _ bytes = true

abbrev pub stands : Piece → Bool
stands p = may_stand p.kind p.bytes

-- a text of at most LONGEST_TEXT bytes is cut into pieces that may stand, and these are their tokens
pub record IsLexed (text : List ℕ) (tokens : List Token) : Type 0 where
  pub short : length text ≤ LONGEST_TEXT
  pub pieces : List Piece
  pub cut : Pieces text pieces
  pub stand : IsTrue (list_all stands pieces)
  pub all : tokens ≡ tokens_of pieces

-- why a text has no tokens, with the place of it
pub data LexRefusal : Type 0 where
  text_too_long : LexRefusal
  bad_byte : ℕ → LexRefusal
  number_too_wide : ℕ → LexRefusal
  name_too_long : ℕ → LexRefusal

-- in a text of at most LONGEST_TEXT bytes, pieces that may stand lead to the rest that begins at this place
pub record PiecesReach (text : List ℕ) (at : ℕ) (rest : List ℕ) : Type 0 where
  pub short : length text ≤ LONGEST_TEXT
  pub pieces : List Piece
  pub leads : Leads text pieces rest
  pub stand : IsTrue (list_all stands pieces)
  pub place : at + length rest ≡ length text

-- the text is refused: for its length, or at the first place where no piece begins, a number is too wide or a name is too long
pub data IsRefused : List ℕ → LexRefusal → Type 0 where
  long_text : {text : List ℕ} → LONGEST_TEXT < length text → IsRefused text text_too_long
  no_piece : {text rest : List ℕ} {at : ℕ} → PiecesReach text at rest → 0 < length rest → NoPiece rest
      → IsRefused text (bad_byte at)
  wide_number : {text rest : List ℕ} {at n : ℕ} → PiecesReach text at rest → Longest kind.Number rest n
      → GREATEST_LITERAL < digits_value 10 (take n rest) → IsRefused text (number_too_wide at)
  long_name : {text rest : List ℕ} {at n : ℕ} → PiecesReach text at rest → Longest kind.Name rest n → LONGEST_NAME < n
      → IsRefused text (name_too_long at)
