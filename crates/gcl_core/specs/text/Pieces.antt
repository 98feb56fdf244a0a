-- The pieces of a text: blanks, comments, numbers, names and symbols, each the longest that begins at its place.
-- This project's own rule.
use Rattle.std.specs.Prelude.{◌≡◌, ℕ, ◌<◌, ◌≤◌, ◌==◌, nat_le, Bool, false, ◌&&◌, ◌||◌, not, IsTrue, List, [], ◌∷◌, length, take, drop, Option, is_some, map}
use Rattle.std.specs.List.{list_all}
use denote.Enum.Bare.{sameb}
use Rattle.gcl_core.specs.contracts.tokens.Sym as symbol
use Rattle.gcl_core.specs.declared.tokens.Sym.{Sym}
use Rattle.gcl_core.specs.declared.tokens.TheConstants.{SYMBOLS}
use Rattle.gcl_core.specs.declared.tokens.PieceKind.{PieceKind}
use Rattle.gcl_core.specs.declared.tokens.PieceKind.TheVariants as kind
use Rattle.gcl_core.specs.text.Names.{Name, value_named}

-- ---- bytes

-- a space, a tab, a line feed or a carriage return
abbrev pub is_blank : ℕ → Bool
is_blank b = b == 32 || b == 9 || b == 10 || b == 13

abbrev pub is_digit : ℕ → Bool
is_digit b = nat_le 48 b && nat_le b 57

abbrev pub is_letter : ℕ → Bool
is_letter b = (nat_le 97 b && nat_le b 122) || (nat_le 65 b && nat_le b 90) || b == 95

abbrev pub goes_on_name : ℕ → Bool
goes_on_name b = is_letter b || is_digit b

-- a comment may hold any byte but the line feed
abbrev pub in_comment : ℕ → Bool
in_comment b = not (b == 10)

-- ---- symbols

-- the table `SYMBOLS` of the code, each text as its bytes
abbrev pub symbols : List (Name × Sym)
symbols = map (λ s. (s.0.now, s.1)) SYMBOLS

abbrev pub same_symbol : Sym → Sym → Bool
same_symbol = sameb symbol.the_type

-- the symbol that these bytes are
unfoldable pub symbol_of : List ℕ → Option Sym
symbol_of bytes = value_named symbols bytes

-- ---- pieces

-- the bytes are a piece of this kind
unfoldable pub is_piece : PieceKind → List ℕ → Bool
is_piece kind.Blank (b ∷ []) = is_blank b
is_piece kind.Comment (b ∷ bs) = b == 35 && list_all in_comment bs
is_piece kind.Number (b ∷ bs) = is_digit b && list_all is_digit bs
is_piece kind.Name (b ∷ bs) = is_letter b && list_all goes_on_name bs
is_piece kind.Symbol bs = is_some (symbol_of bs)
is_piece _ _ = false

-- a piece of n bytes stands at the front, and no longer one does
pub record Longest (k : PieceKind) (text : List ℕ) (n : ℕ) : Type 0 where
  pub within : n ≤ length text
  pub is : IsTrue (is_piece k (take n text))
  pub last : (other : PieceKind) (m : ℕ) → n < m → m ≤ length text → is_piece other (take m text) ≡ false

-- no piece stands at the front
abbrev pub NoPiece : List ℕ → Type 0
NoPiece text = (k : PieceKind) (m : ℕ) → m ≤ length text → is_piece k (take m text) ≡ false

pub record Piece : Type 0 where
  pub kind : PieceKind
  pub bytes : List ℕ

-- these pieces, each the longest, lead from the front of the text to its rest
pub data Leads : List ℕ → List Piece → List ℕ → Type 0 where
  no_piece_more : {text : List ℕ} → Leads text [] text
  one_piece_more : {text rest : List ℕ} {k : PieceKind} {n : ℕ} {ps : List Piece} → Longest k text n → Leads (drop n text) ps rest
      → Leads text (record { kind = k; bytes = take n text } ∷ ps) rest

-- the text is cut into these pieces
abbrev pub Pieces : List ℕ → List Piece → Type 0
Pieces text ps = Leads text ps []
