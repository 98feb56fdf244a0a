-- The piece at the front of a text, found by its first byte.
use Rattle.std.specs.Prelude.{ℕ, Bool, suc, ◌==◌, ◌||◌, List, [], ◌∷◌, Option, Some, None, is_some, if◌then◌else◌}
use Rattle.std.specs.List.{prefix_len}
use Rattle.gcl_core.specs.declared.tokens.PieceKind.{PieceKind}
use Rattle.gcl_core.specs.declared.tokens.PieceKind.TheVariants as kind
use Rattle.gcl_core.specs.declared.tokens.Sym.{Sym}
use Rattle.gcl_lex.specs.declared.cutting.Front.{Front}
use Rattle.gcl_core.specs.text.Pieces.{is_blank, is_digit, is_letter, goes_on_name, in_comment, symbol_of}

abbrev pub one_byte : ℕ → Option Sym
one_byte b = symbol_of (b ∷ [])

abbrev pub two_bytes : ℕ → ℕ → Option Sym
two_bytes b c = symbol_of (b ∷ c ∷ [])

-- the byte is a symbol, or one with `=` behind it
abbrev pub begins_symbol : ℕ → Bool
begins_symbol b = is_some (one_byte b) || is_some (two_bytes b 61)

-- the kind of the piece that begins with this byte
unfoldable pub kind_begun : ℕ → Option PieceKind
kind_begun b =
    if is_blank b then Some kind.Blank
    else (if b == 35 then Some kind.Comment
    else (if is_digit b then Some kind.Number
    else (if is_letter b then Some kind.Name else (if begins_symbol b then Some kind.Symbol else None))))

abbrev pub long : PieceKind → ℕ → Option Front
long c n = Some (record { kind = c; len = n })

abbrev pub symbol_front : ℕ → List ℕ → Option Front
symbol_front b (c ∷ bs) =
    if is_some (two_bytes b c) then long kind.Symbol 2 else (if is_some (one_byte b) then long kind.Symbol 1 else None)
symbol_front b [] = if is_some (one_byte b) then long kind.Symbol 1 else None

abbrev pub front_as : Option PieceKind → ℕ → List ℕ → Option Front
front_as None b bs = None
front_as (Some kind.Blank) b bs = long kind.Blank 1
front_as (Some kind.Comment) b bs = long kind.Comment (suc (prefix_len in_comment bs))
front_as (Some kind.Number) b bs = long kind.Number (suc (prefix_len is_digit bs))
front_as (Some kind.Name) b bs = long kind.Name (suc (prefix_len goes_on_name bs))
front_as (Some kind.Symbol) b bs = symbol_front b bs

unfoldable pub front_of : List ℕ → Option Front
front_of [] = None
front_of (b ∷ bs) = front_as (kind_begun b) b bs
