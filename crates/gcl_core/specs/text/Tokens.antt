-- The tokens of pieces: a token for each piece that is no blank and no comment, with the bytes that it spans. This project's own
-- rule.
use Rattle.std.specs.Prelude.{ℕ, ◌+◌, Bool, List, [], ◌∷◌, length, Option, Some, None, option_map, map}
use Rattle.std.specs.List.{cons_option}
use Rattle.std.specs.Str.Parse.{digits_value}
use denote.Enum.Bare.{sameb}
use Rattle.gcl_core.specs.contracts.tokens.Key as reserved
use Rattle.gcl_core.specs.declared.tokens.Key.{Key}
use Rattle.gcl_core.specs.declared.tokens.PieceKind.{PieceKind}
use Rattle.gcl_core.specs.declared.tokens.PieceKind.TheVariants as kind
use Rattle.gcl_core.specs.declared.tokens.TokenKind.{TokenKind}
use Rattle.gcl_core.specs.declared.tokens.TokenKind.TheVariants as token
use Rattle.gcl_core.specs.declared.tokens.Token.{Token}
use Rattle.gcl_core.specs.declared.tokens.TheConstants.{KEYWORDS}
use Rattle.gcl_core.specs.text.Names.{Name, value_named}
use Rattle.gcl_core.specs.text.Pieces.{symbol_of, Piece}

-- ---- reserved names

-- the table `KEYWORDS` of the code, each text as its bytes
abbrev pub reserved_names : List (Name × Key)
reserved_names = map (λ k. (k.0.now, k.1)) KEYWORDS

abbrev pub same_keyword : Key → Key → Bool
same_keyword = sameb reserved.the_type

-- the reserved name that this is
unfoldable pub key_of : Name → Option Key
key_of name = value_named reserved_names name

-- ---- tokens

abbrev pub named_kind : Option Key → TokenKind
named_kind (Some key) = token.Key key
named_kind None = token.Name

-- what the token of a piece is, if it has one: a number by its value in tens
abbrev pub kind_of : PieceKind → List ℕ → Option TokenKind
kind_of kind.Blank bytes = None
kind_of kind.Comment bytes = None
kind_of kind.Number bytes = Some (token.Number (digits_value 10 bytes))
kind_of kind.Name bytes = Some (named_kind (key_of bytes))
kind_of kind.Symbol bytes = option_map token.Sym (symbol_of bytes)

-- the token of a piece that begins at this place
abbrev pub token_at : ℕ → Piece → Option Token
token_at at p = option_map (λ k. record { kind = k; start = at; end = at + length p.bytes }) (kind_of p.kind p.bytes)

-- the tokens of pieces, the first of which begins at this place
abbrev pub tokens_from : ℕ → List Piece → List Token
tokens_from at [] = []
tokens_from at (p ∷ ps) = cons_option (token_at at p) (tokens_from (at + length p.bytes) ps)

abbrev pub tokens_of : List Piece → List Token
tokens_of ps = tokens_from 0 ps
