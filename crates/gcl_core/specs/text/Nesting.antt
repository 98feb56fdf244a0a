-- How deep brackets may nest, and how many operators may stand since the last `;` or brace. Both are counted over the tokens
-- alone. This project's own rule.
use Rattle.std.specs.Prelude.{◌≡◌, ℕ, ◌+◌, ◌-◌, nat_lt, ◌||◌, if◌then◌else◌, List, [], ◌∷◌, Option, Some, None, option_map}
use Rattle.gcl_core.specs.declared.tokens.Key.TheVariants as key
use Rattle.gcl_core.specs.declared.tokens.Sym.{Sym}
use Rattle.gcl_core.specs.declared.tokens.Sym.TheVariants as sym
use Rattle.gcl_core.specs.declared.tokens.Token.{Token}
use Rattle.gcl_core.specs.declared.tokens.TokenKind.{TokenKind}
use Rattle.gcl_core.specs.declared.tokens.TokenKind.TheVariants as token
use Rattle.gcl_core.specs.text.Offsets.{place_of}
use Rattle.gcl_core.specs.text.Words.{kinds_of}
use Rattle.gcl_core.specs.declared.rules.TheConstants.{DEEPEST_NESTING, MOST_OPERATORS}

-- the level behind a token: one more for `(` and `{`, one less for `)` and `}`, but not below 0
abbrev pub level_behind : TokenKind → ℕ → ℕ
level_behind (token.Sym sym.LeftParen) n = n + 1
level_behind (token.Sym sym.LeftBrace) n = n + 1
level_behind (token.Sym sym.RightParen) n = n - 1
level_behind (token.Sym sym.RightBrace) n = n - 1
level_behind _ n = n

abbrev pub count_behind_symbol : Sym → ℕ → ℕ
count_behind_symbol sym.Semicolon c = 0
count_behind_symbol sym.LeftBrace c = 0
count_behind_symbol sym.RightBrace c = 0
count_behind_symbol sym.Assign c = c
count_behind_symbol sym.Tilde c = c
count_behind_symbol sym.LeftParen c = c
count_behind_symbol sym.RightParen c = c
count_behind_symbol sym.Colon c = c
count_behind_symbol sym.Bar c = c
count_behind_symbol _ c = c + 1

-- the count behind a token: 0 behind `;`, `{` and `}`, and one more for each of `+ - * / % = != < <= > >= and or not`
abbrev pub count_behind : TokenKind → ℕ → ℕ
count_behind (token.Sym s) c = count_behind_symbol s c
count_behind (token.Key key.And) c = c + 1
count_behind (token.Key key.Or) c = c + 1
count_behind (token.Key key.Not) c = c + 1
count_behind _ c = c

-- from this level and this count on, the index of the first token that makes the level more than DEEPEST_NESTING or the count
-- more than MOST_OPERATORS
unfoldable pub breaks_from : ℕ → ℕ → List TokenKind → Option ℕ
breaks_from n c [] = None
breaks_from n c (k ∷ ks) =
    if nat_lt DEEPEST_NESTING (level_behind k n) || nat_lt MOST_OPERATORS (count_behind k c) then Some 0
    else option_map (λ i. i + 1) (breaks_from (level_behind k n) (count_behind k c) ks)

-- the index of the first token that breaks one of the two rules
abbrev pub nesting_break : List TokenKind → Option ℕ
nesting_break ks = breaks_from 0 0 ks

-- the tokens keep both rules
abbrev pub Nests : List TokenKind → Type 0
Nests ks = nesting_break ks ≡ None

-- the first token that breaks one of the two rules stands at this place
pub record IsTooDeep (text : List ℕ) (tokens : List Token) (at : ℕ) : Type 0 where
  pub index : ℕ
  pub breaks : nesting_break (kinds_of tokens) ≡ Some index
  pub place : at ≡ place_of text tokens index
