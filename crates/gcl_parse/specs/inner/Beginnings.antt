-- Where statements begin, by the kinds of the tokens alone: each reserved name of a statement begins one, and so does a name
-- before `:=` or `~`; `return` begins the result.
use Rattle.std.specs.Prelude.{ℕ, Bool, true, false, if◌then◌else◌, List, [], ◌∷◌}
use Rattle.gcl_core.specs.declared.tokens.Key.TheVariants as k
use Rattle.gcl_core.specs.declared.tokens.Sym.TheVariants as y
use Rattle.gcl_core.specs.declared.tokens.Token.{Token}
use Rattle.gcl_core.specs.declared.tokens.TokenKind.{TokenKind}
use Rattle.gcl_core.specs.declared.tokens.TokenKind.TheVariants as token
use Rattle.gcl_core.specs.text.Words.{kinds_of}

-- a name before this is one that a statement sets
abbrev pub sets_before : List TokenKind → Bool
sets_before (token.Sym y.Assign ∷ ks) = true
sets_before (token.Sym y.Tilde ∷ ks) = true
sets_before _ = false

-- a statement or the result begins with the first of these, behind which the others stand
abbrev pub begins : TokenKind → List TokenKind → Bool
begins (token.Key k.Skip) ks = true
begins (token.Key k.Observe) ks = true
begins (token.Key k.If) ks = true
begins (token.Key k.While) ks = true
begins (token.Key k.Choice) ks = true
begins (token.Key k.Choose) ks = true
begins (token.Key k.Return) ks = true
begins token.Name ks = sets_before ks
begins _ ks = false

-- the places where they begin
abbrev pub beginnings : List Token → List ℕ
beginnings [] = []
beginnings (t ∷ ts) = if begins t.kind (kinds_of ts) then t.start ∷ beginnings ts else beginnings ts
