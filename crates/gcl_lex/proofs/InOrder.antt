-- The tokens of a text stand in order.
use Rattle.std.proofs.Common.{◌≡◌, ℕ, ◌<◌, ◌≤◌, ◌+◌, sym, arith, true, nat_le, List, [], ◌∷◌, length, take, drop, length-drop, Option, Some, None, option_map}
use Rattle.std.specs.List.{list_all, cons_option}
use Rattle.std.specs.Str.Parse.{digits_value}
use Rattle.std.proofs.lemmas.Bool.Decides.{nat_tests}
use Rattle.gcl_core.specs.declared.rules.TheConstants.{GREATEST_LITERAL}
use Rattle.gcl_core.specs.declared.tokens.PieceKind.{PieceKind}
use Rattle.gcl_core.specs.declared.tokens.PieceKind.TheVariants as kind
use Rattle.gcl_core.specs.declared.tokens.TokenKind.{TokenKind}
use Rattle.gcl_core.specs.declared.tokens.TokenKind.TheVariants as token
use Rattle.gcl_core.specs.declared.tokens.Token.{Token}
use Rattle.gcl_core.specs.text.Pieces.{symbol_of, Piece, Leads, no_piece_more, one_piece_more}
use Rattle.gcl_core.specs.text.Tokens.{key_of, named_kind, kind_of, tokens_from}
use Rattle.gcl_core.specs.text.Lexing.{may_stand, stands, IsLexed}
use Rattle.gcl_core.specs.text.Spans.{IsInRange, StandInOrder}
use Rattle.gcl_core.proofs.Booleans.{both}
use Rattle.gcl_lex.proofs.Cuts.{some_len}
use Rattle.gcl_lex.proofs.PieceByPiece.{placed, taken}

from_earlier : (a b : ℕ) (ts : List Token) (end : ℕ) → a ≤ b → StandInOrder b ts end → StandInOrder a ts end
from_earlier a b [] end h s = tt
from_earlier a b (t ∷ ts) end h s = (omega (arith, h, s.0), s.1, s.2, s.3, s.4)

-- each token that a piece may have is in range
abbrev OptionInRange : Option TokenKind → Type 0
OptionInRange None = Unit {0}
OptionInRange (Some k) = IsInRange k

small : (n : ℕ) → nat_le n GREATEST_LITERAL ≡ true → n ≤ GREATEST_LITERAL
small n h = grind (arith, nat_tests)

in_range : (k : PieceKind) (bytes : List ℕ) → may_stand k bytes ≡ true → OptionInRange (kind_of k bytes)
in_range kind.Blank bytes h = tt
in_range kind.Comment bytes h = tt
in_range kind.Number bytes h = small (digits_value 10 bytes) h
in_range kind.Name bytes h = named (key_of bytes)
  where
    named : (key : _) → OptionInRange (Some (named_kind key))
    named None = tt
    named (Some key) = tt
in_range kind.Symbol bytes h = found (symbol_of bytes)
  where
    found : (sym : _) → OptionInRange (option_map token.Sym sym)
    found None = tt
    found (Some sym) = tt

one_more : (o : Option TokenKind) (a b : ℕ) (ts : List Token) (end : ℕ) → OptionInRange o → a < b → b ≤ end → StandInOrder b ts end → StandInOrder a (cons_option (option_map (placed a b) o) ts) end
one_more None a b ts end r h w s = from_earlier a b ts end (omega (arith, h)) s
one_more (Some k) a b ts end r h w s = (omega arith, h, w, r, s)

pub in_order : {text rest : List ℕ} {ps : List Piece} (a : ℕ) → Leads text ps rest → list_all stands ps ≡ true → StandInOrder a (tokens_from a ps) (a + length text)
in_order a no_piece_more h = tt
in_order a (one_piece_more {text = text} {k = k} {n = n} {ps = ps} l r) h =
    let q = both (may_stand k (take n text)) (list_all stands ps) h in
    let i = in_order (a + length (take n text)) r q.1 in
    let t = taken l in
    let d = length-drop n text in
    let some = some_len k text n l in
    let end : a + length (take n text) + length (drop n text) ≡ a + length text = omega (arith, t, d, l.within) in
    one_more (kind_of k (take n text)) a (a + length (take n text)) (tokens_from (a + length (take n text)) ps) (a + length text) (in_range k (take n text) q.0) (omega (arith, t, some)) (omega (arith, end)) (rw end at i)

pub lexed_in_order : {text : List ℕ} {ts : List Token} → IsLexed text ts → StandInOrder 0 ts (length text)
lexed_in_order {text} r =
    let zero_added : 0 + length text ≡ length text = omega arith in
    rw r.all (rw zero_added at (in_order 0 r.cut r.stand))
