-- The numbers that a text's expressions have are below 2 ^ 63, as those of its tokens are. So a program that a text spells is checked.
use Rattle.std.proofs.Common.{◌≡◌, ℕ, ◌+◌, ◌^◌, Bool, true, false, ◌&&◌, nat_lt, nat_le, List, [], ◌∷◌, map, length, Option, Some, None, refl, sym, subst, arith}
use Rattle.std.specs.Prelude.{IsTrue, option_map}
use Rattle.std.specs.List.{list_all, cons_option}
use Rattle.std.specs.Str.Parse.{digits_value}
use Rattle.std.proofs.lemmas.Bool.Decides.{nat_tests}
use Rattle.gcl_core.specs.declared.rules.TheConstants.{GREATEST_LITERAL}
use Rattle.gcl_core.specs.declared.tokens.Key.TheVariants as k
use Rattle.gcl_core.specs.declared.tokens.Key.{Key}
use Rattle.gcl_core.specs.declared.tokens.PieceKind.{PieceKind}
use Rattle.gcl_core.specs.declared.tokens.PieceKind.TheVariants as piece
use Rattle.gcl_core.specs.declared.tokens.Sym.{Sym}
use Rattle.gcl_core.specs.declared.tokens.Token.{Token}
use Rattle.gcl_core.specs.declared.tokens.TokenKind.{TokenKind}
use Rattle.gcl_core.specs.declared.tokens.TokenKind.TheVariants as token
use Rattle.gcl_core.specs.declared.words.Word.{Word}
use Rattle.gcl_core.specs.declared.words.Word.TheVariants as w
use Rattle.gcl_core.specs.declared.levels.Level.{Level}
use Rattle.gcl_core.specs.meaning.Bounds.{ExpressionFits, StatementFits, BlockFits, ArmsFit, NumbersFit}
use Rattle.gcl_core.specs.text.Derivation.{Derives}
use Rattle.gcl_core.specs.text.Grammar.{leaf, ReadsPhrase, ReadsMore, a_leaf, in_brackets, with_sign, without_sign, a_comparison, no_comparison, with_not, without_not, a_row, no_more, one_more, ReadsStatement, ReadsStatements, ReadsBlock, ReadsElse, a_skip, an_assignment, a_uniform, an_observation, an_if, a_while, a_choice, a_choose, ReadsArms, last_arm, one_more_arm, no_statement, a_statement, in_braces, no_else, an_else}
use Rattle.gcl_core.specs.meaning.Checked.{IsChecked}
use Rattle.gcl_core.specs.text.Lexing.{may_stand, stands}
use Rattle.gcl_core.specs.text.Names.{Name, number_of}
use Rattle.gcl_core.specs.text.Pieces.{Piece}
use Rattle.gcl_core.specs.meaning.Syntax.{Expression, Statement, Statements, ArmList, SourceProgram}
use Rattle.gcl_core.specs.text.Texts.{Spells}
use Rattle.gcl_core.specs.text.Tokens.{named_kind, key_of, kind_of, tokens_from}
use Rattle.gcl_core.specs.text.Words.{as_word, slice_of, names_of, word_of}
use Rattle.gcl_core.proofs.Accepted.{lowest_checked}
use Rattle.gcl_parse.proofs.Programs.{variables_below, arms_counted}

some_is : {a b : Expression} → Some a ≡ Some b → a ≡ b
some_is h = cc

-- ---- of words

abbrev WordSmall : Word → Type 0
WordSmall (w.Number n) = IsTrue (nat_lt n (2 ^ 63))
WordSmall _ = Unit {0}

abbrev WordsSmall : List Word → Type 0
WordsSmall [] = Unit {0}
WordsSmall (v ∷ ts) = WordSmall v × WordsSmall ts

leaf_fits : (v : Word) {e : Expression} → leaf v ≡ Some e → WordSmall v → ExpressionFits e
leaf_fits (w.Number n) h b = rw (← some_is h) b
leaf_fits (w.Name x) h b = rw (← some_is h) tt
leaf_fits (w.Key k.True) h b = rw (← some_is h) tt
leaf_fits (w.Key k.False) h b = rw (← some_is h) tt
leaf_fits (w.Key _) h b = cc
leaf_fits (w.Sym s) h b = cc

mutual
  phrase_fits : {l : Level} {ts rest : List Word} {e : Expression} → ReadsPhrase l ts e rest → WordsSmall ts → ExpressionFits e × WordsSmall rest
  phrase_fits (a_leaf {v = v} h) b = (leaf_fits v h b.0, b.1)
  phrase_fits (in_brackets r) b = let i = phrase_fits r b.1 in (i.0, i.1.1)
  phrase_fits (with_sign r) b = phrase_fits r b.1
  phrase_fits (without_sign r) b = phrase_fits r b
  phrase_fits (a_comparison r h k q) b = let i = phrase_fits r b in let j = phrase_fits q i.1.1 in ((i.0, j.0), j.1)
  phrase_fits (no_comparison r) b = phrase_fits r b
  phrase_fits (with_not r) b = phrase_fits r b.1
  phrase_fits (without_not r) b = phrase_fits r b
  phrase_fits (a_row i r q) b = let j = phrase_fits r b in more_fits q j.0 j.1

  more_fits : {l : Level} {a e : Expression} {ts rest : List Word} → ReadsMore l a ts e rest → ExpressionFits a → WordsSmall ts → ExpressionFits e × WordsSmall rest
  more_fits no_more a b = (a, b)
  more_fits (one_more h k r q) a b = let i = phrase_fits r b.1 in more_fits q (a, i.0) i.1

mutual
  statement_fits : {ts rest : List Word} {s : Statement} → ReadsStatement ts s rest → WordsSmall ts → StatementFits s × WordsSmall rest
  statement_fits a_skip b = (tt, b.1.1)
  statement_fits (an_assignment r) b = let i = phrase_fits r b.1.1 in (i.0, i.1.1)
  statement_fits (a_uniform r) b = let i = phrase_fits r b.1.1.1.1 in (i.0, i.1.1.1)
  statement_fits (an_observation r) b = let i = phrase_fits r b.1 in (i.0, i.1.1)
  statement_fits (an_if r a c) b =
      let i = phrase_fits r b.1 in
      let j = block_fits a i.1 in
      let n = else_fits c j.1 in
      ((i.0, j.0, n.0), n.1)
  statement_fits (a_while r a) b =
      let i = phrase_fits r b.1 in
      let j = block_fits a i.1 in
      ((i.0, j.0), j.1)
  statement_fits (a_choice a c) b =
      let j = block_fits a b.1.1.1.1 in
      let n = block_fits c j.1.1 in
      ((j.0, n.0), n.1)
  statement_fits (a_choose a arms) b =
      let j = block_fits a b.1.1.1.1 in
      let n = arms_fit arms j.1.1 in
      ((j.0, n.0), n.1.1)

  arms_fit : {k : ℕ} {ts rest : List Word} {arms : ArmList} → ReadsArms k ts arms rest → WordsSmall ts → ArmsFit arms × WordsSmall rest
  arms_fit (last_arm a) b = let j = block_fits a b.1.1 in ((j.0, tt), j.1)
  arms_fit (one_more_arm a arms) b =
      let j = block_fits a b.1.1 in
      let n = arms_fit arms j.1.1 in
      ((j.0, n.0), n.1)

  statements_fit : {ts rest : List Word} {s : Statements} → ReadsStatements ts s rest → WordsSmall ts → BlockFits s × WordsSmall rest
  statements_fit no_statement b = (tt, b)
  statements_fit (a_statement s q) b =
      let i = statement_fits s b in
      let j = statements_fit q i.1 in
      ((i.0, j.0), j.1)

  block_fits : {ts rest : List Word} {s : Statements} → ReadsBlock ts s rest → WordsSmall ts → BlockFits s × WordsSmall rest
  block_fits (in_braces r) b = let i = statements_fit r b.1 in (i.0, i.1.1)

  else_fits : {ts rest : List Word} {s : Statements} → ReadsElse ts s rest → WordsSmall ts → BlockFits s × WordsSmall rest
  else_fits no_else b = (tt, b)
  else_fits (an_else r) b = block_fits r b.1

-- ---- of tokens

abbrev KindSmall : TokenKind → Type 0
KindSmall (token.Number n) = IsTrue (nat_lt n (2 ^ 63))
KindSmall _ = Unit {0}

abbrev TokensSmall : List Token → Type 0
TokensSmall [] = Unit {0}
TokensSmall (t ∷ ts) = KindSmall t.kind × TokensSmall ts

abbrev KindOfSmall : Option TokenKind → Type 0
KindOfSmall (Some kind) = KindSmall kind
KindOfSmall None = Unit {0}

named_small : (key : Option Key) → KindSmall (named_kind key)
named_small (Some key) = tt
named_small None = tt

both : (a b : Bool) → IsTrue (a && b) → IsTrue a × IsTrue b
both true true h = (h, h)
both true false h = cc
both false b h = cc

symbol_small : (s : Option Sym) (kind : Option TokenKind) → kind ≡ option_map token.Sym s → KindOfSmall kind
symbol_small (Some s) kind e = rw e tt
symbol_small None kind e = rw e tt

number_small : (n : ℕ) → nat_le n GREATEST_LITERAL ≡ true → nat_lt n (2 ^ 63) ≡ true
number_small n small = grind (arith, nat_tests)

piece_small : (kind : PieceKind) (bytes : List ℕ) → IsTrue (may_stand kind bytes) → KindOfSmall (kind_of kind bytes)
piece_small piece.Blank bytes small = tt
piece_small piece.Comment bytes small = tt
piece_small piece.Number bytes small = number_small (digits_value 10 bytes) small
piece_small piece.Name bytes small = named_small (key_of bytes)
piece_small piece.Symbol bytes small = symbol_small _ _ refl

one_small : (kind : Option TokenKind) (at end : ℕ) (ts : List Token) → KindOfSmall kind → TokensSmall ts → TokensSmall (cons_option (option_map (λ k. record { kind = k; start = at; end = end }) kind) ts)
one_small (Some k) at end ts small rest = (small, rest)
one_small None at end ts small rest = rest

tokens_small : (at : ℕ) (ps : List Piece) → IsTrue (list_all stands ps) → TokensSmall (tokens_from at ps)
tokens_small at [] h = tt
tokens_small at (p ∷ ps) h =
    let each = both (stands p) (list_all stands ps) h in
    one_small (kind_of p.kind p.bytes) at (at + length p.bytes) (tokens_from (at + length p.bytes) ps) (piece_small p.kind p.bytes each.0) (tokens_small (at + length p.bytes) ps each.1)

word_small : (kind : TokenKind) (i : ℕ) → KindSmall kind → WordSmall (as_word kind i)
word_small (token.Number n) i h = h
word_small token.Name i h = tt
word_small (token.Key key) i h = tt
word_small (token.Sym s) i h = tt

words_small : (text : List ℕ) (names : List Name) (ts : List Token) → TokensSmall ts → WordsSmall (map (word_of names text) ts)
words_small text names [] h = tt
words_small text names (t ∷ ts) h = (word_small t.kind (number_of names (slice_of text t)) h.0, words_small text names ts h.1)

-- ---- of programs

program_fits : {text : List ℕ} {tokens : List Token} {p : SourceProgram} {places : List ℕ} → TokensSmall tokens → Derives text tokens p places → NumbersFit p
program_fits {text} {tokens} small d =
    let i = statements_fit d.program.statements (words_small text (names_of text tokens) tokens small) in
    let j = phrase_fits d.program.last i.1.1 in
    record { body = i.0; result = j.0 }

pub spelled_is_checked : (text : List ℕ) (p : SourceProgram) → Spells text p → IsChecked p
spelled_is_checked text p s =
    let d = s.has.derived in
    let small = subst TokensSmall (sym s.has.lexed.all) (tokens_small 0 s.has.lexed.pieces s.has.lexed.stand) in
    subst IsChecked (sym s.lowest) (lowest_checked s.written s.accepted (variables_below d) (program_fits small d) (arms_counted d))
