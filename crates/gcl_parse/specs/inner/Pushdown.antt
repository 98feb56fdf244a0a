-- The language of the grammar by what may come next: a stack of what is still expected, and what one word makes of it. The
-- parser's functions are tied to it, and the grammar's refusal is proved from it.
use Rattle.std.specs.Prelude.{ℕ, zero, suc, ◌-◌, Bool, true, false, ◌==◌, if◌then◌else◌, List, [], ◌∷◌, ◌++◌, Option, Some, None}
use Rattle.gcl_core.specs.declared.rules.TheConstants.{MOST_ARMS}
use Rattle.gcl_core.specs.declared.words.Word.{Word}
use Rattle.gcl_core.specs.declared.words.Word.TheVariants as w
use Rattle.gcl_core.specs.declared.tokens.Key.{Key}
use Rattle.gcl_core.specs.declared.tokens.Key.TheVariants as k
use Rattle.gcl_core.specs.declared.tokens.Sym.{Sym}
use Rattle.gcl_core.specs.declared.tokens.Sym.TheVariants as y
use Rattle.gcl_core.specs.declared.syntax.BinOp.{BinOp}
use Rattle.gcl_core.specs.declared.levels.Level.{Level}
use Rattle.gcl_core.specs.declared.levels.Level.TheVariants as l
use Rattle.gcl_core.specs.text.Grammar.{operator, leaf}
use Rattle.gcl_core.specs.text.Levels.{level_of, above, rank}
use Rattle.gcl_parse.specs.inner.Starts.{begins_with}
use Rattle.gcl_parse.specs.declared.starts.Start.{Start}
use Rattle.gcl_parse.specs.declared.starts.Start.TheVariants as b
use Rattle.gcl_parse.specs.inner.Fronts.{is_sym, is_key}
use Rattle.gcl_core.specs.meaning.Syntax.{Expression}

pub data Symbol : Type 0 where
  -- an expression of this level
  phrase : Level → Symbol
  -- the rest of a row of this level, which may be empty
  more : Level → Symbol
  -- this word
  sym : Sym → Symbol
  key : Key → Symbol
  -- any number
  number : Symbol
  -- statements, which may be none
  stmts : Symbol
  -- what follows the name of a statement
  target : Symbol
  block : Symbol
  -- an `else` with its block, or nothing
  otherwise : Symbol
  -- behind the block of an arm: `|` and another arm, at most as often as the number says, and `}`
  arms : ℕ → Symbol

-- what is left once the word is taken, if an atom may begin with it
abbrev pub if_leaf : Option Expression → List Symbol → Option (List Symbol) → Option (List Symbol)
if_leaf (Some e) s other = Some s
if_leaf None s other = other

abbrev pub at_atom : Word → List Symbol → Option (List Symbol)
at_atom v s = if_leaf (leaf v) s (if is_sym y.LeftParen v then Some (phrase l.Or ∷ sym y.RightParen ∷ s) else None)

abbrev pub at_sign : Word → List Symbol → Option (List Symbol)
at_sign v s = if is_sym y.Minus v then Some (phrase l.Sign ∷ s) else at_atom v s

abbrev pub at_not : Word → List Symbol → Option (List Symbol)
at_not v s = if is_key k.Not v then Some (phrase l.Not ∷ s) else at_sign v (more l.Product ∷ more l.Sum ∷ more l.Compare ∷ s)

abbrev pub at_phrase : Level → Word → List Symbol → Option (List Symbol)
at_phrase l.Or v s = at_not v (more l.And ∷ more l.Or ∷ s)
at_phrase l.And v s = at_not v (more l.And ∷ s)
at_phrase l.Not v s = at_not v s
at_phrase l.Compare v s = at_sign v (more l.Product ∷ more l.Sum ∷ more l.Compare ∷ s)
at_phrase l.Sum v s = at_sign v (more l.Product ∷ more l.Sum ∷ s)
at_phrase l.Product v s = at_sign v (more l.Product ∷ s)
at_phrase l.Sign v s = at_sign v s
at_phrase l.Atom v s = at_atom v s

-- a comparison does not chain
abbrev pub after_operand : Level → List Symbol → List Symbol
after_operand l.Compare s = s
after_operand l s = more l ∷ s

abbrev pub goes_on : Level → Option BinOp → Bool
goes_on l None = false
goes_on l (Some o) = rank (level_of o) == rank l

-- `NUMBER : block`, and at most n arms behind it
abbrev pub arm_and_more : ℕ → List Symbol
arm_and_more n = number ∷ sym y.Colon ∷ block ∷ arms n ∷ []

abbrev pub after_start : Start → List Symbol
after_start b.Skip = sym y.Semicolon ∷ []
after_start b.Observe = phrase l.Or ∷ sym y.Semicolon ∷ []
after_start b.If = phrase l.Or ∷ block ∷ otherwise ∷ []
after_start b.While = phrase l.Or ∷ block ∷ []
after_start b.Choice = number ∷ sym y.Slash ∷ number ∷ block ∷ key k.Or ∷ block ∷ []
after_start b.Choose = sym y.LeftBrace ∷ number ∷ sym y.Colon ∷ block ∷ sym y.Bar ∷ arm_and_more (MOST_ARMS - 2)
after_start (b.Name i) = target ∷ []

abbrev pub if_start : Option Start → List Symbol → Option (List Symbol) → Option (List Symbol)
if_start (Some b) s other = Some (after_start b ++ s)
if_start None s other = other

abbrev pub at_number : Word → List Symbol → Option (List Symbol)
at_number (w.Number n) s = Some s
at_number _ s = None

abbrev pub at_target : Word → List Symbol → Option (List Symbol)
at_target v s =
    if is_sym y.Assign v then Some (phrase l.Or ∷ sym y.Semicolon ∷ s)
    else (if is_sym y.Tilde v then Some (key k.Uniform ∷ sym y.LeftParen ∷ phrase l.Or ∷ sym y.RightParen ∷ sym y.Semicolon ∷ s)
    else None)

abbrev pub at_arms : ℕ → Word → List Symbol → Option (List Symbol)
at_arms zero v s = if is_sym y.RightBrace v then Some s else None
at_arms (suc n) v s = if is_sym y.Bar v then Some (arm_and_more n ++ s) else (if is_sym y.RightBrace v then Some s else None)

unfoldable pub take_word : Word → List Symbol → Option (List Symbol)
take_word v [] = None
take_word v (phrase l ∷ s) = at_phrase l v s
take_word v (more l ∷ s) = if goes_on l (operator v) then Some (phrase (above l) ∷ after_operand l s) else take_word v s
take_word v (sym a ∷ s) = if is_sym a v then Some s else None
take_word v (key a ∷ s) = if is_key a v then Some s else None
take_word v (number ∷ s) = at_number v s
take_word v (stmts ∷ s) = if_start (begins_with v) (stmts ∷ s) (take_word v s)
take_word v (target ∷ s) = at_target v s
take_word v (block ∷ s) = if is_sym y.LeftBrace v then Some (stmts ∷ sym y.RightBrace ∷ s) else None
take_word v (otherwise ∷ s) = if is_key k.Else v then Some (block ∷ s) else take_word v s
take_word v (arms n ∷ s) = at_arms n v s

-- nothing more is needed
abbrev pub may_end : List Symbol → Bool
may_end [] = true
may_end (more l ∷ s) = may_end s
may_end (stmts ∷ s) = may_end s
may_end (otherwise ∷ s) = may_end s
may_end _ = false

pub data Verdict : Type 0 where
  accepts : Verdict
  -- no further: the next of these words can't be taken, or they are none, and more are needed
  stops : List Word → Verdict

abbrev pub ended : Bool → Verdict
ended true = accepts
ended false = stops []

abbrev pub with_stack : Option (List Symbol) → List Word → (List Symbol → Verdict) → Verdict
with_stack None here go = stops here
with_stack (Some s) here go = go s

unfoldable pub run : List Word → List Symbol → Verdict
run [] s = ended (may_end s)
run (v ∷ ws) s = with_stack (take_word v s) (v ∷ ws) (run ws)

-- what a program is expected to be
abbrev pub a_program : List Symbol
a_program = stmts ∷ key k.Return ∷ phrase l.Or ∷ sym y.Semicolon ∷ []
