-- What the parser's functions answer.
use Rattle.std.specs.Prelude.{◌≡◌, ℕ, suc, ◌<◌, List, [], ◌∷◌, length, Result, Ok, Err, Option, Some, None, option_and_then, Bool, true, false, ◌==◌, if◌then◌else◌, ◌++◌, ◌≤◌}
use Rattle.gcl_core.specs.declared.words.Word.{Word}
use Rattle.gcl_core.specs.declared.levels.Level.{Level}
use Rattle.gcl_core.specs.declared.syntax.Expr.{Expr}
use Rattle.gcl_core.specs.declared.syntax.Stmt.{Stmt}
use Rattle.gcl_core.specs.declared.syntax.Arms.{Arms}
use Rattle.gcl_core.specs.declared.syntax.Block.{Block}
use Rattle.gcl_parse.specs.declared.starts.Start.{Start}
use Rattle.gcl_parse.specs.declared.parser.Halt.{Halt}
use Rattle.gcl_parse.specs.declared.parser.Halt.TheVariants.{Unexpected}
use Rattle.gcl_core.specs.declared.words.Word.TheVariants as w
use Rattle.gcl_core.specs.declared.tokens.Key.TheVariants as k
use Rattle.gcl_core.specs.declared.tokens.Sym.TheVariants as y
use Rattle.gcl_core.specs.declared.syntax.BinOp.{BinOp}
use Rattle.gcl_core.specs.declared.levels.Level.TheVariants as l
use Rattle.gcl_core.specs.meaning.Syntax.{Expression, ArmList, arm}
use Rattle.gcl_core.specs.meaning.Views.{expression_of, statement_of, statements_of, list_of_arms}
use Rattle.gcl_core.specs.text.Grammar.{ReadsPhrase, operator, leaf, ReadsStatement, ReadsStatements, ReadsBlock, ReadsElse, ReadsArms}
use Rattle.gcl_core.specs.text.Levels.{level_of}
use Rattle.gcl_parse.specs.inner.Starts.{begins_with, begun}
use Rattle.gcl_core.specs.text.Levels.{rank}
use Rattle.gcl_parse.specs.inner.Pushdown.{Symbol, phrase, stmts, block, otherwise, after_start, number, sym, key, arm_and_more, run, stops}

-- the operator of this level that a token is
abbrev pub if_of : Level → BinOp → Option BinOp
if_of l o = if rank (level_of o) == rank l then Some o else None

abbrev pub operator_at : Level → Option Word → Option BinOp
operator_at l None = None
operator_at l (Some v) = option_and_then (if_of l) (operator v)

abbrev pub leaf_at : Option Word → Option Expression
leaf_at None = None
leaf_at (Some v) = leaf v

abbrev pub is_row : Level → Bool
is_row l.Or = true
is_row l.And = true
is_row l.Sum = true
is_row l.Product = true
is_row _ = false

-- Words were passed that are all that these symbols expect, whatever is expected behind them.
pub record Passes (xs : List Symbol) (old new : List Word) : Type 0 where
  pub runs : (s : List Symbol) → run old (xs ++ s) ≡ run new s

-- The first word of `new` can't stand where it does, or more words are needed, whatever is expected behind these symbols.
pub record Fails (xs : List Symbol) (old : List Word) (e : Halt) (new : List Word) : Type 0 where
  pub halts : e ≡ Unexpected → (s : List Symbol) → run old (xs ++ s) ≡ stops new

-- an expression of this level
abbrev pub Parses : Level → List Word → Result Expr Halt → List Word → Type 0
Parses l old (Ok e) new = ReadsPhrase l old (expression_of e) new × Passes (phrase l ∷ []) old new × (length new < length old)
Parses l old (Err e) new = Fails (phrase l ∷ []) old e new

-- takes this token, which the symbol expects
abbrev pub TakesWord : Symbol → Word → List Word → Result (Unit {0}) Halt → List Word → Type 0
TakesWord x v old (Ok e) new = (old ≡ v ∷ new) × Passes (x ∷ []) old new × (length new < length old)
TakesWord x v old (Err e) new = Fails (x ∷ []) old e new

-- takes a number
abbrev pub TakesNumber : List Word → Result ℕ Halt → List Word → Type 0
TakesNumber old (Ok n) new = (old ≡ w.Number n ∷ new) × Passes (number ∷ []) old new × (length new < length old)
TakesNumber old (Err e) new = Fails (number ∷ []) old e new

-- statements up to one that can't begin here
abbrev pub ParsesAll : List Word → Result Block Halt → List Word → Type 0
ParsesAll old (Ok b) new = ReadsStatements old (statements_of b) new × Passes (stmts ∷ []) old new × (length new ≤ length old)
ParsesAll old (Err e) new = Fails (stmts ∷ []) old e new

abbrev pub ParsesBlock : List Word → Result Block Halt → List Word → Type 0
ParsesBlock old (Ok b) new = ReadsBlock old (statements_of b) new × Passes (block ∷ []) old new × (length new < length old)
ParsesBlock old (Err e) new = Fails (block ∷ []) old e new

abbrev pub ParsesElse : List Word → Result Block Halt → List Word → Type 0
ParsesElse old (Ok b) new = ReadsElse old (statements_of b) new × Passes (otherwise ∷ []) old new × (length new ≤ length old)
ParsesElse old (Err e) new = Fails (otherwise ∷ []) old e new

-- `NUMBER : block`
abbrev pub one_arm : List Symbol
one_arm = number ∷ sym y.Colon ∷ block ∷ []

-- the words behind `NUMBER :`, which is at the front of these
pub record BehindPart (n : ℕ) (ts : List Word) : Type 0 where
  pub rest : List Word
  pub front : ts ≡ w.Number n ∷ w.Sym y.Colon ∷ rest

abbrev pub ParsesArm : List Word → Result (ℕ × Block) Halt → List Word → Type 0
ParsesArm old (Ok a) new =
    (f : BehindPart a.0 old) × ReadsBlock f.rest (statements_of a.1) new × Passes one_arm old new × (length new < length old)
ParsesArm old (Err e) new = Fails one_arm old e new

-- these arms, and then those
abbrev pub arms_before : List (ℕ × Block) → ArmList → ArmList
arms_before [] arms = arms
arms_before (a ∷ found) arms = arm a.0 (statements_of a.1) (arms_before found arms)

-- an arm and at most n behind it, up to the brace behind them; these arms were found before
abbrev pub ParsesArms : ℕ → List (ℕ × Block) → List Word → Result Arms Halt → List Word → Type 0
ParsesArms n found old (Ok a) new =
    (arms : ArmList) × (list_of_arms a ≡ arms_before found arms) × ReadsArms (suc n) old arms (w.Sym y.RightBrace ∷ new)
    × Passes (arm_and_more n) old new × (length new < length old)
ParsesArms n found old (Err e) new = Fails (arm_and_more n) old e new

-- a statement whose first tokens are taken already, where these symbols are what is still expected of it
abbrev pub ParsesAs : List Symbol → List Word → List Word → Result Stmt Halt → List Word → Type 0
ParsesAs xs taken old (Ok x) new =
    ReadsStatement (taken ++ old) (statement_of x) new × Passes xs old new × (length new < length old)
ParsesAs xs taken old (Err e) new = Fails xs old e new

abbrev pub ParsesRest : Start → List Word → Result Stmt Halt → List Word → Type 0
ParsesRest b = ParsesAs (after_start b) (begun b ∷ [])

-- `:= expr ;` behind its first token, and `~ uniform ( expr ) ;`
abbrev pub assignment : List Symbol
assignment = phrase l.Or ∷ sym y.Semicolon ∷ []

abbrev pub draw : List Symbol
draw = sym y.Tilde ∷ key k.Uniform ∷ sym y.LeftParen ∷ phrase l.Or ∷ sym y.RightParen ∷ sym y.Semicolon ∷ []

abbrev pub ParsesAssignment : ℕ → List Word → Result Stmt Halt → List Word → Type 0
ParsesAssignment i = ParsesAs assignment (w.Name i ∷ w.Sym y.Assign ∷ [])

abbrev pub ParsesDraw : ℕ → List Word → Result Stmt Halt → List Word → Type 0
ParsesDraw i = ParsesAs draw (w.Name i ∷ [])

abbrev pub start_at : Option Word → Option Start
start_at None = None
start_at (Some v) = begins_with v
