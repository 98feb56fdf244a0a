-- What the reader of a program answers.
use Rattle.std.specs.Prelude.{◌≡◌, List, [], Result, Ok, Err}
use Rattle.gcl_core.specs.declared.syntax.Block.{Block}
use Rattle.gcl_core.specs.declared.syntax.Expr.{Expr}
use Rattle.gcl_core.specs.declared.words.Word.{Word}
use Rattle.gcl_core.specs.meaning.Views.{expression_of, statements_of}
use Rattle.gcl_core.specs.text.Grammar.{ReadsProgram}
use Rattle.gcl_parse.specs.declared.parser.Halt.{Halt}
use Rattle.gcl_parse.specs.declared.parser.Halt.TheVariants.{Unexpected}
use Rattle.gcl_parse.specs.inner.Pushdown.{a_program, run, stops}
use Rattle.gcl_parse.specs.inner.Parses.{Passes, Fails}

-- statements and `return expr ;`, whatever stands behind them
abbrev pub ParsesWhole : List Word → Result (Block × Expr) Halt → List Word → Type 0
ParsesWhole old (Ok p) new = ReadsProgram old (statements_of p.0) (expression_of p.1) new × Passes a_program old new
ParsesWhole old (Err e) new = Fails a_program old e new

-- the words are no program from here on
pub record StopsShort (old : List Word) (e : Halt) (new : List Word) : Type 0 where
  pub here : e ≡ Unexpected → run old a_program ≡ stops new

-- all words
abbrev pub ParsesProgram : List Word → Result (Block × Expr) Halt → List Word → Type 0
ParsesProgram old (Ok p) new = ReadsProgram old (statements_of p.0) (expression_of p.1) []
ParsesProgram old (Err e) new = StopsShort old e new
