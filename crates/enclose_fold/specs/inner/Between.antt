-- The statements of a block from one place to another.
use Rattle.std.specs.Prelude.{ℕ, ◌-◌, List, take, drop}
use Rattle.gcl_core.specs.declared.syntax.Stmt.{Stmt}
use Rattle.gcl_core.specs.meaning.Syntax.{Statements}
use Rattle.gcl_core.specs.meaning.Views.{list_of}

abbrev pub part : ℕ → ℕ → List Stmt → List Stmt
part from to xs = take (to - from) (drop from xs)

abbrev pub between : ℕ → ℕ → List Stmt → Statements
between from to xs = list_of (part from to xs)
