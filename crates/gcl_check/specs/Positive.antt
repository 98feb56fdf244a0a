-- Statements in which no denominator is 0, and no sum of the parts of a choice among several.
use Rattle.std.specs.Prelude.{ℕ, ◌≤◌, List}
use Rattle.std.specs.List.{sum}
use Rattle.gcl_core.specs.declared.syntax.Weight.{Weight}
use Rattle.gcl_core.specs.meaning.Bounds.{StatementWeights, BlockWeights, ArmsWeights}
use Rattle.gcl_core.specs.meaning.Syntax.{Statement, Statements, ArmList}

abbrev pub OverSome : Weight → Type 0
OverSome w = 1 ≤ w.den

abbrev pub HaveSum : List ℕ → Type 0
HaveSum ps = 1 ≤ sum ps

abbrev pub StatementIsPositive : Statement → Type 0
StatementIsPositive = StatementWeights OverSome HaveSum

abbrev pub BlockIsPositive : Statements → Type 0
BlockIsPositive = BlockWeights OverSome HaveSum

abbrev pub ArmsArePositive : ArmList → Type 0
ArmsArePositive = ArmsWeights OverSome HaveSum
