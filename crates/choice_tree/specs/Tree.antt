-- Choice-fix trees as plain data, with no boxes and no vectors. The trees are those of Bagnall, Stewart and Banerjee (PLDI 2023),
-- with choices among several arms and draws below a bound as forms of their own.
use Rattle.std.specs.Prelude.{ℕ, List}
use Rattle.gcl_core.specs.declared.syntax.Weight.{Weight}
use Rattle.gcl_core.specs.meaning.Syntax.{Expression}

infixr 5 ◌▹◌
mutual
  pub data ChoiceTree : Type 0 where
    Fail : ChoiceTree
    Set : ℕ → Expression → ChoiceTree
    Test : Expression → ChoiceTree → ChoiceTree → ChoiceTree
    Choice : Weight → ChoiceTree → ChoiceTree → ChoiceTree
    Choose : List ℕ → ChoiceTrees → ChoiceTree
    Uniform : ℕ → Expression → ChoiceTree
    Row : ChoiceTrees → ChoiceTree
    Fix : Expression → ChoiceTree → ChoiceTree

  pub data ChoiceTrees : Type 0 where
    no_tree : ChoiceTrees
    ◌▹◌ : ChoiceTree → ChoiceTrees → ChoiceTrees
