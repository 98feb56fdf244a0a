-- Well-formed trees: each weight is at most 1 over a number in range, and a choice among several arms has such parts, one for
-- each arm.
use Rattle.std.specs.Prelude.{◌≡◌, length}
use Rattle.gcl_core.specs.meaning.Bounds.{IsWeight, AreParts}
use Rattle.choice_tree.specs.Tree.{ChoiceTree, Fail, Set, Test, Choice, Choose, Uniform, Row, Fix, ChoiceTrees, no_tree, ◌▹◌}
use Rattle.choice_tree.specs.TreeRows.{count}

abbrev mutual
  pub IsWellFormed : ChoiceTree → Type 0
  IsWellFormed Fail = Unit {0}
  IsWellFormed (Set x e) = Unit {0}
  IsWellFormed (Test e a c) = IsWellFormed a × IsWellFormed c
  IsWellFormed (Choice p a c) = IsWeight p × IsWellFormed a × IsWellFormed c
  IsWellFormed (Choose ps ts) = AreParts ps × (length ps ≡ count ts) × AreWellFormed ts
  IsWellFormed (Uniform x e) = Unit {0}
  IsWellFormed (Row ts) = AreWellFormed ts
  IsWellFormed (Fix e a) = IsWellFormed a

  pub AreWellFormed : ChoiceTrees → Type 0
  AreWellFormed no_tree = Unit {0}
  AreWellFormed (t ▹ ts) = IsWellFormed t × AreWellFormed ts
