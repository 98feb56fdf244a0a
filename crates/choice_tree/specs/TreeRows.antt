-- Rows of trees: how many there are, and which stands at a place.
use Rattle.std.specs.Prelude.{ℕ, zero, suc, ◌+◌, Option, Some, None}
use Rattle.choice_tree.specs.Tree.{ChoiceTree, ChoiceTrees, no_tree, ◌▹◌}

-- how many trees a row has
abbrev pub count : ChoiceTrees → ℕ
count no_tree = 0
count (t ▹ ts) = 1 + count ts

-- the tree at a place, counted from 0
abbrev pub tree_at : ChoiceTrees → ℕ → Option ChoiceTree
tree_at no_tree i = None
tree_at (t ▹ ts) zero = Some t
tree_at (t ▹ ts) (suc i) = tree_at ts i
