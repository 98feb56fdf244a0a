-- Rows of trees: how many there are, and which stands at a place.
use Rattle.std.specs.Prelude.{ℕ, zero, suc, ◌+◌, Option, Some, None}
use Rattle.bit_tree.specs.Tree.{BitTree, BitTrees, done, ◌▸◌}

-- how many trees a row has
abbrev pub count : BitTrees → ℕ
count done = 0
count (t ▸ ts) = 1 + count ts

-- the tree at a place, counted from 0
abbrev pub tree_at : BitTrees → ℕ → Option BitTree
tree_at done i = None
tree_at (t ▸ ts) zero = Some t
tree_at (t ▸ ts) (suc i) = tree_at ts i
