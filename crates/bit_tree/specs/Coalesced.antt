-- Trees on bits with each draw coalesced. Coalescing is a pass of the compiler of Bagnall, Stewart and Banerjee (PLDI 2023).
use Rattle.bit_tree.specs.Tree.{BitTree, Fail, Set, Test, Pick, Range, Row, Fix, BitTrees, done, ◌▸◌}
use Rattle.draw_tree.specs.Coalescing.{coalesced}

-- each draw is coalesced, and nothing else changes
abbrev mutual
  pub all_coalesced : BitTree → BitTree
  all_coalesced Fail = Fail
  all_coalesced (Set x e) = Set x e
  all_coalesced (Test e a c) = Test e (all_coalesced a) (all_coalesced c)
  all_coalesced (Pick d arms) = Pick (coalesced d) (row_coalesced arms)
  all_coalesced (Range x e) = Range x e
  all_coalesced (Row ts) = Row (row_coalesced ts)
  all_coalesced (Fix e a) = Fix e (all_coalesced a)

  pub row_coalesced : BitTrees → BitTrees
  row_coalesced done = done
  row_coalesced (t ▸ ts) = all_coalesced t ▸ row_coalesced ts
