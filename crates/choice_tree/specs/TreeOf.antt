-- The tree of a block: a row of the trees of its statements, in their order. A choice among several has the parts and the trees
-- of its arms.
use Rattle.std.specs.Prelude.{Option, Some, None}
use Rattle.gcl_core.specs.meaning.Arms.{parts_of}
use Rattle.gcl_core.specs.meaning.Syntax.{Statement, Statements, done, ◌▸◌, ArmList, no_arm, arm}
use Rattle.gcl_core.specs.meaning.Syntax as source
use Rattle.choice_tree.specs.Tree.{ChoiceTree, Fail, Set, Test, Choice, Choose, Uniform, Row, Fix, ChoiceTrees, no_tree, ◌▹◌}

-- the trees, with one more in front where there is one
abbrev pub in_front : Option ChoiceTree → ChoiceTrees → ChoiceTrees
in_front None ts = ts
in_front (Some t) ts = t ▹ ts

abbrev mutual
  -- the tree of a statement; a `skip` has none
  pub member_of : Statement → Option ChoiceTree
  member_of source.Skip = None
  member_of (source.Set x e) = Some (Set x e)
  member_of (source.If e a c) = Some (Test e (Row (members_of a)) (Row (members_of c)))
  member_of (source.While e a) = Some (Fix e (Row (members_of a)))
  member_of (source.Choice p a c) = Some (Choice p (Row (members_of a)) (Row (members_of c)))
  member_of (source.Choose arms) = Some (Choose (parts_of arms) (arm_trees arms))
  member_of (source.Uniform x e) = Some (Uniform x e)
  member_of (source.Observe e) = Some (Test e (Row no_tree) Fail)

  pub members_of : Statements → ChoiceTrees
  members_of done = no_tree
  members_of (s ▸ b) = in_front (member_of s) (members_of b)

  pub arm_trees : ArmList → ChoiceTrees
  arm_trees no_arm = no_tree
  arm_trees (arm p b arms) = Row (members_of b) ▹ arm_trees arms

abbrev pub tree_of : Statements → ChoiceTree
tree_of b = Row (members_of b)
