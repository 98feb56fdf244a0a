-- The plain data that a choice-fix tree of the code stands for. Trees are compared by it, and by nothing else.
use Rattle.std.specs.Prelude.{List, [], ◌∷◌}
use Rattle.gcl_core.specs.meaning.Views.{expression_of}
use Rattle.choice_tree.specs.declared.tree.Cf.{Cf, Row_of-Cf, end_of-Cf, more_of-Cf}
use Rattle.choice_tree.specs.declared.tree.Cf.TheVariants as cf
use Rattle.choice_tree.specs.declared.tree.CfRow.{CfRow}
use Rattle.choice_tree.specs.Tree.{ChoiceTree, Fail, Set, Test, Choice, Choose, Uniform, Row, Fix, ChoiceTrees, no_tree, ◌▹◌}

-- a row is how the logic holds the members of a tree inside it
unfoldable mutual
  pub choice_tree_of : Cf → ChoiceTree
  choice_tree_of cf.Fail = Fail
  choice_tree_of (cf.Set x e) = Set x (expression_of e)
  choice_tree_of (cf.Test' e _ a _ c) = Test (expression_of e) (choice_tree_of a) (choice_tree_of c)
  choice_tree_of (cf.Choice' p _ a _ c) = Choice p (choice_tree_of a) (choice_tree_of c)
  choice_tree_of (cf.Choose' ps _ ts) = Choose ps (row_of ts)
  choice_tree_of (cf.Uniform x e) = Uniform x (expression_of e)
  choice_tree_of (cf.Row' _ ts) = Row (row_of ts)
  choice_tree_of (cf.Fix' e _ a) = Fix (expression_of e) (choice_tree_of a)

  pub row_of : {n : _} → Row_of-Cf n → ChoiceTrees
  row_of end_of-Cf = no_tree
  row_of (more_of-Cf t rest) = choice_tree_of t ▹ row_of rest

abbrev pub list_of : List Cf → ChoiceTrees
list_of [] = no_tree
list_of (t ∷ ts) = choice_tree_of t ▹ list_of ts

abbrev pub choice_trees_of : CfRow → ChoiceTrees
choice_trees_of r = list_of r.members.items
