-- The tree of a block with such weights and parts is well formed.
use Rattle.std.proofs.Common.{◌≡◌, length, Option, Some, None, refl, arith}
use Rattle.gcl_core.specs.meaning.Arms.{parts_of}
use Rattle.gcl_core.specs.meaning.Bounds.{StatementIsWeighed, BlockIsWeighed, ArmsAreWeighed}
use Rattle.gcl_core.specs.meaning.Syntax.{Statement, Skip, Set, If, While, Choice, Choose, Uniform, Observe, Statements, done, ◌▸◌, ArmList, no_arm, arm}
use Rattle.choice_tree.specs.Tree.{ChoiceTree, ChoiceTrees}
use Rattle.choice_tree.specs.TreeRows.{count}
use Rattle.choice_tree.specs.TreeOf.{in_front, member_of, members_of, arm_trees}
use Rattle.choice_tree.specs.WellFormed.{IsWellFormed, AreWellFormed}

abbrev MemberIsWellFormed : Option ChoiceTree → Type 0
MemberIsWellFormed None = Unit {0}
MemberIsWellFormed (Some t) = IsWellFormed t

well_formed_front : (o : Option ChoiceTree) (ts : ChoiceTrees) → MemberIsWellFormed o → AreWellFormed ts → AreWellFormed (in_front o ts)
well_formed_front None ts a b = b
well_formed_front (Some t) ts a b = (a, b)

-- one part for each tree of an arm
pub tree_for_each : (arms : ArmList) → length (parts_of arms) ≡ count (arm_trees arms)
tree_for_each no_arm = refl
tree_for_each (arm p b arms) = let e = tree_for_each arms in omega (arith, e)

mutual
  member_well_formed : (s : Statement) → StatementIsWeighed s → MemberIsWellFormed (member_of s)
  member_well_formed Skip h = tt
  member_well_formed (Set x e) h = tt
  member_well_formed (If e a c) h = (members_well_formed a h.0, members_well_formed c h.1)
  member_well_formed (While e a) h = members_well_formed a h
  member_well_formed (Choice p a c) h = (h.0, members_well_formed a h.1, members_well_formed c h.2)
  member_well_formed (Choose arms) h = (h.0, tree_for_each arms, arms_well_formed arms h.1)
  member_well_formed (Uniform x e) h = tt
  member_well_formed (Observe e) h = (tt, tt)

  pub members_well_formed : (b : Statements) → BlockIsWeighed b → AreWellFormed (members_of b)
  members_well_formed done h = tt
  members_well_formed (s ▸ b) h = well_formed_front (member_of s) (members_of b) (member_well_formed s h.0) (members_well_formed b h.1)

  arms_well_formed : (arms : ArmList) → ArmsAreWeighed arms → AreWellFormed (arm_trees arms)
  arms_well_formed no_arm h = tt
  arms_well_formed (arm p b arms) h = (members_well_formed b h.0, arms_well_formed arms h.1)
