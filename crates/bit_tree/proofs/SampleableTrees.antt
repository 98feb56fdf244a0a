-- The tied tree of a program is sampleable.
use Rattle.std.proofs.Common.{ℕ, length, Option, Some, None}
use Rattle.gcl_core.specs.meaning.Syntax.{Statement, Skip, Set, If, While, Choice, Choose, Uniform, Observe, Statements, done, ◌▸◌, ArmList, no_arm, arm, SourceProgram}
use Rattle.gcl_core.specs.meaning.Bounds.{StatementBelow, BlockBelow, ArmsBelow, VariablesBelow, BlockIsWeighed}
use Rattle.choice_tree.specs.Tree.{ChoiceTree, ChoiceTrees}
use Rattle.choice_tree.specs.TreeOf.{in_front, member_of, members_of, arm_trees, tree_of}
use Rattle.choice_tree.proofs.WellFormedTrees.{members_well_formed}
use Rattle.bit_tree.specs.Sampleable.{TreeBelow, RowBelow, TiedIsSampleable}
use Rattle.bit_tree.specs.Debiased.{debiased, row_debiased, tied_tree}
use Rattle.bit_tree.proofs.Decided.{debiased_coalesced, debiased_arms}

module _ (vars : ℕ) where
  abbrev MemberBelow : Option ChoiceTree → Type 0
  MemberBelow None = Unit {0}
  MemberBelow (Some t) = TreeBelow vars (debiased t)

  front_below : (o : Option ChoiceTree) (ts : ChoiceTrees) → MemberBelow o → RowBelow vars (row_debiased ts) → RowBelow vars (row_debiased (in_front o ts))
  front_below None ts a b = b
  front_below (Some t) ts a b = (a, b)

  mutual
    member_below : (s : Statement) → StatementBelow vars s → MemberBelow (member_of s)
    member_below Skip h = tt
    member_below (Set x e) h = h
    member_below (If e a c) h = (h.0, members_below a h.1, members_below c h.2)
    member_below (While e a) h = (h.0, members_below a h.1)
    member_below (Choice p a c) h = (members_below a h.0, (members_below c h.1, tt))
    member_below (Choose arms) h = arms_below arms h
    member_below (Uniform x e) h = h
    member_below (Observe e) h = (h, tt, tt)

    pub members_below : (b : Statements) → BlockBelow vars b → RowBelow vars (row_debiased (members_of b))
    members_below done h = tt
    members_below (s ▸ b) h = front_below (member_of s) (members_of b) (member_below s h.0) (members_below b h.1)

    arms_below : (arms : ArmList) → ArmsBelow vars arms → RowBelow vars (row_debiased (arm_trees arms))
    arms_below no_arm h = tt
    arms_below (arm p b arms) h = (members_below b h.0, arms_below arms h.1)

pub sampleable_tied : (p : SourceProgram) → BlockIsWeighed p.body → VariablesBelow p → TiedIsSampleable (tied_tree p)
sampleable_tied p weighed h = record {
  coalesced = debiased_coalesced (tree_of p.body);
  arms = debiased_arms (tree_of p.body) (members_well_formed p.body weighed);
  variables = members_below (length p.names) p.body h.body;
  result = h.result;
}
