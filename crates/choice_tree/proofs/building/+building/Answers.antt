use Rattle.std.proofs.Common.{◌≡◌, ◌+◌, ap, sym, ◌∙◌, subst}
use Rattle.std.proofs.lemmas.List.{at_drop_all}
use Rattle.std.specs.Option.{option_map}
use Rattle.gcl_core.specs.meaning.Views as statements
use Rattle.gcl_core.specs.meaning.Views.{statement_of, arm_list_of}
use Rattle.choice_tree.specs.Tree.{Row}
use Rattle.choice_tree.specs.TreeOf.{member_of, members_of, arm_trees}
use Rattle.choice_tree.specs.Views.{choice_tree_of}
use Rattle.choice_tree.proofs.Rows.{Built, members_from, built_all, built_one, next_member, next_arm}
use Rattle.choice_tree.proofs.ViewLemmas.{row_view}
use Rattle.choice_tree.proofs.building.+building.Goals.{row-in-Some+in_ok-push, row-in_default}
use Rattle.choice_tree.proofs.ViewLemmas.{row_view}
use Rattle.choice_tree.proofs.building.+building.Goals as goal

pub row-loop-s-preserved : goal.row-loop-s-preserved
row-loop-s-preserved t c =
    let next = next_member _ _ c.s-item.result c.loop-s-test.true c.s-item.is in
    elim c.match-branch-2.branch [
      | row-in-Some+in_ok-push w ↦ built_one _ _ _ c.loop-s.invariant _ _ w.in-Some.member (ap (λ v. v.items) w.members-is ∙ w.in_ok-push.ensures.items)
          (next _ (subst (λ o. option_map choice_tree_of o ≡ member_of (statement_of c.s-item.result)) w.in-Some.is c.in_ok-member.ensures))
      | row-in_default w ↦ subst (λ v. Built v.items (members_from (c.loop-s.s-index + 1) c.deref-s-items.result.now) (members_from 0 c.deref-s-items.result.now)) (sym w.members-is)
          (subst (λ rest. Built c.loop-s.members.items rest (members_from 0 c.deref-s-items.result.now))
          (next _ (subst (λ o. option_map choice_tree_of o ≡ member_of (statement_of c.s-item.result)) w.in_default.is c.in_ok-member.ensures)) c.loop-s.invariant)
    ]

pub row-returns : goal.row-returns
row-returns t c =
    built_all _ _ _ c.loop-s.invariant (at_drop_all (λ l. members_of (statements.list_of l)) _ _ c.loop-s-test.false) ∙ ap (λ l. members_of (statements.list_of l)) c.deref-s-items.ensures.value

pub arm_row-loop-block-preserved : goal.arm_row-loop-block-preserved
arm_row-loop-block-preserved t c =
    let tree = row_view _ ∙ ap Row c.in_ok-row.ensures in
    built_one _ _ _ c.loop-block.invariant _ _ _ c.in_ok-push.ensures.items (next_arm _ _ c.loop-block-item.result c.loop-block-test.true c.loop-block-item.is _ tree)

pub arm_row-returns : goal.arm_row-returns
arm_row-returns t c =
    built_all _ _ _ c.loop-block.invariant (at_drop_all (λ l. arm_trees (arm_list_of l)) _ _ c.loop-block-test.false) ∙ ap (λ l. arm_trees (arm_list_of l)) c.deref-block-items.ensures.value
