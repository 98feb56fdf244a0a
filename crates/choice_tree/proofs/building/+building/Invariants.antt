use Rattle.choice_tree.proofs.Rows.{Built, members_from, arms_from}
use Rattle.choice_tree.proofs.building.+building.Given as goal

abbrev pub invariant-row-loop-s : goal.invariant-row-loop-s
invariant-row-loop-s l = Built l.members.items (members_from l.s-index l.s-items) (members_from 0 l.s-items)

abbrev pub invariant-arm_row-loop-block : goal.invariant-arm_row-loop-block
invariant-arm_row-loop-block l = Built l.members.items (arms_from l.block-index l.block-items) (arms_from 0 l.block-items)
