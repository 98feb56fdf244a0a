use Rattle.std.proofs.Common.{◌≡◌, ◌≤◌, drop, length, ◌-◌}
use Rattle.std.specs.List.{sum}
use Rattle.gcl_core.specs.meaning.Arms.{parts_of}
use Rattle.gcl_core.specs.meaning.Bounds.{ArmsAreWeighed, ArmsBelow}
use Rattle.gcl_core.specs.meaning.Views.{list_of, arm_list_of, list_of_arms, expression_of, statements_of}
use Rattle.mass_fold.proofs.ArmsLeft.{parts_left}
use Rattle.enclose_fold.specs.inner.Between.{between}
use Rattle.enclose_fold.proofs.ByStates.{StatesAt}
use Rattle.enclose_fold.proofs.CycleArms.{ArmsAt}
use Rattle.enclose_fold.proofs.CycleFlows.{Goes}
use Rattle.gcl_core.specs.meaning.Value.{value_of}
use Rattle.enclose_fold.proofs.CycleLoops.{LoopAt}
use Rattle.enclose_fold.proofs.fold.Fold.+fold.Given as goal

abbrev pub invariant-arms-loop-count : goal.invariant-arms-loop-count
invariant-arms-loop-count l = record {
  vars : l.out.vars ≡ l.table.vars;
  below : ArmsBelow l.table.vars (arm_list_of (drop l.count-index l.count-items));
  weights : ArmsAreWeighed (arm_list_of (drop l.count-index l.count-items));
  few : sum (parts_left l.count-items l.count-index) ≤ sum (parts_of (list_of_arms l.arms));
  so_far : ArmsAt l.self.turns l.self.attempts (sum (parts_of (list_of_arms l.arms))) (list_of_arms l.arms) l.table.states.entries l.fn.ended
      (arm_list_of (drop l.count-index l.count-items)) l.out.states.entries l.ended;
}

abbrev pub decreases-block-loop-from : goal.decreases-block-loop-from
decreases-block-loop-from l = length l.b.stmts.items - l.from

abbrev pub invariant-block-loop-from : goal.invariant-block-loop-from
invariant-block-loop-from l = record {
  place : l.from ≤ length l.b.stmts.items;
  vars : l.now.vars ≡ l.fn.table.vars;
  so_far : Goes l.self.turns l.self.attempts (list_of l.b.stmts.items) l.fn.table.states.entries l.fn.ended (list_of (drop l.from l.b.stmts.items)) l.now.states.entries l.ended;
}

abbrev pub invariant-between-loop-at : goal.invariant-between-loop-at
invariant-between-loop-at l = record {
  vars : l.now.vars ≡ l.fn.table.vars;
  so_far : Goes l.self.turns l.self.attempts (between l.from l.to l.b.stmts.items) l.fn.table.states.entries l.fn.ended (between l.at l.to l.b.stmts.items) l.now.states.entries l.ended;
}

abbrev pub invariant-from_to-loop-s : goal.invariant-from_to-loop-s
invariant-from_to-loop-s l = record {
  next : (goal.iterator-from_to-loop-s).can_next l.s-iterator;
  finite : (goal.iterator-from_to-loop-s).is_finite l.s-iterator;
  vars : l.out.vars ≡ l.fn.table.vars;
  so_far : StatesAt l.self.turns l.self.attempts (between l.from l.to l.b.stmts.items) l.fn.table.states.entries l.fn.ended l.fn.table.once l.s-iterator l.out.states.entries l.ended;
}

abbrev pub invariant-while_loop-loop : goal.invariant-while_loop-loop
invariant-while_loop-loop l = record {
  now_vars : l.now.vars ≡ l.fn.table.vars;
  exits_vars : l.exits.vars ≡ l.fn.table.vars;
  so_far : LoopAt l.self.turns l.self.attempts (value_of (expression_of l.e)) (statements_of l.body) l.fn.table.states.entries l.fn.ended (l.self.turns - l.counter) l.now.states.entries l.exits.states.entries l.ended;
}
