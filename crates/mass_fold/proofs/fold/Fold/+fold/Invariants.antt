use Rattle.std.proofs.Common.{◌≡◌, ◌-◌, ◌≤◌, ℕ, drop}
use Rattle.std.specs.List.{sum}
use Rattle.gcl_core.specs.meaning.Arms.{parts_of}
use Rattle.gcl_core.specs.meaning.Parts.{partial_sums}
use Rattle.gcl_core.specs.meaning.Syntax.{Choose}
use Rattle.gcl_core.specs.meaning.Bounds.{BlockIsWeighed, ArmsAreWeighed, BlockBelow, ArmsBelow}
use Rattle.gcl_core.specs.meaning.Views.{list_of, arm_list_of, list_of_arms, expression_of, statements_of}
use Rattle.gcl_core.specs.meaning.Value.{value_of}
use Rattle.table_flow.specs.Tables.{statement_flow, block_flow}
use Rattle.table_flow.proofs.FlowWords.{arms_flow, loop_flow, statement_draws, block_draws, arms_draws, loop_draws}
use Rattle.mass_fold.specs.declared.meter.Meter.{Meter}
use Rattle.mass_fold.specs.inner.Fold.{LoopsOn, AfterUndecided}
use Rattle.mass_fold.specs.inner.Metering.{CountsDraws}
use Rattle.mass_fold.proofs.Folds.{FoldsOn, BlamesOn}
use Rattle.mass_fold.proofs.MeterFolds.{MetersOn}
use Rattle.mass_fold.proofs.MeterLoops.{MetersLoop}
use Rattle.mass_fold.proofs.ArmFolds.{ArmsOn}
use Rattle.mass_fold.proofs.ArmMeters.{ArmsMetered}
use Rattle.mass_fold.proofs.ArmsLeft.{parts_left}
use Rattle.mass_fold.proofs.fold.Fold.+fold.Given as goal

abbrev pub invariant-block-loop-s : goal.invariant-block-loop-s
invariant-block-loop-s l = record {
  below : (m : ℕ) → BlockBelow m (list_of l.s-items) → BlockBelow m (list_of (drop l.s-index l.s-items));
  weights : BlockIsWeighed (list_of l.s-items) → BlockIsWeighed (list_of (drop l.s-index l.s-items));
  vars : l.now.vars ≡ l.fn.table.vars;
  so_far : FoldsOn l.self.turns l.self.attempts.most (block_flow l.self.turns l.self.attempts.most (list_of l.s-items)) (list_of (drop l.s-index l.s-items))
      l.fn.table.states.entries l.fn.ended l.now.states.entries l.ended;
  bits : MetersOn l.self.turns l.self.attempts.most (block_flow l.self.turns l.self.attempts.most (list_of l.s-items)) (block_draws l.self.turns l.self.attempts.most (list_of l.s-items))
      (list_of (drop l.s-index l.s-items)) l.fn.table.states.entries l.fn.ended l.fn.meter l.now.states.entries l.ended l.meter;
  blames : BlamesOn l.self.turns l.self.attempts.most (block_flow l.self.turns l.self.attempts.most (list_of l.s-items)) (list_of (drop l.s-index l.s-items))
      l.fn.table.states.entries l.fn.ended l.now.states.entries l.ended;
}

abbrev pub invariant-while_loop-loop : goal.invariant-while_loop-loop
invariant-while_loop-loop l = record {
  now_vars : l.now.vars ≡ l.fn.table.vars;
  exits_vars : l.exits.vars ≡ l.fn.table.vars;
  so_far : LoopsOn (loop_flow (value_of (expression_of l.e)) (block_flow l.self.turns l.self.attempts.most (statements_of l.body))) l.self.turns (l.self.turns - l.counter)
      l.fn.table.states.entries l.fn.ended l.now.states.entries l.exits.states.entries l.ended;
  bits : MetersLoop l.self.attempts.most (loop_flow (value_of (expression_of l.e)) (block_flow l.self.turns l.self.attempts.most (statements_of l.body)))
      (loop_draws (value_of (expression_of l.e)) (block_flow l.self.turns l.self.attempts.most (statements_of l.body)))
      l.self.turns (l.self.turns - l.counter) l.fn.table.states.entries l.fn.ended l.now.states.entries l.exits.states.entries l.ended l.fn.meter l.meter;
}

abbrev pub invariant-arms-loop-count : goal.invariant-arms-loop-count
invariant-arms-loop-count l = record {
  vars : l.out.vars ≡ l.table.vars;
  below : ArmsBelow l.table.vars (arm_list_of (drop l.count-index l.count-items));
  weights : ArmsAreWeighed (arm_list_of (drop l.count-index l.count-items));
  few : sum (parts_left l.count-items l.count-index) ≤ sum (parts_of (list_of_arms l.arms));
  so_far : AfterUndecided (sum (parts_of (list_of_arms l.arms))) l.self.attempts.most l.table.states.entries l.fn.ended
      (λ E. ArmsOn (statement_flow l.self.turns l.self.attempts.most (Choose (list_of_arms l.arms))) (arms_flow l.self.turns l.self.attempts.most (sum (parts_of (list_of_arms l.arms))) (arm_list_of (drop l.count-index l.count-items)))
      l.table.states.entries E l.out.states.entries l.ended);
  bits : AfterUndecided (sum (parts_of (list_of_arms l.arms))) l.self.attempts.most l.table.states.entries l.fn.ended
      (λ E. (m : Meter) → CountsDraws l.self.attempts.most (sum (parts_of (list_of_arms l.arms))) (partial_sums (parts_of (list_of_arms l.arms))) l.table.states.entries m l.fn.meter →
      ArmsMetered l.self.attempts.most (statement_flow l.self.turns l.self.attempts.most (Choose (list_of_arms l.arms))) (statement_draws l.self.turns l.self.attempts.most (Choose (list_of_arms l.arms)))
      (arms_draws l.self.turns l.self.attempts.most (sum (parts_of (list_of_arms l.arms))) (arm_list_of (drop l.count-index l.count-items))) l.table.states.entries E m l.meter);
}
