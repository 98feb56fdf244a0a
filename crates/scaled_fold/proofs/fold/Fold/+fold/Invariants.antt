use Rattle.std.proofs.Common.{◌≡◌, ◌≤◌, ℕ, drop, ◌-◌}
use Rattle.std.specs.List.{sum}
use Rattle.gcl_core.specs.meaning.Arms.{parts_of}
use Rattle.gcl_core.specs.meaning.Bounds.{BlockIsWeighed, BlockBelow, ArmsAreWeighed, ArmsBelow}
use Rattle.gcl_core.specs.meaning.Views.{list_of, arm_list_of, list_of_arms, expression_of, statements_of}
use Rattle.mass_fold.proofs.ArmsLeft.{parts_left}
use Rattle.scaled_law.specs.Scaled.{Scaled}
use Rattle.scaled_fold.specs.inner.Folding.{arms_begun}
use Rattle.scaled_fold.specs.inner.Holding.{Holds}
use Rattle.scaled_fold.proofs.Folding.{Goes, Turns, Arms}
use Rattle.scaled_fold.proofs.fold.Fold.+fold.Given as goal

abbrev pub invariant-block-loop-s : goal.invariant-block-loop-s
invariant-block-loop-s l = record {
  below : (m : ℕ) → BlockBelow m (list_of l.s-items) → BlockBelow m (list_of (drop l.s-index l.s-items));
  weights : BlockIsWeighed (list_of l.s-items) → BlockIsWeighed (list_of (drop l.s-index l.s-items));
  vars : l.now.next.vars ≡ l.fn.walk.next.vars;
  so_far : Goes l.self.turns l.self.attempts (list_of l.s-items) (list_of (drop l.s-index l.s-items)) l.fn.walk l.now;
}

abbrev pub invariant-arms-loop-count : goal.invariant-arms-loop-count
invariant-arms-loop-count l = record {
  vars : l.now.next.vars ≡ l.fn.walk.next.vars;
  below : ArmsBelow l.fn.walk.next.vars (arm_list_of (drop l.count-index l.count-items));
  weights : ArmsAreWeighed (arm_list_of (drop l.count-index l.count-items));
  few : sum (parts_left l.count-items l.count-index) ≤ sum (parts_of (list_of_arms l.arms));
  so_far : (f : Scaled) → Holds f l.fn.walk →
      Arms l.self.turns l.self.attempts (sum (parts_of (list_of_arms l.arms))) (list_of_arms l.arms) (arm_list_of (drop l.count-index l.count-items))
      (arms_begun (sum (parts_of (list_of_arms l.arms))) l.self.attempts f) l.now;
}

abbrev pub invariant-while_loop-loop : goal.invariant-while_loop-loop
invariant-while_loop-loop l = record {
  vars : l.now.next.vars ≡ l.fn.walk.next.vars;
  so_far : (f : Scaled) → Holds f l.fn.walk → Turns l.self.turns l.self.attempts (expression_of l.e) (statements_of l.body) (l.self.turns - l.counter) f l.now;
}
