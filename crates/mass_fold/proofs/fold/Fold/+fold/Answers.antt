use Rattle.std.proofs.Common.{rules, ◌≡◌, ◌+◌, ◌-◌, suc, arith, refl, sym, ap, ◌∙◌, ◌≤◌, drop, subst, length, Err}
use Rattle.std.specs.List.{sum}
use Rattle.std.proofs.lemmas.Result.{IfOk-weaker, IfErr-weaker}
use Rattle.gcl_core.specs.meaning.Arms.{parts_of}
use Rattle.gcl_core.specs.declared.syntax.Stmt.{the_lemmas}
use Rattle.gcl_core.specs.meaning.Bounds.{StatementBelow, BlockBelow, ArmsBelow, ArmsAreWeighed, ExpressionBelow}
use Rattle.gcl_core.specs.meaning.Views.{expression_of, statement_of, statements_of, list_of, arm_list_of, list_of_arms}
use Rattle.gcl_core.specs.weighing.WeightedEnds.{class_weight}
use Rattle.numbers.specs.Fraction.{IsEqual}
use Rattle.gcl_core.specs.meaning.Value.{value_of}
use Rattle.table_flow.specs.Tables.{block_flow}
use Rattle.table_flow.proofs.FlowWords.{loop_flow, block_draws}
use Rattle.gcl_core.proofs.ViewLemmas.{skip_view, set_view, observe_view, if_view, while_view, choice_view, choose_view, uniform_view}
use Rattle.mass_fold.specs.inner.Fold.{FoldBlames, UndecidedTo, UndecidedBlames}
use Rattle.mass_fold.proofs.Fitting.{below_as, weights_as, folds_as, blames_as, list_step, below_next, weights_next, along_list, below_list, empty_of, some_states}
use Rattle.mass_fold.proofs.ArmsLeft.{arms_done, sum_next, arms_next}
use Rattle.mass_fold.proofs.ArmFolds.{undecided_blames, arms_start, arms_as, weighed_blames, block_blames, arm_blames, arm_turn, arms_end}
use Rattle.mass_fold.proofs.ArmMeters.{metered_start, metered_as, metered_turn, metered_end}
use Rattle.mass_fold.proofs.Folds.{rest_next, blames_next, blames_here, rest_none, fold_empty, fold_skip, fold_assign, assign_blames, fold_observe, observe_blames, failed_blames, fold_branch, fold_draw, draw_blames}
use Rattle.mass_fold.proofs.Folds as branches
use Rattle.mass_fold.proofs.Loops.{loop_start, loop_dry, loop_turn, loop_end, guard_blames, exits_blame, body_blames, turns_blame, loops_at}
use Rattle.mass_fold.proofs.Sides.{sides_blame, fold_choice}
use Rattle.mass_fold.proofs.Sides as choices
use Rattle.mass_fold.proofs.MeterFolds.{meters_next, meters_end, meters_empty, meters_as, uniform_meters, branch_meters, choice_meters}
use Rattle.mass_fold.proofs.MeterLoops.{draws, meter_start, meter_turn, meter_dry, meter_end, meters_at}
use Rattle.mass_fold.proofs.fold.Fold.+fold.Goals as goal

pub block-stmt-requires : goal.block-stmt-requires
block-stmt-requires t c =
    let p = list_step c.deref-s-items.result.now c.loop-s.s-index c.s-item.result c.loop-s-test.true c.s-item.is in
    let m = c.args.table.vars in (
      search (rules, the_lemmas),
      (
        subst (λ m. StatementBelow m (statement_of c.s-item.result)) (sym c.loop-s.invariant.vars) (below_next m _ _ _ p (c.loop-s.invariant.below m (below_list m _ _ c.deref-s-items.ensures.value c.requires.below))).0,
        (weights_next _ _ _ p (c.loop-s.invariant.weights (along_list _ _ c.deref-s-items.ensures.value c.requires.weights))).0,
      ),
    )

pub block-returns-in_err-now-clause-cause : goal.block-returns-in_err-now-clause-cause
block-returns-in_err-now-clause-cause t c =
    let p = list_step c.deref-s-items.result.now c.loop-s.s-index c.s-item.result c.loop-s-test.true c.s-item.is in
    let out : c.from_residual.result ≡ Err c.in_err-now.field-0.0 = grind arith in
    rw out (subst (λ z. FoldBlames (block_flow c.args.self.turns c.args.self.attempts.most (list_of z)) c.args.table.states.entries c.args.ended.now c.in_err-now.field-0.0) c.deref-s-items.ensures.value
    (blames_here c.args.self.turns c.args.self.attempts.most (block_flow c.args.self.turns c.args.self.attempts.most (list_of c.deref-s-items.result.now)) _ _ _ _ _ _ _ _ p c.loop-s.invariant.blames c.in_err-now.ensures.cause))

pub block-loop-s-preserved : goal.block-loop-s-preserved
block-loop-s-preserved t c =
    let p = list_step c.deref-s-items.result.now c.loop-s.s-index c.s-item.result c.loop-s-test.true c.s-item.is in
    let w = (weights_next _ _ _ p (c.loop-s.invariant.weights (along_list _ _ c.deref-s-items.ensures.value c.requires.weights))).0 in
    record {
      below = λ m h. (below_next m _ _ _ p (c.loop-s.invariant.below m h)).1;
      weights = λ h. (weights_next _ _ _ p (c.loop-s.invariant.weights h)).1;
      vars = c.in_ok-now.ensures.vars ∙ c.loop-s.invariant.vars;
      so_far = rest_next c.args.self.turns c.args.self.attempts.most (block_flow c.args.self.turns c.args.self.attempts.most (list_of c.deref-s-items.result.now)) _ _ _ _ _ _ _ _ _ p c.loop-s.invariant.so_far c.in_ok-now.ensures.ok;
      bits = meters_next c.args.self.turns c.args.self.attempts.most
          (block_flow c.args.self.turns c.args.self.attempts.most (list_of c.deref-s-items.result.now))
          (block_draws c.args.self.turns c.args.self.attempts.most (list_of c.deref-s-items.result.now)) _ _ _ _ _ _ _ _ _ _ _ _ p
          c.loop-s.invariant.bits c.in_ok-now.ensures.ok c.in_ok-now.ensures.bits;
      blames = blames_next c.args.self.turns c.args.self.attempts.most (block_flow c.args.self.turns c.args.self.attempts.most (list_of c.deref-s-items.result.now)) _ _ _ _ _ _ _ _ _ p w c.loop-s.invariant.blames c.in_ok-now.ensures.ok;
    }

pub block-returns-clause-ok : goal.block-returns-clause-ok
block-returns-clause-ok t c =
    rest_none c.args.self.turns c.args.self.attempts.most c.deref-s-items.result.now c.args.b.now.stmts.items c.loop-s.s-index _ _ _ _ c.loop-s-test.false c.deref-s-items.ensures.value c.loop-s.invariant.so_far

pub block-returns-clause-bits : goal.block-returns-clause-bits
block-returns-clause-bits t c =
    meters_end c.args.self.turns c.args.self.attempts.most c.deref-s-items.result.now c.args.b.now.stmts.items c.loop-s.s-index _ _ _ _ _ _ c.loop-s-test.false c.deref-s-items.ensures.value c.loop-s.invariant.bits

pub while_loop-loop-init : goal.while_loop-loop-init
while_loop-loop-init t c =
    let e : c.args.self.turns ≡ c.args.self.turns - 0 = omega arith in
    record {
      now_vars = refl;
      exits_vars = c.new-exits.ensures.vars;
      so_far = loops_at (loop_flow (value_of (expression_of c.args.e.now))
          (block_flow c.args.self.turns c.args.self.attempts.most (statements_of c.args.body.now))) c.args.self.turns _ _ _ _ _ _ _ e
          (loop_start c.args.self.turns c.args.self.attempts.most (expression_of c.args.e.now) (statements_of c.args.body.now)
          c.args.table.states.entries c.args.ended.now c.new-exits.result.states.entries c.new-exits.ensures.empty);
      bits = meters_at c.args.self.attempts.most (loop_flow (value_of (expression_of c.args.e.now))
          (block_flow c.args.self.turns c.args.self.attempts.most (statements_of c.args.body.now)))
          (draws c.args.self.turns c.args.self.attempts.most (expression_of c.args.e.now) (statements_of c.args.body.now)
          c.args.table.states.entries c.args.ended.now c.args.meter.now) c.args.self.turns _ _ _ _ _ _ _ _ _ e
          (meter_start c.args.self.turns c.args.self.attempts.most (expression_of c.args.e.now) (statements_of c.args.body.now)
          c.args.table.states.entries c.args.ended.now c.args.meter.now c.new-exits.result.states.entries
          c.new-exits.ensures.empty);
    }

pub while_loop-returns-then-len-eq0-clause-ok : goal.while_loop-returns-then-len-eq0-clause-ok
while_loop-returns-then-len-eq0-clause-ok t c =
    loop_dry c.args.self.turns c.args.self.attempts.most (expression_of c.args.e.now) (statements_of c.args.body.now)
    c.args.table.states.entries c.args.ended.now (c.args.self.turns - c.loop.counter) c.loop.now.states.entries
    c.loop.exits.states.entries c.loop.ended c.loop.invariant.so_far c.requires.weights
    (empty_of c.loop.now.states.entries (sym c.len.ensures.len ∙ c.if-len-eq0.true))

pub while_loop-split-requires : goal.while_loop-split-requires
while_loop-split-requires t c = subst (ExpressionBelow (expression_of c.args.e.now)) (sym c.loop.invariant.now_vars) c.requires.reads

pub while_loop-split-requires-2 : goal.while_loop-split-requires-2
while_loop-split-requires-2 t c = subst (ExpressionBelow (expression_of c.args.e.now)) (sym c.loop.invariant.now_vars) c.requires.reads

pub while_loop-block-requires : goal.while_loop-block-requires
while_loop-block-requires t c =
    let p : c.in_ok-first.first.vars ≡ c.args.table.vars = c.in_ok-first.ensures.vars.0 ∙ c.loop.invariant.now_vars in
    (search (rules, the_lemmas), (subst (λ m. BlockBelow m (statements_of c.args.body.now)) (sym p) c.requires.below, c.requires.weights))

pub while_loop-returns-in_err-merge-clause-cause : goal.while_loop-returns-in_err-merge-clause-cause
while_loop-returns-in_err-merge-clause-cause t c =
    let out : c.from_residual-in_err-merge.result ≡ Err c.in_err-merge.field-0.0 = grind arith in
    rw out (exits_blame c.args.self.turns c.args.self.attempts.most (expression_of c.args.e.now) (statements_of c.args.body.now)
    c.args.table.states.entries c.args.ended.now (c.args.self.turns - c.loop.counter) c.loop.now.states.entries
    c.loop.exits.states.entries c.loop.ended c.loop.invariant.so_far _ _ _ c.in_ok-first.ensures.first
    c.in_ok-first.ensures.second _ c.requires.weights c.in_err-merge.ensures.cause)

pub while_loop-returns-in_err-now-clause-cause : goal.while_loop-returns-in_err-now-clause-cause
while_loop-returns-in_err-now-clause-cause t c =
    let e : c.args.self.turns - c.loop.counter ≡ suc (c.args.self.turns - (c.loop.counter + 1)) = omega arith in
    let l = loops_at (loop_flow (value_of (expression_of c.args.e.now)) (block_flow c.args.self.turns c.args.self.attempts.most (statements_of c.args.body.now))) c.args.self.turns _ _ _ _ _ _ _ e c.loop.invariant.so_far in
    let out : c.from_residual-in_err-now.result ≡ Err c.in_err-now.field-0.0 = grind arith in
    rw out (body_blames c.args.self.turns c.args.self.attempts.most (expression_of c.args.e.now) (statements_of c.args.body.now)
    c.args.table.states.entries c.args.ended.now (c.args.self.turns - (c.loop.counter + 1)) c.loop.now.states.entries
    c.loop.exits.states.entries c.loop.ended l _ _ _ c.in_ok-first.ensures.first c.in_ok-first.ensures.second _
    c.requires.weights c.in_err-now.ensures.cause)

pub while_loop-returns-in_err-first-clause-cause : goal.while_loop-returns-in_err-first-clause-cause
while_loop-returns-in_err-first-clause-cause t c =
    let out : c.from_residual.result ≡ Err c.in_err-first.field-0.0 = grind arith in
    rw out (guard_blames c.args.self.turns c.args.self.attempts.most (expression_of c.args.e.now) (statements_of c.args.body.now)
    c.args.table.states.entries c.args.ended.now (c.args.self.turns - c.loop.counter) c.loop.now.states.entries
    c.loop.exits.states.entries c.loop.ended c.loop.invariant.so_far _ c.requires.weights c.in_err-first.ensures.cause)

pub while_loop-loop-preserved : goal.while_loop-loop-preserved
while_loop-loop-preserved t c =
    let e : c.args.self.turns - c.loop.counter ≡ suc (c.args.self.turns - (c.loop.counter + 1)) = omega arith in
    let l = loops_at (loop_flow (value_of (expression_of c.args.e.now)) (block_flow c.args.self.turns c.args.self.attempts.most (statements_of c.args.body.now))) c.args.self.turns _ _ _ _ _ _ _ e c.loop.invariant.so_far in
    record {
      now_vars = c.in_ok-now.ensures.vars ∙ c.in_ok-first.ensures.vars.0 ∙ c.loop.invariant.now_vars;
      exits_vars = c.merge.ensures.vars ∙ c.loop.invariant.exits_vars;
      so_far = loop_turn c.args.self.turns c.args.self.attempts.most (expression_of c.args.e.now) (statements_of c.args.body.now)
          c.args.table.states.entries c.args.ended.now (c.args.self.turns - (c.loop.counter + 1)) c.loop.now.states.entries
          c.loop.exits.states.entries c.loop.ended l _ _ _ c.in_ok-first.ensures.first c.in_ok-first.ensures.second _ _ _
          c.in_ok-merge.ensures.ok c.in_ok-now.ensures.ok;
      bits = meter_turn c.args.self.turns c.args.self.attempts.most (expression_of c.args.e.now) (statements_of c.args.body.now)
          c.args.table.states.entries c.args.ended.now c.args.meter.now (c.args.self.turns - (c.loop.counter + 1))
          c.loop.now.states.entries c.loop.exits.states.entries c.loop.ended c.loop.meter
          (meters_at c.args.self.attempts.most (loop_flow (value_of (expression_of c.args.e.now))
          (block_flow c.args.self.turns c.args.self.attempts.most (statements_of c.args.body.now)))
          (draws c.args.self.turns c.args.self.attempts.most (expression_of c.args.e.now) (statements_of c.args.body.now)
          c.args.table.states.entries c.args.ended.now c.args.meter.now) c.args.self.turns _ _ _ _ _ _ _ _ _ e c.loop.invariant.bits)
          _ _ _ c.in_ok-first.ensures.first c.in_ok-first.ensures.second _ _ _ _ c.in_ok-merge.ensures.ok c.in_ok-now.ensures.ok
          c.in_ok-now.ensures.bits;
    }

pub while_loop-returns-then-len-eq0-clause-bits : goal.while_loop-returns-then-len-eq0-clause-bits
while_loop-returns-then-len-eq0-clause-bits t c =
    meter_dry c.args.self.turns c.args.self.attempts.most (expression_of c.args.e.now) (statements_of c.args.body.now)
    c.args.table.states.entries c.args.ended.now c.args.meter.now (c.args.self.turns - c.loop.counter) c.loop.now.states.entries
    c.loop.exits.states.entries c.loop.ended c.loop.meter c.requires.weights
    (empty_of c.loop.now.states.entries (sym c.len.ensures.len ∙ c.if-len-eq0.true)) c.loop.invariant.bits

pub while_loop-returns-clause-bits : goal.while_loop-returns-clause-bits
while_loop-returns-clause-bits t c =
    meter_end c.args.self.turns c.args.self.attempts.most (expression_of c.args.e.now) (statements_of c.args.body.now)
    c.args.table.states.entries c.args.ended.now c.args.meter.now (c.args.self.turns - c.loop.counter) c.loop.now.states.entries
    c.loop.exits.states.entries c.loop.ended c.loop.meter (omega arith) c.loop.invariant.bits

pub while_loop-returns-in_err-merge-2-clause-cause : goal.while_loop-returns-in_err-merge-2-clause-cause
while_loop-returns-in_err-merge-2-clause-cause t c =
    let out : c.from_residual-in_err-merge-2.result ≡ Err c.in_err-merge-2.field-0.0 = grind arith in
    rw out (exits_blame c.args.self.turns c.args.self.attempts.most (expression_of c.args.e.now) (statements_of c.args.body.now)
    c.args.table.states.entries c.args.ended.now (c.args.self.turns - c.loop.counter) c.loop.now.states.entries
    c.loop.exits.states.entries c.loop.ended c.loop.invariant.so_far _ _ _ c.in_ok-first-2.ensures.first
    c.in_ok-first-2.ensures.second _ c.requires.weights c.in_err-merge-2.ensures.cause)

pub while_loop-returns-clause-ok : goal.while_loop-returns-clause-ok
while_loop-returns-clause-ok t c =
    let e : c.args.self.turns - c.loop.counter ≡ 0 = omega arith in
    let l = loops_at (loop_flow (value_of (expression_of c.args.e.now)) (block_flow c.args.self.turns c.args.self.attempts.most (statements_of c.args.body.now))) c.args.self.turns _ _ _ _ _ _ _ e c.loop.invariant.so_far in
    loop_end c.args.self.turns c.args.self.attempts.most (expression_of c.args.e.now) (statements_of c.args.body.now)
    c.args.table.states.entries c.args.ended.now c.loop.now.states.entries c.loop.exits.states.entries c.loop.ended l _ _ _
    c.in_ok-first-2.ensures.first c.in_ok-first-2.ensures.second _ _ c.in_ok-merge-2.ensures.ok c.in_ok-end_all.ensures.ok

pub while_loop-returns-in_err-end_all-clause-cause : goal.while_loop-returns-in_err-end_all-clause-cause
while_loop-returns-in_err-end_all-clause-cause t c =
    let e : c.args.self.turns - c.loop.counter ≡ 0 = omega arith in
    let l = loops_at (loop_flow (value_of (expression_of c.args.e.now)) (block_flow c.args.self.turns c.args.self.attempts.most (statements_of c.args.body.now))) c.args.self.turns _ _ _ _ _ _ _ e c.loop.invariant.so_far in
    let out : c.from_residual-in_err-end_all.result ≡ Err c.in_err-end_all.field-0.0 = grind arith in
    rw out (turns_blame c.args.self.turns c.args.self.attempts.most (expression_of c.args.e.now) (statements_of c.args.body.now)
    c.args.table.states.entries c.args.ended.now c.loop.now.states.entries c.loop.exits.states.entries c.loop.ended l _ _ _
    c.in_ok-first-2.ensures.first c.in_ok-first-2.ensures.second _ c.requires.weights c.in_err-end_all.ensures.cause)

pub while_loop-returns-in_err-first-2-clause-cause : goal.while_loop-returns-in_err-first-2-clause-cause
while_loop-returns-in_err-first-2-clause-cause t c =
    let out : c.from_residual-in_err-first-2.result ≡ Err c.in_err-first-2.field-0.0 = grind arith in
    rw out (guard_blames c.args.self.turns c.args.self.attempts.most (expression_of c.args.e.now) (statements_of c.args.body.now)
    c.args.table.states.entries c.args.ended.now (c.args.self.turns - c.loop.counter) c.loop.now.states.entries
    c.loop.exits.states.entries c.loop.ended c.loop.invariant.so_far _ c.requires.weights c.in_err-first-2.ensures.cause)

pub stmt-returns-then-len-eq0-clause-ok : goal.stmt-returns-then-len-eq0-clause-ok
stmt-returns-then-len-eq0-clause-ok t c =
    fold_empty c.args.self.turns c.args.self.attempts.most _ c.args.table.states.entries c.args.ended.now c.requires.weights (empty_of c.args.table.states.entries (sym c.len.ensures.len ∙ c.if-len-eq0.true))

pub stmt-returns-in-Skip-clause-ok : goal.stmt-returns-in-Skip-clause-ok
stmt-returns-in-Skip-clause-ok t c = folds_as c.args.self.turns c.args.self.attempts.most _ _ _ _ _ _ (ap statement_of c.in-Skip.is ∙ skip_view) (fold_skip c.args.self.turns c.args.self.attempts.most c.args.table.states.entries c.args.ended.now)

pub stmt-returns-in-Set-clause-ok : goal.stmt-returns-in-Set-clause-ok
stmt-returns-in-Set-clause-ok t c =
    IfOk-weaker c.assign.result _ _
    (λ next a. folds_as c.args.self.turns c.args.self.attempts.most _ _ _ _ _ _ (ap statement_of c.in-Set.is ∙ set_view c.in-Set.x c.in-Set.e)
    (fold_assign c.args.self.turns c.args.self.attempts.most c.in-Set.x (expression_of c.in-Set.e) c.args.table.states.entries c.args.ended.now _ _ a))
    c.assign.ensures.ok

pub stmt-returns-in-Set-clause-cause : goal.stmt-returns-in-Set-clause-cause
stmt-returns-in-Set-clause-cause t c =
    IfErr-weaker c.assign.result _ _
    (λ e a. blames_as c.args.self.turns c.args.self.attempts.most _ _ _ _ _ (ap statement_of c.in-Set.is ∙ set_view c.in-Set.x c.in-Set.e)
    (assign_blames c.args.self.turns c.args.self.attempts.most c.in-Set.x (expression_of c.in-Set.e) c.args.table.states.entries c.args.ended.now _ a))
    c.assign.ensures.cause

pub stmt-returns-in-Uniform-clause-ok : goal.stmt-returns-in-Uniform-clause-ok
stmt-returns-in-Uniform-clause-ok t c =
    IfOk-weaker c.draw.result _ _
    (λ next a. folds_as c.args.self.turns c.args.self.attempts.most _ _ _ _ _ _ (ap statement_of c.in-Uniform.is ∙ uniform_view c.in-Uniform.x c.in-Uniform.e)
    (fold_draw c.args.self.turns c.args.self.attempts.most c.in-Uniform.x (expression_of c.in-Uniform.e) c.args.table.states.entries c.args.ended.now c.len.ensures.ordered _ _ a))
    c.draw.ensures.ok

pub stmt-returns-in-Uniform-clause-cause : goal.stmt-returns-in-Uniform-clause-cause
stmt-returns-in-Uniform-clause-cause t c =
    IfErr-weaker c.draw.result _ _
    (λ e a. blames_as c.args.self.turns c.args.self.attempts.most _ _ _ _ _ (ap statement_of c.in-Uniform.is ∙ uniform_view c.in-Uniform.x c.in-Uniform.e)
    (draw_blames c.args.self.turns c.args.self.attempts.most c.in-Uniform.x (expression_of c.in-Uniform.e) c.args.table.states.entries c.args.ended.now c.len.ensures.ordered _ a))
    c.draw.ensures.cause

pub stmt-returns-in_ok-end_all-in-Observe-clause-ok : goal.stmt-returns-in_ok-end_all-in-Observe-clause-ok
stmt-returns-in_ok-end_all-in-Observe-clause-ok t c =
    folds_as c.args.self.turns c.args.self.attempts.most _ _ _ _ _ _ (ap statement_of c.in-Observe.is ∙ observe_view c.in-Observe.e)
    (fold_observe c.args.self.turns c.args.self.attempts.most (expression_of c.in-Observe.e) c.args.table.states.entries c.args.ended.now _ _ _ _ c.in_ok-first-in-Observe.ensures.first c.in_ok-first-in-Observe.ensures.second c.in_ok-end_all-in-Observe.ensures.ok)

pub stmt-returns-in_err-end_all-in-Observe-clause-cause : goal.stmt-returns-in_err-end_all-in-Observe-clause-cause
stmt-returns-in_err-end_all-in-Observe-clause-cause t c =
    let out : c.from_residual-in_err-end_all-in-Observe.result ≡ Err c.in_err-end_all-in-Observe.field-0.0 = grind arith in
    rw out (blames_as c.args.self.turns c.args.self.attempts.most _ _ _ _ _ (ap statement_of c.in-Observe.is ∙ observe_view c.in-Observe.e)
    (failed_blames c.args.self.turns c.args.self.attempts.most (expression_of c.in-Observe.e) c.args.table.states.entries _ _ c.args.ended.now _ _ c.in_ok-first-in-Observe.ensures.first c.in_ok-first-in-Observe.ensures.second c.in_err-end_all-in-Observe.ensures.cause))

pub stmt-returns-in_err-first-in-Observe-clause-cause : goal.stmt-returns-in_err-first-in-Observe-clause-cause
stmt-returns-in_err-first-in-Observe-clause-cause t c =
    let out : c.from_residual.result ≡ Err c.in_err-first-in-Observe.field-0.0 = grind arith in
    rw out (blames_as c.args.self.turns c.args.self.attempts.most _ _ _ _ _ (ap statement_of c.in-Observe.is ∙ observe_view c.in-Observe.e)
    (observe_blames c.args.self.turns c.args.self.attempts.most (expression_of c.in-Observe.e) c.args.table.states.entries c.args.ended.now _ c.in_err-first-in-Observe.ensures.cause))

pub stmt-block-requires : goal.stmt-block-requires
stmt-block-requires t c =
    let q = (ap statement_of c.in-If.is ∙ if_view c.in-If.e c.in-If.a c.in-If.c) in
    (search (rules, the_lemmas), (subst (λ m. BlockBelow m (statements_of c.in-If.a)) (sym c.in_ok-first-in-If.ensures.vars.0) (below_as _ _ _ q c.requires.below).1, (weights_as _ _ q c.requires.weights).0))

pub stmt-block-requires-in-If : goal.stmt-block-requires-in-If
stmt-block-requires-in-If t c =
    let q = (ap statement_of c.in-If.is ∙ if_view c.in-If.e c.in-If.a c.in-If.c) in
    (search (rules, the_lemmas), (subst (λ m. BlockBelow m (statements_of c.in-If.c)) (sym c.in_ok-first-in-If.ensures.vars.1) (below_as _ _ _ q c.requires.below).2, (weights_as _ _ q c.requires.weights).1))

pub stmt-returns-in_ok-merge-in-If-clause-ok : goal.stmt-returns-in_ok-merge-in-If-clause-ok
stmt-returns-in_ok-merge-in-If-clause-ok t c =
    folds_as c.args.self.turns c.args.self.attempts.most _ _ _ _ _ _ (ap statement_of c.in-If.is ∙ if_view c.in-If.e c.in-If.a c.in-If.c)
    (fold_branch c.args.self.turns c.args.self.attempts.most (expression_of c.in-If.e) (statements_of c.in-If.a)
    (statements_of c.in-If.c) c.args.table.states.entries _ _ c.args.ended.now _ c.in_ok-first-in-If.ensures.first
    c.in_ok-first-in-If.ensures.second _ _ _ _ _ c.in_ok-left-in-If.ensures.ok c.in_ok-right-in-If.ensures.ok
    c.in_ok-merge-in-If.ensures.ok)

pub stmt-returns-in_err-merge-in-If-clause-cause : goal.stmt-returns-in_err-merge-in-If-clause-cause
stmt-returns-in_err-merge-in-If-clause-cause t c =
    let out : c.from_residual-in_err-merge-in-If.result ≡ Err c.in_err-merge-in-If.field-0.0 = grind arith in
    rw out (blames_as c.args.self.turns c.args.self.attempts.most _ _ _ _ _ (ap statement_of c.in-If.is ∙ if_view c.in-If.e c.in-If.a c.in-If.c)
    (let ws = weights_as _ _ (ap statement_of c.in-If.is ∙ if_view c.in-If.e c.in-If.a c.in-If.c) c.requires.weights in
    branches.both_blame c.args.self.turns c.args.self.attempts.most (expression_of c.in-If.e) (statements_of c.in-If.a)
    (statements_of c.in-If.c) c.args.table.states.entries _ _ c.args.ended.now _ c.in_ok-first-in-If.ensures.first
    c.in_ok-first-in-If.ensures.second _ _ c.in_ok-left-in-If.ensures.ok ws.0 _ _ _ ws.1 c.in_ok-right-in-If.ensures.ok
    c.in_err-merge-in-If.ensures.cause))

pub stmt-returns-in_err-right-in-If-clause-cause : goal.stmt-returns-in_err-right-in-If-clause-cause
stmt-returns-in_err-right-in-If-clause-cause t c =
    let out : c.from_residual-in_err-right-in-If.result ≡ Err c.in_err-right-in-If.field-0.0 = grind arith in
    rw out (blames_as c.args.self.turns c.args.self.attempts.most _ _ _ _ _ (ap statement_of c.in-If.is ∙ if_view c.in-If.e c.in-If.a c.in-If.c)
    (let ws = weights_as _ _ (ap statement_of c.in-If.is ∙ if_view c.in-If.e c.in-If.a c.in-If.c) c.requires.weights in
    branches.second_blames c.args.self.turns c.args.self.attempts.most (expression_of c.in-If.e) (statements_of c.in-If.a)
    (statements_of c.in-If.c) c.args.table.states.entries _ _ c.args.ended.now _ c.in_ok-first-in-If.ensures.first
    c.in_ok-first-in-If.ensures.second _ _ c.in_ok-left-in-If.ensures.ok ws.0 _ c.in_err-right-in-If.ensures.cause))

pub stmt-returns-in_err-left-in-If-clause-cause : goal.stmt-returns-in_err-left-in-If-clause-cause
stmt-returns-in_err-left-in-If-clause-cause t c =
    let out : c.from_residual-in_err-left-in-If.result ≡ Err c.in_err-left-in-If.field-0.0 = grind arith in
    rw out (blames_as c.args.self.turns c.args.self.attempts.most _ _ _ _ _ (ap statement_of c.in-If.is ∙ if_view c.in-If.e c.in-If.a c.in-If.c)
    (branches.first_blames c.args.self.turns c.args.self.attempts.most (expression_of c.in-If.e) (statements_of c.in-If.a) (statements_of c.in-If.c)
    c.args.table.states.entries _ _ c.args.ended.now _ c.in_ok-first-in-If.ensures.first c.in_ok-first-in-If.ensures.second _ c.in_err-left-in-If.ensures.cause))

pub stmt-returns-in_err-first-in-If-clause-cause : goal.stmt-returns-in_err-first-in-If-clause-cause
stmt-returns-in_err-first-in-If-clause-cause t c =
    let out : c.from_residual-in_err-first-in-If.result ≡ Err c.in_err-first-in-If.field-0.0 = grind arith in
    rw out (blames_as c.args.self.turns c.args.self.attempts.most _ _ _ _ _ (ap statement_of c.in-If.is ∙ if_view c.in-If.e c.in-If.a c.in-If.c)
    (branches.branch_blames c.args.self.turns c.args.self.attempts.most (expression_of c.in-If.e) (statements_of c.in-If.a) (statements_of c.in-If.c) c.args.table.states.entries c.args.ended.now _ c.in_err-first-in-If.ensures.cause))

pub stmt-while_loop-requires : goal.stmt-while_loop-requires
stmt-while_loop-requires t c =
    let q = (ap statement_of c.in-While.is ∙ while_view c.in-While.e c.in-While.body) in
    (search (rules, the_lemmas), ((below_as _ _ _ q c.requires.below).0, ((below_as _ _ _ q c.requires.below).1, weights_as _ _ q c.requires.weights)))

pub stmt-returns-in-While-clause-ok : goal.stmt-returns-in-While-clause-ok
stmt-returns-in-While-clause-ok t c =
    IfOk-weaker c.while_loop.result _ _
    (λ next a. folds_as c.args.self.turns c.args.self.attempts.most _ _ _ _ _ _ (ap statement_of c.in-While.is ∙ while_view c.in-While.e c.in-While.body)
    (a))
    c.while_loop.ensures.ok

pub stmt-returns-in-While-clause-cause : goal.stmt-returns-in-While-clause-cause
stmt-returns-in-While-clause-cause t c =
    IfErr-weaker c.while_loop.result _ _
    (λ e a. blames_as c.args.self.turns c.args.self.attempts.most _ _ _ _ _ (ap statement_of c.in-While.is ∙ while_view c.in-While.e c.in-While.body)
    (a))
    c.while_loop.ensures.cause

pub stmt-sides-requires : goal.stmt-sides-requires
stmt-sides-requires t c =
    (weights_as _ _ (ap statement_of c.in-Choice.is ∙ choice_view c.in-Choice.p c.in-Choice.a c.in-Choice.c) c.requires.weights).0

pub stmt-block-requires-in-Choice : goal.stmt-block-requires-in-Choice
stmt-block-requires-in-Choice t c =
    let q = (ap statement_of c.in-Choice.is ∙ choice_view c.in-Choice.p c.in-Choice.a c.in-Choice.c) in
    (search (rules, the_lemmas), (subst (λ m. BlockBelow m (statements_of c.in-Choice.a)) (sym c.in_ok-first-in-Choice.ensures.vars.0) (below_as _ _ _ q c.requires.below).0, (weights_as _ _ q c.requires.weights).1))

pub stmt-block-requires-in-Choice-2 : goal.stmt-block-requires-in-Choice-2
stmt-block-requires-in-Choice-2 t c =
    let q = (ap statement_of c.in-Choice.is ∙ choice_view c.in-Choice.p c.in-Choice.a c.in-Choice.c) in
    (search (rules, the_lemmas), (subst (λ m. BlockBelow m (statements_of c.in-Choice.c)) (sym c.in_ok-first-in-Choice.ensures.vars.1) (below_as _ _ _ q c.requires.below).1, (weights_as _ _ q c.requires.weights).2))

pub stmt-returns-in_ok-merge-in-Choice-clause-ok : goal.stmt-returns-in_ok-merge-in-Choice-clause-ok
stmt-returns-in_ok-merge-in-Choice-clause-ok t c =
    folds_as c.args.self.turns c.args.self.attempts.most _ _ _ _ _ _ (ap statement_of c.in-Choice.is ∙ choice_view c.in-Choice.p c.in-Choice.a c.in-Choice.c)
    (let ws = weights_as _ _ (ap statement_of c.in-Choice.is ∙ choice_view c.in-Choice.p c.in-Choice.a c.in-Choice.c)
    c.requires.weights in fold_choice c.args.self.turns c.args.self.attempts.most c.in-Choice.p (statements_of c.in-Choice.a)
    (statements_of c.in-Choice.c) ws.0 c.args.table.states.entries c.args.ended.now _ _ _ c.in_ok-first-in-Choice.ensures.ok
    _ _ _ _ _ c.in_ok-left-in-Choice.ensures.ok c.in_ok-right-in-Choice.ensures.ok c.in_ok-merge-in-Choice.ensures.ok)

pub stmt-returns-in_err-merge-in-Choice-clause-cause : goal.stmt-returns-in_err-merge-in-Choice-clause-cause
stmt-returns-in_err-merge-in-Choice-clause-cause t c =
    let out : c.from_residual-in_err-merge-in-Choice.result ≡ Err c.in_err-merge-in-Choice.field-0.0 = grind arith in
    rw out (blames_as c.args.self.turns c.args.self.attempts.most _ _ _ _ _ (ap statement_of c.in-Choice.is ∙ choice_view c.in-Choice.p c.in-Choice.a c.in-Choice.c)
    (let ws = weights_as _ _ (ap statement_of c.in-Choice.is ∙ choice_view c.in-Choice.p c.in-Choice.a c.in-Choice.c)
    c.requires.weights in choices.both_blame c.args.self.turns c.args.self.attempts.most c.in-Choice.p (statements_of c.in-Choice.a)
    (statements_of c.in-Choice.c) ws.0 c.args.table.states.entries c.args.ended.now _ _ _ c.in_ok-first-in-Choice.ensures.ok
    _ _ c.in_ok-left-in-Choice.ensures.ok ws.1 _ _ _ ws.2 c.in_ok-right-in-Choice.ensures.ok
    c.in_err-merge-in-Choice.ensures.cause))

pub stmt-returns-in_err-right-in-Choice-clause-cause : goal.stmt-returns-in_err-right-in-Choice-clause-cause
stmt-returns-in_err-right-in-Choice-clause-cause t c =
    let out : c.from_residual-in_err-right-in-Choice.result ≡ Err c.in_err-right-in-Choice.field-0.0 = grind arith in
    rw out (blames_as c.args.self.turns c.args.self.attempts.most _ _ _ _ _ (ap statement_of c.in-Choice.is ∙ choice_view c.in-Choice.p c.in-Choice.a c.in-Choice.c)
    (let ws = weights_as _ _ (ap statement_of c.in-Choice.is ∙ choice_view c.in-Choice.p c.in-Choice.a c.in-Choice.c)
    c.requires.weights in choices.second_blames c.args.self.turns c.args.self.attempts.most c.in-Choice.p (statements_of c.in-Choice.a)
    (statements_of c.in-Choice.c) ws.0 c.args.table.states.entries c.args.ended.now _ _ _ c.in_ok-first-in-Choice.ensures.ok
    _ _ c.in_ok-left-in-Choice.ensures.ok ws.1 _ c.in_err-right-in-Choice.ensures.cause))

pub stmt-returns-in_err-left-in-Choice-clause-cause : goal.stmt-returns-in_err-left-in-Choice-clause-cause
stmt-returns-in_err-left-in-Choice-clause-cause t c =
    let out : c.from_residual-in_err-left-in-Choice.result ≡ Err c.in_err-left-in-Choice.field-0.0 = grind arith in
    rw out (blames_as c.args.self.turns c.args.self.attempts.most _ _ _ _ _ (ap statement_of c.in-Choice.is ∙ choice_view c.in-Choice.p c.in-Choice.a c.in-Choice.c)
    (let ws = weights_as _ _ (ap statement_of c.in-Choice.is ∙ choice_view c.in-Choice.p c.in-Choice.a c.in-Choice.c)
    c.requires.weights in choices.first_blames c.args.self.turns c.args.self.attempts.most c.in-Choice.p (statements_of c.in-Choice.a)
    (statements_of c.in-Choice.c) ws.0 c.args.table.states.entries c.args.ended.now _ _ _ c.in_ok-first-in-Choice.ensures.ok
    _ c.in_err-left-in-Choice.ensures.cause))

pub stmt-returns-in_err-first-in-Choice-clause-cause : goal.stmt-returns-in_err-first-in-Choice-clause-cause
stmt-returns-in_err-first-in-Choice-clause-cause t c =
    let out : c.from_residual-in_err-first-in-Choice.result ≡ Err c.in_err-first-in-Choice.field-0.0 = grind arith in
    rw out (blames_as c.args.self.turns c.args.self.attempts.most _ _ _ _ _ (ap statement_of c.in-Choice.is ∙ choice_view c.in-Choice.p c.in-Choice.a c.in-Choice.c)
    (let ws = weights_as _ _ (ap statement_of c.in-Choice.is ∙ choice_view c.in-Choice.p c.in-Choice.a c.in-Choice.c)
    c.requires.weights in sides_blame c.args.self.turns c.args.self.attempts.most c.in-Choice.p (statements_of c.in-Choice.a)
    (statements_of c.in-Choice.c) ws.0 c.args.table.states.entries c.args.ended.now _
    (λ e. c.if-len-eq0.false (c.len.ensures.len ∙ ap length e)) c.in_err-first-in-Choice.ensures.cause))

pub stmt-returns-then-len-eq0-clause-bits : goal.stmt-returns-then-len-eq0-clause-bits
stmt-returns-then-len-eq0-clause-bits t c =
    meters_empty c.args.self.turns c.args.self.attempts.most _ c.args.table.states.entries c.args.ended.now c.args.meter.now c.requires.weights (empty_of c.args.table.states.entries (sym c.len.ensures.len ∙ c.if-len-eq0.true))

pub stmt-returns-in-Uniform-clause-bits : goal.stmt-returns-in-Uniform-clause-bits
stmt-returns-in-Uniform-clause-bits t c =
    IfOk-weaker c.draw.result _ _
    (λ next _. meters_as c.args.self.turns c.args.self.attempts.most _ _ _ _ _ _ (ap statement_of c.in-Uniform.is ∙ uniform_view c.in-Uniform.x c.in-Uniform.e)
    (uniform_meters c.args.self.turns c.args.self.attempts.most c.in-Uniform.x (expression_of c.in-Uniform.e) c.args.table.states.entries c.args.ended.now _ _ c.count_uniform.ensures))
    c.draw.ensures.ok

pub stmt-returns-in_ok-merge-in-If-clause-bits : goal.stmt-returns-in_ok-merge-in-If-clause-bits
stmt-returns-in_ok-merge-in-If-clause-bits t c =
    meters_as c.args.self.turns c.args.self.attempts.most _ _ _ _ _ _ (ap statement_of c.in-If.is ∙ if_view c.in-If.e c.in-If.a c.in-If.c)
    (branch_meters c.args.self.turns c.args.self.attempts.most (expression_of c.in-If.e) (statements_of c.in-If.a)
    (statements_of c.in-If.c) c.args.table.states.entries _ _ c.args.ended.now _ c.in_ok-first-in-If.ensures.first
    c.in_ok-first-in-If.ensures.second _ _ _ _ _ c.in_ok-left-in-If.ensures.ok c.in_ok-left-in-If.ensures.bits
    c.in_ok-right-in-If.ensures.bits)

pub stmt-returns-in-While-clause-bits : goal.stmt-returns-in-While-clause-bits
stmt-returns-in-While-clause-bits t c =
    IfOk-weaker c.while_loop.result _ _
    (λ next a. meters_as c.args.self.turns c.args.self.attempts.most _ _ _ _ _ _ (ap statement_of c.in-While.is ∙ while_view c.in-While.e c.in-While.body)
    (a))
    c.while_loop.ensures.bits

pub stmt-returns-in_ok-merge-in-Choice-clause-bits : goal.stmt-returns-in_ok-merge-in-Choice-clause-bits
stmt-returns-in_ok-merge-in-Choice-clause-bits t c =
    meters_as c.args.self.turns c.args.self.attempts.most _ _ _ _ _ _ (ap statement_of c.in-Choice.is ∙ choice_view c.in-Choice.p c.in-Choice.a c.in-Choice.c)
    (let ws = weights_as _ _ (ap statement_of c.in-Choice.is ∙ choice_view c.in-Choice.p c.in-Choice.a c.in-Choice.c) c.requires.weights in
    choice_meters c.args.self.turns c.args.self.attempts.most c.in-Choice.p (statements_of c.in-Choice.a) (statements_of c.in-Choice.c)
    ws.0 c.args.table.states.entries c.args.ended.now _ _ _ c.in_ok-first-in-Choice.ensures.ok _ _ _ _ _ _
    c.count_choice.ensures c.in_ok-left-in-Choice.ensures.ok c.in_ok-left-in-Choice.ensures.bits
    c.in_ok-right-in-Choice.ensures.bits)

pub stmt-count_arms-requires-clause-parts : goal.stmt-count_arms-requires-clause-parts
stmt-count_arms-requires-clause-parts t c = (weights_as _ _ (ap statement_of c.in-Choose.is ∙ choose_view c.in-Choose.arms) c.requires.weights).0

pub stmt-total-requires : goal.stmt-total-requires
stmt-total-requires t c = (weights_as _ _ (ap statement_of c.in-Choose.is ∙ choose_view c.in-Choose.arms) c.requires.weights).0.coarse

pub stmt-undecided-requires : goal.stmt-undecided-requires
stmt-undecided-requires t c =
    let w = weights_as _ _ (ap statement_of c.in-Choose.is ∙ choose_view c.in-Choose.arms) c.requires.weights in
    record { least = omega (arith, c.total.ensures, w.0.positive); most = omega (arith, c.total.ensures, w.0.coarse) }

pub stmt-arms-requires : goal.stmt-arms-requires
stmt-arms-requires t c =
    let q = (ap statement_of c.in-Choose.is ∙ choose_view c.in-Choose.arms) in
    let w = weights_as _ _ q c.requires.weights in
    let some : 1 ≤ length c.args.table.states.entries = omega (arith, c.if-len-eq0.false, c.len.ensures.len) in
    let equal = subst (λ b. IsEqual c.in_ok-part-in-Choose.part (class_weight b c.args.self.attempts.most 1)) c.total.ensures c.in_ok-part-in-Choose.ensures.equal in
    (search (rules, the_lemmas), (below_as _ _ _ q c.requires.below, (w.0, (w.1, (c.in_ok-part-in-Choose.ensures.above, (equal, some))))))

pub stmt-returns-in_ok-part-in-Choose-clause-ok : goal.stmt-returns-in_ok-part-in-Choose-clause-ok
stmt-returns-in_ok-part-in-Choose-clause-ok t c =
    IfOk-weaker c.arms.result _ _
    (λ next a. folds_as c.args.self.turns c.args.self.attempts.most _ _ _ _ _ _
    (ap statement_of c.in-Choose.is ∙ choose_view c.in-Choose.arms)
    (a c.args.ended.now (subst (λ b. UndecidedTo b c.args.self.attempts.most c.args.table.states.entries c.args.ended.now
    c.undecided.new.ended) c.total.ensures c.in_ok-part-in-Choose.ensures.ok)))
    c.arms.ensures.ok

pub stmt-returns-in_ok-part-in-Choose-clause-bits : goal.stmt-returns-in_ok-part-in-Choose-clause-bits
stmt-returns-in_ok-part-in-Choose-clause-bits t c =
    IfOk-weaker c.arms.result _ _
    (λ next a. meters_as c.args.self.turns c.args.self.attempts.most _ _ _ _ _ _ (ap statement_of c.in-Choose.is ∙ choose_view c.in-Choose.arms)
    (a c.args.ended.now (subst (λ b. UndecidedTo b c.args.self.attempts.most c.args.table.states.entries c.args.ended.now c.undecided.new.ended) c.total.ensures c.in_ok-part-in-Choose.ensures.ok) c.args.meter.now c.count_arms.ensures))
    c.arms.ensures.bits

pub stmt-returns-in_ok-part-in-Choose-clause-cause : goal.stmt-returns-in_ok-part-in-Choose-clause-cause
stmt-returns-in_ok-part-in-Choose-clause-cause t c =
    IfErr-weaker c.arms.result _ _
    (λ e a. blames_as c.args.self.turns c.args.self.attempts.most _ _ _ _ _
    (ap statement_of c.in-Choose.is ∙ choose_view c.in-Choose.arms)
    (a c.args.ended.now (subst (λ b. UndecidedTo b c.args.self.attempts.most c.args.table.states.entries c.args.ended.now
    c.undecided.new.ended) c.total.ensures c.in_ok-part-in-Choose.ensures.ok)))
    c.arms.ensures.cause

pub stmt-returns-in_err-part-in-Choose-clause-cause : goal.stmt-returns-in_err-part-in-Choose-clause-cause
stmt-returns-in_err-part-in-Choose-clause-cause t c =
    let w = weights_as _ _ (ap statement_of c.in-Choose.is ∙ choose_view c.in-Choose.arms) c.requires.weights in
    let out : c.from_residual-in_err-part-in-Choose.result ≡ Err c.in_err-part-in-Choose.field-0.0 = grind arith in
    rw out (blames_as c.args.self.turns c.args.self.attempts.most _ _ _ _ _ (ap statement_of c.in-Choose.is ∙ choose_view c.in-Choose.arms)
    (undecided_blames c.args.self.turns c.args.self.attempts.most (list_of_arms c.in-Choose.arms) w.0 c.args.table.states.entries c.args.ended.now c.in_err-part-in-Choose.field-0.0 (λ e. c.if-len-eq0.false (c.len.ensures.len ∙ ap length e))
    (subst (λ b. UndecidedBlames b c.args.self.attempts.most c.args.table.states.entries c.args.ended.now c.in_err-part-in-Choose.field-0.0) c.total.ensures c.in_err-part-in-Choose.ensures.cause)))

pub arms-loop-count-init : goal.arms-loop-count-init
arms-loop-count-init t c =
    let same = ap arm_list_of c.deref-count-items.ensures.value in
    record {
      vars = c.new-out.ensures.vars;
      below = subst (ArmsBelow c.args.table.now.vars) (sym same) c.requires.below;
      weights = subst ArmsAreWeighed (sym same) c.requires.weights;
      few = let e = ap (λ a. sum (parts_of a)) same in omega (arith, e);
      so_far = λ E u. arms_as c.args.self.turns c.args.self.attempts.most (list_of_arms c.args.arms.now) c.requires.parts
          c.args.table.now.states.entries E _ _ c.new-out.result.states.entries c.args.ended.now (sym same)
          (arms_start c.args.self.turns c.args.self.attempts.most (list_of_arms c.args.arms.now) c.requires.parts
          c.args.table.now.states.entries E c.args.ended.now c.new-out.result.states.entries u c.new-out.ensures.empty);
      bits = λ E u m k. metered_as c.args.self.turns c.args.self.attempts.most (list_of_arms c.args.arms.now) c.requires.parts
          c.args.table.now.states.entries E m _ _ c.args.meter.now (sym same)
          (metered_start c.args.self.turns c.args.self.attempts.most (list_of_arms c.args.arms.now) c.requires.parts
          c.args.table.now.states.entries E m c.args.meter.now k);
    }

pub arms-returns-in_err-side-clause-cause : goal.arms-returns-in_err-side-clause-cause
arms-returns-in_err-side-clause-cause t c =
    let out : c.from_residual.result ≡ Err c.in_err-side.field-0.0 = grind arith in
    rw out (λ E u.
    let next = arms_next c.deref-count-items.result.now c.loop-count.count-index c.loop-count-item.result c.loop-count-test.true c.loop-count-item.is in
    let e = ap (λ a. sum (parts_of a)) next in
    weighed_blames c.args.self.turns c.args.self.attempts.most (list_of_arms c.args.arms.now) c.requires.parts
    c.args.table.now.states.entries E c.loop-count-item.result.0 (statements_of c.loop-count-item.result.1)
    (arm_list_of (drop (c.loop-count.count-index + 1) c.deref-count-items.result.now)) c.loop-count.out.states.entries
    c.loop-count.ended (arms_as c.args.self.turns c.args.self.attempts.most (list_of_arms c.args.arms.now) c.requires.parts
    c.args.table.now.states.entries E _ _ c.loop-count.out.states.entries c.loop-count.ended next
    (c.loop-count.invariant.so_far E u)) c.args.part.now c.requires.equal c.in_err-side.field-0.0
    (λ e. some_states c.args.table.now.states.entries c.requires.any e) c.requires.weights
    (subst ArmsAreWeighed next c.loop-count.invariant.weights)
    (omega (arith, e, c.loop-count.invariant.few)) c.in_err-side.ensures.cause)

pub arms-block-requires : goal.arms-block-requires
arms-block-requires t c =
    let next = arms_next c.deref-count-items.result.now c.loop-count.count-index c.loop-count-item.result c.loop-count-test.true c.loop-count-item.is in (
      search (rules, the_lemmas),
      (
        subst (λ m. BlockBelow m (statements_of c.loop-count-item.result.1)) (sym c.in_ok-side.ensures.vars) (subst (ArmsBelow c.args.table.now.vars) next c.loop-count.invariant.below).0,
        (subst ArmsAreWeighed next c.loop-count.invariant.weights).0,
      ),
    )

pub arms-returns-in_err-left-clause-cause : goal.arms-returns-in_err-left-clause-cause
arms-returns-in_err-left-clause-cause t c =
    let out : c.from_residual-in_err-left.result ≡ Err c.in_err-left.field-0.0 = grind arith in
    rw out (λ E u.
    let next = arms_next c.deref-count-items.result.now c.loop-count.count-index c.loop-count-item.result c.loop-count-test.true c.loop-count-item.is in
    block_blames c.args.self.turns c.args.self.attempts.most (list_of_arms c.args.arms.now) c.requires.parts
    c.args.table.now.states.entries E c.loop-count-item.result.0 (statements_of c.loop-count-item.result.1)
    (arm_list_of (drop (c.loop-count.count-index + 1) c.deref-count-items.result.now)) c.loop-count.out.states.entries
    c.loop-count.ended (arms_as c.args.self.turns c.args.self.attempts.most (list_of_arms c.args.arms.now) c.requires.parts
    c.args.table.now.states.entries E _ _ c.loop-count.out.states.entries c.loop-count.ended next
    (c.loop-count.invariant.so_far E u)) c.args.part.now c.requires.equal _ c.in_ok-side.ensures.ok c.in_err-left.field-0.0
    c.requires.weights (subst ArmsAreWeighed next c.loop-count.invariant.weights) c.in_err-left.ensures.cause)

pub arms-merge-requires : goal.arms-merge-requires
arms-merge-requires t c = c.in_ok-left.ensures.vars ∙ c.in_ok-side.ensures.vars ∙ sym c.loop-count.invariant.vars

pub arms-returns-in_err-merge-clause-cause : goal.arms-returns-in_err-merge-clause-cause
arms-returns-in_err-merge-clause-cause t c =
    let out : c.from_residual-in_err-merge.result ≡ Err c.in_err-merge.field-0.0 = grind arith in
    rw out (λ E u.
    let next = arms_next c.deref-count-items.result.now c.loop-count.count-index c.loop-count-item.result c.loop-count-test.true c.loop-count-item.is in
    arm_blames c.args.self.turns c.args.self.attempts.most (list_of_arms c.args.arms.now) c.requires.parts
    c.args.table.now.states.entries E c.loop-count-item.result.0 (statements_of c.loop-count-item.result.1)
    (arm_list_of (drop (c.loop-count.count-index + 1) c.deref-count-items.result.now)) c.loop-count.out.states.entries
    c.loop-count.ended (arms_as c.args.self.turns c.args.self.attempts.most (list_of_arms c.args.arms.now) c.requires.parts
    c.args.table.now.states.entries E _ _ c.loop-count.out.states.entries c.loop-count.ended next
    (c.loop-count.invariant.so_far E u)) c.args.part.now c.requires.equal _ c.in_ok-side.ensures.ok _ _
    c.in_ok-left.ensures.ok c.in_err-merge.field-0.0 c.requires.weights c.in_err-merge.ensures.cause)

pub arms-loop-count-preserved : goal.arms-loop-count-preserved
arms-loop-count-preserved t c =
    let next = arms_next c.deref-count-items.result.now c.loop-count.count-index c.loop-count-item.result c.loop-count-test.true c.loop-count-item.is in
    record {
      vars = c.merge.ensures.vars ∙ c.loop-count.invariant.vars;
      below = (subst (ArmsBelow c.args.table.now.vars) next c.loop-count.invariant.below).1;
      weights = (subst ArmsAreWeighed next c.loop-count.invariant.weights).1;
      few = let s = sum_next c.deref-count-items.result.now c.loop-count.count-index c.loop-count-item.result c.loop-count-test.true c.loop-count-item.is in omega (arith, s, c.loop-count.invariant.few);
      so_far = λ E u. arm_turn c.args.self.turns c.args.self.attempts.most (list_of_arms c.args.arms.now) c.requires.parts
          c.args.table.now.states.entries E c.loop-count-item.result.0 (statements_of c.loop-count-item.result.1)
          (arm_list_of (drop (c.loop-count.count-index + 1) c.deref-count-items.result.now)) c.loop-count.out.states.entries
          c.loop-count.ended (arms_as c.args.self.turns c.args.self.attempts.most (list_of_arms c.args.arms.now) c.requires.parts
          c.args.table.now.states.entries E _ _ c.loop-count.out.states.entries c.loop-count.ended next
          (c.loop-count.invariant.so_far E u)) c.args.part.now c.requires.equal _ c.in_ok-side.ensures.ok _ _
          c.in_ok-left.ensures.ok _ c.in_ok-merge.ensures.ok;
      bits = λ E u m k. metered_turn c.args.self.turns c.args.self.attempts.most (list_of_arms c.args.arms.now) c.requires.parts
          c.args.table.now.states.entries E m c.loop-count-item.result.0 (statements_of c.loop-count-item.result.1)
          (arm_list_of (drop (c.loop-count.count-index + 1) c.deref-count-items.result.now)) c.loop-count.out.states.entries
          c.loop-count.ended (arms_as c.args.self.turns c.args.self.attempts.most (list_of_arms c.args.arms.now) c.requires.parts
          c.args.table.now.states.entries E _ _ c.loop-count.out.states.entries c.loop-count.ended next
          (c.loop-count.invariant.so_far E u)) c.args.part.now c.requires.equal _ c.in_ok-side.ensures.ok c.loop-count.meter _
          (metered_as c.args.self.turns c.args.self.attempts.most (list_of_arms c.args.arms.now) c.requires.parts
          c.args.table.now.states.entries E m _ _ c.loop-count.meter next (c.loop-count.invariant.bits E u m k))
          c.in_ok-left.ensures.bits;
    }

pub arms-returns-clause-ok : goal.arms-returns-clause-ok
arms-returns-clause-ok t c E u =
    let none = arms_done c.deref-count-items.result.now c.loop-count.count-index (omega (arith, c.loop-count-test.false)) in
    arms_end c.args.self.turns c.args.self.attempts.most (list_of_arms c.args.arms.now) c.requires.parts c.args.table.now.states.entries
    E c.loop-count.out.states.entries c.loop-count.ended
    (arms_as c.args.self.turns c.args.self.attempts.most (list_of_arms c.args.arms.now) c.requires.parts
    c.args.table.now.states.entries E _ _ c.loop-count.out.states.entries c.loop-count.ended none
    (c.loop-count.invariant.so_far E u))

pub arms-returns-clause-bits : goal.arms-returns-clause-bits
arms-returns-clause-bits t c E u m k =
    let none = arms_done c.deref-count-items.result.now c.loop-count.count-index (omega (arith, c.loop-count-test.false)) in
    metered_end c.args.self.turns c.args.self.attempts.most (list_of_arms c.args.arms.now) c.requires.parts
    c.args.table.now.states.entries E m c.loop-count.meter
    (metered_as c.args.self.turns c.args.self.attempts.most (list_of_arms c.args.arms.now) c.requires.parts
    c.args.table.now.states.entries E m _ _ c.loop-count.meter none (c.loop-count.invariant.bits E u m k))

pub arms-returns-clause-vars : goal.arms-returns-clause-vars
arms-returns-clause-vars t c = c.loop-count.invariant.vars
