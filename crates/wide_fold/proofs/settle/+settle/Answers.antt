use Rattle.std.proofs.Common.{rules, ◌+◌, ◌*◌, ◌≤◌, ◌<◌, None, drop, arith, sym, ap, ◌∙◌, subst}
use Rattle.std.specs.Map.Iter.{deref_pair}
use Rattle.std.specs.List.{sum}
use Rattle.std.proofs.lemmas.Result.{IfOk-weaker}
use Rattle.gcl_core.specs.declared.syntax.Stmt.{the_lemmas}
use Rattle.gcl_core.specs.meaning.Arms.{parts_of}
use Rattle.gcl_core.specs.meaning.Bounds.{StatementBelow, BlockBelow, ArmsBelow, ArmsAreWeighed}
use Rattle.gcl_core.specs.meaning.Views.{expression_of, statement_of, statements_of, list_of, arm_list_of, list_of_arms}
use Rattle.gcl_core.specs.meaning.Value.{value_of}
use Rattle.gcl_core.proofs.ViewLemmas.{if_view, while_view, choice_view, choose_view}
use Rattle.unlimited_law.specs.Alike.{Alike}
use Rattle.unlimited_law.specs.Settling.{EachState, BlockSettles}
use Rattle.mass_fold.proofs.ArmsLeft.{arms_done, arms_next}
use Rattle.mass_fold.proofs.Fitting.{list_step, below_next, weights_next, along_list, below_list, below_as, weights_as}
use Rattle.mass_fold.proofs.Sizes.{sized_at}
use Rattle.exact_fold.specs.inner.Turning.{StaysIn, keys_in}
use Rattle.exact_fold.proofs.Arms.{arms_start, arms_as, arm_turn, arms_end}
use Rattle.exact_fold.proofs.Steps.{branch_settles, statement_as, rest_next, rest_none}
use Rattle.exact_fold.proofs.Turns.{turn_settles, state_stays, stays_next, choice_settles}
use Rattle.wide_fold.proofs.settle.+settle.Goals as goal

pub settle_block-settle_stmt-requires : goal.settle_block-settle_stmt-requires
settle_block-settle_stmt-requires t c =
    let p = list_step c.deref-statement-items.result.now c.loop-statement.statement-index c.statement-item.result c.loop-statement-test.true c.statement-item.is in
    let m = c.args.table.vars in (
      search (rules, the_lemmas),
      (
        subst (λ m. StatementBelow m (statement_of c.statement-item.result)) (sym c.loop-statement.invariant.vars) (below_next m _ _ _ p (c.loop-statement.invariant.below m (below_list m _ _ c.deref-statement-items.ensures.value c.requires.below))).0,
        (weights_next _ _ _ p (c.loop-statement.invariant.weights (along_list _ _ c.deref-statement-items.ensures.value c.requires.weights))).0,
      ),
    )

pub settle_block-loop-statement-preserved : goal.settle_block-loop-statement-preserved
settle_block-loop-statement-preserved t c =
    let p = list_step c.deref-statement-items.result.now c.loop-statement.statement-index c.statement-item.result c.loop-statement-test.true c.statement-item.is in
    record {
      below = λ m h. (below_next m _ _ _ p (c.loop-statement.invariant.below m h)).1;
      weights = λ h. (weights_next _ _ _ p (c.loop-statement.invariant.weights h)).1;
      vars = c.in_ok-now.ensures.vars ∙ c.loop-statement.invariant.vars;
      so_far = rest_next (BlockSettles Alike Alike (list_of c.deref-statement-items.result.now)) _ _ _ _ _ _ _ _ _ p c.loop-statement.invariant.so_far c.in_ok-now.ensures.ok;
    }

pub settle_block-returns-clause-ok : goal.settle_block-returns-clause-ok
settle_block-returns-clause-ok t c =
    rest_none c.deref-statement-items.result.now c.args.block.now.stmts.items c.loop-statement.statement-index _ _ _ _ c.loop-statement-test.false c.deref-statement-items.ensures.value c.loop-statement.invariant.so_far

pub settle_stmt-settle_block-requires : goal.settle_stmt-settle_block-requires
settle_stmt-settle_block-requires t c =
    let form = (ap statement_of c.in-If.is ∙ if_view c.in-If.e c.in-If.a c.in-If.c) in
    (search (rules, the_lemmas), (subst (λ m. BlockBelow m (statements_of c.in-If.a)) (sym c.in_ok-first-in-If.ensures.vars.0) (below_as _ _ _ form c.requires.below).1, (weights_as _ _ form c.requires.weights).0))

pub settle_stmt-settle_block-requires-in-If : goal.settle_stmt-settle_block-requires-in-If
settle_stmt-settle_block-requires-in-If t c =
    let form = (ap statement_of c.in-If.is ∙ if_view c.in-If.e c.in-If.a c.in-If.c) in
    (search (rules, the_lemmas), (subst (λ m. BlockBelow m (statements_of c.in-If.c)) (sym c.in_ok-first-in-If.ensures.vars.1) (below_as _ _ _ form c.requires.below).2, (weights_as _ _ form c.requires.weights).1))

pub settle_stmt-returns-in_ok-merge-in-If-clause-ok : goal.settle_stmt-returns-in_ok-merge-in-If-clause-ok
settle_stmt-returns-in_ok-merge-in-If-clause-ok t c =
    let form = (ap statement_of c.in-If.is ∙ if_view c.in-If.e c.in-If.a c.in-If.c) in
    let ws = weights_as _ _ form c.requires.weights in
    statement_as _ _ c.args.table.states.entries _ c.args.ended.now _ form
    (branch_settles (expression_of c.in-If.e) (statements_of c.in-If.a) (statements_of c.in-If.c) c.args.table.states.entries _ _ _ _ _ c.args.ended.now _ _ _ ws.0 ws.1
    c.in_ok-first-in-If.ensures.first c.in_ok-first-in-If.ensures.second c.in_ok-left-in-If.ensures.ok c.in_ok-right-in-If.ensures.ok c.in_ok-merge-in-If.ensures.ok)

pub settle_stmt-settle_while-requires : goal.settle_stmt-settle_while-requires
settle_stmt-settle_while-requires t c =
    let form = (ap statement_of c.in-While.is ∙ while_view c.in-While.e c.in-While.body) in
    (search (rules, the_lemmas), ((below_as _ _ _ form c.requires.below).0, ((below_as _ _ _ form c.requires.below).1, weights_as _ _ form c.requires.weights)))

pub settle_stmt-returns-in-While-clause-ok : goal.settle_stmt-returns-in-While-clause-ok
settle_stmt-returns-in-While-clause-ok t c =
    IfOk-weaker c.settle_while.result _ _
    (λ next a. statement_as _ _ c.args.table.states.entries _ c.args.ended.now _ (ap statement_of c.in-While.is ∙ while_view c.in-While.e c.in-While.body) a)
    c.settle_while.ensures.ok

pub settle_stmt-sides-requires : goal.settle_stmt-sides-requires
settle_stmt-sides-requires t c =
    (weights_as _ _ (ap statement_of c.in-Choice.is ∙ choice_view c.in-Choice.p c.in-Choice.a c.in-Choice.c) c.requires.weights).0

pub settle_stmt-settle_block-requires-in-Choice : goal.settle_stmt-settle_block-requires-in-Choice
settle_stmt-settle_block-requires-in-Choice t c =
    let form = (ap statement_of c.in-Choice.is ∙ choice_view c.in-Choice.p c.in-Choice.a c.in-Choice.c) in
    (search (rules, the_lemmas), (subst (λ m. BlockBelow m (statements_of c.in-Choice.a)) (sym c.in_ok-first-in-Choice.ensures.vars.0) (below_as _ _ _ form c.requires.below).0, (weights_as _ _ form c.requires.weights).1))

pub settle_stmt-settle_block-requires-in-Choice-2 : goal.settle_stmt-settle_block-requires-in-Choice-2
settle_stmt-settle_block-requires-in-Choice-2 t c =
    let form = (ap statement_of c.in-Choice.is ∙ choice_view c.in-Choice.p c.in-Choice.a c.in-Choice.c) in
    (search (rules, the_lemmas), (subst (λ m. BlockBelow m (statements_of c.in-Choice.c)) (sym c.in_ok-first-in-Choice.ensures.vars.1) (below_as _ _ _ form c.requires.below).1, (weights_as _ _ form c.requires.weights).2))

pub settle_stmt-returns-in_ok-merge-in-Choice-clause-ok : goal.settle_stmt-returns-in_ok-merge-in-Choice-clause-ok
settle_stmt-returns-in_ok-merge-in-Choice-clause-ok t c =
    let form = (ap statement_of c.in-Choice.is ∙ choice_view c.in-Choice.p c.in-Choice.a c.in-Choice.c) in
    let ws = weights_as _ _ form c.requires.weights in
    statement_as _ _ c.args.table.states.entries _ c.args.ended.now _ form
    (choice_settles c.in-Choice.p (statements_of c.in-Choice.a) (statements_of c.in-Choice.c) c.args.table.states.entries _ _ _ _ _ c.args.ended.now _ _ _ ws.0 ws.1 ws.2
    (c.in_ok-first-in-Choice.ensures.ok c.args.ended.now) c.in_ok-left-in-Choice.ensures.ok c.in_ok-right-in-Choice.ensures.ok c.in_ok-merge-in-Choice.ensures.ok)

pub turned-returns-clause-ok : goal.turned-returns-clause-ok
turned-returns-clause-ok t c =
    let closed = c.args.found.closed.states.entries in
    let copy = c.args.found.copy.states.entries in
    turn_settles (value_of (expression_of c.args.guard.now)) (statements_of c.args.body.now) closed c.args.table.states.entries c.args.found.visits.states.entries _ _ _ _ _ copy c.args.ended.now _ _ c.requires.weights
    (c.above.ensures c.if-not-above.false) (c.same.ensures c.if-not-same.false) (c.same-2.ensures c.if-not-same-2.false) c.in_ok-next.ensures.ok c.in_ok-merge.ensures.ok
    c.in_ok-seen.ensures.ok c.in_ok-on.ensures.first c.in_ok-on.ensures.second

pub check_state-returns : goal.check_state-returns
check_state-returns t c =
    state_stays (value_of (expression_of c.args.guard.now)) (statements_of c.args.body.now) c.args.closed.now.states.entries _ _ c.args.state.now _ _ c.requires.weights (c.passes.ensures c.if-not-passes.false) c.in_ok-one.ensures.one c.in_ok-gone.ensures c.in_ok-next.ensures.ok
    (c.is_none.ensures c.if-not-is_none.false) (c.all_stand.ensures c.if-not-all_stand.false)

pub check_each-loop-state-init : goal.check_each-loop-state-init
check_each-loop-state-init t c = record {
  next = tt;
  finite = tt;
  so_far = λ h. subst (λ z. EachState (StaysIn (value_of (expression_of c.args.guard.now)) (BlockSettles Alike Alike (statements_of c.args.body.now)) (keys_in c.args.closed.now.states.entries)) (keys_in z)) c.into_iter-state-iterator.ensures.into_iter_gives.0 h;
}

pub check_each-check_state-requires : goal.check_each-check_state-requires
check_each-check_state-requires t c = (search (rules, the_lemmas), (c.requires.reads, (c.requires.below, (c.requires.weights, sized_at _ _ c.args.closed.now.sized deref_pair _ _ _ _ _ _ c.into_iter-state-iterator.ensures.into_iter_gives.0 c.loop-state.yielded_by c.in-Some.is c.next.ensures.steps))))

pub check_each-loop-state-preserved : goal.check_each-loop-state-preserved
check_each-loop-state-preserved t c = record {
  next = tt;
  finite = tt;
  so_far = stays_next (StaysIn (value_of (expression_of c.args.guard.now)) (BlockSettles Alike Alike (statements_of c.args.body.now)) (keys_in c.args.closed.now.states.entries)) c.args.closed.now.states.entries _ _ _ _ c.in-Some.ensures.steps c.in_ok-check_state.ensures c.loop-state.invariant.so_far;
}

pub check_each-returns : goal.check_each-returns
check_each-returns t c =
    c.loop-state.invariant.so_far (subst (λ z. EachState (StaysIn (value_of (expression_of c.args.guard.now)) (BlockSettles Alike Alike (statements_of c.args.body.now)) (keys_in c.args.closed.now.states.entries)) (keys_in z)) (sym c.in-None.ensures.steps.0) tt)

pub settle_stmt-settle_arms-requires : goal.settle_stmt-settle_arms-requires
settle_stmt-settle_arms-requires t c =
    let form = (ap statement_of c.in-Choose.is ∙ choose_view c.in-Choose.arms) in
    let weighted = weights_as _ _ form c.requires.weights in
    (search (rules, the_lemmas), (below_as _ _ _ form c.requires.below, (weighted.1, (subst (λ n. 1 ≤ n) (sym c.total.ensures) (weighted.0).positive, c.total.ensures))))

pub settle_stmt-returns-in-Choose-clause-ok : goal.settle_stmt-returns-in-Choose-clause-ok
settle_stmt-returns-in-Choose-clause-ok t c =
    IfOk-weaker c.settle_arms.result _ _
    (λ next a. statement_as _ _ c.args.table.states.entries _ c.args.ended.now _ (ap statement_of c.in-Choose.is ∙ choose_view c.in-Choose.arms) a)
    c.settle_arms.ensures.ok

pub settle_arms-loop-count-init : goal.settle_arms-loop-count-init
settle_arms-loop-count-init t c =
    let same = ap arm_list_of c.deref-count-items.ensures.value in
    let all = list_of_arms c.args.arms.now in
    record {
      vars = c.new-out.ensures.vars;
      below = subst (ArmsBelow c.args.table.now.vars) (sym same) c.requires.below;
      weights = subst ArmsAreWeighed (sym same) c.requires.weights;
      so_far = arms_as (sum (parts_of all)) all _ _ c.args.table.now.states.entries c.args.ended.now c.new-out.result.states.entries c.args.ended.now (sym same)
          (arms_start (sum (parts_of all)) all c.args.table.now.states.entries c.args.ended.now c.new-out.result.states.entries c.new-out.ensures.empty);
    }

pub settle_arms-settle_block-requires : goal.settle_arms-settle_block-requires
settle_arms-settle_block-requires t c =
    let next = arms_next c.deref-count-items.result.now c.loop-count.count-index c.loop-count-item.result c.loop-count-test.true c.loop-count-item.is in (
      search (rules, the_lemmas),
      (
        subst (λ m. BlockBelow m (statements_of c.loop-count-item.result.1)) (sym c.in_ok-part.ensures.vars) (subst (ArmsBelow c.args.table.now.vars) next c.loop-count.invariant.below).0,
        (subst ArmsAreWeighed next c.loop-count.invariant.weights).0,
      ),
    )

pub settle_arms-merge-requires : goal.settle_arms-merge-requires
settle_arms-merge-requires t c = c.in_ok-left.ensures.vars ∙ c.in_ok-part.ensures.vars ∙ sym c.loop-count.invariant.vars

pub settle_arms-loop-count-preserved : goal.settle_arms-loop-count-preserved
settle_arms-loop-count-preserved t c =
    let next = arms_next c.deref-count-items.result.now c.loop-count.count-index c.loop-count-item.result c.loop-count-test.true c.loop-count-item.is in
    let all = list_of_arms c.args.arms.now in
    let rest = arm_list_of (drop (c.loop-count.count-index + 1) c.deref-count-items.result.now) in
    let es = c.args.table.now.states.entries in
    record {
      vars = c.merge.ensures.vars ∙ c.loop-count.invariant.vars;
      below = (subst (ArmsBelow c.args.table.now.vars) next c.loop-count.invariant.below).1;
      weights = (subst ArmsAreWeighed next c.loop-count.invariant.weights).1;
      so_far = arm_turn (sum (parts_of all)) c.loop-count-item.result.0 all rest (statements_of c.loop-count-item.result.1) (1, c.args.all) es c.loop-count.out.states.entries _ _ _ c.args.ended.now _ _
          (subst (λ n. 0 < n) c.requires.all (let z = c.requires.positive in omega arith)) (subst ArmsAreWeighed next c.loop-count.invariant.weights).0 (ap (λ n. 1 * n) (sym c.requires.all))
          (arms_as (sum (parts_of all)) all _ _ es c.args.ended.now c.loop-count.out.states.entries c.loop-count.ended next c.loop-count.invariant.so_far) c.in_ok-part.ensures.ok c.in_ok-left.ensures.ok c.in_ok-merge.ensures.ok;
    }

pub settle_arms-returns-clause-ok : goal.settle_arms-returns-clause-ok
settle_arms-returns-clause-ok t c =
    let all = list_of_arms c.args.arms.now in
    let none = arms_done c.deref-count-items.result.now c.loop-count.count-index (omega (arith, c.loop-count-test.false)) in
    arms_end (sum (parts_of all)) all c.args.table.now.states.entries c.args.ended.now c.loop-count.out.states.entries c.loop-count.ended
    (arms_as (sum (parts_of all)) all _ _ c.args.table.now.states.entries c.args.ended.now c.loop-count.out.states.entries c.loop-count.ended none c.loop-count.invariant.so_far)
