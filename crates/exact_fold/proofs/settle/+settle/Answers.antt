use Rattle.std.proofs.Common.{rules, ◌+◌, ◌<◌, None, length, drop, arith, refl, sym, ap, ◌∙◌, subst}
use Rattle.std.specs.Map.Iter.{deref_pair}
use Rattle.std.proofs.lemmas.Result.{IfOk-weaker}
use Rattle.gcl_core.specs.declared.syntax.Stmt.{the_lemmas}
use Rattle.gcl_core.specs.meaning.Bounds.{StatementIsWeighed, StatementBelow, BlockBelow, ArmsBelow, ArmsAreWeighed}
use Rattle.gcl_core.specs.meaning.Syntax.{Skip, Set, Uniform, Observe}
use Rattle.gcl_core.specs.meaning.Views.{expression_of, statement_of, statements_of, list_of, arm_list_of, list_of_arms}
use Rattle.gcl_core.specs.meaning.Value.{value_of}
use Rattle.gcl_core.proofs.ViewLemmas.{skip_view, set_view, observe_view, if_view, while_view, choice_view, choose_view, uniform_view}
use Rattle.unlimited_law.specs.Alike.{Alike}
use Rattle.unlimited_law.specs.Settling.{EachState, BlockSettles}
use Rattle.mass_fold.proofs.Fitting.{below_as, weights_as}
use Rattle.mass_fold.proofs.Folds.{fold_skip, fold_assign, fold_observe, fold_draw}
use Rattle.mass_fold.specs.inner.Steps.{UniformTo}
use Rattle.mass_fold.proofs.Sizes.{sized_at}
use Rattle.std.specs.List.{sum}
use Rattle.numbers.specs.Fraction.{IsEqual}
use Rattle.gcl_core.specs.meaning.Arms.{parts_of}
use Rattle.mass_fold.proofs.ArmsLeft.{arms_done, arms_next}
use Rattle.exact_fold.proofs.Arms.{arms_start, arms_as, arm_turn, arms_end}
use Rattle.exact_fold.specs.inner.Settled.{as_table}
use Rattle.exact_fold.specs.inner.Turning.{StaysIn, keys_in}
use Rattle.exact_fold.proofs.Steps.{alone_settles, skip_back, set_back, uniform_back, observe_back, branch_settles, statement_as, rest_next, rest_none}
use Rattle.forgetting.proofs.Marking.{below_at}
use Rattle.exact_fold.specs.inner.Between.{between}
use Rattle.exact_fold.proofs.InParts.{part_step, weighed_between, weighed_at, rest_behind, none_between, states_start, states_as, state_turn, states_end}
use Rattle.exact_fold.proofs.FreeFlows.{one_unlimited}
use Rattle.exact_fold.proofs.Turns.{turn_settles, state_stays, stays_next, choice_settles}
use Rattle.exact_fold.proofs.settle.+settle.Goals as goal

pub settle_block-walked_to-to-requires : goal.settle_block-walked_to-to-requires
settle_block-walked_to-to-requires t c = record {
  below = subst (λ m. BlockBelow m (statements_of c.args.block.now)) (sym c.loop-from.invariant.vars) c.requires.below;
  inside = omega (arith, c.loop-from-test.true);
}

pub settle_block-settle_from-requires : goal.settle_block-settle_from-requires
settle_block-settle_from-requires t c = (
  search (rules, the_lemmas),
  (
    subst (λ m. BlockBelow m (statements_of c.args.block.now)) (sym c.loop-from.invariant.vars) c.requires.below,
    (c.requires.weights, (c.walked_to-to.ensures.above, c.walked_to-to.ensures.inside)),
  ),
)

pub settle_block-loop-from-preserved : goal.settle_block-loop-from-preserved
settle_block-loop-from-preserved t c = record {
  place = c.walked_to-to.ensures.inside;
  vars = c.in_ok-now.ensures.vars ∙ c.loop-from.invariant.vars;
  so_far = rest_behind (BlockSettles Alike Alike (list_of c.args.block.now.stmts.items)) c.args.block.now.stmts.items c.loop-from.from c.walked_to-to.result c.args.table.states.entries _ _ c.args.ended.now _ _
      (omega (arith, c.walked_to-to.ensures.above)) c.requires.weights c.loop-from.invariant.so_far c.in_ok-now.ensures.ok;
}

pub settle_block-returns-clause-ok : goal.settle_block-returns-clause-ok
settle_block-returns-clause-ok t c =
    rest_none c.args.block.now.stmts.items c.args.block.now.stmts.items c.loop-from.from _ _ _ _ (omega (arith, c.loop-from-test.false)) refl c.loop-from.invariant.so_far

pub settle_between-settle_stmt-requires : goal.settle_between-settle_stmt-requires
settle_between-settle_stmt-requires t c =
    let xs = c.args.block.now.stmts.items in
    let statement = c.index.result.now in
    let lt : c.loop-at.at < length xs = omega (arith, c.loop-at-test.true, c.requires.inside) in (
      search (rules, the_lemmas),
      (
        subst (λ m. StatementBelow m (statement_of statement)) (sym c.loop-at.invariant.vars) (subst (λ s. StatementBelow c.args.table.vars (statement_of s)) (sym c.index.ensures) (below_at c.args.table.vars xs c.loop-at.at statement lt c.requires.below)),
        subst (λ s. StatementIsWeighed (statement_of s)) (sym c.index.ensures) (weighed_at xs c.loop-at.at statement lt c.requires.weights),
      ),
    )

pub settle_between-loop-at-preserved : goal.settle_between-loop-at-preserved
settle_between-loop-at-preserved t c =
    let xs = c.args.block.now.stmts.items in
    let lt : c.loop-at.at < length xs = omega (arith, c.loop-at-test.true, c.requires.inside) in
    record {
      vars = c.in_ok-now.ensures.vars ∙ c.loop-at.invariant.vars;
      so_far = rest_next (BlockSettles Alike Alike (between c.args.from c.args.to xs)) _ _ _ _ _ _ _ _ _ (part_step xs c.loop-at.at c.args.to c.index.result.now lt c.loop-at-test.true c.index.ensures) c.loop-at.invariant.so_far c.in_ok-now.ensures.ok;
    }

pub settle_between-returns-clause-ok : goal.settle_between-returns-clause-ok
settle_between-returns-clause-ok t c = none_between c.args.from c.loop-at.at c.args.to c.args.block.now.stmts.items _ _ _ _ (omega (arith, c.loop-at-test.false)) c.loop-at.invariant.so_far

pub settle_from-loop-state-init : goal.settle_from-loop-state-init
settle_from-loop-state-init t c = record {
  next = tt;
  finite = tt;
  vars = c.new-out.ensures.vars;
  so_far = states_start (between c.args.from c.args.to c.args.block.now.stmts.items) c.args.table.states.entries _ c.args.ended.now c.new-out.result.states.entries
      (weighed_between c.args.from c.args.to c.args.block.now.stmts.items c.requires.weights) c.new-out.ensures.empty c.into_iter-state-iterator.ensures.into_iter_gives.0;
}

pub settle_from-one_state-requires : goal.settle_from-one_state-requires
settle_from-one_state-requires t c =
    sized_at _ _ c.args.table.sized (λ e. e) _ _ _ _ _ _ c.into_iter-state-iterator.ensures.into_iter_gives.0 c.loop-state.yielded_by c.in-Some.is c.next.ensures.steps ∙ sym c.loop-state.invariant.vars

pub settle_from-settle_between-requires-in-loop-state : goal.settle_from-settle_between-requires-in-loop-state
settle_from-settle_between-requires-in-loop-state t c = (
  search (rules, the_lemmas),
  (
    subst (λ m. BlockBelow m (statements_of c.args.block.now)) (sym (c.in_ok-one.ensures.vars ∙ c.loop-state.invariant.vars)) c.requires.below,
    (c.requires.weights, c.requires.inside),
  ),
)

pub settle_from-loop-state-preserved : goal.settle_from-loop-state-preserved
settle_from-loop-state-preserved t c =
    let stretch = between c.args.from c.args.to c.args.block.now.stmts.items in
    record {
      next = tt;
      finite = tt;
      vars = c.merge.ensures.vars ∙ c.loop-state.invariant.vars;
      so_far = state_turn stretch c.args.table.states.entries _ c.in-Some.state c.in-Some.weight _ _ _ _ c.args.ended.now _ _ (weighed_between c.args.from c.args.to c.args.block.now.stmts.items c.requires.weights)
          (states_as stretch c.args.table.states.entries _ _ c.args.ended.now c.loop-state.out.states.entries c.loop-state.ended c.in-Some.ensures.steps c.loop-state.invariant.so_far)
          c.in_ok-one.ensures.one c.in_ok-left.ensures.ok c.in_ok-merge.ensures.ok;
    }

pub settle_from-returns-clause-ok : goal.settle_from-returns-clause-ok
settle_from-returns-clause-ok t c =
    states_end (between c.args.from c.args.to c.args.block.now.stmts.items) c.args.table.states.entries _ c.args.ended.now c.loop-state.out.states.entries c.loop-state.ended c.in-None.ensures.steps.0 c.loop-state.invariant.so_far

pub settle_stmt-returns-in-Skip-clause-ok : goal.settle_stmt-returns-in-Skip-clause-ok
settle_stmt-returns-in-Skip-clause-ok t c =
    let form = ap statement_of c.in-Skip.is ∙ skip_view in
    let es = c.args.table.states.entries in
    statement_as _ _ es es c.args.ended.now c.args.ended.now form (alone_settles Skip es c.args.ended.now es c.args.ended.now tt (skip_back es) (one_unlimited 0 Skip tt (as_table es)) (fold_skip 0 None es c.args.ended.now))

pub settle_stmt-returns-in_ok-assign-in-Set-clause-ok : goal.settle_stmt-returns-in_ok-assign-in-Set-clause-ok
settle_stmt-returns-in_ok-assign-in-Set-clause-ok t c =
    let form = ap statement_of c.in-Set.is ∙ set_view c.in-Set.x c.in-Set.e in
    let es = c.args.table.states.entries in
    let ended = c.args.ended.now in
    let ex = expression_of c.in-Set.e in
    statement_as _ _ es _ ended _ form (alone_settles (Set c.in-Set.x ex) es ended _ _ tt (set_back c.in-Set.x ex es) (one_unlimited 0 (Set c.in-Set.x ex) tt (as_table es)) (fold_assign 0 None c.in-Set.x ex es ended _ _ c.in_ok-assign-in-Set.ensures.ok))

pub settle_stmt-returns-in_ok-draw-in-Uniform-clause-ok : goal.settle_stmt-returns-in_ok-draw-in-Uniform-clause-ok
settle_stmt-returns-in_ok-draw-in-Uniform-clause-ok t c =
    let form = ap statement_of c.in-Uniform.is ∙ uniform_view c.in-Uniform.x c.in-Uniform.e in
    let es = c.args.table.states.entries in
    let ended = c.args.ended.now in
    let ex = expression_of c.in-Uniform.e in
    let after = c.in_ok-draw-in-Uniform.field-0.states.entries in
    let drawn : UniformTo c.in-Uniform.x (value_of ex) None es ended after c.draw.new.ended =
    subst (λ r. UniformTo c.in-Uniform.x (value_of ex) r es ended after c.draw.new.ended) c.unlimited.ensures c.in_ok-draw-in-Uniform.ensures.ok in
    statement_as _ _ es _ ended _ form (alone_settles (Uniform c.in-Uniform.x ex) es ended _ _ tt (uniform_back c.in-Uniform.x ex es)
    (one_unlimited 0 (Uniform c.in-Uniform.x ex) tt (as_table es)) (fold_draw 0 None c.in-Uniform.x ex es ended c.len-count.ensures.ordered _ _ drawn))

pub settle_stmt-returns-in_ok-end_all-in-Observe-clause-ok : goal.settle_stmt-returns-in_ok-end_all-in-Observe-clause-ok
settle_stmt-returns-in_ok-end_all-in-Observe-clause-ok t c =
    let form = ap statement_of c.in-Observe.is ∙ observe_view c.in-Observe.e in
    let es = c.args.table.states.entries in
    let ended = c.args.ended.now in
    let ex = expression_of c.in-Observe.e in
    statement_as _ _ es _ ended _ form (alone_settles (Observe ex) es ended _ _ tt (observe_back ex es) (one_unlimited 0 (Observe ex) tt (as_table es)) (fold_observe 0 None ex es ended _ _ _ _ c.in_ok-first-in-Observe.ensures.first c.in_ok-first-in-Observe.ensures.second c.in_ok-end_all-in-Observe.ensures.ok))

pub settle_stmt-settle_block-requires : goal.settle_stmt-settle_block-requires
settle_stmt-settle_block-requires t c =
    let form = (ap statement_of c.in-If.is ∙ if_view c.in-If.e c.in-If.a c.in-If.c) in
    (search (rules, the_lemmas), (subst (λ m. BlockBelow m (statements_of c.in-If.a)) (sym c.in_ok-first-in-If.ensures.vars.0) (below_as _ _ _ form c.requires.below).1, (weights_as _ _ form c.requires.weights).0))

pub settle_stmt-settle_block-requires-in-If : goal.settle_stmt-settle_block-requires-in-If
settle_stmt-settle_block-requires-in-If t c =
    let form = (ap statement_of c.in-If.is ∙ if_view c.in-If.e c.in-If.a c.in-If.c) in
    (search (rules, the_lemmas), (subst (λ m. BlockBelow m (statements_of c.in-If.c)) (sym c.in_ok-first-in-If.ensures.vars.1) (below_as _ _ _ form c.requires.below).2, (weights_as _ _ form c.requires.weights).1))

pub settle_stmt-returns-in_ok-merge-in-If-clause-ok : goal.settle_stmt-returns-in_ok-merge-in-If-clause-ok
settle_stmt-returns-in_ok-merge-in-If-clause-ok t c =
    let form = (ap statement_of c.in-If.is ∙ if_view c.in-If.e c.in-If.a c.in-If.c) in
    let ws = weights_as _ _ form c.requires.weights in
    statement_as _ _ c.args.table.states.entries _ c.args.ended.now _ form
    (branch_settles (expression_of c.in-If.e) (statements_of c.in-If.a) (statements_of c.in-If.c) c.args.table.states.entries _ _ _ _ _ c.args.ended.now _ _ _ ws.0 ws.1
    c.in_ok-first-in-If.ensures.first c.in_ok-first-in-If.ensures.second c.in_ok-left-in-If.ensures.ok c.in_ok-right-in-If.ensures.ok c.in_ok-merge-in-If.ensures.ok)

pub settle_stmt-settle_loop-requires : goal.settle_stmt-settle_loop-requires
settle_stmt-settle_loop-requires t c =
    let form = (ap statement_of c.in-While.is ∙ while_view c.in-While.e c.in-While.body) in
    (search (rules, the_lemmas), ((below_as _ _ _ form c.requires.below).0, ((below_as _ _ _ form c.requires.below).1, weights_as _ _ form c.requires.weights)))

pub settle_stmt-returns-in-While-clause-ok : goal.settle_stmt-returns-in-While-clause-ok
settle_stmt-returns-in-While-clause-ok t c =
    IfOk-weaker c.settle_loop.result _ _
    (λ next a. statement_as _ _ c.args.table.states.entries _ c.args.ended.now _ (ap statement_of c.in-While.is ∙ while_view c.in-While.e c.in-While.body) a)
    c.settle_loop.ensures.ok

pub settle_stmt-sides-requires : goal.settle_stmt-sides-requires
settle_stmt-sides-requires t c =
    (weights_as _ _ (ap statement_of c.in-Choice.is ∙ choice_view c.in-Choice.p c.in-Choice.a c.in-Choice.c) c.requires.weights).0

pub settle_stmt-settle_block-requires-in-Choice : goal.settle_stmt-settle_block-requires-in-Choice
settle_stmt-settle_block-requires-in-Choice t c =
    let form = (ap statement_of c.in-Choice.is ∙ choice_view c.in-Choice.p c.in-Choice.a c.in-Choice.c) in
    (search (rules, the_lemmas), (subst (λ m. BlockBelow m (statements_of c.in-Choice.a)) (sym c.in_ok-first-in-Choice.ensures.vars.0) (below_as _ _ _ form c.requires.below).0, (weights_as _ _ form c.requires.weights).1))

pub settle_stmt-settle_block-requires-in-Choice-2 : goal.settle_stmt-settle_block-requires-in-Choice-2
settle_stmt-settle_block-requires-in-Choice-2 t c =
    let form = (ap statement_of c.in-Choice.is ∙ choice_view c.in-Choice.p c.in-Choice.a c.in-Choice.c) in
    (search (rules, the_lemmas), (subst (λ m. BlockBelow m (statements_of c.in-Choice.c)) (sym c.in_ok-first-in-Choice.ensures.vars.1) (below_as _ _ _ form c.requires.below).1, (weights_as _ _ form c.requires.weights).2))

pub settle_stmt-returns-in_ok-merge-in-Choice-clause-ok : goal.settle_stmt-returns-in_ok-merge-in-Choice-clause-ok
settle_stmt-returns-in_ok-merge-in-Choice-clause-ok t c =
    let form = (ap statement_of c.in-Choice.is ∙ choice_view c.in-Choice.p c.in-Choice.a c.in-Choice.c) in
    let ws = weights_as _ _ form c.requires.weights in
    statement_as _ _ c.args.table.states.entries _ c.args.ended.now _ form
    (choice_settles c.in-Choice.p (statements_of c.in-Choice.a) (statements_of c.in-Choice.c) c.args.table.states.entries _ _ _ _ _ c.args.ended.now _ _ _ ws.0 ws.1 ws.2
    c.in_ok-first-in-Choice.ensures.ok c.in_ok-left-in-Choice.ensures.ok c.in_ok-right-in-Choice.ensures.ok c.in_ok-merge-in-Choice.ensures.ok)

pub turned-returns-clause-ok : goal.turned-returns-clause-ok
turned-returns-clause-ok t c =
    let closed = c.args.found.closed.states.entries in
    let copy = c.args.found.copy.states.entries in
    turn_settles (value_of (expression_of c.args.guard.now)) (statements_of c.args.body.now) closed c.args.table.states.entries c.args.found.visits.states.entries _ _ _ _ _ copy c.args.ended.now _ _ c.requires.weights
    (c.above.ensures c.if-not-above.false) (c.same.ensures c.if-not-same.false) (c.same-2.ensures c.if-not-same-2.false) c.in_ok-next.ensures.ok c.in_ok-merge.ensures.ok
    c.in_ok-seen.ensures.ok c.in_ok-on.ensures.first c.in_ok-on.ensures.second

pub check_state-returns : goal.check_state-returns
check_state-returns t c =
    state_stays (value_of (expression_of c.args.guard.now)) (statements_of c.args.body.now) c.args.closed.now.states.entries _ _ c.args.state.now _ _ c.requires.weights (c.passes.ensures c.if-not-passes.false) c.in_ok-one.ensures.one c.none-gone.ensures c.in_ok-next.ensures.ok
    (c.is_none.ensures c.if-not-is_none.false) (c.all_stand.ensures c.if-not-all_stand.false)

pub check_closed-loop-state-init : goal.check_closed-loop-state-init
check_closed-loop-state-init t c = record {
  next = tt;
  finite = tt;
  so_far = λ h. subst (λ z. EachState (StaysIn (value_of (expression_of c.args.guard.now)) (BlockSettles Alike Alike (statements_of c.args.body.now)) (keys_in c.args.closed.now.states.entries)) (keys_in z)) c.into_iter-state-iterator.ensures.into_iter_gives.0 h;
}

pub check_closed-check_state-requires : goal.check_closed-check_state-requires
check_closed-check_state-requires t c = (search (rules, the_lemmas), (c.requires.reads, (c.requires.below, (c.requires.weights, sized_at _ _ c.args.closed.now.sized deref_pair _ _ _ _ _ _ c.into_iter-state-iterator.ensures.into_iter_gives.0 c.loop-state.yielded_by c.in-Some.is c.next.ensures.steps))))

pub check_closed-loop-state-preserved : goal.check_closed-loop-state-preserved
check_closed-loop-state-preserved t c = record {
  next = tt;
  finite = tt;
  so_far = stays_next (StaysIn (value_of (expression_of c.args.guard.now)) (BlockSettles Alike Alike (statements_of c.args.body.now)) (keys_in c.args.closed.now.states.entries)) c.args.closed.now.states.entries _ _ _ _ c.in-Some.ensures.steps c.in_ok-check_state.ensures c.loop-state.invariant.so_far;
}

pub check_closed-returns : goal.check_closed-returns
check_closed-returns t c =
    c.loop-state.invariant.so_far (subst (λ z. EachState (StaysIn (value_of (expression_of c.args.guard.now)) (BlockSettles Alike Alike (statements_of c.args.body.now)) (keys_in c.args.closed.now.states.entries)) (keys_in z)) (sym c.in-None.ensures.steps.0) tt)

pub settle_stmt-settle_arms-requires : goal.settle_stmt-settle_arms-requires
settle_stmt-settle_arms-requires t c =
    let form = (ap statement_of c.in-Choose.is ∙ choose_view c.in-Choose.arms) in
    let weighted = weights_as _ _ form c.requires.weights in
    let equal = subst (λ b. IsEqual c.one_part-part.result (1, b)) c.total.ensures c.one_part-part.ensures.equal in
    (search (rules, the_lemmas), (below_as _ _ _ form c.requires.below, (weighted.0, (weighted.1, (c.one_part-part.ensures.above, equal)))))

pub settle_stmt-returns-in-Choose-clause-ok : goal.settle_stmt-returns-in-Choose-clause-ok
settle_stmt-returns-in-Choose-clause-ok t c =
    IfOk-weaker c.settle_arms.result _ _
    (λ next a. statement_as _ _ c.args.table.states.entries _ c.args.ended.now _ (ap statement_of c.in-Choose.is ∙ choose_view c.in-Choose.arms) a)
    c.settle_arms.ensures.ok

pub settle_arms-loop-count-init : goal.settle_arms-loop-count-init
settle_arms-loop-count-init t c =
    let same = ap arm_list_of c.deref-count-items.ensures.value in
    let all = list_of_arms c.args.arms.now in
    record {
      vars = c.new-out.ensures.vars;
      below = subst (ArmsBelow c.args.table.now.vars) (sym same) c.requires.below;
      weights = subst ArmsAreWeighed (sym same) c.requires.weights;
      so_far = arms_as (sum (parts_of all)) all _ _ c.args.table.now.states.entries c.args.ended.now c.new-out.result.states.entries c.args.ended.now (sym same)
          (arms_start (sum (parts_of all)) all c.args.table.now.states.entries c.args.ended.now c.new-out.result.states.entries c.new-out.ensures.empty);
    }

pub settle_arms-settle_block-requires : goal.settle_arms-settle_block-requires
settle_arms-settle_block-requires t c =
    let next = arms_next c.deref-count-items.result.now c.loop-count.count-index c.loop-count-item.result c.loop-count-test.true c.loop-count-item.is in (
      search (rules, the_lemmas),
      (
        subst (λ m. BlockBelow m (statements_of c.loop-count-item.result.1)) (sym c.in_ok-side.ensures.vars) (subst (ArmsBelow c.args.table.now.vars) next c.loop-count.invariant.below).0,
        (subst ArmsAreWeighed next c.loop-count.invariant.weights).0,
      ),
    )

pub settle_arms-merge-requires : goal.settle_arms-merge-requires
settle_arms-merge-requires t c = c.in_ok-left.ensures.vars ∙ c.in_ok-side.ensures.vars ∙ sym c.loop-count.invariant.vars

pub settle_arms-loop-count-preserved : goal.settle_arms-loop-count-preserved
settle_arms-loop-count-preserved t c =
    let next = arms_next c.deref-count-items.result.now c.loop-count.count-index c.loop-count-item.result c.loop-count-test.true c.loop-count-item.is in
    let all = list_of_arms c.args.arms.now in
    let rest = arm_list_of (drop (c.loop-count.count-index + 1) c.deref-count-items.result.now) in
    let es = c.args.table.now.states.entries in
    record {
      vars = c.merge.ensures.vars ∙ c.loop-count.invariant.vars;
      below = (subst (ArmsBelow c.args.table.now.vars) next c.loop-count.invariant.below).1;
      weights = (subst ArmsAreWeighed next c.loop-count.invariant.weights).1;
      so_far = arm_turn (sum (parts_of all)) c.loop-count-item.result.0 all rest (statements_of c.loop-count-item.result.1) c.args.part.now es c.loop-count.out.states.entries _ _ _ c.args.ended.now _ _
          (let z = c.requires.parts.positive in omega arith) (subst ArmsAreWeighed next c.loop-count.invariant.weights).0 c.requires.equal
          (arms_as (sum (parts_of all)) all _ _ es c.args.ended.now c.loop-count.out.states.entries c.loop-count.ended next c.loop-count.invariant.so_far) c.in_ok-side.ensures.ok c.in_ok-left.ensures.ok c.in_ok-merge.ensures.ok;
    }

pub settle_arms-returns-clause-ok : goal.settle_arms-returns-clause-ok
settle_arms-returns-clause-ok t c =
    let all = list_of_arms c.args.arms.now in
    let none = arms_done c.deref-count-items.result.now c.loop-count.count-index (omega (arith, c.loop-count-test.false)) in
    arms_end (sum (parts_of all)) all c.args.table.now.states.entries c.args.ended.now c.loop-count.out.states.entries c.loop-count.ended
    (arms_as (sum (parts_of all)) all _ _ c.args.table.now.states.entries c.args.ended.now c.loop-count.out.states.entries c.loop-count.ended none c.loop-count.invariant.so_far)
