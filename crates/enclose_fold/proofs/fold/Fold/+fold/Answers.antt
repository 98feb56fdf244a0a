use Rattle.std.proofs.Common.{rules, length, ◌≡◌, ◌+◌, ◌-◌, ◌<◌, [], arith, refl, sym, ap, ◌∙◌, drop, subst, Err, suc}
use Rattle.std.specs.List.{sum}
use Rattle.std.proofs.lemmas.Result.{IfOk-weaker, IfErr-weaker}
use Rattle.gcl_core.specs.declared.answers.Limit.TheVariants.{Attempts}
use Rattle.gcl_core.specs.declared.syntax.Stmt.{the_lemmas}
use Rattle.gcl_core.specs.meaning.Arms.{parts_of}
use Rattle.gcl_core.specs.meaning.Blocks.{limit}
use Rattle.gcl_core.specs.meaning.Bounds.{StatementBelow, BlockBelow, ArmsBelow, ArmsAreWeighed, ExpressionBelow, StatementIsWeighed}
use Rattle.gcl_core.specs.meaning.Value.{value_of}
use Rattle.gcl_core.specs.meaning.Views.{expression_of, statement_of, statements_of, list_of, arm_list_of, list_of_arms}
use Rattle.gcl_core.proofs.ViewLemmas.{skip_view, set_view, observe_view, if_view, while_view, choice_view, choose_view, uniform_view}
use Rattle.mass_fold.proofs.ArmsLeft.{arms_done, sum_next, arms_next}
use Rattle.mass_fold.proofs.Fitting.{below_as, weights_as}
use Rattle.table_flow.specs.Tables.{holds, fails}
use Rattle.units_law.specs.Down.{down}
use Rattle.units_law.specs.Rounding.{class_units, rest_units}
use Rattle.units_law.specs.Units.{only_units, fault_units, end_units}
use Rattle.forgetting.proofs.Marking.{below_at}
use Rattle.enclose_fold.specs.inner.Between.{part, between}
use Rattle.enclose_fold.proofs.ByStates.{states_start, states_end, states_short, units_room, state_room, state_fails, state_merge_room, state_merge_fails, state_turn, goes_on, goes_on_fails, goes_between}
use Rattle.enclose_fold.proofs.Between.{part_behind, part_step, weighed_between, weighed_at}
use Rattle.enclose_fold.proofs.CycleArms.{arms_start, arms_as, arms_turn, arms_end, arm_room, merge_room, side_fails, block_fails, merge_fails, side_as, choose_within, choose_gives}
use Rattle.enclose_fold.proofs.CycleFlows.{goes_next, goes_fails, block_spends, empty_gives, both_give, first_refused, second_refused, merge_refused}
use Rattle.enclose_fold.proofs.CycleSteps.{no_states, guard_room, gives_as, refused_as, goes_as, goes_done, memory_refused, skip_gives, set_gives, draw_gives, observe_gives, choice_room, rest_as, ok_both, draw_refused}
use Rattle.enclose_fold.proofs.CycleLoops.{loop_start, loop_as, loop_dry, loop_fails, loop_room, exits_fail, body_fails, loop_turn, loop_end}
use Rattle.enclose_fold.proofs.Sizes.{sized_at}
use Rattle.enclose_fold.proofs.fold.Fold.+fold.Goals as goal

pub block-walked_to-to-requires : goal.block-walked_to-to-requires
block-walked_to-to-requires t c = record {
  below = subst (λ m. BlockBelow m (statements_of c.args.b.now)) (sym c.loop-from.invariant.vars) c.requires.below;
  inside = omega (arith, c.loop-from-test.true);
}

pub block-from_to-requires : goal.block-from_to-requires
block-from_to-requires t c = (
  search (rules, the_lemmas),
  (
    subst (λ m. BlockBelow m (statements_of c.args.b.now)) (sym c.loop-from.invariant.vars) c.requires.below,
    (
      c.requires.weights,
      (
        c.walked_to-to.ensures.above,
        (c.walked_to-to.ensures.inside, (c.walked_to-to.ensures.once, (let w = c.loop-from.invariant.so_far.within in omega (arith, c.requires.within, w)))),
      ),
    ),
  ),
)

pub block-returns-in_err-now-clause-cause : goal.block-returns-in_err-now-clause-cause
block-returns-in_err-now-clause-cause t c =
    let n = c.args.self.turns in
    let r = c.args.self.attempts in
    let xs = c.args.b.now.stmts.items in
    let at = c.loop-from.from in
    let to = c.walked_to-to.result in
    let out : c.from_residual.result ≡ Err c.in_err-now.field-0.0 = grind arith in
    rw out (goes_on_fails n r (list_of xs) c.args.table.states.entries c.args.ended.now (part at to xs) (drop to xs) c.loop-from.now.states.entries c.loop-from.ended
    (goes_as n r (list_of xs) _ _ c.args.table.states.entries _ c.args.ended.now _ (ap list_of (sym (part_behind at to xs (omega (arith, c.walked_to-to.ensures.above))))) c.loop-from.invariant.so_far) _ c.in_err-now.ensures.cause)

pub block-loop-from-preserved : goal.block-loop-from-preserved
block-loop-from-preserved t c =
    let n = c.args.self.turns in
    let r = c.args.self.attempts in
    let xs = c.args.b.now.stmts.items in
    let at = c.loop-from.from in
    let to = c.walked_to-to.result in
    record {
      place = c.walked_to-to.ensures.inside;
      vars = c.in_ok-now.ensures.vars ∙ c.loop-from.invariant.vars;
      so_far = goes_on n r (list_of xs) c.args.table.states.entries c.args.ended.now (part at to xs) (drop to xs) c.loop-from.now.states.entries _ c.loop-from.ended _ (weighed_between at to xs c.requires.weights)
          (goes_as n r (list_of xs) _ _ c.args.table.states.entries _ c.args.ended.now _ (ap list_of (sym (part_behind at to xs (omega (arith, c.walked_to-to.ensures.above))))) c.loop-from.invariant.so_far)
          c.in_ok-now.ensures.ok;
    }

pub block-returns-clause-ok : goal.block-returns-clause-ok
block-returns-clause-ok t c =
    let xs = c.args.b.now.stmts.items in
    goes_done c.args.self.turns c.args.self.attempts xs xs c.loop-from.from c.args.table.states.entries _ c.args.ended.now _ (omega (arith, c.loop-from-test.false)) refl c.loop-from.now.once c.loop-from.invariant.so_far

pub between-stmt-requires : goal.between-stmt-requires
between-stmt-requires t c =
    let xs = c.args.b.now.stmts.items in
    let d = c.index.result.now in
    let m = c.args.table.vars in
    let lt : c.loop-at.at < length xs = omega (arith, c.loop-at-test.true, c.requires.inside) in (
      search (rules, the_lemmas),
      (
        subst (λ m. StatementBelow m (statement_of d)) (sym c.loop-at.invariant.vars) (subst (λ s. StatementBelow m (statement_of s)) (sym c.index.ensures) (below_at m xs c.loop-at.at d lt c.requires.below)),
        (
          subst (λ s. StatementIsWeighed (statement_of s)) (sym c.index.ensures) (weighed_at xs c.loop-at.at d lt c.requires.weights),
          (let w = c.loop-at.invariant.so_far.within in omega (arith, c.requires.within, w)),
        ),
      ),
    )

pub between-returns-in_err-now-clause-cause : goal.between-returns-in_err-now-clause-cause
between-returns-in_err-now-clause-cause t c =
    let n = c.args.self.turns in
    let r = c.args.self.attempts in
    let xs = c.args.b.now.stmts.items in
    let b = between c.args.from c.args.to xs in
    let lt : c.loop-at.at < length xs = omega (arith, c.loop-at-test.true, c.requires.inside) in
    let p = part_step xs c.loop-at.at c.args.to c.index.result.now lt c.loop-at-test.true c.index.ensures in
    let out : c.from_residual.result ≡ Err c.in_err-now.field-0.0 = grind arith in
    rw out (goes_fails n r b c.args.table.states.entries c.args.ended.now _ _ c.loop-at.now.states.entries c.loop-at.ended c.loop-at.now.once
    (goes_as n r b _ _ c.args.table.states.entries _ c.args.ended.now _ p c.loop-at.invariant.so_far) _ c.in_err-now.ensures.cause)

pub between-loop-at-preserved : goal.between-loop-at-preserved
between-loop-at-preserved t c =
    let n = c.args.self.turns in
    let r = c.args.self.attempts in
    let xs = c.args.b.now.stmts.items in
    let b = between c.args.from c.args.to xs in
    let lt : c.loop-at.at < length xs = omega (arith, c.loop-at-test.true, c.requires.inside) in
    let p = part_step xs c.loop-at.at c.args.to c.index.result.now lt c.loop-at-test.true c.index.ensures in
    let w = subst (λ s. StatementIsWeighed (statement_of s)) (sym c.index.ensures) (weighed_at xs c.loop-at.at c.index.result.now lt c.requires.weights) in
    record {
      vars = c.in_ok-now.ensures.vars ∙ c.loop-at.invariant.vars;
      so_far = goes_next n r b c.args.table.states.entries c.args.ended.now _ _ c.loop-at.now.states.entries c.loop-at.ended c.loop-at.now.once
          (goes_as n r b _ _ c.args.table.states.entries _ c.args.ended.now _ p c.loop-at.invariant.so_far) w _ _ c.in_ok-now.ensures.ok;
    }

pub between-returns-clause-ok : goal.between-returns-clause-ok
between-returns-clause-ok t c =
    goes_between c.args.self.turns c.args.self.attempts c.args.from c.loop-at.at c.args.to c.args.b.now.stmts.items c.args.table.states.entries _ c.args.ended.now _ (omega (arith, c.loop-at-test.false)) c.loop-at.now.once
    c.loop-at.invariant.so_far

pub from_to-loop-s-init : goal.from_to-loop-s-init
from_to-loop-s-init t c =
    let turns = c.args.self.turns in
    let attempts = c.args.self.attempts in
    let stretch = between c.args.from c.args.to c.args.b.now.stmts.items in
    record {
      next = tt;
      finite = tt;
      vars = c.new-out.ensures.vars;
      so_far = states_start turns attempts stretch c.args.table.states.entries c.args.ended.now c.args.table.once (c.requires.once (omega (arith, c.requires.above, c.if-to-from-eq1.false)))
          (weighed_between c.args.from c.args.to c.args.b.now.stmts.items c.requires.weights) _ _
          c.new-out.ensures.empty c.into_iter-s-iterator.ensures.into_iter_gives.0 c.requires.within;
    }

pub from_to-one_state-requires : goal.from_to-one_state-requires
from_to-one_state-requires t c =
    let n = c.args.self.turns in
    let r = c.args.self.attempts in
    let b = between c.args.from c.args.to c.args.b.now.stmts.items in
    record {
      sized = sized_at _ _ c.args.table.sized (λ e. e) _ _ _ _ _ _ c.into_iter-s-iterator.ensures.into_iter_gives.0 c.loop-s.yielded_by c.in-Some.is c.next.ensures.steps ∙ sym c.loop-s.invariant.vars;
      within = units_room n r b c.args.table.states.entries c.args.ended.now c.args.table.once _ c.next.new.self c.loop-s.out.states.entries c.in-Some.s c.in-Some.w c.loop-s.ended c.in-Some.ensures.steps c.loop-s.invariant.so_far;
    }

pub from_to-returns-in_err-one-clause-cause : goal.from_to-returns-in_err-one-clause-cause
from_to-returns-in_err-one-clause-cause t c =
    let n = c.args.self.turns in
    let r = c.args.self.attempts in
    let b = between c.args.from c.args.to c.args.b.now.stmts.items in
    let out : c.from_residual.result ≡ Err c.in_err-one.field-0.0 = grind arith in
    rw out (states_short n r b c.args.table.states.entries c.args.ended.now c.args.table.once _ c.in_err-one.ensures.cause)

pub from_to-between-requires-in-loop-s : goal.from_to-between-requires-in-loop-s
from_to-between-requires-in-loop-s t c =
    let turns = c.args.self.turns in
    let attempts = c.args.self.attempts in
    let stretch = between c.args.from c.args.to c.args.b.now.stmts.items in (
      search (rules, the_lemmas),
      (
        subst (λ m. BlockBelow m (statements_of c.args.b.now)) (sym (c.in_ok-one.ensures.vars ∙ c.loop-s.invariant.vars)) c.requires.below,
        (
          c.requires.weights,
          (
            c.requires.inside,
            state_room turns attempts stretch c.args.table.states.entries c.args.ended.now c.args.table.once _ c.next.new.self
                c.loop-s.out.states.entries c.in-Some.s c.in-Some.w c.loop-s.ended c.in-Some.ensures.steps c.loop-s.invariant.so_far c.in_ok-one.one.states.entries c.in_ok-one.one.once
                c.in_ok-one.ensures.one,
          ),
        ),
      ),
    )

pub from_to-returns-in_err-left-clause-cause : goal.from_to-returns-in_err-left-clause-cause
from_to-returns-in_err-left-clause-cause t c =
    let turns = c.args.self.turns in
    let attempts = c.args.self.attempts in
    let stretch = between c.args.from c.args.to c.args.b.now.stmts.items in
    let out : c.from_residual-in_err-left.result ≡ Err c.in_err-left.field-0.0 = grind arith in
    rw out (state_fails turns attempts stretch c.args.table.states.entries c.args.ended.now c.args.table.once _ c.next.new.self c.loop-s.out.states.entries c.in-Some.s c.in-Some.w
    c.loop-s.ended c.in-Some.ensures.steps c.loop-s.invariant.so_far c.in_ok-one.one.states.entries c.in_ok-one.one.once c.in_ok-one.ensures.one _ c.in_err-left.ensures.cause)

pub from_to-merge-requires : goal.from_to-merge-requires
from_to-merge-requires t c =
    let turns = c.args.self.turns in
    let attempts = c.args.self.attempts in
    let stretch = between c.args.from c.args.to c.args.b.now.stmts.items in
    record {
      vars = c.in_ok-left.ensures.vars ∙ c.in_ok-one.ensures.vars;
      within = state_merge_room turns attempts stretch c.args.table.states.entries c.args.ended.now c.args.table.once _ c.next.new.self c.loop-s.out.states.entries c.in-Some.s c.in-Some.w
          c.loop-s.ended c.in-Some.ensures.steps c.loop-s.invariant.so_far c.in_ok-one.one.states.entries c.in_ok-one.one.once c.in_ok-one.ensures.one _ _ c.in_ok-left.ensures.ok
          (weighed_between c.args.from c.args.to c.args.b.now.stmts.items c.requires.weights);
    }

pub from_to-returns-in_err-merge-clause-cause : goal.from_to-returns-in_err-merge-clause-cause
from_to-returns-in_err-merge-clause-cause t c =
    let turns = c.args.self.turns in
    let attempts = c.args.self.attempts in
    let stretch = between c.args.from c.args.to c.args.b.now.stmts.items in
    let out : c.from_residual-in_err-merge.result ≡ Err c.in_err-merge.field-0.0 = grind arith in
    rw out (state_merge_fails turns attempts stretch c.args.table.states.entries c.args.ended.now c.args.table.once _ c.next.new.self c.loop-s.out.states.entries c.in-Some.s c.in-Some.w
    c.loop-s.ended c.in-Some.ensures.steps c.loop-s.invariant.so_far c.in_ok-one.one.states.entries c.in_ok-one.one.once c.in_ok-one.ensures.one _ _ c.in_ok-left.ensures.ok _
    c.in_err-merge.ensures.cause)

pub from_to-loop-s-preserved : goal.from_to-loop-s-preserved
from_to-loop-s-preserved t c =
    let turns = c.args.self.turns in
    let attempts = c.args.self.attempts in
    let stretch = between c.args.from c.args.to c.args.b.now.stmts.items in
    record {
      next = tt;
      finite = tt;
      vars = c.merge.ensures.vars ∙ c.loop-s.invariant.vars;
      so_far = state_turn turns attempts stretch c.args.table.states.entries c.args.ended.now c.args.table.once _ c.next.new.self c.loop-s.out.states.entries c.in-Some.s c.in-Some.w
          c.loop-s.ended c.in-Some.ensures.steps c.loop-s.invariant.so_far c.in_ok-one.one.states.entries c.in_ok-one.one.once c.in_ok-one.ensures.one _ _ c.in_ok-left.ensures.ok
          (weighed_between c.args.from c.args.to c.args.b.now.stmts.items c.requires.weights) _ c.in_ok-merge.ensures.ok;
    }

pub from_to-returns-clause-ok : goal.from_to-returns-clause-ok
from_to-returns-clause-ok t c =
    let n = c.args.self.turns in
    let r = c.args.self.attempts in
    let b = between c.args.from c.args.to c.args.b.now.stmts.items in
    states_end n r b c.args.table.states.entries c.args.ended.now c.args.table.once _ c.loop-s.out.states.entries c.loop-s.ended c.in-None.ensures.steps.0 c.loop-s.out.once c.loop-s.invariant.so_far

pub stmt-returns-then-len-eq0-clause-ok : goal.stmt-returns-then-len-eq0-clause-ok
stmt-returns-then-len-eq0-clause-ok t c =
    let entries = c.args.table.states.entries in
    empty_gives c.args.self.turns c.args.self.attempts _ c.requires.weights entries c.args.ended.now (no_states entries (sym c.len.ensures.len ∙ c.if-len-eq0.true)) c.args.table.once

pub stmt-returns-in-Skip-clause-ok : goal.stmt-returns-in-Skip-clause-ok
stmt-returns-in-Skip-clause-ok t c =
    let entries = c.args.table.states.entries in
    let ended = c.args.ended.now in
    let turns = c.args.self.turns in
    let attempts = c.args.self.attempts in
    gives_as turns attempts _ _ entries _ ended _ (ap statement_of c.in-Skip.is ∙ skip_view) (skip_gives turns attempts entries ended c.args.table.once)

pub stmt-returns-in-Set-clause-ok : goal.stmt-returns-in-Set-clause-ok
stmt-returns-in-Set-clause-ok t c =
    let entries = c.args.table.states.entries in
    let ended = c.args.ended.now in
    let turns = c.args.self.turns in
    let attempts = c.args.self.attempts in
    ok_both c.assign.result _ _ _
    (λ next a b. gives_as turns attempts _ _ entries _ ended _ (ap statement_of c.in-Set.is ∙ set_view c.in-Set.x c.in-Set.e)
    (set_gives turns attempts c.in-Set.x (expression_of c.in-Set.e) entries _ ended _ a b))
    c.assign.ensures.next c.assign.ensures.stopped

pub stmt-returns-in-Set-clause-cause : goal.stmt-returns-in-Set-clause-cause
stmt-returns-in-Set-clause-cause t c =
    IfErr-weaker c.assign.result _ _ (λ e a. memory_refused c.args.self.turns c.args.self.attempts (statement_of c.args.s.now) c.args.table.states.entries e a) c.assign.ensures.cause

pub stmt-returns-in-Uniform-clause-ok : goal.stmt-returns-in-Uniform-clause-ok
stmt-returns-in-Uniform-clause-ok t c =
    let entries = c.args.table.states.entries in
    let ended = c.args.ended.now in
    let turns = c.args.self.turns in
    let attempts = c.args.self.attempts in
    ok_both c.draw.result _ _ _
    (λ next a b. gives_as turns attempts _ _ entries _ ended _ (ap statement_of c.in-Uniform.is ∙ uniform_view c.in-Uniform.x c.in-Uniform.e)
    (draw_gives turns attempts c.in-Uniform.x (expression_of c.in-Uniform.e) entries _ ended _ a b))
    c.draw.ensures.next c.draw.ensures.stopped

pub stmt-returns-in-Uniform-clause-cause : goal.stmt-returns-in-Uniform-clause-cause
stmt-returns-in-Uniform-clause-cause t c =
    let entries = c.args.table.states.entries in
    let turns = c.args.self.turns in
    let attempts = c.args.self.attempts in
    IfErr-weaker c.draw.result _ _
    (λ e a. refused_as turns attempts _ _ entries e (ap statement_of c.in-Uniform.is ∙ uniform_view c.in-Uniform.x c.in-Uniform.e)
    (draw_refused turns attempts c.in-Uniform.x (expression_of c.in-Uniform.e) entries e a))
    c.draw.ensures.cause

pub stmt-returns-in_ok-first-in-Observe-clause-ok : goal.stmt-returns-in_ok-first-in-Observe-clause-ok
stmt-returns-in_ok-first-in-Observe-clause-ok t c =
    let entries = c.args.table.states.entries in
    let ended = c.args.ended.now in
    let turns = c.args.self.turns in
    let attempts = c.args.self.attempts in
    gives_as turns attempts _ _ entries _ ended _ (ap statement_of c.in-Observe.is ∙ observe_view c.in-Observe.e)
    (observe_gives turns attempts (expression_of c.in-Observe.e) entries _ _ ended _ _ _ c.in_ok-first-in-Observe.ensures.first c.in_ok-first-in-Observe.ensures.second
    c.in_ok-first-in-Observe.ensures.stopped c.all_of.ensures c.add_failed.ensures)

pub stmt-returns-in_err-first-in-Observe-clause-cause : goal.stmt-returns-in_err-first-in-Observe-clause-cause
stmt-returns-in_err-first-in-Observe-clause-cause t c =
    let out : c.from_residual.result ≡ Err c.in_err-first-in-Observe.field-0.0 = grind arith in
    rw out (memory_refused c.args.self.turns c.args.self.attempts (statement_of c.args.s.now) c.args.table.states.entries _ c.in_err-first-in-Observe.ensures.cause)

pub stmt-block-requires : goal.stmt-block-requires
stmt-block-requires t c =
    let q = (ap statement_of c.in-If.is ∙ if_view c.in-If.e c.in-If.a c.in-If.c) in
    let g = guard_room (value_of (expression_of c.in-If.e)) c.args.table.states.entries _ _ c.args.ended.now _ c.in_ok-first-in-If.ensures.first c.in_ok-first-in-If.ensures.second c.in_ok-first-in-If.ensures.stopped in (
      search (rules, the_lemmas),
      (
        subst (λ m. BlockBelow m (statements_of c.in-If.a)) (sym c.in_ok-first-in-If.ensures.vars.0) (below_as _ _ _ q c.requires.below).1,
        ((weights_as _ _ q c.requires.weights).0, omega (arith, g, c.requires.within)),
      ),
    )

pub stmt-block-requires-in-If : goal.stmt-block-requires-in-If
stmt-block-requires-in-If t c =
    let q = (ap statement_of c.in-If.is ∙ if_view c.in-If.e c.in-If.a c.in-If.c) in
    let g = guard_room (value_of (expression_of c.in-If.e)) c.args.table.states.entries _ _ c.args.ended.now _ c.in_ok-first-in-If.ensures.first c.in_ok-first-in-If.ensures.second c.in_ok-first-in-If.ensures.stopped in
    let l = block_spends c.args.self.turns c.args.self.attempts (statements_of c.in-If.a) (weights_as _ _ q c.requires.weights).0 _ _ _ _ c.in_ok-left-in-If.ensures.ok in (
      search (rules, the_lemmas),
      (
        subst (λ m. BlockBelow m (statements_of c.in-If.c)) (sym c.in_ok-first-in-If.ensures.vars.1) (below_as _ _ _ q c.requires.below).2,
        ((weights_as _ _ q c.requires.weights).1, omega (arith, g, l, c.requires.within)),
      ),
    )

pub stmt-returns-in_ok-merge-in-If-clause-ok : goal.stmt-returns-in_ok-merge-in-If-clause-ok
stmt-returns-in_ok-merge-in-If-clause-ok t c =
    let form = ap statement_of c.in-If.is ∙ if_view c.in-If.e c.in-If.a c.in-If.c in
    let guard = value_of (expression_of c.in-If.e) in
    let entries = c.args.table.states.entries in
    let faults = fault_units guard entries in
    let passing = only_units (holds guard) entries in
    let failing = only_units (fails guard) entries in
    let ended = c.args.ended.now in
    let turns = c.args.self.turns in
    let attempts = c.args.self.attempts in
    gives_as turns attempts _ _ entries _ ended _ form
    (both_give turns attempts faults (statements_of c.in-If.a) (statements_of c.in-If.c) passing failing _ _ _ _ _ c.in_ok-first-in-If.ensures.first c.in_ok-first-in-If.ensures.second ended
    _ _ _
    c.in_ok-first-in-If.ensures.stopped c.in_ok-left-in-If.ensures.ok c.in_ok-right-in-If.ensures.ok c.in_ok-merge-in-If.ensures.ok)

pub stmt-returns-in_err-merge-in-If-clause-cause : goal.stmt-returns-in_err-merge-in-If-clause-cause
stmt-returns-in_err-merge-in-If-clause-cause t c =
    let form = ap statement_of c.in-If.is ∙ if_view c.in-If.e c.in-If.a c.in-If.c in
    let guard = value_of (expression_of c.in-If.e) in
    let entries = c.args.table.states.entries in
    let faults = fault_units guard entries in
    let passing = only_units (holds guard) entries in
    let failing = only_units (fails guard) entries in
    let turns = c.args.self.turns in
    let attempts = c.args.self.attempts in
    let out : c.from_residual-in_err-merge-in-If.result ≡ Err c.in_err-merge-in-If.field-0.0 = grind arith in
    rw out (refused_as turns attempts _ _ entries _ form
    (merge_refused turns attempts faults (statements_of c.in-If.a) (statements_of c.in-If.c) passing failing _ _ _ _ [] c.in_ok-first-in-If.ensures.first c.in_ok-first-in-If.ensures.second
    _ _ _ _
    c.in_ok-left-in-If.ensures.ok c.in_ok-right-in-If.ensures.ok c.in_err-merge-in-If.ensures.cause))

pub stmt-returns-in_err-right-in-If-clause-cause : goal.stmt-returns-in_err-right-in-If-clause-cause
stmt-returns-in_err-right-in-If-clause-cause t c =
    let form = ap statement_of c.in-If.is ∙ if_view c.in-If.e c.in-If.a c.in-If.c in
    let guard = value_of (expression_of c.in-If.e) in
    let entries = c.args.table.states.entries in
    let faults = fault_units guard entries in
    let passing = only_units (holds guard) entries in
    let failing = only_units (fails guard) entries in
    let turns = c.args.self.turns in
    let attempts = c.args.self.attempts in
    let out : c.from_residual-in_err-right-in-If.result ≡ Err c.in_err-right-in-If.field-0.0 = grind arith in
    rw out (refused_as turns attempts _ _ entries _ form
    (second_refused turns attempts faults (statements_of c.in-If.a) (statements_of c.in-If.c) passing failing _ _ [] [] [] c.in_ok-first-in-If.ensures.first
    c.in_ok-first-in-If.ensures.second _ c.in_err-right-in-If.ensures.cause))

pub stmt-returns-in_err-left-in-If-clause-cause : goal.stmt-returns-in_err-left-in-If-clause-cause
stmt-returns-in_err-left-in-If-clause-cause t c =
    let form = ap statement_of c.in-If.is ∙ if_view c.in-If.e c.in-If.a c.in-If.c in
    let guard = value_of (expression_of c.in-If.e) in
    let entries = c.args.table.states.entries in
    let faults = fault_units guard entries in
    let passing = only_units (holds guard) entries in
    let failing = only_units (fails guard) entries in
    let turns = c.args.self.turns in
    let attempts = c.args.self.attempts in
    let out : c.from_residual-in_err-left-in-If.result ≡ Err c.in_err-left-in-If.field-0.0 = grind arith in
    rw out (refused_as turns attempts _ _ entries _ form
    (first_refused turns attempts faults (statements_of c.in-If.a) (statements_of c.in-If.c) passing failing _ _ [] [] [] c.in_ok-first-in-If.ensures.first
    c.in_ok-first-in-If.ensures.second _ c.in_err-left-in-If.ensures.cause))

pub stmt-returns-in_err-first-in-If-clause-cause : goal.stmt-returns-in_err-first-in-If-clause-cause
stmt-returns-in_err-first-in-If-clause-cause t c =
    let out : c.from_residual-in_err-first-in-If.result ≡ Err c.in_err-first-in-If.field-0.0 = grind arith in
    rw out (memory_refused c.args.self.turns c.args.self.attempts (statement_of c.args.s.now) c.args.table.states.entries _ c.in_err-first-in-If.ensures.cause)

pub stmt-while_loop-requires : goal.stmt-while_loop-requires
stmt-while_loop-requires t c =
    let q = (ap statement_of c.in-While.is ∙ while_view c.in-While.e c.in-While.body) in
    (search (rules, the_lemmas), ((below_as _ _ _ q c.requires.below).0, ((below_as _ _ _ q c.requires.below).1, (weights_as _ _ q c.requires.weights, c.requires.within))))

pub stmt-returns-in-While-clause-ok : goal.stmt-returns-in-While-clause-ok
stmt-returns-in-While-clause-ok t c =
    IfOk-weaker c.while_loop.result _ _ (λ next a. gives_as c.args.self.turns c.args.self.attempts _ _ c.args.table.states.entries _ c.args.ended.now _
    (ap statement_of c.in-While.is ∙ while_view c.in-While.e c.in-While.body) a) c.while_loop.ensures.ok

pub stmt-returns-in-While-clause-cause : goal.stmt-returns-in-While-clause-cause
stmt-returns-in-While-clause-cause t c =
    IfErr-weaker c.while_loop.result _ _ (λ e a. refused_as c.args.self.turns c.args.self.attempts _ _ c.args.table.states.entries e (ap statement_of c.in-While.is ∙ while_view c.in-While.e c.in-While.body) a) c.while_loop.ensures.cause

pub arms-loop-count-init : goal.arms-loop-count-init
arms-loop-count-init t c =
    let same = ap arm_list_of c.deref-count-items.ensures.value in
    let b = sum (parts_of (list_of_arms c.args.arms.now)) in
    record {
      vars = c.new-out.ensures.vars;
      below = subst (ArmsBelow c.args.table.now.vars) (sym same) c.requires.below;
      weights = subst ArmsAreWeighed (sym same) c.requires.weights;
      few = let e = ap (λ a. sum (parts_of a)) same in omega (arith, e);
      so_far = arms_as c.args.self.turns c.args.self.attempts b (list_of_arms c.args.arms.now) c.args.table.now.states.entries c.args.ended.now _ _ _ _ (sym same)
          (arms_start c.args.self.turns c.args.self.attempts b (list_of_arms c.args.arms.now) c.args.table.now.states.entries c.args.ended.now c.new-out.result.states.entries c.new-out.ensures.empty c.requires.within);
    }

pub arms-side-requires : goal.arms-side-requires
arms-side-requires t c =
    let s = sum_next c.deref-count-items.result.now c.loop-count.count-index c.loop-count-item.result c.loop-count-test.true c.loop-count-item.is in
    record { part = omega (arith, s, c.loop-count.invariant.few, c.requires.bound); within = c.requires.most }

pub arms-returns-in_err-first-clause-cause : goal.arms-returns-in_err-first-clause-cause
arms-returns-in_err-first-clause-cause t c =
    let out : c.from_residual.result ≡ Err c.in_err-first.field-0.0 = grind arith in
    let b = sum (parts_of (list_of_arms c.args.arms.now)) in
    rw out (side_fails c.args.self.turns c.args.self.attempts b (list_of_arms c.args.arms.now) c.args.table.now.states.entries c.args.ended.now _ c.in_err-first.ensures.cause)

pub arms-block-requires : goal.arms-block-requires
arms-block-requires t c =
    let next = arms_next c.deref-count-items.result.now c.loop-count.count-index c.loop-count-item.result c.loop-count-test.true c.loop-count-item.is in
    let b = sum (parts_of (list_of_arms c.args.arms.now)) in
    let f = c.args.self in
    let is = side_as c.args.table.now.states.entries c.loop-count-item.result.0 _ b _ f.attempts c.in_ok-first.first.states.entries c.requires.bound c.requires.attempts c.in_ok-first.ensures.next in (
      search (rules, the_lemmas),
      (
        subst (λ m. BlockBelow m (statements_of c.loop-count-item.result.1)) (sym c.in_ok-first.ensures.vars) (subst (ArmsBelow c.args.table.now.vars) next c.loop-count.invariant.below).0,
        (
          (subst ArmsAreWeighed next c.loop-count.invariant.weights).0,
          arm_room f.turns f.attempts b (list_of_arms c.args.arms.now) c.args.table.now.states.entries c.args.ended.now c.loop-count-item.result.0 (statements_of c.loop-count-item.result.1)
              (arm_list_of (drop (c.loop-count.count-index + 1) c.deref-count-items.result.now)) c.loop-count.out.states.entries c.loop-count.ended
              (arms_as f.turns f.attempts b (list_of_arms c.args.arms.now) c.args.table.now.states.entries c.args.ended.now _ _ _ _ next c.loop-count.invariant.so_far)
              c.in_ok-first.first.states.entries is,
        ),
      ),
    )

pub arms-returns-in_err-left-clause-cause : goal.arms-returns-in_err-left-clause-cause
arms-returns-in_err-left-clause-cause t c =
    let out : c.from_residual-in_err-left.result ≡ Err c.in_err-left.field-0.0 = grind arith in
    let next = arms_next c.deref-count-items.result.now c.loop-count.count-index c.loop-count-item.result c.loop-count-test.true c.loop-count-item.is in
    let b = sum (parts_of (list_of_arms c.args.arms.now)) in
    let f = c.args.self in
    let is = side_as c.args.table.now.states.entries c.loop-count-item.result.0 _ b _ f.attempts c.in_ok-first.first.states.entries c.requires.bound c.requires.attempts c.in_ok-first.ensures.next in
    rw out (block_fails f.turns f.attempts b (list_of_arms c.args.arms.now) c.args.table.now.states.entries c.args.ended.now c.loop-count-item.result.0 (statements_of c.loop-count-item.result.1)
    (arm_list_of (drop (c.loop-count.count-index + 1) c.deref-count-items.result.now)) c.loop-count.out.states.entries c.loop-count.ended
    (arms_as f.turns f.attempts b (list_of_arms c.args.arms.now) c.args.table.now.states.entries c.args.ended.now _ _ _ _ next c.loop-count.invariant.so_far)
    c.in_ok-first.first.states.entries is _ c.in_err-left.ensures.cause)

pub arms-merge-requires : goal.arms-merge-requires
arms-merge-requires t c =
    let next = arms_next c.deref-count-items.result.now c.loop-count.count-index c.loop-count-item.result c.loop-count-test.true c.loop-count-item.is in
    let b = sum (parts_of (list_of_arms c.args.arms.now)) in
    let f = c.args.self in
    let is = side_as c.args.table.now.states.entries c.loop-count-item.result.0 _ b _ f.attempts c.in_ok-first.first.states.entries c.requires.bound c.requires.attempts c.in_ok-first.ensures.next in
    record {
      vars = c.in_ok-left.ensures.vars ∙ c.in_ok-first.ensures.vars ∙ sym c.loop-count.invariant.vars;
      within = merge_room f.turns f.attempts b (list_of_arms c.args.arms.now) c.args.table.now.states.entries c.args.ended.now c.loop-count-item.result.0 (statements_of c.loop-count-item.result.1)
          (arm_list_of (drop (c.loop-count.count-index + 1) c.deref-count-items.result.now)) c.loop-count.out.states.entries c.loop-count.ended
          (arms_as f.turns f.attempts b (list_of_arms c.args.arms.now) c.args.table.now.states.entries c.args.ended.now _ _ _ _ next c.loop-count.invariant.so_far)
          c.in_ok-first.first.states.entries is _ _ c.in_ok-left.ensures.ok (subst ArmsAreWeighed next c.loop-count.invariant.weights).0;
    }

pub arms-returns-in_err-merge-clause-cause : goal.arms-returns-in_err-merge-clause-cause
arms-returns-in_err-merge-clause-cause t c =
    let out : c.from_residual-in_err-merge.result ≡ Err c.in_err-merge.field-0.0 = grind arith in
    let next = arms_next c.deref-count-items.result.now c.loop-count.count-index c.loop-count-item.result c.loop-count-test.true c.loop-count-item.is in
    let b = sum (parts_of (list_of_arms c.args.arms.now)) in
    let f = c.args.self in
    let is = side_as c.args.table.now.states.entries c.loop-count-item.result.0 _ b _ f.attempts c.in_ok-first.first.states.entries c.requires.bound c.requires.attempts c.in_ok-first.ensures.next in
    rw out (merge_fails f.turns f.attempts b (list_of_arms c.args.arms.now) c.args.table.now.states.entries c.args.ended.now c.loop-count-item.result.0 (statements_of c.loop-count-item.result.1)
    (arm_list_of (drop (c.loop-count.count-index + 1) c.deref-count-items.result.now)) c.loop-count.out.states.entries c.loop-count.ended
    (arms_as f.turns f.attempts b (list_of_arms c.args.arms.now) c.args.table.now.states.entries c.args.ended.now _ _ _ _ next c.loop-count.invariant.so_far)
    c.in_ok-first.first.states.entries is _ _ c.in_ok-left.ensures.ok _ c.in_err-merge.ensures.cause)

pub arms-loop-count-preserved : goal.arms-loop-count-preserved
arms-loop-count-preserved t c =
    let next = arms_next c.deref-count-items.result.now c.loop-count.count-index c.loop-count-item.result c.loop-count-test.true c.loop-count-item.is in
    let b = sum (parts_of (list_of_arms c.args.arms.now)) in
    let f = c.args.self in
    let is = side_as c.args.table.now.states.entries c.loop-count-item.result.0 _ b _ f.attempts c.in_ok-first.first.states.entries c.requires.bound c.requires.attempts c.in_ok-first.ensures.next in
    record {
      vars = c.merge.ensures.vars ∙ c.loop-count.invariant.vars;
      below = (subst (ArmsBelow c.args.table.now.vars) next c.loop-count.invariant.below).1;
      weights = (subst ArmsAreWeighed next c.loop-count.invariant.weights).1;
      few = let s = sum_next c.deref-count-items.result.now c.loop-count.count-index c.loop-count-item.result c.loop-count-test.true c.loop-count-item.is in omega (arith, s, c.loop-count.invariant.few);
      so_far = arms_turn f.turns f.attempts b (list_of_arms c.args.arms.now) c.args.table.now.states.entries c.args.ended.now c.loop-count-item.result.0 (statements_of c.loop-count-item.result.1)
          (arm_list_of (drop (c.loop-count.count-index + 1) c.deref-count-items.result.now)) c.loop-count.out.states.entries c.loop-count.ended
          (arms_as f.turns f.attempts b (list_of_arms c.args.arms.now) c.args.table.now.states.entries c.args.ended.now _ _ _ _ next c.loop-count.invariant.so_far)
          c.in_ok-first.first.states.entries is _ _ c.in_ok-left.ensures.ok (subst ArmsAreWeighed next c.loop-count.invariant.weights).0 _ c.in_ok-merge.ensures.ok;
    }

pub arms-returns-clause-ok : goal.arms-returns-clause-ok
arms-returns-clause-ok t c =
    let none = arms_done c.deref-count-items.result.now c.loop-count.count-index (omega (arith, c.loop-count-test.false)) in
    let b = sum (parts_of (list_of_arms c.args.arms.now)) in
    let f = c.args.self in
    arms_end f.turns f.attempts b (list_of_arms c.args.arms.now) c.args.table.now.states.entries c.args.ended.now c.loop-count.out.states.entries c.loop-count.ended c.loop-count.out.once
    (arms_as f.turns f.attempts b (list_of_arms c.args.arms.now) c.args.table.now.states.entries c.args.ended.now _ _ _ _ none c.loop-count.invariant.so_far)

pub arms-returns-clause-vars : goal.arms-returns-clause-vars
arms-returns-clause-vars t c = c.loop-count.invariant.vars

pub while_loop-loop-init : goal.while_loop-loop-init
while_loop-loop-init t c =
    let f = c.args.self in
    let v = value_of (expression_of c.args.e.now) in
    let b = statements_of c.args.body.now in
    let e : f.turns ≡ f.turns - 0 = omega arith in
    record {
      now_vars = refl;
      exits_vars = c.new-exits.ensures.vars;
      so_far = loop_as f.turns f.attempts v b c.args.table.states.entries c.args.ended.now _ _ _ _ _ e
          (loop_start f.turns f.attempts v b c.args.table.states.entries c.args.ended.now c.new-exits.result.states.entries c.new-exits.ensures.empty c.requires.within);
    }

pub while_loop-returns-then-len-eq0-clause-ok : goal.while_loop-returns-then-len-eq0-clause-ok
while_loop-returns-then-len-eq0-clause-ok t c =
    let f = c.args.self in
    loop_dry f.turns f.attempts (value_of (expression_of c.args.e.now)) (statements_of c.args.body.now) c.args.table.states.entries c.args.ended.now c.requires.weights
    (f.turns - c.loop.counter) c.loop.now.states.entries c.loop.exits.states.entries c.loop.ended
    (no_states c.loop.now.states.entries (sym c.len.ensures.len ∙ c.if-len-eq0.true)) c.loop.exits.once c.loop.invariant.so_far

pub while_loop-split-requires : goal.while_loop-split-requires
while_loop-split-requires t c = record {
  reads = subst (ExpressionBelow (expression_of c.args.e.now)) (sym c.loop.invariant.now_vars) c.requires.reads;
  within = let w = c.loop.invariant.so_far.within in omega arith;
}

pub while_loop-split-requires-2 : goal.while_loop-split-requires-2
while_loop-split-requires-2 t c = record {
  reads = subst (ExpressionBelow (expression_of c.args.e.now)) (sym c.loop.invariant.now_vars) c.requires.reads;
  within = let w = c.loop.invariant.so_far.within in omega arith;
}

pub while_loop-merge-requires : goal.while_loop-merge-requires
while_loop-merge-requires t c =
    let f = c.args.self in
    let s = c.in_ok-first.ensures in
    let g = loop_room f.turns f.attempts (value_of (expression_of c.args.e.now)) (statements_of c.args.body.now) c.args.table.states.entries c.args.ended.now
    c.loop.now.states.entries c.loop.exits.states.entries c.loop.ended c.in_ok-first.first.states.entries c.in_ok-first.second.states.entries _ s.first s.second s.stopped c.loop.invariant.so_far.within in
    record { vars = s.vars.1 ∙ c.loop.invariant.now_vars ∙ sym c.loop.invariant.exits_vars; within = omega (arith, g) }

pub while_loop-merge-requires-2 : goal.while_loop-merge-requires-2
while_loop-merge-requires-2 t c =
    let f = c.args.self in
    let s = c.in_ok-first-2.ensures in
    let g = loop_room f.turns f.attempts (value_of (expression_of c.args.e.now)) (statements_of c.args.body.now) c.args.table.states.entries c.args.ended.now
    c.loop.now.states.entries c.loop.exits.states.entries c.loop.ended c.in_ok-first-2.first.states.entries c.in_ok-first-2.second.states.entries _ s.first s.second s.stopped c.loop.invariant.so_far.within in
    record { vars = s.vars.1 ∙ c.loop.invariant.now_vars ∙ sym c.loop.invariant.exits_vars; within = omega (arith, g) }

pub while_loop-block-requires : goal.while_loop-block-requires
while_loop-block-requires t c =
    let f = c.args.self in
    let s = c.in_ok-first.ensures in
    let p : c.in_ok-first.first.vars ≡ c.args.table.vars = s.vars.0 ∙ c.loop.invariant.now_vars in
    let g = loop_room f.turns f.attempts (value_of (expression_of c.args.e.now)) (statements_of c.args.body.now) c.args.table.states.entries c.args.ended.now
    c.loop.now.states.entries c.loop.exits.states.entries c.loop.ended c.in_ok-first.first.states.entries c.in_ok-first.second.states.entries _ s.first s.second s.stopped c.loop.invariant.so_far.within in
    (search (rules, the_lemmas), (subst (λ m. BlockBelow m (statements_of c.args.body.now)) (sym p) c.requires.below, (c.requires.weights, omega (arith, g))))

pub while_loop-all_of-requires : goal.while_loop-all_of-requires
while_loop-all_of-requires t c =
    let f = c.args.self in
    let s = c.in_ok-first-2.ensures in
    let g = loop_room f.turns f.attempts (value_of (expression_of c.args.e.now)) (statements_of c.args.body.now) c.args.table.states.entries c.args.ended.now
    c.loop.now.states.entries c.loop.exits.states.entries c.loop.ended c.in_ok-first-2.first.states.entries c.in_ok-first-2.second.states.entries _ s.first s.second s.stopped c.loop.invariant.so_far.within in
    omega (arith, g)

pub while_loop-add_turns-requires : goal.while_loop-add_turns-requires
while_loop-add_turns-requires t c =
    let f = c.args.self in
    let s = c.in_ok-first-2.ensures in
    let g = loop_room f.turns f.attempts (value_of (expression_of c.args.e.now)) (statements_of c.args.body.now) c.args.table.states.entries c.args.ended.now
    c.loop.now.states.entries c.loop.exits.states.entries c.loop.ended c.in_ok-first-2.first.states.entries c.in_ok-first-2.second.states.entries _ s.first s.second s.stopped c.loop.invariant.so_far.within in
    omega (arith, g, c.all_of.ensures)

pub while_loop-returns-in_err-first-clause-cause : goal.while_loop-returns-in_err-first-clause-cause
while_loop-returns-in_err-first-clause-cause t c =
    let f = c.args.self in
    let out : c.from_residual.result ≡ Err c.in_err-first.field-0.0 = grind arith in
    rw out (loop_fails f.turns f.attempts (value_of (expression_of c.args.e.now)) (statements_of c.args.body.now) c.args.table.states.entries c.args.ended.now _ c.in_err-first.ensures.cause)

pub while_loop-returns-in_err-first-2-clause-cause : goal.while_loop-returns-in_err-first-2-clause-cause
while_loop-returns-in_err-first-2-clause-cause t c =
    let f = c.args.self in
    let out : c.from_residual-in_err-first-2.result ≡ Err c.in_err-first-2.field-0.0 = grind arith in
    rw out (loop_fails f.turns f.attempts (value_of (expression_of c.args.e.now)) (statements_of c.args.body.now) c.args.table.states.entries c.args.ended.now _ c.in_err-first-2.ensures.cause)

pub while_loop-returns-in_err-merge-clause-cause : goal.while_loop-returns-in_err-merge-clause-cause
while_loop-returns-in_err-merge-clause-cause t c =
    let f = c.args.self in
    let s = c.in_ok-first.ensures in
    let out : c.from_residual-in_err-merge.result ≡ Err c.in_err-merge.field-0.0 = grind arith in
    rw out (exits_fail f.turns f.attempts (value_of (expression_of c.args.e.now)) (statements_of c.args.body.now) c.args.table.states.entries c.args.ended.now
    c.loop.now.states.entries c.loop.exits.states.entries c.loop.ended c.in_ok-first.first.states.entries c.in_ok-first.second.states.entries _ s.first s.second s.stopped
    (f.turns - c.loop.counter) c.loop.invariant.so_far _ c.in_err-merge.ensures.cause)

pub while_loop-returns-in_err-merge-2-clause-cause : goal.while_loop-returns-in_err-merge-2-clause-cause
while_loop-returns-in_err-merge-2-clause-cause t c =
    let f = c.args.self in
    let s = c.in_ok-first-2.ensures in
    let out : c.from_residual-in_err-merge-2.result ≡ Err c.in_err-merge-2.field-0.0 = grind arith in
    rw out (exits_fail f.turns f.attempts (value_of (expression_of c.args.e.now)) (statements_of c.args.body.now) c.args.table.states.entries c.args.ended.now
    c.loop.now.states.entries c.loop.exits.states.entries c.loop.ended c.in_ok-first-2.first.states.entries c.in_ok-first-2.second.states.entries _ s.first s.second s.stopped
    (f.turns - c.loop.counter) c.loop.invariant.so_far _ c.in_err-merge-2.ensures.cause)

pub while_loop-returns-in_err-now-clause-cause : goal.while_loop-returns-in_err-now-clause-cause
while_loop-returns-in_err-now-clause-cause t c =
    let f = c.args.self in
    let v = value_of (expression_of c.args.e.now) in
    let b = statements_of c.args.body.now in
    let s = c.in_ok-first.ensures in
    let e : f.turns - c.loop.counter ≡ suc (f.turns - (c.loop.counter + 1)) = omega arith in
    let l = loop_as f.turns f.attempts v b c.args.table.states.entries c.args.ended.now _ _ _ _ _ e c.loop.invariant.so_far in
    let out : c.from_residual-in_err-now.result ≡ Err c.in_err-now.field-0.0 = grind arith in
    rw out (body_fails f.turns f.attempts v b c.args.table.states.entries c.args.ended.now
    c.loop.now.states.entries c.loop.exits.states.entries c.loop.ended c.in_ok-first.first.states.entries c.in_ok-first.second.states.entries _ s.first s.second s.stopped
    (f.turns - (c.loop.counter + 1)) l _ c.in_err-now.ensures.cause)

pub while_loop-loop-preserved : goal.while_loop-loop-preserved
while_loop-loop-preserved t c =
    let f = c.args.self in
    let v = value_of (expression_of c.args.e.now) in
    let b = statements_of c.args.body.now in
    let s = c.in_ok-first.ensures in
    let e : f.turns - c.loop.counter ≡ suc (f.turns - (c.loop.counter + 1)) = omega arith in
    let l = loop_as f.turns f.attempts v b c.args.table.states.entries c.args.ended.now _ _ _ _ _ e c.loop.invariant.so_far in
    record {
      now_vars = c.in_ok-now.ensures.vars ∙ s.vars.0 ∙ c.loop.invariant.now_vars;
      exits_vars = c.merge.ensures.vars ∙ c.loop.invariant.exits_vars;
      so_far = loop_turn f.turns f.attempts v b c.args.table.states.entries c.args.ended.now
          c.loop.now.states.entries c.loop.exits.states.entries c.loop.ended c.in_ok-first.first.states.entries c.in_ok-first.second.states.entries _ s.first s.second s.stopped
          (f.turns - (c.loop.counter + 1)) l c.requires.weights _ _ _ c.in_ok-merge.ensures.ok c.in_ok-now.ensures.ok;
    }

pub while_loop-returns-clause-ok : goal.while_loop-returns-clause-ok
while_loop-returns-clause-ok t c =
    let f = c.args.self in
    let v = value_of (expression_of c.args.e.now) in
    let b = statements_of c.args.body.now in
    let s = c.in_ok-first-2.ensures in
    let e : f.turns - c.loop.counter ≡ 0 = omega arith in
    let l = loop_as f.turns f.attempts v b c.args.table.states.entries c.args.ended.now _ _ _ _ _ e c.loop.invariant.so_far in
    loop_end f.turns f.attempts v b c.args.table.states.entries c.args.ended.now
    c.loop.now.states.entries c.loop.exits.states.entries c.loop.ended c.in_ok-first-2.first.states.entries c.in_ok-first-2.second.states.entries _ s.first s.second s.stopped
    l _ _ c.all_of.result c.merge-2.new.into.once c.in_ok-merge-2.ensures.ok c.all_of.ensures c.add_turns.ensures

pub stmt-block-requires-in-Choice : goal.stmt-block-requires-in-Choice
stmt-block-requires-in-Choice t c =
    let entries = c.args.table.states.entries in
    let ended = c.args.ended.now in
    let attempts = c.args.self.attempts in
    let first = side_as entries c.in-Choice.p.num _ c.in-Choice.p.den _ attempts _ c.of-odds.ensures.bound c.of-odds.ensures.attempts c.in_ok-first-in-Choice.ensures.next in
    let second = side_as entries (c.in-Choice.p.den - c.in-Choice.p.num) _ c.in-Choice.p.den _ attempts _ c.of-odds.ensures.bound c.of-odds.ensures.attempts
    c.in_ok-second-in-Choice.ensures.next in
    let undecided = rest_as entries _ c.in-Choice.p.den _ attempts ended _ c.of-odds.ensures.bound c.of-odds.ensures.attempts c.undecided.ensures in
    let form = ap statement_of c.in-Choice.is ∙ choice_view c.in-Choice.p c.in-Choice.a c.in-Choice.c in
    let g = choice_room c.args.self.turns attempts c.in-Choice.p (weights_as _ _ form c.requires.weights).0 entries _ _ ended _ c.args.table.once first second undecided in (
      search (rules, the_lemmas),
      (
        subst (λ m. BlockBelow m (statements_of c.in-Choice.a)) (sym c.in_ok-first-in-Choice.ensures.vars) (below_as _ _ _ form c.requires.below).0,
        ((weights_as _ _ form c.requires.weights).1, omega (arith, g, c.requires.within)),
      ),
    )

pub stmt-block-requires-in-Choice-2 : goal.stmt-block-requires-in-Choice-2
stmt-block-requires-in-Choice-2 t c =
    let entries = c.args.table.states.entries in
    let ended = c.args.ended.now in
    let turns = c.args.self.turns in
    let attempts = c.args.self.attempts in
    let first = side_as entries c.in-Choice.p.num _ c.in-Choice.p.den _ attempts _ c.of-odds.ensures.bound c.of-odds.ensures.attempts c.in_ok-first-in-Choice.ensures.next in
    let second = side_as entries (c.in-Choice.p.den - c.in-Choice.p.num) _ c.in-Choice.p.den _ attempts _ c.of-odds.ensures.bound c.of-odds.ensures.attempts
    c.in_ok-second-in-Choice.ensures.next in
    let undecided = rest_as entries _ c.in-Choice.p.den _ attempts ended _ c.of-odds.ensures.bound c.of-odds.ensures.attempts c.undecided.ensures in
    let form = ap statement_of c.in-Choice.is ∙ choice_view c.in-Choice.p c.in-Choice.a c.in-Choice.c in
    let g = choice_room turns attempts c.in-Choice.p (weights_as _ _ form c.requires.weights).0 entries _ _ ended _ c.args.table.once first second undecided in
    let l = block_spends turns attempts (statements_of c.in-Choice.a) (weights_as _ _ form c.requires.weights).1 _ _ _ _ c.in_ok-left-in-Choice.ensures.ok in (
      search (rules, the_lemmas),
      (
        subst (λ m. BlockBelow m (statements_of c.in-Choice.c)) (sym c.in_ok-second-in-Choice.ensures.vars) (below_as _ _ _ form c.requires.below).1,
        ((weights_as _ _ form c.requires.weights).2, omega (arith, g, l, c.requires.within)),
      ),
    )

pub stmt-returns-in_ok-merge-in-Choice-clause-ok : goal.stmt-returns-in_ok-merge-in-Choice-clause-ok
stmt-returns-in_ok-merge-in-Choice-clause-ok t c =
    let form = ap statement_of c.in-Choice.is ∙ choice_view c.in-Choice.p c.in-Choice.a c.in-Choice.c in
    let entries = c.args.table.states.entries in
    let ended = c.args.ended.now in
    let turns = c.args.self.turns in
    let attempts = c.args.self.attempts in
    let first = side_as entries c.in-Choice.p.num _ c.in-Choice.p.den _ attempts _ c.of-odds.ensures.bound c.of-odds.ensures.attempts c.in_ok-first-in-Choice.ensures.next in
    let second = side_as entries (c.in-Choice.p.den - c.in-Choice.p.num) _ c.in-Choice.p.den _ attempts _ c.of-odds.ensures.bound c.of-odds.ensures.attempts
    c.in_ok-second-in-Choice.ensures.next in
    let undecided = rest_as entries _ c.in-Choice.p.den _ attempts ended _ c.of-odds.ensures.bound c.of-odds.ensures.attempts c.undecided.ensures in
    let rest = end_units (limit Attempts) (rest_units down c.in-Choice.p.den attempts entries) in
    let one_part = class_units down c.in-Choice.p.den attempts c.in-Choice.p.num entries in
    let other_part = class_units down c.in-Choice.p.den attempts (c.in-Choice.p.den - c.in-Choice.p.num) entries in
    let both = both_give turns attempts rest (statements_of c.in-Choice.a) (statements_of c.in-Choice.c) one_part other_part _ _ _ _ _ first second ended _ _ _
    undecided c.in_ok-left-in-Choice.ensures.ok c.in_ok-right-in-Choice.ensures.ok c.in_ok-merge-in-Choice.ensures.ok in
    gives_as turns attempts _ _ entries _ ended _ form (record { next = both.next; ended = both.ended })

pub stmt-returns-in_err-merge-in-Choice-clause-cause : goal.stmt-returns-in_err-merge-in-Choice-clause-cause
stmt-returns-in_err-merge-in-Choice-clause-cause t c =
    let form = ap statement_of c.in-Choice.is ∙ choice_view c.in-Choice.p c.in-Choice.a c.in-Choice.c in
    let entries = c.args.table.states.entries in
    let turns = c.args.self.turns in
    let attempts = c.args.self.attempts in
    let first = side_as entries c.in-Choice.p.num _ c.in-Choice.p.den _ attempts _ c.of-odds.ensures.bound c.of-odds.ensures.attempts c.in_ok-first-in-Choice.ensures.next in
    let second = side_as entries (c.in-Choice.p.den - c.in-Choice.p.num) _ c.in-Choice.p.den _ attempts _ c.of-odds.ensures.bound c.of-odds.ensures.attempts
    c.in_ok-second-in-Choice.ensures.next in
    let rest = end_units (limit Attempts) (rest_units down c.in-Choice.p.den attempts entries) in
    let one_part = class_units down c.in-Choice.p.den attempts c.in-Choice.p.num entries in
    let other_part = class_units down c.in-Choice.p.den attempts (c.in-Choice.p.den - c.in-Choice.p.num) entries in
    let out : c.from_residual-in_err-merge-in-Choice.result ≡ Err c.in_err-merge-in-Choice.field-0.0 = grind arith in
    rw out (refused_as turns attempts _ _ entries _ form
    (merge_refused turns attempts rest (statements_of c.in-Choice.a) (statements_of c.in-Choice.c) one_part other_part _ _ _ _ [] first second _ _ _ _
    c.in_ok-left-in-Choice.ensures.ok c.in_ok-right-in-Choice.ensures.ok c.in_err-merge-in-Choice.ensures.cause))

pub stmt-returns-in_err-right-in-Choice-clause-cause : goal.stmt-returns-in_err-right-in-Choice-clause-cause
stmt-returns-in_err-right-in-Choice-clause-cause t c =
    let form = ap statement_of c.in-Choice.is ∙ choice_view c.in-Choice.p c.in-Choice.a c.in-Choice.c in
    let entries = c.args.table.states.entries in
    let turns = c.args.self.turns in
    let attempts = c.args.self.attempts in
    let first = side_as entries c.in-Choice.p.num _ c.in-Choice.p.den _ attempts _ c.of-odds.ensures.bound c.of-odds.ensures.attempts c.in_ok-first-in-Choice.ensures.next in
    let second = side_as entries (c.in-Choice.p.den - c.in-Choice.p.num) _ c.in-Choice.p.den _ attempts _ c.of-odds.ensures.bound c.of-odds.ensures.attempts
    c.in_ok-second-in-Choice.ensures.next in
    let rest = end_units (limit Attempts) (rest_units down c.in-Choice.p.den attempts entries) in
    let one_part = class_units down c.in-Choice.p.den attempts c.in-Choice.p.num entries in
    let other_part = class_units down c.in-Choice.p.den attempts (c.in-Choice.p.den - c.in-Choice.p.num) entries in
    let out : c.from_residual-in_err-right-in-Choice.result ≡ Err c.in_err-right-in-Choice.field-0.0 = grind arith in
    rw out (refused_as turns attempts _ _ entries _ form (second_refused turns attempts rest (statements_of c.in-Choice.a) (statements_of c.in-Choice.c) one_part other_part _ _ [] [] []
    first second _ c.in_err-right-in-Choice.ensures.cause))

pub stmt-returns-in_err-left-in-Choice-clause-cause : goal.stmt-returns-in_err-left-in-Choice-clause-cause
stmt-returns-in_err-left-in-Choice-clause-cause t c =
    let form = ap statement_of c.in-Choice.is ∙ choice_view c.in-Choice.p c.in-Choice.a c.in-Choice.c in
    let entries = c.args.table.states.entries in
    let turns = c.args.self.turns in
    let attempts = c.args.self.attempts in
    let first = side_as entries c.in-Choice.p.num _ c.in-Choice.p.den _ attempts _ c.of-odds.ensures.bound c.of-odds.ensures.attempts c.in_ok-first-in-Choice.ensures.next in
    let second = side_as entries (c.in-Choice.p.den - c.in-Choice.p.num) _ c.in-Choice.p.den _ attempts _ c.of-odds.ensures.bound c.of-odds.ensures.attempts
    c.in_ok-second-in-Choice.ensures.next in
    let rest = end_units (limit Attempts) (rest_units down c.in-Choice.p.den attempts entries) in
    let one_part = class_units down c.in-Choice.p.den attempts c.in-Choice.p.num entries in
    let other_part = class_units down c.in-Choice.p.den attempts (c.in-Choice.p.den - c.in-Choice.p.num) entries in
    let out : c.from_residual-in_err-left-in-Choice.result ≡ Err c.in_err-left-in-Choice.field-0.0 = grind arith in
    rw out (refused_as turns attempts _ _ entries _ form (first_refused turns attempts rest (statements_of c.in-Choice.a) (statements_of c.in-Choice.c) one_part other_part _ _ [] [] []
    first second _ c.in_err-left-in-Choice.ensures.cause))

pub stmt-returns-in_err-second-in-Choice-clause-cause : goal.stmt-returns-in_err-second-in-Choice-clause-cause
stmt-returns-in_err-second-in-Choice-clause-cause t c =
    let out : c.from_residual-in_err-second-in-Choice.result ≡ Err c.in_err-second-in-Choice.field-0.0 = grind arith in
    rw out (memory_refused c.args.self.turns c.args.self.attempts (statement_of c.args.s.now) c.args.table.states.entries _ c.in_err-second-in-Choice.ensures.cause)

pub stmt-returns-in_err-first-in-Choice-clause-cause : goal.stmt-returns-in_err-first-in-Choice-clause-cause
stmt-returns-in_err-first-in-Choice-clause-cause t c =
    let out : c.from_residual-in_err-first-in-Choice.result ≡ Err c.in_err-first-in-Choice.field-0.0 = grind arith in
    rw out (memory_refused c.args.self.turns c.args.self.attempts (statement_of c.args.s.now) c.args.table.states.entries _ c.in_err-first-in-Choice.ensures.cause)

pub stmt-total-requires : goal.stmt-total-requires
stmt-total-requires t c = (weights_as _ _ (ap statement_of c.in-Choose.is ∙ choose_view c.in-Choose.arms) c.requires.weights).0.coarse

pub stmt-arms-requires : goal.stmt-arms-requires
stmt-arms-requires t c =
    let entries = c.args.table.states.entries in
    let ended = c.args.ended.now in
    let attempts = c.args.self.attempts in
    let undecided = rest_as entries _ (sum (parts_of (list_of_arms c.in-Choose.arms))) _ attempts ended _ (c.of-odds-in-Choose.ensures.bound ∙ c.total.ensures)
    c.of-odds-in-Choose.ensures.attempts c.undecided-in-Choose.ensures in
    let form = ap statement_of c.in-Choose.is ∙ choose_view c.in-Choose.arms in
    let w = weights_as _ _ form c.requires.weights in
    let some : 0 < sum (parts_of (list_of_arms c.in-Choose.arms)) = let z = w.0.positive in omega arith in (
      search (rules, the_lemmas),
      (
        below_as _ _ _ form c.requires.below,
        (
          w.1,
          (
            c.of-odds-in-Choose.ensures.bound ∙ c.total.ensures,
            (
              c.of-odds-in-Choose.ensures.attempts,
              (
                omega (arith, c.requires.within),
                choose_within c.args.self.turns attempts (list_of_arms c.in-Choose.arms) entries ended _ undecided some
                    c.requires.within,
              ),
            ),
          ),
        ),
      ),
    )

pub stmt-returns-in-Choose-clause-ok : goal.stmt-returns-in-Choose-clause-ok
stmt-returns-in-Choose-clause-ok t c =
    let form = ap statement_of c.in-Choose.is ∙ choose_view c.in-Choose.arms in
    let entries = c.args.table.states.entries in
    let ended = c.args.ended.now in
    let turns = c.args.self.turns in
    let attempts = c.args.self.attempts in
    let undecided = rest_as entries _ (sum (parts_of (list_of_arms c.in-Choose.arms))) _ attempts ended _ (c.of-odds-in-Choose.ensures.bound ∙ c.total.ensures)
    c.of-odds-in-Choose.ensures.attempts c.undecided-in-Choose.ensures in
    IfOk-weaker c.arms.result _ _
    (λ next a. gives_as turns attempts _ _ entries _ ended _ form (choose_gives turns attempts (list_of_arms c.in-Choose.arms) entries ended _ undecided _ _ a))
    c.arms.ensures.ok

pub stmt-returns-in-Choose-clause-cause : goal.stmt-returns-in-Choose-clause-cause
stmt-returns-in-Choose-clause-cause t c =
    IfErr-weaker c.arms.result _ _ (λ e a. refused_as c.args.self.turns c.args.self.attempts _ _ c.args.table.states.entries e (ap statement_of c.in-Choose.is ∙ choose_view c.in-Choose.arms) a) c.arms.ensures.cause

pub stmt-all_of-requires : goal.stmt-all_of-requires
stmt-all_of-requires t c =
    let g = guard_room (value_of (expression_of c.in-Observe.e)) c.args.table.states.entries _ _ c.args.ended.now _ c.in_ok-first-in-Observe.ensures.first
    c.in_ok-first-in-Observe.ensures.second c.in_ok-first-in-Observe.ensures.stopped in omega (arith, g, c.requires.within)

pub stmt-add_failed-requires : goal.stmt-add_failed-requires
stmt-add_failed-requires t c =
    let g = guard_room (value_of (expression_of c.in-Observe.e)) c.args.table.states.entries _ _ c.args.ended.now _ c.in_ok-first-in-Observe.ensures.first
    c.in_ok-first-in-Observe.ensures.second c.in_ok-first-in-Observe.ensures.stopped in omega (arith, g, c.requires.within, c.all_of.ensures)

pub stmt-merge-requires-clause-within : goal.stmt-merge-requires-clause-within
stmt-merge-requires-clause-within t c =
    let q = (ap statement_of c.in-If.is ∙ if_view c.in-If.e c.in-If.a c.in-If.c) in
    let w = weights_as _ _ q c.requires.weights in
    let g = guard_room (value_of (expression_of c.in-If.e)) c.args.table.states.entries _ _ c.args.ended.now _ c.in_ok-first-in-If.ensures.first c.in_ok-first-in-If.ensures.second c.in_ok-first-in-If.ensures.stopped in
    let l = block_spends c.args.self.turns c.args.self.attempts (statements_of c.in-If.a) w.0 _ _ _ _ c.in_ok-left-in-If.ensures.ok in
    let k = block_spends c.args.self.turns c.args.self.attempts (statements_of c.in-If.c) w.1 _ _ _ _ c.in_ok-right-in-If.ensures.ok in
    omega (arith, g, l, k, c.requires.within)

pub stmt-merge-requires-in-Choice-clause-within : goal.stmt-merge-requires-in-Choice-clause-within
stmt-merge-requires-in-Choice-clause-within t c =
    let entries = c.args.table.states.entries in
    let ended = c.args.ended.now in
    let turns = c.args.self.turns in
    let attempts = c.args.self.attempts in
    let first = side_as entries c.in-Choice.p.num _ c.in-Choice.p.den _ attempts _ c.of-odds.ensures.bound c.of-odds.ensures.attempts c.in_ok-first-in-Choice.ensures.next in
    let second = side_as entries (c.in-Choice.p.den - c.in-Choice.p.num) _ c.in-Choice.p.den _ attempts _ c.of-odds.ensures.bound c.of-odds.ensures.attempts
    c.in_ok-second-in-Choice.ensures.next in
    let undecided = rest_as entries _ c.in-Choice.p.den _ attempts ended _ c.of-odds.ensures.bound c.of-odds.ensures.attempts c.undecided.ensures in
    let form = ap statement_of c.in-Choice.is ∙ choice_view c.in-Choice.p c.in-Choice.a c.in-Choice.c in
    let w = weights_as _ _ form c.requires.weights in
    let g = choice_room turns attempts c.in-Choice.p (weights_as _ _ form c.requires.weights).0 entries _ _ ended _ c.args.table.once first second undecided in
    let l = block_spends turns attempts (statements_of c.in-Choice.a) w.1 _ _ _ _ c.in_ok-left-in-Choice.ensures.ok in
    let k = block_spends turns attempts (statements_of c.in-Choice.c) w.2 _ _ _ _ c.in_ok-right-in-Choice.ensures.ok in
    omega (arith, g, l, k, c.requires.within)
