use Rattle.std.proofs.Common.{rules, ◌≡◌, ◌+◌, ◌∙◌, inr, Err, None, drop, refl, sym, ap, subst, arith}
use Rattle.std.specs.List.{sum}
use Rattle.std.specs.Map.Iter.{deref_pair}
use Rattle.std.proofs.lemmas.Result.{IfOk-weaker, IfErr-weaker}
use Rattle.gcl_core.specs.declared.syntax.Stmt.{the_lemmas}
use Rattle.gcl_core.specs.meaning.Arms.{parts_of}
use Rattle.gcl_core.specs.meaning.Bounds.{StatementBelow, BlockBelow, ArmsBelow, ArmsAreWeighed}
use Rattle.gcl_core.specs.meaning.Draw.{choice_ends}
use Rattle.gcl_core.specs.meaning.Parts.{partial_sums}
use Rattle.gcl_core.specs.meaning.Views.{expression_of, statement_of, statements_of, list_of, arm_list_of, list_of_arms}
use Rattle.gcl_core.specs.meaning.Value.{value_of}
use Rattle.gcl_core.proofs.ViewLemmas.{skip_view, set_view, observe_view, if_view, while_view, choice_view, choose_view}
use Rattle.mass_fold.proofs.ArmsLeft.{arms_done, arms_next}
use Rattle.mass_fold.proofs.Fitting.{below_as, weights_as, list_step, below_next, weights_next, along_list, below_list}
use Rattle.mass_fold.proofs.Folds.{fold_assign, fold_observe}
use Rattle.mass_fold.proofs.Sizes.{sized_at}
use Rattle.unlimited_law.specs.Settling.{EachState}
use Rattle.exact_fold.specs.inner.Settled.{as_table}
use Rattle.exact_fold.specs.inner.Turning.{keys_in}
use Rattle.exact_fold.proofs.Turns.{none_fractions, stays_next}
use Rattle.bits_law.specs.Forever.{BlockEndless, ArmsEndless}
use Rattle.bits_law.specs.Reading.{TurnCosts, BlockCosts}
use Rattle.bits_fold.specs.declared.stop.Stop.TheVariants as stop
use Rattle.bits_fold.specs.inner.Forever.{StopsFrom}
use Rattle.bits_fold.specs.inner.Reading.{WeighsTo, DrawsCost}
use Rattle.bits_fold.specs.inner.Turning.{IsSilent}
use Rattle.bits_fold.proofs.Forever.{stops_as, branch_stops, other_stops, side_stops, other_side_stops, arm_stops, rest_on, rest_stops, comes_start, comes_next, comes_round, comes_forever, goes_round}
use Rattle.bits_fold.proofs.Arms.{arms_start, arms_at, arm_turn, arms_end}
use Rattle.bits_fold.proofs.Steps.{statement_as, ends_at, skip_reads, set_reads, observe_reads, branch_reads, choice_reads, choose_reads, rest_start, rest_next, rest_none}
use Rattle.bits_fold.proofs.Sums.{some_answered}
use Rattle.bits_fold.proofs.Turns.{turn_reads, may_begin, loop_reads, state_silent, turn_counts, turn_as}
use Rattle.bits_fold.proofs.reading.+reading.Goals as goal
use Rattle.bits_fold.specs.Counted.{price_of}
use Rattle.table_flow.proofs.FlowWords.{drawn_each}

-- ---- a block
pub read_block-loop-s-init : goal.read_block-loop-s-init
read_block-loop-s-init t c = record {
  below = λ m h. h;
  weights = λ h. h;
  vars = ap (λ z. z.vars) c.silently-now.ensures.table;
  so_far = rest_start (price_of c.args.what) (list_of c.deref-s-items.result.now) c.args.table.states.entries c.silently-now.result.table.states.entries c.silently-now.result.bits (ap (λ z. z.states.entries) c.silently-now.ensures.table) c.silently-now.ensures.bits;
  on = λ h x. subst (λ z. BlockEndless (price_of c.args.what) (list_of c.deref-s-items.result.now) (as_table z)) (ap (λ z. z.states.entries) c.silently-now.ensures.table) x;
}

pub read_block-read_stmt-requires : goal.read_block-read_stmt-requires
read_block-read_stmt-requires t c =
    let p = list_step c.deref-s-items.result.now c.loop-s.s-index c.s-item.result c.loop-s-test.true c.s-item.is in
    let m = c.args.table.vars in (
      search (rules, the_lemmas),
      (
        subst (λ m. StatementBelow m (statement_of c.s-item.result)) (sym c.loop-s.invariant.vars) (below_next m _ _ _ p (c.loop-s.invariant.below m (below_list m _ _ c.deref-s-items.ensures.value c.requires.below))).0,
        (weights_next _ _ _ p (c.loop-s.invariant.weights (along_list _ _ c.deref-s-items.ensures.value c.requires.weights))).0,
      ),
    )

pub read_block-loop-s-preserved : goal.read_block-loop-s-preserved
read_block-loop-s-preserved t c =
    let p = list_step c.deref-s-items.result.now c.loop-s.s-index c.s-item.result c.loop-s-test.true c.s-item.is in
    let whole = BlockCosts (price_of c.args.what) (list_of c.deref-s-items.result.now) in
    let es = c.args.table.states.entries in
    let same = c.in_ok-now.ensures.table in
    record {
      below = λ m h. (below_next m _ _ _ p (c.loop-s.invariant.below m h)).1;
      weights = λ h. (weights_next _ _ _ p (c.loop-s.invariant.weights h)).1;
      vars = c.in_ok-now.ensures.vars ∙ c.in_ok-next.ensures.vars ∙ c.loop-s.invariant.vars;
      so_far = rest_next (price_of c.args.what) whole _ _ _ es c.loop-s.now.table.states.entries c.in_ok-now.now.table.states.entries c.loop-s.now.bits c.in_ok-next.next.bits c.in_ok-now.now.bits p c.loop-s.invariant.so_far
          (ends_at _ _ same c.in_ok-next.ensures.ok) c.in_ok-now.ensures.bits;
      on = rest_on (price_of c.args.what) whole (BlockEndless (price_of c.args.what) (list_of c.deref-s-items.result.now)) _ _ _ es c.loop-s.now.table.states.entries c.loop-s.now.bits p c.loop-s.invariant.so_far c.loop-s.invariant.on c.in_ok-now.now.table.states.entries c.in_ok-next.next.bits
          (ends_at _ _ same c.in_ok-next.ensures.ok);
    }

pub read_block-returns-in_err-next-clause-stops : goal.read_block-returns-in_err-next-clause-stops
read_block-returns-in_err-next-clause-stops t c =
    let p = list_step c.deref-s-items.result.now c.loop-s.s-index c.s-item.result c.loop-s-test.true c.s-item.is in
    let es = c.args.table.states.entries in
    let out : c.from_residual.result ≡ Err c.in_err-next.field-0.0 = grind arith in
    rw out
    (subst (λ z. StopsFrom (BlockEndless (price_of c.args.what) (list_of z)) es c.in_err-next.field-0.0) c.deref-s-items.ensures.value
    (rest_stops (price_of c.args.what) (BlockCosts (price_of c.args.what) (list_of c.deref-s-items.result.now)) (BlockEndless (price_of c.args.what) (list_of c.deref-s-items.result.now)) _ _ _ es c.loop-s.now.table.states.entries c.loop-s.now.bits p c.loop-s.invariant.so_far c.loop-s.invariant.on
    c.in_err-next.field-0.0 c.in_err-next.ensures.stops))

pub read_block-returns-clause-ok : goal.read_block-returns-clause-ok
read_block-returns-clause-ok t c =
    rest_none (price_of c.args.what) c.deref-s-items.result.now c.args.b.now.stmts.items c.loop-s.s-index _ _ _ c.loop-s-test.false c.deref-s-items.ensures.value c.loop-s.invariant.so_far

-- ---- a statement
pub read_stmt-returns-in-Skip-clause-ok : goal.read_stmt-returns-in-Skip-clause-ok
read_stmt-returns-in-Skip-clause-ok t c =
    let q = ap statement_of c.in-Skip.is ∙ skip_view in
    let es = c.args.table.states.entries in
    let same = ap (λ z. z.states.entries) c.silently.ensures.table in
    statement_as (price_of c.args.what) _ _ es _ _ q (ends_at _ _ same (skip_reads (price_of c.args.what) es _ c.silently.ensures.bits))

pub read_stmt-returns-in_ok-assign-in-Set-clause-ok : goal.read_stmt-returns-in_ok-assign-in-Set-clause-ok
read_stmt-returns-in_ok-assign-in-Set-clause-ok t c =
    let q = ap statement_of c.in-Set.is ∙ set_view c.in-Set.x c.in-Set.e in
    let es = c.args.table.states.entries in
    let E = c.none-ended.result in
    let ex = expression_of c.in-Set.e in
    let same = ap (λ z. z.states.entries) c.silently-in-Set.ensures.table in
    statement_as (price_of c.args.what) _ _ es _ _ q
    (ends_at _ _ same
    (set_reads (price_of c.args.what) c.in-Set.x ex es _ E _ _ c.silently-in-Set.ensures.bits (none_fractions E c.none-ended.ensures) (fold_assign 0 None c.in-Set.x ex es E _ _ c.in_ok-assign-in-Set.ensures.ok)))

pub read_stmt-returns-in_ok-end_all-in-Observe-clause-ok : goal.read_stmt-returns-in_ok-end_all-in-Observe-clause-ok
read_stmt-returns-in_ok-end_all-in-Observe-clause-ok t c =
    let q = ap statement_of c.in-Observe.is ∙ observe_view c.in-Observe.e in
    let es = c.args.table.states.entries in
    let E = c.none-ended.result in
    let ex = expression_of c.in-Observe.e in
    let same = ap (λ z. z.states.entries) c.silently-in-Observe.ensures.table in
    statement_as (price_of c.args.what) _ _ es _ _ q
    (ends_at _ _ same
    (observe_reads (price_of c.args.what) ex es _ E _ _ c.silently-in-Observe.ensures.bits (none_fractions E c.none-ended.ensures)
    (fold_observe 0 None ex es E _ _ _ _ c.in_ok-first-in-Observe.ensures.first c.in_ok-first-in-Observe.ensures.second c.in_ok-end_all-in-Observe.ensures.ok)))

pub read_stmt-read_loop-requires : goal.read_stmt-read_loop-requires
read_stmt-read_loop-requires t c =
    let q = ap statement_of c.in-While.is ∙ while_view c.in-While.e c.in-While.body in
    (search (rules, the_lemmas), ((below_as _ _ _ q c.requires.below).0, ((below_as _ _ _ q c.requires.below).1, weights_as _ _ q c.requires.weights)))

pub read_stmt-read_choose-requires : goal.read_stmt-read_choose-requires
read_stmt-read_choose-requires t c =
    let q = ap statement_of c.in-Choose.is ∙ choose_view c.in-Choose.arms in
    let w = weights_as _ _ q c.requires.weights in
    (search (rules, the_lemmas), (below_as _ _ _ q c.requires.below, (w.0, w.1)))

pub read_stmt-returns-in-While-clause-ok : goal.read_stmt-returns-in-While-clause-ok
read_stmt-returns-in-While-clause-ok t c =
    IfOk-weaker c.read_loop.result _ _
    (λ r a. statement_as (price_of c.args.what) _ _ c.args.table.states.entries _ _ (ap statement_of c.in-While.is ∙ while_view c.in-While.e c.in-While.body) a)
    c.read_loop.ensures.ok

-- ---- two blocks
pub read_stmt-read_block-requires : goal.read_stmt-read_block-requires
read_stmt-read_block-requires t c =
    let q = ap statement_of c.in-If.is ∙ if_view c.in-If.e c.in-If.a c.in-If.c in
    (search (rules, the_lemmas), (subst (λ m. BlockBelow m (statements_of c.in-If.a)) (sym c.in_ok-first-in-If.ensures.vars.0) (below_as _ _ _ q c.requires.below).1, (weights_as _ _ q c.requires.weights).0))

pub read_stmt-read_block-requires-in-If : goal.read_stmt-read_block-requires-in-If
read_stmt-read_block-requires-in-If t c =
    let q = ap statement_of c.in-If.is ∙ if_view c.in-If.e c.in-If.a c.in-If.c in
    (search (rules, the_lemmas), (subst (λ m. BlockBelow m (statements_of c.in-If.c)) (sym c.in_ok-first-in-If.ensures.vars.1) (below_as _ _ _ q c.requires.below).2, (weights_as _ _ q c.requires.weights).1))

pub read_stmt-returns-in_ok-joined-in-If-clause-ok : goal.read_stmt-returns-in_ok-joined-in-If-clause-ok
read_stmt-returns-in_ok-joined-in-If-clause-ok t c =
    let q = ap statement_of c.in-If.is ∙ if_view c.in-If.e c.in-If.a c.in-If.c in
    let w = weights_as _ _ q c.requires.weights in
    let es = c.args.table.states.entries in
    let all = c.in_ok-joined-in-If.field-0 in
    statement_as (price_of c.args.what) _ _ es all.table.states.entries all.bits q
    (branch_reads (price_of c.args.what) (expression_of c.in-If.e) (statements_of c.in-If.a) (statements_of c.in-If.c) es _ _ _ _ all.table.states.entries c.none-ended.result _ _ _ all.bits w.0 w.1 (none_fractions _ c.none-ended.ensures)
    c.in_ok-first-in-If.ensures.first c.in_ok-first-in-If.ensures.second c.in_ok-left-in-If.ensures.ok c.in_ok-right-in-If.ensures.ok c.in_ok-joined-in-If.ensures.table c.in_ok-joined-in-If.ensures.bits)

pub read_stmt-sides-requires : goal.read_stmt-sides-requires
read_stmt-sides-requires t c = (weights_as _ _ (ap statement_of c.in-Choice.is ∙ choice_view c.in-Choice.p c.in-Choice.a c.in-Choice.c) c.requires.weights).0

pub read_stmt-cost_of_choice-requires : goal.read_stmt-cost_of_choice-requires
read_stmt-cost_of_choice-requires t c = (weights_as _ _ (ap statement_of c.in-Choice.is ∙ choice_view c.in-Choice.p c.in-Choice.a c.in-Choice.c) c.requires.weights).0

pub read_stmt-read_block-requires-in-Choice : goal.read_stmt-read_block-requires-in-Choice
read_stmt-read_block-requires-in-Choice t c =
    let q = ap statement_of c.in-Choice.is ∙ choice_view c.in-Choice.p c.in-Choice.a c.in-Choice.c in
    (search (rules, the_lemmas), (subst (λ m. BlockBelow m (statements_of c.in-Choice.a)) (sym c.in_ok-first-in-Choice.ensures.vars.0) (below_as _ _ _ q c.requires.below).0, (weights_as _ _ q c.requires.weights).1))

pub read_stmt-read_block-requires-in-Choice-2 : goal.read_stmt-read_block-requires-in-Choice-2
read_stmt-read_block-requires-in-Choice-2 t c =
    let q = ap statement_of c.in-Choice.is ∙ choice_view c.in-Choice.p c.in-Choice.a c.in-Choice.c in
    (search (rules, the_lemmas), (subst (λ m. BlockBelow m (statements_of c.in-Choice.c)) (sym c.in_ok-first-in-Choice.ensures.vars.1) (below_as _ _ _ q c.requires.below).1, (weights_as _ _ q c.requires.weights).2))

pub read_stmt-returns-in_ok-with_more-in-Choice-clause-ok : goal.read_stmt-returns-in_ok-with_more-in-Choice-clause-ok
read_stmt-returns-in_ok-with_more-in-Choice-clause-ok t c =
    let q = ap statement_of c.in-Choice.is ∙ choice_view c.in-Choice.p c.in-Choice.a c.in-Choice.c in
    let w = weights_as _ _ q c.requires.weights in
    let es = c.args.table.states.entries in
    let all = c.in_ok-joined-in-Choice.field-0 in
    let r = c.in_ok-with_more-in-Choice.field-0 in
    let told = some_answered _ _ c.in_ok-bits-in-Choice.bits (DrawsCost (price_of c.args.what) (drawn_each (choice_ends c.in-Choice.p)) es) c.cost_of_choice.ensures c.in_ok-bits-in-Choice.ensures.value in
    statement_as (price_of c.args.what) _ _ es r.table.states.entries r.bits q
    (ends_at _ _ c.in_ok-with_more-in-Choice.ensures.table
    (choice_reads (price_of c.args.what) c.in-Choice.p (statements_of c.in-Choice.a) (statements_of c.in-Choice.c) es _ _ _ _ all.table.states.entries c.none-ended.result _ c.in_ok-bits-in-Choice.bits _ _ all.bits r.bits w.0
    w.1 w.2 (none_fractions _ c.none-ended.ensures) told c.in_ok-first-in-Choice.ensures.ok c.in_ok-left-in-Choice.ensures.ok c.in_ok-right-in-Choice.ensures.ok c.in_ok-joined-in-Choice.ensures.table c.in_ok-joined-in-Choice.ensures.bits
    c.in_ok-with_more-in-Choice.ensures.bits))

-- ---- where they read for ever
pub read_stmt-returns-in_err-left-in-If-clause-stops : goal.read_stmt-returns-in_err-left-in-If-clause-stops
read_stmt-returns-in_err-left-in-If-clause-stops t c =
    let q = ap statement_of c.in-If.is ∙ if_view c.in-If.e c.in-If.a c.in-If.c in
    let w = weights_as _ _ q c.requires.weights in
    let s = c.in_err-left-in-If.field-0.0 in
    let out : c.from_residual-in_err-left-in-If.result ≡ Err s = grind arith in
    rw out
    (stops_as (price_of c.args.what) _ _ c.args.table.states.entries s q
    (branch_stops (price_of c.args.what) (expression_of c.in-If.e) (statements_of c.in-If.a) (statements_of c.in-If.c) c.args.table.states.entries _ _ c.none-ended.result _ s w.0 (none_fractions _ c.none-ended.ensures)
    c.in_ok-first-in-If.ensures.first c.in_ok-first-in-If.ensures.second c.in_err-left-in-If.ensures.stops))

pub read_stmt-returns-in_err-right-in-If-clause-stops : goal.read_stmt-returns-in_err-right-in-If-clause-stops
read_stmt-returns-in_err-right-in-If-clause-stops t c =
    let q = ap statement_of c.in-If.is ∙ if_view c.in-If.e c.in-If.a c.in-If.c in
    let w = weights_as _ _ q c.requires.weights in
    let s = c.in_err-right-in-If.field-0.0 in
    let out : c.from_residual-in_err-right-in-If.result ≡ Err s = grind arith in
    rw out
    (stops_as (price_of c.args.what) _ _ c.args.table.states.entries s q
    (other_stops (price_of c.args.what) (expression_of c.in-If.e) (statements_of c.in-If.a) (statements_of c.in-If.c) c.args.table.states.entries _ _ c.none-ended.result _ s w.1 (none_fractions _ c.none-ended.ensures)
    c.in_ok-first-in-If.ensures.first c.in_ok-first-in-If.ensures.second c.in_err-right-in-If.ensures.stops))

pub read_stmt-returns-in_err-left-in-Choice-clause-stops : goal.read_stmt-returns-in_err-left-in-Choice-clause-stops
read_stmt-returns-in_err-left-in-Choice-clause-stops t c =
    let q = ap statement_of c.in-Choice.is ∙ choice_view c.in-Choice.p c.in-Choice.a c.in-Choice.c in
    let w = weights_as _ _ q c.requires.weights in
    let s = c.in_err-left-in-Choice.field-0.0 in
    let out : c.from_residual-in_err-left-in-Choice.result ≡ Err s = grind arith in
    rw out
    (stops_as (price_of c.args.what) _ _ c.args.table.states.entries s q
    (side_stops (price_of c.args.what) c.in-Choice.p (statements_of c.in-Choice.a) (statements_of c.in-Choice.c) c.args.table.states.entries _ _ c.none-ended.result _ s w.0 w.1 (none_fractions _ c.none-ended.ensures)
    c.in_ok-first-in-Choice.ensures.ok c.in_err-left-in-Choice.ensures.stops))

pub read_stmt-returns-in_err-right-in-Choice-clause-stops : goal.read_stmt-returns-in_err-right-in-Choice-clause-stops
read_stmt-returns-in_err-right-in-Choice-clause-stops t c =
    let q = ap statement_of c.in-Choice.is ∙ choice_view c.in-Choice.p c.in-Choice.a c.in-Choice.c in
    let w = weights_as _ _ q c.requires.weights in
    let s = c.in_err-right-in-Choice.field-0.0 in
    let out : c.from_residual-in_err-right-in-Choice.result ≡ Err s = grind arith in
    rw out
    (stops_as (price_of c.args.what) _ _ c.args.table.states.entries s q
    (other_side_stops (price_of c.args.what) c.in-Choice.p (statements_of c.in-Choice.a) (statements_of c.in-Choice.c) c.args.table.states.entries _ _ c.none-ended.result _ s w.0 w.2 (none_fractions _ c.none-ended.ensures)
    c.in_ok-first-in-Choice.ensures.ok c.in_err-right-in-Choice.ensures.stops))

pub read_stmt-returns-in-While-clause-stops : goal.read_stmt-returns-in-While-clause-stops
read_stmt-returns-in-While-clause-stops t c =
    IfErr-weaker c.read_loop.result _ _
    (λ s a. stops_as (price_of c.args.what) _ _ c.args.table.states.entries s (ap statement_of c.in-While.is ∙ while_view c.in-While.e c.in-While.body) a)
    c.read_loop.ensures.stops

-- ---- arms
pub read_choose-returns-clause-ok : goal.read_choose-returns-clause-ok
read_choose-returns-clause-ok t c =
    let es = c.args.table.states.entries in
    let arms = list_of_arms c.args.arms.now in
    let r = c.in_ok-with_more.field-0 in
    let told = some_answered _ _ c.in_ok-bits.bits (DrawsCost (price_of c.args.what) (drawn_each (partial_sums (parts_of arms))) es) c.cost_of_arms.ensures c.in_ok-bits.ensures.value in
    ends_at _ _ c.in_ok-with_more.ensures.table (choose_reads (price_of c.args.what) arms es _ c.in_ok-bits.bits _ r.bits told c.in_ok-read_arms.ensures.ok c.in_ok-with_more.ensures.bits)

pub read_arms-loop-count-init : goal.read_arms-loop-count-init
read_arms-loop-count-init t c =
    let same = ap arm_list_of c.deref-count-items.ensures.value in
    let all = list_of_arms c.args.arms.now in
    let es = c.args.table.now.states.entries in
    let out = c.silently-out.result in
    record {
      vars = ap (λ z. z.vars) c.silently-out.ensures.table ∙ c.new.ensures.vars;
      below = subst (ArmsBelow c.args.table.now.vars) (sym same) c.requires.below;
      weights = subst ArmsAreWeighed (sym same) c.requires.weights;
      so_far = arms_at (price_of c.args.what) (sum (parts_of all)) all _ _ es out.table.states.entries out.bits (sym same)
          (arms_start (price_of c.args.what) (sum (parts_of all)) all es out.table.states.entries out.bits (ap (λ z. z.states.entries) c.silently-out.ensures.table ∙ c.new.ensures.empty) c.silently-out.ensures.bits);
      on = subst (λ z. ArmsEndless (price_of c.args.what) (sum (parts_of all)) z (as_table es) → ArmsEndless (price_of c.args.what) (sum (parts_of all)) all (as_table es)) (sym same) (λ x. x);
    }

pub read_arms-read_block-requires : goal.read_arms-read_block-requires
read_arms-read_block-requires t c =
    let next = arms_next c.deref-count-items.result.now c.loop-count.count-index c.loop-count-item.result c.loop-count-test.true c.loop-count-item.is in (
      search (rules, the_lemmas),
      (
        subst (λ m. BlockBelow m (statements_of c.loop-count-item.result.1)) (sym c.in_ok-side.ensures.vars) (subst (ArmsBelow c.args.table.now.vars) next c.loop-count.invariant.below).0,
        (subst ArmsAreWeighed next c.loop-count.invariant.weights).0,
      ),
    )

pub read_arms-loop-count-preserved : goal.read_arms-loop-count-preserved
read_arms-loop-count-preserved t c =
    let next = arms_next c.deref-count-items.result.now c.loop-count.count-index c.loop-count-item.result c.loop-count-test.true c.loop-count-item.is in
    let all = list_of_arms c.args.arms.now in
    let rest = arm_list_of (drop (c.loop-count.count-index + 1) c.deref-count-items.result.now) in
    let es = c.args.table.now.states.entries in
    record {
      vars = c.in_ok-out.ensures.vars ∙ c.loop-count.invariant.vars;
      below = (subst (ArmsBelow c.args.table.now.vars) next c.loop-count.invariant.below).1;
      weights = (subst ArmsAreWeighed next c.loop-count.invariant.weights).1;
      so_far = arm_turn (price_of c.args.what) (sum (parts_of all)) c.loop-count-item.result.0 all rest (statements_of c.loop-count-item.result.1) c.args.part.now es c.loop-count.out.table.states.entries _ _ c.in_ok-out.out.table.states.entries c.loop-count.out.bits _
          c.in_ok-out.out.bits (let z = c.requires.parts.positive in omega arith) (subst ArmsAreWeighed next c.loop-count.invariant.weights).0 c.requires.equal
          (arms_at (price_of c.args.what) (sum (parts_of all)) all _ _ es c.loop-count.out.table.states.entries c.loop-count.out.bits next c.loop-count.invariant.so_far) c.in_ok-side.ensures.ok c.in_ok-next.ensures.ok c.in_ok-out.ensures.table c.in_ok-out.ensures.bits;
      on = λ x. subst (λ z. ArmsEndless (price_of c.args.what) (sum (parts_of all)) z (as_table es) → ArmsEndless (price_of c.args.what) (sum (parts_of all)) all (as_table es)) next c.loop-count.invariant.on (inr x);
    }

pub read_arms-returns-in_err-next-clause-stops : goal.read_arms-returns-in_err-next-clause-stops
read_arms-returns-in_err-next-clause-stops t c =
    let next = arms_next c.deref-count-items.result.now c.loop-count.count-index c.loop-count-item.result c.loop-count-test.true c.loop-count-item.is in
    let all = list_of_arms c.args.arms.now in
    let rest = arm_list_of (drop (c.loop-count.count-index + 1) c.deref-count-items.result.now) in
    let es = c.args.table.now.states.entries in
    let s = c.in_err-next.field-0.0 in
    let out : c.from_residual-in_err-next.result ≡ Err s = grind arith in
    rw out
    (arm_stops (price_of c.args.what) (sum (parts_of all)) c.loop-count-item.result.0 all rest (statements_of c.loop-count-item.result.1) c.args.part.now es _ s (let z = c.requires.parts.positive in omega arith)
    (subst ArmsAreWeighed next c.loop-count.invariant.weights).0 c.requires.equal c.in_ok-side.ensures.ok
    (subst (λ z. ArmsEndless (price_of c.args.what) (sum (parts_of all)) z (as_table es) → ArmsEndless (price_of c.args.what) (sum (parts_of all)) all (as_table es)) next c.loop-count.invariant.on) c.in_err-next.ensures.stops)

pub read_arms-returns-clause-ok : goal.read_arms-returns-clause-ok
read_arms-returns-clause-ok t c =
    let all = list_of_arms c.args.arms.now in
    let none = arms_done c.deref-count-items.result.now c.loop-count.count-index (omega (arith, c.loop-count-test.false)) in
    arms_end (price_of c.args.what) (sum (parts_of all)) all c.args.table.now.states.entries c.loop-count.out.table.states.entries c.loop-count.out.bits
    (arms_at (price_of c.args.what) (sum (parts_of all)) all _ _ c.args.table.now.states.entries c.loop-count.out.table.states.entries c.loop-count.out.bits none c.loop-count.invariant.so_far)

-- ---- a loop
pub read_turn-returns-in_ok-with_more-in-Turns-clause-ok : goal.read_turn-returns-in_ok-with_more-in-Turns-clause-ok
read_turn-returns-in_ok-with_more-in-Turns-clause-ok t c =
    let price = price_of c.args.what in
    let a = statements_of c.args.body.now in
    let es = c.args.table.states.entries in
    let r = c.in_ok-with_more-in-Turns.field-0 in
    let turns = some_answered _ _ c.in_ok-turns-in-Turns.turns (WeighsTo es) c.weight_of.ensures c.in_ok-turns-in-Turns.ensures.value in
    ends_at _ _ c.in_ok-with_more-in-Turns.ensures.table
    (turn_as price c.args.what a es _ r.bits c.in-Turns.is (turn_counts price a es _ c.in_ok-turns-in-Turns.turns _ r.bits turns c.in_ok-next-in-Turns.ensures.ok c.in_ok-with_more-in-Turns.ensures.bits))

pub read_loop-returns-clause-ok : goal.read_loop-returns-clause-ok
read_loop-returns-clause-ok t c =
    loop_reads (price_of c.args.what) (value_of (expression_of c.args.e.now)) (statements_of c.args.body.now) c.in_ok-silent.silent.states.entries c.args.table.states.entries c.in_ok-turned.turned.visits.states.entries c.in_ok-turned.turned.exits.states.entries
    c.in_ok-turned.turned.bits c.in_ok-check_silent.ensures c.in_ok-turned.ensures.ok c.in_ok-check_visits.ensures

pub check_visits-returns : goal.check_visits-returns
check_visits-returns t c =
    may_begin (price_of c.args.what) (value_of (expression_of c.args.e.now)) (statements_of c.args.body.now) c.args.closed.now.states.entries c.args.visits.states.entries c.in_ok-more.more.states.entries _ _ _ _ (c.above.ensures c.if-not-above.false) c.in_ok-merge.ensures.ok
    c.in_ok-turn_from.ensures.ok

pub check_forever-loop-init : goal.check_forever-loop-init
check_forever-loop-init t c = record {
  now_vars = refl;
  all_vars = c.in_ok-all.ensures.vars;
  coming = comes_start (price_of c.args.what) (value_of (expression_of c.args.e.now)) (statements_of c.args.body.now) c.args.table.states.entries _ c.in_ok-all.ensures.same;
}

pub check_forever-returns-then-all_stand : goal.check_forever-returns-then-all_stand
check_forever-returns-then-all_stand t c =
    comes_round (price_of c.args.what) (value_of (expression_of c.args.e.now)) (statements_of c.args.body.now) c.args.table.states.entries c.loop.now.states.entries c.loop.all.states.entries c.loop.invariant.coming c.in_ok-check_round.ensures

pub check_forever-returns-in-Err-ReadsForever : goal.check_forever-returns-in-Err-ReadsForever
check_forever-returns-in-Err-ReadsForever t c =
    let said : c.in-Err-ReadsForever.field-0 ≡ stop.ReadsForever = grind arith in
    comes_forever (price_of c.args.what) (value_of (expression_of c.args.e.now)) (statements_of c.args.body.now) c.args.table.states.entries c.loop.now.states.entries c.loop.all.states.entries _ _ c.none-none.result _ c.requires.weights
    (none_fractions _ c.none-none.ensures) c.in_ok-on.ensures.first c.in_ok-on.ensures.second c.loop.invariant.coming
    (subst (StopsFrom (BlockEndless (price_of c.args.what) (statements_of c.args.body.now)) c.in_ok-on.on.states.entries) said c.in-Err-ReadsForever.ensures.stops)

pub check_forever-loop-preserved : goal.check_forever-loop-preserved
check_forever-loop-preserved t c = record {
  now_vars = c.in-Ok.ensures.vars ∙ c.in_ok-on.ensures.vars.0 ∙ c.loop.invariant.now_vars;
  all_vars = c.merge.ensures.vars ∙ c.loop.invariant.all_vars;
  coming = comes_next (price_of c.args.what) (value_of (expression_of c.args.e.now)) (statements_of c.args.body.now) c.args.table.states.entries c.loop.now.states.entries c.loop.all.states.entries _ _ _ _ _ c.none-none.result _ c.in-Ok.next.bits
      c.requires.weights (none_fractions _ c.none-none.ensures) c.in_ok-on.ensures.first c.in_ok-on.ensures.second c.in-Ok.ensures.ok c.in_ok-twin-in-Ok.ensures.same c.in_ok-merge-in-Ok.ensures.ok c.loop.invariant.coming;
}

pub check_round-returns : goal.check_round-returns
check_round-returns t c =
    goes_round (price_of c.args.what) (value_of (expression_of c.args.e.now)) (statements_of c.args.body.now) c.args.all.states.entries c.in_ok-part.part.states.entries _ _ _ _ c.in_ok-next.next.table.states.entries c.in_ok-rest.rest.states.entries _ c.none-none.result _
    c.in_ok-next.next.bits c.requires.weights (none_fractions _ c.none-none.ensures) (c.above.ensures c.if-not-above.false) (c.above-else-not-above.ensures c.if-not-above-2.false) c.in_ok-again.ensures.same c.in_ok-sum.ensures.same c.in_ok-merge.ensures.ok
    (c.same.ensures c.if-not-same.false) c.in_ok-on.ensures.first c.in_ok-on.ensures.second c.in_ok-next.ensures.ok (c.same-2.ensures c.if-not-same-2.false) (omega (arith, c.if-num-eq0.false, c.num.ensures.value))

pub turn_from-returns-clause-ok : goal.turn_from-returns-clause-ok
turn_from-returns-clause-ok t c =
    let D = c.args.closed.now.states.entries in
    turn_reads (price_of c.args.what) (value_of (expression_of c.args.e.now)) (statements_of c.args.body.now) D c.args.table.states.entries c.args.found.states.entries c.in_ok-next.next.table.states.entries _ c.in_ok-visits.visits.states.entries c.in_ok-kept.kept.states.entries
    _ _ c.in_ok-copy.copy.states.entries c.none-ended.result _ c.in_ok-next.next.bits c.requires.weights (none_fractions _ c.none-ended.ensures) (c.above.ensures c.if-not-above.false) (c.same.ensures c.if-not-same.false) (c.same-3.ensures c.if-not-same-3.false)
    (c.same-2.ensures c.if-not-same-2.false) c.in_ok-next.ensures.ok c.in_ok-merge.ensures.ok c.in_ok-visits.ensures.ok c.in_ok-on.ensures.first c.in_ok-on.ensures.second

pub check_state-returns : goal.check_state-returns
check_state-returns t c =
    state_silent (price_of c.args.what) (value_of (expression_of c.args.e.now)) (statements_of c.args.body.now) c.args.closed.now.states.entries _ _ c.args.s.now _ c.requires.weights (c.passes.ensures c.if-not-passes.false) c.in_ok-one.ensures.one c.in_ok-next.ensures.ok
    (sym c.num.ensures.value ∙ omega (arith, c.if-num-ne0.false)) (c.all_stand.ensures c.if-not-all_stand.false)

pub check_silent-check_state-requires : goal.check_silent-check_state-requires
check_silent-check_state-requires t c = (search (rules, the_lemmas), (c.requires.reads, (c.requires.below, (c.requires.weights, sized_at _ _ c.args.closed.now.sized deref_pair _ _ _ _ _ _ c.into_iter-s-iterator.ensures.into_iter_gives.0 c.loop-s.yielded_by c.in-Some.is c.next.ensures.steps))))

pub check_silent-loop-s-init : goal.check_silent-loop-s-init
check_silent-loop-s-init t c = record {
  next = tt;
  finite = tt;
  so_far = λ h. subst (λ z. EachState (IsSilent (value_of (expression_of c.args.e.now)) (TurnCosts (price_of c.args.what).turns (BlockCosts (price_of c.args.what) (statements_of c.args.body.now))) (keys_in c.args.closed.now.states.entries)) (keys_in z)) c.into_iter-s-iterator.ensures.into_iter_gives.0 h;
}

pub check_silent-loop-s-preserved : goal.check_silent-loop-s-preserved
check_silent-loop-s-preserved t c = record {
  next = tt;
  finite = tt;
  so_far = stays_next (IsSilent (value_of (expression_of c.args.e.now)) (TurnCosts (price_of c.args.what).turns (BlockCosts (price_of c.args.what) (statements_of c.args.body.now))) (keys_in c.args.closed.now.states.entries)) c.args.closed.now.states.entries _ _ _ _ c.in-Some.ensures.steps c.in_ok-check_state.ensures c.loop-s.invariant.so_far;
}

pub check_silent-returns : goal.check_silent-returns
check_silent-returns t c =
    c.loop-s.invariant.so_far (subst (λ z. EachState (IsSilent (value_of (expression_of c.args.e.now)) (TurnCosts (price_of c.args.what).turns (BlockCosts (price_of c.args.what) (statements_of c.args.body.now))) (keys_in c.args.closed.now.states.entries)) (keys_in z)) (sym c.in-None.ensures.steps.0) tt)
