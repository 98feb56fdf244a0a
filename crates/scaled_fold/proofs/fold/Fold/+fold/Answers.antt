use Rattle.std.proofs.Common.{rules, ◌≡◌, ◌+◌, ◌-◌, suc, refl, sym, ap, ◌∙◌, subst, arith}
use Rattle.std.specs.List.{sum}
use Rattle.std.proofs.lemmas.Result.{IfOk-weaker}
use Rattle.gcl_core.specs.declared.syntax.Stmt.{the_lemmas}
use Rattle.gcl_core.specs.meaning.Arms.{parts_of}
use Rattle.gcl_core.specs.meaning.Bounds.{StatementBelow, BlockBelow, ArmsBelow, ArmsAreWeighed}
use Rattle.gcl_core.specs.meaning.Views.{expression_of, statement_of, statements_of, list_of, arm_list_of, list_of_arms}
use Rattle.gcl_core.proofs.ViewLemmas.{skip_view, if_view, while_view, choice_view, choose_view}
use Rattle.mass_fold.proofs.ArmsLeft.{arms_done, sum_next, arms_next}
use Rattle.mass_fold.proofs.Fitting.{below_as, weights_as, list_step, below_next, weights_next, along_list, below_list}
use Rattle.scaled_law.specs.Pairs.{Pair}
use Rattle.scaled_fold.specs.inner.Folding.{parted, chosen, arms_begun, with_part}
use Rattle.scaled_fold.specs.inner.Holding.{Follows, FollowsMerged}
use Rattle.scaled_fold.proofs.Folding.{is_zero, not_zero, follows_as, if_follows, choice_follows, choose_follows, while_follows, tidied_follows, goes_start, goes_as, goes_next, goes_done, both_follow}
use Rattle.scaled_fold.proofs.Folding.{turns_start, turns_as, turns_next, turns_left, turns_done, arms_start, arms_as, arms_step, arms_end}
use Rattle.scaled_fold.proofs.Merged.{once}
use Rattle.scaled_fold.proofs.fold.Fold.+fold.Goals as goal

pub block-loop-s-init : goal.block-loop-s-init
block-loop-s-init t c = record { below = λ m h. h; weights = λ h. h; vars = refl; so_far = goes_start c.args.self.turns c.args.self.attempts _ _ c.args.walk refl }

pub block-stmt-requires : goal.block-stmt-requires
block-stmt-requires t c =
    let p = list_step c.deref-s-items.result.now c.loop-s.s-index c.s-item.result c.loop-s-test.true c.s-item.is in
    let m = c.args.walk.next.vars in (
      search (rules, the_lemmas),
      (
        subst (λ m. StatementBelow m (statement_of c.s-item.result)) (sym c.loop-s.invariant.vars) (below_next m _ _ _ p (c.loop-s.invariant.below m (below_list m _ _ c.deref-s-items.ensures.value c.requires.below))).0,
        (weights_next _ _ _ p (c.loop-s.invariant.weights (along_list _ _ c.deref-s-items.ensures.value c.requires.weights))).0,
      ),
    )

pub block-loop-s-preserved : goal.block-loop-s-preserved
block-loop-s-preserved t c =
    let p = list_step c.deref-s-items.result.now c.loop-s.s-index c.s-item.result c.loop-s-test.true c.s-item.is in
    let b = list_of c.deref-s-items.result.now in
    record {
      below = λ m h. (below_next m _ _ _ p (c.loop-s.invariant.below m h)).1;
      weights = λ h. (weights_next _ _ _ p (c.loop-s.invariant.weights h)).1;
      vars = c.in_ok-now-2.ensures.vars ∙ c.in_ok-now.ensures.vars ∙ c.loop-s.invariant.vars;
      so_far = goes_next c.args.self.turns c.args.self.attempts b (statement_of c.s-item.result) _ c.args.walk c.loop-s.now _ _ (goes_as c.args.self.turns c.args.self.attempts b _ _ c.args.walk c.loop-s.now p c.loop-s.invariant.so_far) c.in_ok-now.ensures c.in_ok-now-2.ensures;
    }

pub block-returns : goal.block-returns
block-returns t c =
    goes_done c.args.self.turns c.args.self.attempts c.deref-s-items.result.now c.args.b.now.stmts.items c.loop-s.s-index c.args.walk c.loop-s.now (omega (arith, c.loop-s-test.false)) c.deref-s-items.ensures.value c.loop-s.invariant.so_far

pub stmt-returns-in-Skip : goal.stmt-returns-in-Skip
stmt-returns-in-Skip t c = follows_as c.args.self.turns c.args.self.attempts _ _ c.args.walk c.args.walk (ap statement_of c.in-Skip.is ∙ skip_view) (tidied_follows c.args.walk)

pub stmt-block-requires : goal.stmt-block-requires
stmt-block-requires t c =
    let q = ap statement_of c.in-If.is ∙ if_view c.in-If.e c.in-If.a c.in-If.c in
    let v = c.in_ok-both-in-If.ensures.vars in
    (search (rules, the_lemmas), (subst (λ m. BlockBelow m (statements_of c.in-If.a)) (sym v) (below_as _ _ _ q c.requires.below).1, (weights_as _ _ q c.requires.weights).0))

pub stmt-block-requires-in-If : goal.stmt-block-requires-in-If
stmt-block-requires-in-If t c =
    let q = ap statement_of c.in-If.is ∙ if_view c.in-If.e c.in-If.a c.in-If.c in
    let v = c.in_ok-turned-in-If.ensures.vars ∙ c.in_ok-first-in-If.ensures.vars ∙ c.in_ok-both-in-If.ensures.vars in
    (search (rules, the_lemmas), (subst (λ m. BlockBelow m (statements_of c.in-If.c)) (sym v) (below_as _ _ _ q c.requires.below).2, (weights_as _ _ q c.requires.weights).1))

pub stmt-returns-in_ok-second-in-If : goal.stmt-returns-in_ok-second-in-If
stmt-returns-in_ok-second-in-If t c =
    let n = c.args.self.turns in
    let r = c.args.self.attempts in
    let q = ap statement_of c.in-If.is ∙ if_view c.in-If.e c.in-If.a c.in-If.c in
    let e = expression_of c.in-If.e in
    let a = statements_of c.in-If.a in
    let b = statements_of c.in-If.c in
    IfOk-weaker c.taken_back.result _ _
    (λ z s. follows_as n r _ _ c.args.walk z q (if_follows n r e a b c.args.walk z (both_follow n r (parted e) a b c.args.walk _ _ _ _ z c.in_ok-both-in-If.ensures c.in_ok-first-in-If.ensures c.in_ok-turned-in-If.ensures c.in_ok-second-in-If.ensures s)))
    c.taken_back.ensures

pub stmt-block-requires-in-Choice : goal.stmt-block-requires-in-Choice
stmt-block-requires-in-Choice t c =
    let q = ap statement_of c.in-Choice.is ∙ choice_view c.in-Choice.p c.in-Choice.a c.in-Choice.c in
    let v = c.in_ok-both-in-Choice.ensures.vars in
    (search (rules, the_lemmas), (subst (λ m. BlockBelow m (statements_of c.in-Choice.a)) (sym v) (below_as _ _ _ q c.requires.below).0, (weights_as _ _ q c.requires.weights).1))

pub stmt-block-requires-in-Choice-2 : goal.stmt-block-requires-in-Choice-2
stmt-block-requires-in-Choice-2 t c =
    let q = ap statement_of c.in-Choice.is ∙ choice_view c.in-Choice.p c.in-Choice.a c.in-Choice.c in
    let v = c.in_ok-turned-in-Choice.ensures.vars ∙ c.in_ok-first-in-Choice.ensures.vars ∙ c.in_ok-both-in-Choice.ensures.vars in
    (search (rules, the_lemmas), (subst (λ m. BlockBelow m (statements_of c.in-Choice.c)) (sym v) (below_as _ _ _ q c.requires.below).1, (weights_as _ _ q c.requires.weights).2))

pub stmt-returns-in_ok-second-in-Choice : goal.stmt-returns-in_ok-second-in-Choice
stmt-returns-in_ok-second-in-Choice t c =
    let n = c.args.self.turns in
    let r = c.args.self.attempts in
    let q = ap statement_of c.in-Choice.is ∙ choice_view c.in-Choice.p c.in-Choice.a c.in-Choice.c in
    let p = c.in-Choice.p in
    let a = statements_of c.in-Choice.a in
    let b = statements_of c.in-Choice.c in
    IfOk-weaker c.taken_back-in-Choice.result _ _
    (λ z s. follows_as n r _ _ c.args.walk z q (choice_follows n r p a b c.args.walk z (both_follow n r (chosen r p) a b c.args.walk _ _ _ _ z c.in_ok-both-in-Choice.ensures c.in_ok-first-in-Choice.ensures c.in_ok-turned-in-Choice.ensures c.in_ok-second-in-Choice.ensures s)))
    c.taken_back-in-Choice.ensures

pub stmt-while_loop-requires : goal.stmt-while_loop-requires
stmt-while_loop-requires t c =
    let q = ap statement_of c.in-While.is ∙ while_view c.in-While.e c.in-While.body in
    let b = below_as _ _ _ q c.requires.below in
    (search (rules, the_lemmas), (b.0, (b.1, weights_as _ _ q c.requires.weights)))

pub stmt-arms-requires : goal.stmt-arms-requires
stmt-arms-requires t c =
    let q = ap statement_of c.in-Choose.is ∙ choose_view c.in-Choose.arms in
    let w = weights_as _ _ q c.requires.weights in
    (search (rules, the_lemmas), (below_as _ _ _ q c.requires.below, (w.1, (omega (arith, w.0.positive), omega (arith, w.0.coarse)))))

pub stmt-returns-in-While : goal.stmt-returns-in-While
stmt-returns-in-While t c =
    let n = c.args.self.turns in
    let r = c.args.self.attempts in
    let q = ap statement_of c.in-While.is ∙ while_view c.in-While.e c.in-While.body in
    IfOk-weaker c.while_loop.result _ _ (λ u s. follows_as n r _ _ c.args.walk u q (while_follows n r (expression_of c.in-While.e) (statements_of c.in-While.body) c.args.walk u s)) c.while_loop.ensures

pub stmt-returns-in-Choose : goal.stmt-returns-in-Choose
stmt-returns-in-Choose t c =
    let n = c.args.self.turns in
    let r = c.args.self.attempts in
    let q = ap statement_of c.in-Choose.is ∙ choose_view c.in-Choose.arms in
    IfOk-weaker c.arms.result _ _ (λ u s. follows_as n r _ _ c.args.walk u q (choose_follows n r (list_of_arms c.in-Choose.arms) c.args.walk u s)) c.arms.ensures

pub arms-loop-count-init : goal.arms-loop-count-init
arms-loop-count-init t c =
    let n = c.args.self.turns in
    let r = c.args.self.attempts in
    let arms = list_of_arms c.args.arms.now in
    let b = sum (parts_of arms) in
    let bound = c.of-odds.ensures.bound ∙ c.total.ensures in
    let begun = subst (λ r. Follows (arms_begun b r) c.args.walk c.in_ok-now.now) c.of-odds.ensures.attempts
    (subst (λ b. Follows (arms_begun b c.of-odds.result.attempts) c.args.walk c.in_ok-now.now) bound c.in_ok-now.ensures) in
    let same = ap arm_list_of c.deref-count-items.ensures.value in
    record {
      vars = c.in_ok-now.ensures.vars;
      below = subst (ArmsBelow c.args.walk.next.vars) (sym same) c.requires.below;
      weights = subst ArmsAreWeighed (sym same) c.requires.weights;
      few = let e = ap (λ a. sum (parts_of a)) same in omega (arith, e);
      so_far = λ f h. arms_start n r b arms (arms_begun b r f) _ c.in_ok-now.now same (once f.next) (begun.holds f h);
    }

pub arms-loop-count-preserved : goal.arms-loop-count-preserved
arms-loop-count-preserved t c =
    let n = c.args.self.turns in
    let r = c.args.self.attempts in
    let arms = list_of_arms c.args.arms.now in
    let b = sum (parts_of arms) in
    let next = arms_next c.deref-count-items.result.now c.loop-count.count-index c.loop-count-item.result c.loop-count-test.true c.loop-count-item.is in
    let bound = c.of-odds.ensures.bound ∙ c.total.ensures in
    let part = subst (λ r. FollowsMerged (with_part b r c.loop-count-item.result.0) c.loop-count.now c.in_ok-part.part) c.of-odds.ensures.attempts
    (subst (λ b. FollowsMerged (with_part b c.of-odds.result.attempts c.loop-count-item.result.0) c.loop-count.now c.in_ok-part.part) bound c.in_ok-part.ensures) in
    record {
      vars = c.in_ok-now-2.ensures.vars ∙ c.in_ok-block.ensures.vars ∙ c.in_ok-part.ensures.vars ∙ c.loop-count.invariant.vars;
      below = (subst (ArmsBelow c.args.walk.next.vars) next c.loop-count.invariant.below).1;
      weights = (subst ArmsAreWeighed next c.loop-count.invariant.weights).1;
      few = let s = sum_next c.deref-count-items.result.now c.loop-count.count-index c.loop-count-item.result c.loop-count-test.true c.loop-count-item.is in omega (arith, s, c.loop-count.invariant.few);
      so_far = λ f h. arms_step n r b arms (arms_begun b r f) c.loop-count-item.result.0 (statements_of c.loop-count-item.result.1) _ c.loop-count.now c.in_ok-part.part _ _
          (arms_as n r b arms (arms_begun b r f) _ _ c.loop-count.now next (c.loop-count.invariant.so_far f h)) part c.in_ok-block.ensures c.in_ok-now-2.ensures;
    }

pub arms-returns : goal.arms-returns
arms-returns t c =
    let n = c.args.self.turns in
    let r = c.args.self.attempts in
    let arms = list_of_arms c.args.arms.now in
    let b = sum (parts_of arms) in
    let none = arms_done c.deref-count-items.result.now c.loop-count.count-index (omega (arith, c.loop-count-test.false)) in
    record {
      holds = λ f h. arms_end n r b arms (arms_begun b r f) c.loop-count.now c.left.result (arms_as n r b arms (arms_begun b r f) _ _ c.loop-count.now none (c.loop-count.invariant.so_far f h)) c.left.ensures;
      vars = c.left.ensures.vars ∙ c.loop-count.invariant.vars;
    }

pub while_loop-loop-init : goal.while_loop-loop-init
while_loop-loop-init t c =
    let n = c.args.self.turns in
    let r = c.args.self.attempts in
    record {
      vars = c.in_ok-now.ensures.vars;
      so_far = λ f h. turns_start n r (expression_of c.args.e.now) (statements_of c.args.body.now) f c.args.walk _ (n - 0) (omega arith) c.in_ok-now.ensures h;
    }

pub while_loop-returns-then-least-eq0 : goal.while_loop-returns-then-least-eq0
while_loop-returns-then-least-eq0 t c =
    let n = c.args.self.turns in
    let r = c.args.self.attempts in
    let e = expression_of c.args.e.now in
    let b = statements_of c.args.body.now in
    let now = c.loop.now in
    let one : n - c.loop.counter ≡ suc (n - (c.loop.counter + 1)) = omega arith in
    let none = is_zero _ (sym (ap (λ (u : Pair). u.0) c.in_ok-least.ensures) ∙ c.if-least-eq0.true) in
    IfOk-weaker c.loosened.result _ _
    (λ u s. record {
      holds = λ f h. turns_left n r e b f now u (n - (c.loop.counter + 1)) none (turns_as n r e b f _ _ now one (c.loop.invariant.so_far f h)) s;
      vars = s.vars ∙ c.loop.invariant.vars;
    })
    c.loosened.ensures

pub while_loop-loop-preserved : goal.while_loop-loop-preserved
while_loop-loop-preserved t c =
    let n = c.args.self.turns in
    let r = c.args.self.attempts in
    let e = expression_of c.args.e.now in
    let b = statements_of c.args.body.now in
    let now = c.loop.now in
    let one : n - c.loop.counter ≡ suc (n - (c.loop.counter + 1)) = omega arith in
    let some = not_zero _ (λ z. c.if-least-eq0.false (ap (λ (u : Pair). u.0) c.in_ok-least.ensures ∙ z)) in
    record {
      vars = c.in_ok-now-2.ensures.vars ∙ c.in_ok-entered.ensures.vars ∙ c.loop.invariant.vars;
      so_far = λ f h. turns_next n r e b f now _ _ (n - (c.loop.counter + 1)) some (turns_as n r e b f _ _ now one (c.loop.invariant.so_far f h)) c.in_ok-entered.ensures c.in_ok-now-2.ensures;
    }

pub while_loop-returns : goal.while_loop-returns
while_loop-returns t c =
    let n = c.args.self.turns in
    let r = c.args.self.attempts in
    let e = expression_of c.args.e.now in
    let b = statements_of c.args.body.now in
    let none : n - c.loop.counter ≡ 0 = omega arith in
    IfOk-weaker c.out_of_turns.result _ _
    (λ u s. record { holds = λ f h. turns_done n r e b f c.loop.now u (n - c.loop.counter) none (c.loop.invariant.so_far f h) s; vars = s.vars ∙ c.loop.invariant.vars })
    c.out_of_turns.ensures
