use Rattle.std.proofs.Common.{◌≡◌, ◌≢◌, ◌<◌, ◌-◌, suc, ap, subst, [], ◌∷◌, Err, Some, None, ◌++◌, arith, rules, ◌∙◌}
use Rattle.gcl_core.specs.declared.words.Word.TheVariants as w
use Rattle.gcl_core.specs.declared.tokens.Key.TheVariants as k
use Rattle.gcl_core.specs.declared.tokens.Sym.TheVariants as y
use Rattle.gcl_core.specs.declared.syntax.Arms.{out-roll-Arms}
use Rattle.gcl_core.specs.meaning.Syntax.{arm}
use Rattle.gcl_core.specs.meaning.Views.{statements_of, arm_list_of, list_of_arms}
use Rattle.gcl_parse.specs.inner.Fronts.{first}
use Rattle.gcl_core.specs.text.Grammar as g
use Rattle.gcl_parse.specs.inner.Pushdown as m
use Rattle.gcl_parse.specs.inner.Parses.{ParsesArms, arms_before, start_at}
use Rattle.gcl_parse.proofs.Steps as step
use Rattle.gcl_parse.proofs.Steps.{after, fails_after, fails_here}
use Rattle.gcl_core.proofs.ViewLemmas as views
use Rattle.gcl_parse.proofs.Arms as arms
use Rattle.gcl_parse.proofs.Blocks as blocks
use Rattle.gcl_parse.proofs.parser.Parser.+statements.Goals as goal

pub block-returns-in_err-sym : goal.block-returns-in_err-sym
block-returns-in_err-sym t c =
    let r : c.from_residual.result ≡ Err c.in_err-sym.field-0.0 = grind arith in
    rw r (step.block_fails (fails_here c.in_err-sym.ensures))

pub block-returns-in_err-found : goal.block-returns-in_err-found
block-returns-in_err-found t c =
    let r : c.from_residual-in_err-found.result ≡ Err c.in_err-found.field-0.0 = grind arith in
    rw r (step.block_fails (fails_after c.in_ok-sym.ensures.1 (fails_here c.in_err-found.ensures)))

pub block-returns-in_err-sym-2 : goal.block-returns-in_err-sym-2
block-returns-in_err-sym-2 t c =
    let r : c.from_residual-in_err-sym-2.result ≡ Err c.in_err-sym-2.field-0.0 = grind arith in
    rw r (step.block_fails (fails_after c.in_ok-sym.ensures.1 (fails_after c.in_ok-found.ensures.1 c.in_err-sym-2.ensures)))

pub block-returns : goal.block-returns
block-returns t c =
    let o = c.in_ok-sym.ensures in
    let found = c.in_ok-found.ensures in
    let e = c.in_ok-sym-2.ensures in
    (rw o.0 (g.in_braces (rw e.0 at found.0)), step.block_passes (after o.1 (after found.1 e.1)), omega (arith, o.2, found.2, e.2))

pub branch-returns : goal.branch-returns
branch-returns t c =
    let test = c.in_ok-test.ensures in
    let yes = c.in_ok-yes.ensures in
    let no = c.in_ok-no.ensures in
    (rw views.if_view (g.an_if test.0 yes.0 no.0), after test.1 (after yes.1 no.1), omega (arith, test.2, yes.2, no.2))

pub repeat-returns : goal.repeat-returns
repeat-returns t c =
    let test = c.in_ok-test.ensures in
    let body = c.in_ok-body.ensures in
    (rw views.while_view (g.a_while test.0 body.0), after test.1 body.1, omega (arith, test.2, body.2))

pub choice-returns : goal.choice-returns
choice-returns t c =
    let num = c.in_ok-num.ensures in
    let slash = c.in_ok-sym.ensures in
    let den = c.in_ok-den.ensures in
    let left = c.in_ok-left.ensures in
    let or = c.in_ok-key.ensures in
    let right = c.in_ok-right.ensures in (
      rw (num.0, slash.0, den.0, views.choice_view) (g.a_choice (rw or.0 at left.0) right.0),
      after num.1 (after slash.1 (after den.1 (after left.1 (after or.1 right.1)))),
      omega (arith, num.2, slash.2, den.2, left.2, or.2, right.2),
    )

pub arm-returns : goal.arm-returns
arm-returns t c =
    let part = c.in_ok-part.ensures in
    let colon = c.in_ok-sym.ensures in
    let block = c.in_ok-block.ensures in (
      record { rest = _; front = part.0 ∙ ap (λ ts. w.Number c.in_ok-part.part ∷ ts) colon.0 },
      block.0,
      after part.1 (after colon.1 block.1),
      omega (arith, part.2, colon.2, block.2),
    )

pub arms-returns-then-goes_on : goal.arms-returns-then-goes_on
arms-returns-then-goes_on t c =
    let some : (0 < c.args.more) × (first c.arm.new.self ≡ Some (w.Sym y.Bar)) = grind arith in
    let more : suc (c.args.more - 1) ≡ c.args.more = omega (arith, some.0) in
    let pushed : c.push.new.self.items ≡ c.args.found.items ++ c.in_ok-arm.arm ∷ [] = search rules in
    subst (λ n. ParsesArms n c.args.found.items c.args.self.now c.arms.result c.arms.new.self) more
    (arms.another_parses _ _ _ c.in_ok-arm.ensures (step.front_is _ some.1 c.advance.ensures) _ _ (rw pushed at c.arms.ensures))

pub arms-returns-in_err-sym : goal.arms-returns-in_err-sym
arms-returns-in_err-sym t c =
    let r : c.from_residual-in_err-sym.result ≡ Err c.in_err-sym.field-0.0 = grind arith in
    let none : (0 < c.args.more) × (first c.arm.new.self ≡ Some (w.Sym y.Bar)) → ⊥ = grind arith in
    rw r (arms.last_fails _ c.args.found.items c.in_ok-arm.arm c.in_ok-arm.ensures none c.in_err-sym.ensures)

pub arms-returns : goal.arms-returns
arms-returns t c =
    let none : (0 < c.args.more) × (first c.arm.new.self ≡ Some (w.Sym y.Bar)) → ⊥ = grind arith in
    let pushed : c.push.new.self.items ≡ c.args.found.items ++ c.in_ok-arm.arm ∷ [] = search rules in
    let brace = c.in_ok-sym.ensures in
    let made = ap (λ r. arm_list_of r.arms.items) (out-roll-Arms _) ∙ ap arm_list_of pushed in
    arms.last_parses _ c.args.found.items c.in_ok-arm.arm _ c.in_ok-arm.ensures none brace.0 made

pub choice_among-returns : goal.choice_among-returns
choice_among-returns t c =
    let brace = c.in_ok-sym.ensures in
    let one = c.in_ok-first.ensures in
    let bar = c.in_ok-sym-2.ensures in
    let others = c.in_ok-arms.ensures in
    let pushed : c.push.new.self.items ≡ c.in_ok-first.first ∷ [] = search rules in
    let made : list_of_arms c.in_ok-arms.arms ≡ arm c.in_ok-first.first.0 (statements_of c.in_ok-first.first.1) others.0 = others.1 ∙ ap (λ found. arms_before found others.0) pushed in (
      rw (brace.0, one.0.front, views.choose_view, made) (g.a_choose (rw bar.0 at one.1) others.2),
      after brace.1 (arms.after_arm one.2 (after bar.1 others.3)),
      omega (arith, brace.2, one.3, bar.2, others.4),
    )

pub otherwise-returns-then-not-next_is : goal.otherwise-returns-then-not-next_is
otherwise-returns-then-not-next_is t c =
    let n : first c.args.self.now ≢ Some (w.Key k.Else) = grind arith in
    (rw c.new.ensures.items g.no_else, step.no_else_passes _ n, omega arith)

pub otherwise-returns : goal.otherwise-returns
otherwise-returns t c =
    let n : first c.args.self.now ≡ Some (w.Key k.Else) = grind arith in
    step.else_parses (step.front_is _ n c.advance.ensures) _ _ c.block.ensures

pub statements-returns-in_err-stmt : goal.statements-returns-in_err-stmt
statements-returns-in_err-stmt t c =
    let r : c.from_residual.result ≡ Err c.in_err-stmt.field-0.0 = grind arith in
    let b : start_at (first c.loop-start.self) ≡ Some c.in-Some.start = grind arith in
    rw r (step.stmt_fails _ _ c.loop-start.invariant.2 (step.begins_stmt _ _ _ b c.advance.ensures) c.in_err-stmt.ensures)

pub statements-loop-start-preserved : goal.statements-loop-start-preserved
statements-loop-start-preserved t c =
    let b : start_at (first c.loop-start.self) ≡ Some c.in-Some.start = grind arith in
    let front = step.front_begun _ _ _ b c.advance.ensures in
    let stmt = c.in_ok-stmt.ensures in
    let less = step.one_less front in
    let pushed : c.push.new.self.items ≡ c.loop-start.found.items ++ c.in_ok-stmt.stmt ∷ [] = search rules in (
      omega (arith, c.loop-start.invariant.0, stmt.2, less),
      λ xs rest more. rw (pushed, ← blocks.before-push _ _ _) (c.loop-start.invariant.1 _ _ (g.a_statement (rw front stmt.0) more)),
      λ s. c.loop-start.invariant.2 s ∙ step.begins_stmt _ _ _ b c.advance.ensures s ∙ stmt.1.runs (m.stmts ∷ s),
    )

pub statements-returns : goal.statements-returns
statements-returns t c =
    let none : start_at (first c.loop-start.self) ≡ None = grind arith in (
      rw (← blocks.before-done c.loop-start.found.items) (c.loop-start.invariant.1 _ _ g.no_statement),
      record { runs = λ s. c.loop-start.invariant.2 s ∙ step.no_more_stmts _ none s },
      c.loop-start.invariant.0,
    )
