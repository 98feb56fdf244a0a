use Rattle.std.proofs.Common.{◌≡◌, ◌+◌, ◌≤◌, ◌<◌, false, sym, ap, ◌∙◌, arith, length, get_or}
use Rattle.gcl_core.specs.meaning.Views.{statement_of}
use Rattle.enclose_fold.specs.inner.Exact.{one_rounds}
use Rattle.enclose_fold.proofs.Between.{more_rounds}
use Rattle.enclose_fold.proofs.early.set_anew.Goals as goal

pub returns-then-statement_sets-clause-exact : goal.returns-then-statement_sets-clause-exact
returns-then-statement_sets-clause-exact c =
    let xs = c.args.block.now.stmts.items in
    let d = c.index-statement.result.now in
    let above : c.args.from + 1 ≤ c.loop-at.at = omega (arith, c.loop-at.auto.at) in
    let inside : c.loop-at.at < length xs = omega (arith, c.loop-at-test.true, c.len-at-end.ensures) in
    let none : one_rounds (statement_of (get_or xs c.loop-at.at d)) ≡ false = ap (λ s. one_rounds (statement_of s)) (sym c.index-statement.ensures) ∙ sym c.statement_rounds.ensures ∙ c.if-statement_rounds.false in
    more_rounds (c.args.from + 1) c.loop-at.at xs d above inside c.loop-at.invariant none

pub loop-at-preserved : goal.loop-at-preserved
loop-at-preserved c =
    let xs = c.args.block.now.stmts.items in
    let d = c.index-statement.result.now in
    let above : c.args.from + 1 ≤ c.loop-at.at = omega (arith, c.loop-at.auto.at) in
    let inside : c.loop-at.at < length xs = omega (arith, c.loop-at-test.true, c.len-at-end.ensures) in
    let none : one_rounds (statement_of (get_or xs c.loop-at.at d)) ≡ false = ap (λ s. one_rounds (statement_of s)) (sym c.index-statement.ensures) ∙ sym c.statement_rounds.ensures ∙ c.if-statement_rounds.false in
    more_rounds (c.args.from + 1) c.loop-at.at xs d above inside c.loop-at.invariant none
