use Rattle.std.proofs.Common.{◌∙◌, sym, ap}
use Rattle.gcl_core.specs.meaning.Syntax.{Bin, Not}
use Rattle.gcl_core.specs.meaning.Views.{expression_of}
use Rattle.formula.proofs.Chained.{test_added, opposite_added, linked_added}
use Rattle.formula.proofs.chaining.+put_tests.Goals as goal

pub returns-then-branch : goal.returns-then-branch
returns-then-branch t c =
    let a = c.deref.result.now in
    let b = c.deref-then-branch.result.now in
    let op = c.in-Bin.op in
    linked_added _ c.args.settled c.args.tests.now.items c.put_tests.new.tests.items c.put_tests-then-branch.new.tests.items (expression_of a) (expression_of b) (expression_of c.args.e.now)
    (ap (λ op. Bin op (expression_of a) (expression_of b)) (sym (c.is_link.ensures c.if-is_link.true))
    ∙ ap (λ x. Bin op (expression_of x) (expression_of b)) c.deref.ensures
    ∙ ap (λ x. Bin op (expression_of c.in-Bin.a.value) (expression_of x)) c.deref-then-branch.ensures
    ∙ ap expression_of (sym c.in-Bin.is))
    (c.in_ok-put_tests-in-Bin.ensures c.if-branch.true) c.put_tests-then-branch.ensures

pub returns-in-Not : goal.returns-in-Not
returns-in-Not t c =
    opposite_added _ c.args.settled c.args.tests.now.items c.put_test.new.tests.items (expression_of c.deref-in-Not.result.now) (expression_of c.args.e.now)
    (ap (λ x. Not (expression_of x)) c.deref-in-Not.ensures ∙ ap expression_of (sym c.in-Not.is)) c.put_test.ensures

pub returns-in_default : goal.returns-in_default
returns-in_default t c = test_added _ c.args.settled c.args.tests.now.items c.put_test-in_default.new.tests.items (expression_of c.args.e.now) c.put_test-in_default.ensures
