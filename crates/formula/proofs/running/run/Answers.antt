use Rattle.std.proofs.Common.{Some, [], ap, ◌∙◌, refl, sym, length, drop, drop-cons, arith, rules, w64, to_z}
use Rattle.std.proofs.lemmas.List.{drop_all}
use Rattle.gcl_core.specs.meaning.Value.{value_of}
use Rattle.formula.specs.inner.OnStack.{run, values}
use Rattle.formula.proofs.OneStep.{run_goes, run_next, run_fails, run_ends}
use Rattle.formula.proofs.Runs.{runs_whole}
use Rattle.formula.proofs.Slots.{small_back}
use Rattle.formula.proofs.ReadingBack.{stands_as}
use Rattle.formula.proofs.running.run.Goals as goal

pub loop-at-init : goal.loop-at-init
loop-at-init c =
    let s = c.requires.stands in
    let R = length c.args.slots.now in
    let vars = c.args.vars.now in
    record {
      room = refl;
      held = omega arith;
      same = ap (λ l. run R vars 0 0 l []) s.1 ∙ runs_whole R vars s.0 s.2 s.3 ∙ ap (λ e. Some (value_of e vars)) (sym (stands_as c.args.steps.now s.0 s.1));
    }

pub take-requires-clause-goes : goal.take-requires-clause-goes
take-requires-clause-goes c =
    let l = c.loop-at in
    run_goes (length l.slots) c.args.vars.now c.args.steps.now _ l.at (values (to_z w64 l.top-bits) l.held l.slots) _ (drop-cons c.args.steps.now l.at _ c.loop-at-test.true) l.invariant.same

pub loop-at-smaller : goal.loop-at-smaller
loop-at-smaller c =
    let l = c.loop-at in
    let top = to_z w64 l.top-bits in
    let n = run_next (length l.slots) c.args.vars.now c.args.steps.now _ l.at (values top l.held l.slots) c.take.new.slots c.in_ok-p.p _ (drop-cons c.args.steps.now l.at _ c.loop-at-test.true) c.in_ok-p.ensures.came l.invariant.same in
    let further = n.0 in
    let within = c.loop-at-test.true in
    omega (arith, further, within)

pub loop-at-preserved : goal.loop-at-preserved
loop-at-preserved c =
    let l = c.loop-at in
    let e = c.in_ok-p.ensures in
    let top = to_z w64 l.top-bits in
    let n = run_next (length l.slots) c.args.vars.now c.args.steps.now _ l.at (values top l.held l.slots) c.take.new.slots c.in_ok-p.p _ (drop-cons c.args.steps.now l.at _ c.loop-at-test.true) c.in_ok-p.ensures.came l.invariant.same in
    record {
      room = e.room ∙ l.invariant.room;
      held = e.held;
      same = ap (λ x. run (length c.take.new.slots) c.args.vars.now c.in_ok-p.p.at 0 (drop c.in_ok-p.p.at c.args.steps.now) (values x c.in_ok-p.p.held c.take.new.slots)) (small_back c.in_ok-p.p.top e.small)
          ∙ ap (λ R. run R c.args.vars.now c.in_ok-p.p.at 0 (drop c.in_ok-p.p.at c.args.steps.now) (values c.in_ok-p.p.top c.in_ok-p.p.held c.take.new.slots)) e.room ∙ n.1;
    }

pub returns-in_err-p-clause-value : goal.returns-in_err-p-clause-value
returns-in_err-p-clause-value c =
    let l = c.loop-at in
    let e = c.in_err-p.ensures in
    let h = run_fails (length l.slots) c.args.vars.now c.args.steps.now _ l.at (values (to_z w64 l.top-bits) l.held l.slots) c.take.new.slots c.in_err-p.field-0.0 _ (drop-cons c.args.steps.now l.at _ c.loop-at-test.true) e.came l.invariant.same in
    grind (rules, h)

pub returns-clause-value : goal.returns-clause-value
returns-clause-value c =
    let l = c.loop-at in
    let h = run_ends (length l.slots) c.args.vars.now c.args.steps.now l.at (to_z w64 l.top-bits) l.held l.slots _ (drop_all l.at c.args.steps.now c.loop-at-test.false) l.invariant.same in
    h
