use Rattle.std.proofs.Common.{suc, Some, [], ◌∙◌, sym, ap, add-one, length, drop, drop-cons, arith}
use Rattle.std.proofs.lemmas.List.{drop_all}
use Rattle.formula.specs.inner.OneRead.{stacked, waiting}
use Rattle.formula.specs.ReadBack.{read, expression_in}
use Rattle.formula.specs.Steps.{steps_of}
use Rattle.formula.proofs.ReadingBack.{stands_as, reads_whole}
use Rattle.formula.proofs.Stacks.{readable, has_read, all_read, same_first}
use Rattle.formula.proofs.reading.read_back.Goals as goal

pub loop-op-init : goal.loop-op-init
loop-op-init c =
    let h = c.requires in
    ap (λ l. read l (waiting c.new-pending.result.items) (stacked c.new-stack.result.items)) h.1
    ∙ ap (λ p. read (steps_of h.0) (waiting p) (stacked c.new-stack.result.items)) c.new-pending.ensures.items
    ∙ ap (λ s. read (steps_of h.0) [] (stacked s)) c.new-stack.ensures.items
    ∙ reads_whole h.0 ∙ ap Some (sym (stands_as c.args.steps.now h.0 h.1))

pub read_one-requires : goal.read_one-requires
read_one-requires c =
    let l = c.loop-op in
    readable _ (drop (suc l.op-index) c.args.steps.now) (waiting l.pending.items) (stacked l.stack.items) (expression_in c.args.steps.now)
    (ap (λ r. read r (waiting l.pending.items) (stacked l.stack.items)) (sym (drop-cons c.args.steps.now l.op-index _ c.loop-op-test.true)) ∙ l.invariant)

pub loop-op-preserved : goal.loop-op-preserved
loop-op-preserved c =
    let l = c.loop-op in
    ap (λ n. read (drop n c.args.steps.now) (waiting c.read_one.new.pending.items) (stacked c.read_one.new.stack.items)) (add-one l.op-index)
    ∙ has_read _ (drop (suc l.op-index) c.args.steps.now) (waiting l.pending.items) (waiting c.read_one.new.pending.items) (stacked l.stack.items) (stacked c.read_one.new.stack.items) (expression_in c.args.steps.now)
    (ap (λ r. read r (waiting l.pending.items) (stacked l.stack.items)) (sym (drop-cons c.args.steps.now l.op-index _ c.loop-op-test.true)) ∙ l.invariant)
    c.in_ok-read_one.ensures

pub pop-requires : goal.pop-requires
pop-requires c =
    let l = c.loop-op in
    let e = all_read _ (waiting l.pending.items) (stacked l.stack.items) (expression_in c.args.steps.now) (drop_all l.op-index c.args.steps.now c.loop-op-test.false) l.invariant in
    let n = ap length e in
    omega (arith, n)

pub returns : goal.returns
returns c =
    let l = c.loop-op in
    let e = all_read _ (waiting l.pending.items) (stacked l.stack.items) (expression_in c.args.steps.now) (drop_all l.op-index c.args.steps.now c.loop-op-test.false) l.invariant in
    let p = c.pop.ensures in
    same_first _ _ _ _ (sym p ∙ e)
