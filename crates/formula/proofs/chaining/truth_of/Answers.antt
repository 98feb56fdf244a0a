use Rattle.std.proofs.Common.{◌∙◌, sym, ap, subst, rules, add-one, length, drop, drop-cons}
use Rattle.formula.specs.Chains.{chain_value, ChainReads}
use Rattle.formula.proofs.Chained.{first_settles, first_passes, first_fails, rest_reads}
use Rattle.formula.proofs.chaining.truth_of.Goals as goal

pub returns-in_err-settles : goal.returns-in_err-settles
returns-in_err-settles c =
    let l = c.loop-t in
    let h = first_fails c.args.settled _ _ c.args.vars.now _ _ (drop-cons c.args.tests.now l.t-index _ c.loop-t-test.true) l.invariant.same _ c.in_err-settles.ensures in
    grind (rules, h)

pub returns-then-branch : goal.returns-then-branch
returns-then-branch c =
    let l = c.loop-t in
    first_settles c.args.settled _ _ c.args.vars.now _ _ (drop-cons c.args.tests.now l.t-index _ c.loop-t-test.true) l.invariant.same _ c.in_ok-settles.ensures c.if-branch.true

pub loop-t-preserved : goal.loop-t-preserved
loop-t-preserved c =
    let l = c.loop-t in
    let at = drop-cons c.args.tests.now l.t-index _ c.loop-t-test.true in
    record {
      reads = subst (λ n. ChainReads (drop n c.args.tests.now) (length c.args.vars.now)) (sym (add-one l.t-index)) (rest_reads _ _ _ _ at l.invariant.reads);
      same = ap (λ n. chain_value c.args.settled (drop n c.args.tests.now) c.args.vars.now) (add-one l.t-index)
          ∙ first_passes c.args.settled _ _ c.args.vars.now _ _ at l.invariant.same _ c.in_ok-settles.ensures c.if-branch.false;
    }
