use Rattle.std.proofs.Common.{arith, sym, ap, ◌∙◌, ◌*◌, ◌≡◌, ◌≤◌}
use Rattle.std.proofs.lemmas.Nat.{mod_below}
use Rattle.narrow_fractions.proofs.Euclid.{none, candidate_above, candidate_below, wrong_side}
use Rattle.narrow_fractions.proofs.Stepping.{divided, no_greater, either_side, above_next, below_next, narrow_above, narrow_below, true_of_not, false_of_not}
use Rattle.narrow_fractions.proofs.fraction.narrow_fraction.Goals as goal

pub overflow_add-next : goal.overflow_add-next
overflow_add-next c =
    let i = c.loop-low.invariant in
    let pos : 1 ≤ c.loop-low.low = omega (arith, c.requires.positive, c.loop-low-test.true) in
    let r = either_side c.args.m c.args.n c.loop-low.high c.loop-low.low c.loop-low.before c.loop-low.now c.loop-low.above i.above i.below in
    let g = no_greater c.args.m c.args.n _ _ _ _ pos (divided c.args.m c.args.n c.loop-low.high c.loop-low.low c.loop-low.before c.loop-low.now pos i.falls r) in
    omega (arith, g, c.ranges.m.fits)

pub loop-low-preserved : goal.loop-low-preserved
loop-low-preserved c =
    let i = c.loop-low.invariant in
    let pos : 1 ≤ c.loop-low.low = omega (arith, c.requires.positive, c.loop-low-test.true) in
    record {
      above = λ e. above_next c.args.m c.args.n c.loop-low.high c.loop-low.low c.loop-low.before c.loop-low.now pos i.falls (i.below (true_of_not c.loop-low.above e));
      below = λ e. below_next c.args.m c.args.n c.loop-low.high c.loop-low.low c.loop-low.before c.loop-low.now pos i.falls (i.above (false_of_not c.loop-low.above e));
      falls = mod_below c.loop-low.high c.loop-low.low pos;
      tall = c.loop-low-test.true;
    }

pub returns-then-bound-now-clause-none : goal.returns-then-bound-now-clause-none
returns-then-bound-now-clause-none c e num den f =
    let i = c.loop-low.invariant in
    none c.args.m c.args.n c.args.bound c.loop-low.high c.loop-low.low c.loop-low.before c.loop-low.now num den i.tall c.if-bound-now.true
    (either_side c.args.m c.args.n c.loop-low.high c.loop-low.low c.loop-low.before c.loop-low.now c.loop-low.above i.above i.below) f

pub returns-then-low-ne0-clause-none : goal.returns-then-low-ne0-clause-none
returns-then-low-ne0-clause-none c e num den f =
    wrong_side c.args.m c.args.n c.args.bound c.loop-low.high c.loop-low.low c.loop-low.before c.loop-low.now num den c.requires.wide c.loop-low-test.false c.if-bound-now.false (omega (arith, c.if-low-ne0.true)) (c.loop-low.invariant.below c.if-above.false) f

pub returns-then-above-clause-narrow : goal.returns-then-above-clause-narrow
returns-then-above-clause-narrow c =
    narrow_above c.args.m c.args.n c.args.bound c.loop-low.high c.loop-low.low c.loop-low.before c.loop-low.now c.loop-low-test.false c.if-bound-now.false (c.loop-low.invariant.above c.if-above.true)

pub returns-then-above-clause-one : goal.returns-then-above-clause-one
returns-then-above-clause-one c num den f =
    candidate_above c.args.m c.args.n c.args.bound c.loop-low.high c.loop-low.low c.loop-low.before c.loop-low.now num den (omega (arith, c.requires.wide)) c.loop-low-test.false c.if-bound-now.false (c.loop-low.invariant.above c.if-above.true) f

pub returns-clause-narrow : goal.returns-clause-narrow
returns-clause-narrow c =
    narrow_below c.args.m c.args.n c.args.bound c.loop-low.high c.loop-low.low c.loop-low.before c.loop-low.now (omega (arith, c.if-low-ne0.false)) c.requires.positive c.if-bound-now.false (c.loop-low.invariant.below c.if-above.false)

pub returns-clause-one : goal.returns-clause-one
returns-clause-one c num den f =
    let z : c.loop-low.low ≡ 0 = omega (arith, c.if-low-ne0.false) in
    let q = candidate_below c.args.m c.args.n c.args.bound c.loop-low.high c.loop-low.low c.loop-low.before c.loop-low.now num den c.requires.wide c.loop-low-test.false c.if-bound-now.false (c.loop-low.invariant.below c.if-above.false) f in
    ap (λ x. den * x) (sym z) ∙ q
