use Rattle.std.proofs.Common.{arith, ap}
use Rattle.units_law.specs.Units.{total}
use Rattle.enclose_fold.proofs.outcomes.all_units.Goals as goal

pub loop-w-init : goal.loop-w-init
loop-w-init c = record { next = tt; finite = tt; so_far = let e = ap total c.into_iter-w-iterator.ensures.into_iter_gives.0 in omega arith }

pub loop-w-preserved : goal.loop-w-preserved
loop-w-preserved c = record { next = tt; finite = tt; so_far = let e = ap total c.in-Some.ensures.steps in let a = c.loop-w.invariant.so_far in omega arith }

pub overflow_add-sum : goal.overflow_add-sum
overflow_add-sum c = let e = ap total c.in-Some.ensures.steps in let a = c.loop-w.invariant.so_far in omega (arith, c.requires)

pub returns : goal.returns
returns c = let e = ap total c.in-None.ensures.steps.0 in let a = c.loop-w.invariant.so_far in omega arith
