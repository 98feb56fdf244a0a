use Rattle.std.proofs.Common.{arith}
use Rattle.sampler_run.proofs.Differing.{by_zeros}
use Rattle.sampler_run.proofs.trials.first_above.Goals as goal

pub overflow_sub-result-2 : goal.overflow_sub-result-2
overflow_sub-result-2 c = let found = (by_zeros c.args.bound c.args.number c.args.need c.requires.above c.requires.before c.requires.need).0 in omega (arith, found)

pub returns-clause-left : goal.returns-clause-left
returns-clause-left c = (by_zeros c.args.bound c.args.number c.args.need c.requires.above c.requires.before c.requires.need).1.left

pub returns-clause-above : goal.returns-clause-above
returns-clause-above c = (by_zeros c.args.bound c.args.number c.args.need c.requires.above c.requires.before c.requires.need).1.above

pub returns-clause-below : goal.returns-clause-below
returns-clause-below c = (by_zeros c.args.bound c.args.number c.args.need c.requires.above c.requires.before c.requires.need).1.below
