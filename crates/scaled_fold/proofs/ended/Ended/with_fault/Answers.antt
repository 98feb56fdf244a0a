use Rattle.std.proofs.Common.{refl}
use Rattle.gcl_core.specs.declared.answers.Fault.TheVariants.{Overflow, ZeroDivisor, BadBound}
use Rattle.scaled_fold.proofs.MoreEnded.{of_fault, overflow_more, divisor_more, bound_more}
use Rattle.scaled_fold.proofs.ended.Ended.with_fault.Goals as goal

pub returns-in_ok-added-in-Overflow : goal.returns-in_ok-added-in-Overflow
returns-in_ok-added-in-Overflow c = of_fault c.args.self _ c.args.w c.args.f Overflow c.in-Overflow.is (overflow_more c.args.self _ c.args.w c.in_ok-added-in-Overflow.ensures refl refl refl refl)

pub returns-in_ok-added-in-ZeroDivisor : goal.returns-in_ok-added-in-ZeroDivisor
returns-in_ok-added-in-ZeroDivisor c = of_fault c.args.self _ c.args.w c.args.f ZeroDivisor c.in-ZeroDivisor.is (divisor_more c.args.self _ c.args.w refl c.in_ok-added-in-ZeroDivisor.ensures refl refl refl)

pub returns-in_ok-added-in-BadBound : goal.returns-in_ok-added-in-BadBound
returns-in_ok-added-in-BadBound c = of_fault c.args.self _ c.args.w c.args.f BadBound c.in-BadBound.is (bound_more c.args.self _ c.args.w refl refl c.in_ok-added-in-BadBound.ensures refl refl)
