use Rattle.std.proofs.Common.{sym, arith}
use Rattle.enclose_fold.proofs.Adding.{found_none, found_some, found_within}
use Rattle.enclose_fold.proofs.outcomes.sum_at.Goals as goal

pub overflow_add-result : goal.overflow_add-result
overflow_add-result c = let a = found_within _ _ c.args.units.now.entries (sym c.in-Some.ensures.value) in omega (arith, a, c.requires)

pub returns-in-Some : goal.returns-in-Some
returns-in-Some c = let a = found_some _ c.args.units.now.entries _ (sym c.in-Some.ensures.value) in omega (arith, a)

pub returns-in-None : goal.returns-in-None
returns-in-None c = let a = found_none _ c.args.units.now.entries (sym c.in-None.ensures.value) in omega (arith, a)
