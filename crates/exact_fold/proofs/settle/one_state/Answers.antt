use Rattle.std.proofs.Common.{subst}
use Rattle.mass_fold.specs.inner.Amounts.{PutGives}
use Rattle.exact_fold.proofs.settle.one_state.Goals as goal

pub returns-clause-one : goal.returns-clause-one
returns-clause-one c = subst (λ z. PutGives z c.put.new.self.states.entries c.args.state c.args.weight) c.new-one.ensures.empty c.in_ok-put.ensures.ok
