use Rattle.std.proofs.Common.{sym, ap, ◌∙◌, []}
use Rattle.scaled_law.specs.Scaled.{top, below}
use Rattle.scaled_fold.specs.inner.Stack.{stacked}
use Rattle.scaled_fold.proofs.Stacks.{stack_push}
use Rattle.scaled_fold.proofs.stack.Stack.taken.Goals as goal

pub returns-in-Some-clause-first : goal.returns-in-Some-clause-first
returns-in-Some-clause-first c = sym (ap top (ap (λ ts. stacked ts []) c.in-Some.ensures.items ∙ stack_push c.pop.new.self.items c.in-Some.table []))

pub returns-in-Some-clause-rest : goal.returns-in-Some-clause-rest
returns-in-Some-clause-rest c = sym (ap below (ap (λ ts. stacked ts []) c.in-Some.ensures.items ∙ stack_push c.pop.new.self.items c.in-Some.table []))
