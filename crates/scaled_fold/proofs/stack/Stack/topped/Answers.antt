use Rattle.std.proofs.Common.{ap, ◌∙◌, []}
use Rattle.scaled_fold.specs.inner.Stack.{stacked}
use Rattle.scaled_fold.proofs.Stacks.{stack_push}
use Rattle.scaled_fold.proofs.stack.Stack.topped.Goals as goal

pub returns-clause-ok : goal.returns-clause-ok
returns-clause-ok c = ap (λ ts. stacked ts []) c.in_ok-push.ensures.items ∙ stack_push c.args.self.tables.items c.args.table []
