use Rattle.std.proofs.Common.{subst}
use Rattle.gcl_core.specs.meaning.Bounds.{BlockIsWeighed}
use Rattle.gcl_core.specs.meaning.Views.{statements_of, source_of}
use Rattle.gcl_core.proofs.Accepted.{checked_weights}
use Rattle.gcl_core.proofs.checked.Checked.is_kept.Goals as goal

pub returns-clause-weights : goal.returns-clause-weights
returns-clause-weights c = subst (λ p. BlockIsWeighed (statements_of p.body)) c.self.view_is (checked_weights (source_of c.self.inside.program) c.self.invariant)
