use Rattle.std.proofs.Common.{Bool, List, subst}
use Rattle.gcl_core.specs.declared.answers.Limits.{Limits}
use Rattle.gcl_core.specs.meaning.LimitRange.{InRange}
use Rattle.sampler_code.specs.Assembled.{Assembled, CodeReaches}
use Rattle.sampler_code.specs.Running.{Reached}
use Rattle.tally_range.proofs.tallying.runs_answer.Goals as goal

pub returns : goal.returns
returns c = subst (λ (a : Assembled). (l : Limits) (w : List Bool) → InRange l → (r : Reached) × CodeReaches a l w r) c.code.ensures c.vars.ensures.answers
