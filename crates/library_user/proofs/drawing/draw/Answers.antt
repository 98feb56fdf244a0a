use Rattle.gcl_core.specs.meaning.Views.{source_of}
use Rattle.sampler_run.specs.Held.{run_begun}
use Rattle.library_user.proofs.Rows.{left_read}
use Rattle.library_user.proofs.drawing.draw.Goals as goal

pub returns-clause-answer : goal.returns-clause-answer
returns-clause-answer g c file agrees = c.in_ok-sampler.ensures.sampler.only c.args.l.now (g.B.Bits.left c.args.bits.now file) _ c.requires.limits (_, c.in_ok-stop.ensures.answer file agrees)

pub returns-clause-left : goal.returns-clause-left
returns-clause-left g c file agrees =
    let l = c.args.l.now in
    let s = c.in_ok-sampler.sampler in
    let law = c.runs_leave_the_rest.ensures (source_of c.args.p.now) l s c.in_ok-sampler.ensures.sampler c.requires.limits in
    left_read _ _ _ (law.reads (run_begun s l) _ _ _ (λ v a. (λ r. r, λ r. r)) (c.in_ok-stop.ensures.taken file agrees))
