use Rattle.std.proofs.Common.{rules, subst}
use Rattle.std.specs.Prelude.{IfOk}
use Rattle.sampler_code.specs.Assembled.{CodeReaches}
use Rattle.sampler_run.specs.Sampled.{reached_by}
use Rattle.zar_io.specs.Trace.{World, Agrees}
use Rattle.run_tests.proofs.retrying.sample_again.Goals as goal

-- no bit was taken the first time
pub returns-in-Err-OutOfMemory-clause-answer : goal.returns-in-Err-OutOfMemory-clause-answer
returns-in-Err-OutOfMemory-clause-answer g c =
    let again = c.sample-in-Err-OutOfMemory in
    subst (λ bits. IfOk again.result (λ stop. (file : World) → Agrees file (g.B.Bits.answered again.new.bits) → CodeReaches c.args.s.now c.args.l.now (g.B.Bits.left bits file) (reached_by stop)))
    (search rules) again.ensures.answer
