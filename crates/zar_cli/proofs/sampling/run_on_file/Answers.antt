use Rattle.std.proofs.Common.{◌≡◌, [], rules, None, Some, ap, subst}
use Rattle.report_text.specs.declared.refusals.Refusal.TheVariants.{Read}
use Rattle.sampler_code.specs.Assembled.{CodeReaches}
use Rattle.sampler_run.specs.Sampled.{reached_by}
use Rattle.zar_io.specs.FileBits.{file_bits}
use Rattle.zar_io.specs.Trace.{Agrees, left_in}
use Rattle.zar_io.proofs.TraceLemmas.{agrees_before, left_opened}
use Rattle.zar_cli.proofs.Opening.{bits_behind}
use Rattle.zar_cli.proofs.sampling.run_on_file.Goals as goal

pub returns-in-Ok-clause-answer : goal.returns-in-Ok-clause-answer
returns-in-Ok-clause-answer g c file agrees =
    let l = c.args.limits.now in
    let bytes = left_in file (g.F.Files.answered c.open_bits.new.files) in
    let same : c.files-1.given.0 ≡ c.sample.new.bits.files.now = search rules in
    let now = subst (λ files. Agrees file (g.F.Files.answered files)) same agrees in
    let first = subst (Agrees file) c.new-bits.ensures.answered (agrees_before file [] _ _ c.in-Ok.ensures.goes_on now) in
    let reached = subst (λ bits. CodeReaches c.in_ok-sampler.sampler l bits (reached_by c.in-Ok.stop)) (c.new-bits.ensures.left file) (c.in-Ok.ensures.answer file now) in
    (bytes, left_opened file _ _ _ c.in_ok-open_bits.ensures.start first, c.in_ok-sampler.ensures.sampler.only l (file_bits bytes) _ c.requires (_, reached))

pub returns-in-Ok-clause-stage : goal.returns-in-Ok-clause-stage
returns-in-Ok-clause-stage g c =
    let same : c.files-1.given.0 ≡ c.sample.new.bits.files.now = search rules in
    bits_behind _ _ _ _ _ _ None c.in_ok-open_bits.ensures.stage c.new-bits.ensures.answered c.in-Ok.ensures.goes_on (ap g.F.Files.answered same) c.in-Ok.ensures.fails

pub returns-in-Err-Read-clause-stage : goal.returns-in-Err-Read-clause-stage
returns-in-Err-Read-clause-stage g c =
    let same : c.files-1.given.0 ≡ c.sample.new.bits.files.now = search rules in
    bits_behind _ _ _ _ _ _ (Some Read) c.in_ok-open_bits.ensures.stage c.new-bits.ensures.answered c.in-Err-Read.ensures.goes_on (ap g.F.Files.answered same)
    (rw c.in-Err-Read.field-0-is at c.in-Err-Read.ensures.fails, c.sample.new.bits.closed_by_a_fault (rw c.in-Err-Read.field-0-is at c.in-Err-Read.ensures.broken))
