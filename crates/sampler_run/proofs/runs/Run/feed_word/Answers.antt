use Rattle.std.proofs.Common.{sym, subst}
use Rattle.zar_io.specs.FileBits.{low_bits}
use Rattle.sampler_run.specs.declared.machine.Progress.TheVariants.{NeedBit, Ended}
use Rattle.sampler_run.specs.Models.{held_of}
use Rattle.sampler_run.specs.Sampled.{WentOn}
use Rattle.sampler_run.specs.Telling.{Tells}
use Rattle.sampler_run.proofs.Standing.{kept_tells, kept_one}
use Rattle.sampler_run.proofs.Taking.{went_none}
use Rattle.sampler_run.proofs.runs.Run.feed_word.Goals as goal

pub returns-then-count-eq0-clause-went : goal.returns-then-count-eq0-clause-went
returns-then-count-eq0-clause-went c =
    let s = c.args.self.now in
    subst (λ n. WentOn s s (low_bits n c.args.word) (low_bits 0 c.args.word)) (sym c.if-count-eq0.true) (went_none s (low_bits 0 c.args.word))

pub take_word-requires-clause-needs : goal.take_word-requires-clause-needs
take_word-requires-clause-needs c =
    subst (λ p. Tells c.args.self.now p) c.in-NeedBit.is (subst (λ s. Tells s c.self.inside.progress) c.self.view_is (kept_tells _ _ _ _ c.self.invariant.kept))

pub returns-in-Ended-clause-went : goal.returns-in-Ended-clause-went
returns-in-Ended-clause-went c = went_none c.args.self.now (low_bits c.args.count c.args.word)

pub returns-in-Ended-clause-used_up : goal.returns-in-Ended-clause-used_up
returns-in-Ended-clause-used_up c = λ h.
    let told = subst (λ p. Tells (held_of c.self.inside) p) c.in-Ended.is (kept_tells _ _ _ _ c.self.invariant.kept) in
    let e = kept_one _ _ _ _ c.self.invariant.kept (Ended c.in-Ended.field-0) NeedBit told (subst (λ s. Tells s NeedBit) (sym c.self.view_is) h) in absurd (cc)
