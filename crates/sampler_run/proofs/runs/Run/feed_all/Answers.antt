use Rattle.std.proofs.Common.{false, refl, ◌∙◌, subst}
use Rattle.sampler_run.specs.Held.{StandsAfter}
use Rattle.sampler_run.proofs.Standing.{stands_next, take_whole}
use Rattle.sampler_run.proofs.runs.Run.feed_all.Goals as goal

pub loop-bit-init : goal.loop-bit-init
loop-bit-init c = (λ v a. (λ r. r, λ r. r), refl)

pub loop-bit-preserved : goal.loop-bit-preserved
loop-bit-preserved c = (
  stands_next c.args.bits.now c.loop-bit.bit-index false c.args.self.now c.loop-bit.self c.feed.new.self c.loop-bit-test.true c.loop-bit.invariant.0 c.feed.ensures.fed,
  c.feed.ensures.same_start ∙ c.loop-bit.invariant.1,
)

pub returns-clause-fed : goal.returns-clause-fed
returns-clause-fed c =
    subst (λ u. StandsAfter u c.args.self.now c.loop-bit.self) (take_whole c.args.bits.now c.loop-bit.bit-index c.loop-bit.auto.bit-index-end c.loop-bit-test.false)
    c.loop-bit.invariant.0
