use Rattle.std.proofs.Common.{sym, subst}
use Rattle.sampler_run.specs.Sampled.{WentOn}
use Rattle.sampler_run.proofs.Taking.{went_none, went_ready}
use Rattle.sampler_run.proofs.sampling.take_ready.Goals as goal

pub returns-then-ready-eq0-clause-went : goal.returns-then-ready-eq0-clause-went
returns-then-ready-eq0-clause-went g c = λ file.
    let s = c.args.state.now in
    let left = g.B.Bits.left c.args.bits.now file in
    subst (λ w. WentOn s s left w) (sym (c.peek-ready.ensures.same_bits file)) (went_none s left)

pub returns-clause-went : goal.returns-clause-went
returns-clause-went g c = λ file.
    let ready = c.peek-ready.result in
    let left = g.B.Bits.left c.peek-ready.new.self file in
    let after = g.B.Bits.left c.take.new.self file in
    subst (λ w. WentOn c.args.state.now c.take_word-left.new.self w after) (c.peek-ready.ensures.same_bits file)
    (went_ready c.args.state.now c.take_word-left.new.self ready.count c.take_word-left.result ready.word left after c.take_word-left.ensures.went
    (c.peek-ready.ensures.bits file) (c.take.ensures.bits file))
