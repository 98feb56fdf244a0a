use Rattle.std.proofs.Common.{◌<◌, ◌≤◌, sym, subst, ◌∙◌}
use Rattle.zar_io.specs.FileBits.{low_bits}
use Rattle.sampler_code.specs.Depths.{greatest_depth}
use Rattle.sampler_run.specs.declared.machine.Progress.TheVariants.{NeedBit}
use Rattle.sampler_run.specs.Held.{Held}
use Rattle.sampler_run.specs.Sampled.{WentOn}
use Rattle.sampler_run.specs.Telling.{Tells}
use Rattle.sampler_run.specs.Views.{machine_of}
use Rattle.sampler_run.specs.inner.Coming.{most_bits_to_come}
use Rattle.sampler_run.proofs.Standing.{kept_asks, kept_tells, kept_one}
use Rattle.sampler_run.proofs.Takes.{went_taken}
use Rattle.sampler_run.proofs.Words.{taken_answered, fewer_word}
use Rattle.sampler_run.proofs.runs.Run.take_word.Goals as goal

pub invariant_of-self : goal.invariant_of-self
invariant_of-self c =
    let a = c.run_word-progress.ensures in
    let k = c.self.invariant.kept in
    record {
      kept = record {
        sound = k.sound;
        turns = a.shape.turns ∙ k.turns;
        vars = a.shape.vars ∙ k.vars;
        answered = taken_answered c.self.inside.code.now.instrs c.self.inside.limits (machine_of c.self.inside.m) (machine_of c.run_word-progress.new.m) _ _ k.answered a.takes;
        from_start = k.from_start;
        rests = a.rests;
      };
      room = subst (λ n. greatest_depth c.self.inside.code.now.instrs ≤ n) (sym a.shape.stack) c.self.invariant.room;
    }

pub returns-clause-used_up : goal.returns-clause-used_up
returns-clause-used_up c =
    let k = (invariant_of-self c).kept in
    λ h. c.run_word-progress.ensures.used_up (kept_one _ _ _ _ k c.run_word-progress.result.0 NeedBit (kept_tells _ _ _ _ k) h)

pub returns-clause-went : goal.returns-clause-went
returns-clause-went c =
    let code = c.self.inside.code.now.instrs in
    let l = c.self.inside.limits in
    let n = machine_of c.run_word-progress.new.m in
    let new : Held = record { code = code; limits = l; machine = n } in
    subst (λ s. WentOn s new (low_bits c.args.count c.args.word) (low_bits c.run_word-progress.result.1 c.args.word)) c.self.view_is
    (went_taken code l (machine_of c.self.inside.m) n _ _ c.self.invariant.kept.answered (invariant_of-self c).kept.answered c.run_word-progress.ensures.takes)

pub returns-clause-fewer : goal.returns-clause-fewer
returns-clause-fewer c =
    let code = c.self.inside.code.now.instrs in
    let l = c.self.inside.limits in
    let n = machine_of c.run_word-progress.new.m in
    let new : Held = record { code = code; limits = l; machine = n } in
    let a = c.run_word-progress.ensures in
    let asks = kept_asks _ _ _ _ c.self.invariant.kept (subst (λ s. Tells s NeedBit) (sym c.self.view_is) c.requires.needs) in
    subst (λ s. most_bits_to_come new < most_bits_to_come s) c.self.view_is
    (fewer_word code l (machine_of c.self.inside.m) n c.run_word-progress.result.0 c.run_word-progress.result.1 c.args.count c.args.word c.requires.some c.self.invariant.kept.answered asks a.rests a.used_up a.takes)
