use Rattle.std.proofs.Common.{[], ◌∷◌, ◌<◌, ◌≤◌, sym, subst, ◌∙◌}
use Rattle.sampler_code.specs.Depths.{greatest_depth}
use Rattle.sampler_run.specs.declared.machine.Progress.TheVariants.{NeedBit}
use Rattle.sampler_run.specs.Held.{Held, StandsAfter}
use Rattle.sampler_run.specs.Telling.{Tells}
use Rattle.sampler_run.specs.Views.{machine_of}
use Rattle.sampler_run.specs.inner.Coming.{most_bits_to_come}
use Rattle.sampler_run.proofs.Feeding.{fewer}
use Rattle.sampler_run.proofs.Settle.{answered_bit}
use Rattle.sampler_run.proofs.Standing.{stands, kept_asks, kept_tells}
use Rattle.sampler_run.proofs.runs.Run.take.Goals as goal

pub advance-self-inside-requires-clause-asks : goal.advance-self-inside-requires-clause-asks
advance-self-inside-requires-clause-asks c = kept_asks _ _ _ _ c.self.invariant.kept (subst (λ s. Tells s NeedBit) (sym c.self.view_is) c.requires)

pub invariant_of-self : goal.invariant_of-self
invariant_of-self c =
    let a = c.advance-self-inside.ensures in
    let k = c.self.invariant.kept in
    record {
      kept = record {
        sound = k.sound;
        turns = a.shape.turns ∙ k.turns;
        vars = a.shape.vars ∙ k.vars;
        answered = answered_bit c.self.inside.code.now.instrs c.self.inside.limits (machine_of c.self.inside.m) (machine_of c.advance-self-inside.new.m) c.args.bit k.answered a.same;
        from_start = k.from_start;
        rests = a.rests;
      };
      room = subst (λ n. greatest_depth c.self.inside.code.now.instrs ≤ n) (sym a.shape.stack) c.self.invariant.room;
    }

pub returns-clause-told : goal.returns-clause-told
returns-clause-told c = kept_tells _ _ _ _ (invariant_of-self c).kept

pub returns-clause-fed : goal.returns-clause-fed
returns-clause-fed c =
    let code = c.self.inside.code.now.instrs in
    let l = c.self.inside.limits in
    let n = machine_of c.advance-self-inside.new.m in
    let new : Held = record { code = code; limits = l; machine = n } in
    subst (λ s. StandsAfter (c.args.bit ∷ []) s new) c.self.view_is
    (stands code l (machine_of c.self.inside.m) n (c.args.bit ∷ []) c.self.invariant.kept.answered (invariant_of-self c).kept.answered c.advance-self-inside.ensures.same)

pub returns-clause-fewer : goal.returns-clause-fewer
returns-clause-fewer c =
    let code = c.self.inside.code.now.instrs in
    let l = c.self.inside.limits in
    let n = machine_of c.advance-self-inside.new.m in
    let new : Held = record { code = code; limits = l; machine = n } in
    subst (λ s. most_bits_to_come new < most_bits_to_come s) c.self.view_is
    (fewer code l (machine_of c.self.inside.m) n c.args.bit c.self.invariant.kept.answered (subst (λ s. Tells s NeedBit) (sym c.self.view_is) c.requires) c.advance-self-inside.ensures.same)
