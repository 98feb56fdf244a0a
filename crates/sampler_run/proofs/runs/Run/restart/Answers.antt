use Rattle.std.proofs.Common.{[], subst, sym, ap, length, ◌∙◌, ◌≤◌}
use Rattle.sampler_code.specs.Depths.{greatest_depth}
use Rattle.sampler_code.specs.Running.{start}
use Rattle.sampler_code.specs.inner.Bounded.{rest_of}
use Rattle.sampler_run.specs.Held.{Held, StandsAfter, set_back}
use Rattle.sampler_run.specs.Models.{held_of}
use Rattle.sampler_run.specs.Views.{machine_of}
use Rattle.sampler_run.proofs.Settle.{answered_as}
use Rattle.sampler_run.proofs.Standing.{stands, kept_back, kept_begun}
use Rattle.sampler_run.proofs.runs.Run.restart.Goals as goal

pub settle-self-inside-requires-clause-answered : goal.settle-self-inside-requires-clause-answered
settle-self-inside-requires-clause-answered c =
    kept_begun (held_of c.self.inside) _ _ _ c.self.invariant.kept (machine_of c.begin.new.self) c.begin.ensures.start

pub invariant_of-self : goal.invariant_of-self
invariant_of-self c =
    let a = c.settle-self-inside.ensures in
    let k = c.self.invariant.kept in
    let begun = kept_begun (held_of c.self.inside) _ _ _ k (machine_of c.begin.new.self) c.begin.ensures.start in
    record {
      kept = record {
        sound = k.sound;
        turns = a.shape.turns ∙ c.begin.ensures.shape.turns ∙ k.turns;
        vars = a.shape.vars ∙ c.begin.ensures.shape.vars ∙ k.vars;
        answered = answered_as c.self.inside.code.now.instrs c.self.inside.limits (machine_of c.begin.new.self) (machine_of c.settle-self-inside.new.m) begun a.same;
        from_start = k.from_start;
        rests = a.rests;
      };
      room = subst (λ n. greatest_depth c.self.inside.code.now.instrs ≤ n) (sym (a.shape.stack ∙ c.begin.ensures.shape.stack)) c.self.invariant.room;
    }

pub returns-clause-rest : goal.returns-clause-rest
returns-clause-rest c =
    let k = c.self.invariant.kept in
    let code = c.self.inside.code.now.instrs in
    let l = c.self.inside.limits in
    let n = machine_of c.settle-self-inside.new.m in
    let new : Held = record { code = code; limits = l; machine = n } in
    subst (λ s. StandsAfter [] (set_back s) new) c.self.view_is
    (stands code l (start (length c.self.inside.m.vars.items) (length c.self.inside.m.turns.items) l) n [] (kept_back (held_of c.self.inside) _ _ _ k) (invariant_of-self c).kept.answered
    (λ v. c.settle-self-inside.ensures.same v ∙ ap (λ m. rest_of code l m v) c.begin.ensures.start))

pub settle-self-inside-requires-clause-room : goal.settle-self-inside-requires-clause-room
settle-self-inside-requires-clause-room c = subst (λ n. greatest_depth c.self.inside.code.now.instrs ≤ n) (sym c.begin.ensures.shape.stack) c.self.invariant.room
