use Rattle.std.proofs.Common.{sym, ap, ◌∙◌, subst, ◌≤◌}
use Rattle.sampler_code.specs.Depths.{greatest_depth}
use Rattle.sampler_run.specs.Held.{set_back}
use Rattle.sampler_run.specs.Models.{held_of}
use Rattle.sampler_run.specs.Views.{machine_of}
use Rattle.sampler_run.proofs.Standing.{same_turns, put_there, kept_there}
use Rattle.sampler_run.proofs.runs.Run.fork_from.Goals as goal

pub copy_from-requires-clause-turns : goal.copy_from-requires-clause-turns
copy_from-requires-clause-turns c =
    same_turns (held_of c.self.inside) (held_of c.other.inside) (ap set_back c.self.view_is ∙ c.requires ∙ sym (ap set_back c.other.view_is))

pub invariant_of-self : goal.invariant_of-self
invariant_of-self c =
    let one = ap set_back c.self.view_is ∙ c.requires ∙ sym (ap set_back c.other.view_is) in
    record {
      kept = kept_there (held_of c.self.inside) (held_of c.other.inside) one _ _ _ _ _ _ c.self.invariant.kept c.other.invariant.kept
          (machine_of c.copy_from.new.self) c.copy_from.ensures.same;
      room = subst (λ n. greatest_depth c.self.inside.code.now.instrs ≤ n) (sym c.copy_from.ensures.shape.stack) c.self.invariant.room;
    }

pub returns : goal.returns
returns c =
    let one = ap set_back c.self.view_is ∙ c.requires ∙ sym (ap set_back c.other.view_is) in
    put_there (held_of c.self.inside) (held_of c.other.inside) one (machine_of c.copy_from.new.self) c.copy_from.ensures.same ∙ c.other.view_is
