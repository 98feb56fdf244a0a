use Rattle.std.proofs.Common.{◌∙◌, ap}
use Rattle.std.proofs.Math.Path.{fun_ext}
use Rattle.forgetting.specs.Liveness.{both}
use Rattle.forgetting.specs.Marks.{marked}
use Rattle.forgetting.proofs.ends.names_ended.Goals as goal

pub returns : goal.returns
returns c = c.and.ensures ∙ ap (λ names. both names (marked c.args.filled.marks)) (fun_ext c.names_used.ensures)
