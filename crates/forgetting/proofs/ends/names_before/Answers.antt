use Rattle.std.proofs.Math.Path.{fun_ext}
use Rattle.forgetting.proofs.ends.names_before.Goals as goal

pub returns : goal.returns
returns c = fun_ext c.before_statement.ensures
