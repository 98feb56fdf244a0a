use Rattle.std.proofs.Math.Path.{fun_ext}
use Rattle.forgetting.proofs.ends.names_behind.Goals as goal

pub returns : goal.returns
returns c = fun_ext c.behind_statement.ensures
