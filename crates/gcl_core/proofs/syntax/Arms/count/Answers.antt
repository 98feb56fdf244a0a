use Rattle.std.proofs.Common.{arith}
use Rattle.gcl_core.specs.declared.syntax.Arms.{out-Arms}
use Rattle.gcl_core.proofs.ArmLists.{as_many_arms}
use Rattle.gcl_core.proofs.syntax.Arms.count.Goals as goal

pub returns : goal.returns
returns c = omega (arith, c.len.ensures, (out-Arms c.args.self.now).arms.ok.0, as_many_arms (out-Arms c.args.self.now).arms.items)
