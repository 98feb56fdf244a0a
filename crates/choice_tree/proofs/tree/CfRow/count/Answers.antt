use Rattle.std.proofs.Common.{arith}
use Rattle.choice_tree.proofs.Places.{as_many}
use Rattle.choice_tree.proofs.tree.CfRow.count.Goals as goal

pub returns : goal.returns
returns c = omega (arith, c.len.ensures, c.args.self.now.members.ok.0, as_many c.args.self.now.members.items)
