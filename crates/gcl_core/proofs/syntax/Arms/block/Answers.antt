use Rattle.std.proofs.Common.{◌<◌, length, Some, arith, ap, sym, ◌∙◌}
use Rattle.gcl_core.specs.declared.syntax.Arms.{out-Arms}
use Rattle.gcl_core.specs.meaning.Views.{statements_of}
use Rattle.gcl_core.proofs.ArmLists.{as_many_arms, block_there}
use Rattle.gcl_core.proofs.syntax.Arms.block.Goals as goal

pub index-requires : goal.index-requires
index-requires c = omega (arith, c.requires, (out-Arms c.args.self.now).arms.ok.0, as_many_arms (out-Arms c.args.self.now).arms.items)

pub returns : goal.returns
returns c =
    let lt : c.args.i < length (out-Arms c.args.self.now).arms.items = omega (arith, c.requires, as_many_arms (out-Arms c.args.self.now).arms.items) in
    block_there (out-Arms c.args.self.now).arms.items c.args.i c.index.result.now lt ∙ ap (λ a. Some (statements_of a.1)) (sym c.index.ensures)
