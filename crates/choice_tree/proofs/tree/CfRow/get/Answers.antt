use Rattle.std.proofs.Common.{◌<◌, length, Some, arith, ap, sym, ◌∙◌}
use Rattle.choice_tree.specs.Views.{choice_tree_of}
use Rattle.choice_tree.proofs.Places.{as_many, at_place}
use Rattle.choice_tree.proofs.tree.CfRow.get.Goals as goal

pub index-requires : goal.index-requires
index-requires c = omega (arith, c.requires, c.args.self.now.members.ok.0, as_many c.args.self.now.members.items)

pub returns : goal.returns
returns c =
    let lt : c.args.i < length c.args.self.now.members.items = omega (arith, c.requires, as_many c.args.self.now.members.items) in
    at_place c.args.self.now.members.items c.args.i c.index.result.now lt ∙ ap (λ t. Some (choice_tree_of t)) (sym c.index.ensures)
