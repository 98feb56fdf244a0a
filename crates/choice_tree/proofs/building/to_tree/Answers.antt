use Rattle.std.proofs.Common.{◌≡◌, ap, ◌∙◌, sym, subst}
use Rattle.gcl_core.specs.meaning.Views.{statements_of}
use Rattle.choice_tree.specs.Meaning.{choice_tree_on}
use Rattle.choice_tree.specs.Tree.{Row}
use Rattle.choice_tree.specs.TreeOf.{members_of, tree_of}
use Rattle.choice_tree.specs.Views.{choice_trees_of}
use Rattle.choice_tree.specs.WellFormed.{IsWellFormed}
use Rattle.choice_tree.proofs.Meanings.{tree_means}
use Rattle.choice_tree.proofs.ViewLemmas.{row_view}
use Rattle.choice_tree.proofs.WellFormedTrees.{members_well_formed}
use Rattle.choice_tree.proofs.building.to_tree.Goals as goal

pub returns-clause-tree : goal.returns-clause-tree
returns-clause-tree c =
    let members : choice_trees_of c.in_ok-row.field-0 ≡ members_of (statements_of c.program.result.now.body) = c.in_ok-row.ensures in
    row_view _ ∙ ap Row members ∙ ap (λ p. tree_of (statements_of p.body)) c.program.ensures.same

pub returns-clause-meaning : goal.returns-clause-meaning
returns-clause-meaning c = λ n r s w. ap (λ t. choice_tree_on n r t s w) (returns-clause-tree c) ∙ tree_means n r (statements_of c.args.p.now.body) s w

pub returns-clause-well_formed : goal.returns-clause-well_formed
returns-clause-well_formed c = subst IsWellFormed (sym (returns-clause-tree c)) (members_well_formed (statements_of c.args.p.now.body) c.program.ensures.weights)
