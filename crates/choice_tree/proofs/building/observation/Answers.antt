use Rattle.std.proofs.Common.{◌≡◌, ap, ◌∙◌}
use Rattle.gcl_core.specs.meaning.Views.{expression_of}
use Rattle.choice_tree.specs.Tree.{Fail, Row, no_tree}
use Rattle.choice_tree.specs.Views.{choice_tree_of, list_of}
use Rattle.choice_tree.proofs.ViewLemmas.{row_view, test_view, fail_view}
use Rattle.choice_tree.proofs.building.observation.Goals as goal

pub returns : goal.returns
returns c =
    let condition : expression_of c.in_ok-copy.field-0 ≡ expression_of c.args.e.now = c.in_ok-copy.ensures.same in
    let passes : choice_tree_of c.in_ok-passes.passes.value ≡ Row no_tree = ap choice_tree_of c.in_ok-passes.ensures.ok ∙ row_view _ ∙ ap (λ ts. Row (list_of ts)) c.new-members.ensures.items in
    let Fail : choice_tree_of c.in_ok-fails.fails.value ≡ Fail = ap choice_tree_of c.in_ok-fails.ensures.ok ∙ fail_view in
    test_view _ _ _ ∙ cc
