use Rattle.std.proofs.Common.{◌∙◌, ap}
use Rattle.gcl_core.specs.declared.syntax.Arms.{out-roll-Arms}
use Rattle.gcl_core.specs.meaning.Syntax.{Choose, arm, no_arm}
use Rattle.gcl_core.specs.meaning.Views.{statements_of, arm_list_of}
use Rattle.gcl_core.proofs.ViewLemmas.{choose_view}
use Rattle.text_tests.proofs.weights.choose.Goals as goal

pub returns : goal.returns
returns c =
    choose_view _
    ∙ ap (λ r. Choose (arm_list_of r.arms.items)) (out-roll-Arms _)
    ∙ ap (λ l. Choose (arm_list_of l)) c.in_ok-arms.ensures.items
    ∙ ap (λ b. Choose (arm c.args.parts.0 (statements_of c.args.first) (arm c.args.parts.1 (statements_of c.args.second) (arm c.args.parts.2 b no_arm)))) c.none-last.ensures
