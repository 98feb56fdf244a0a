use Rattle.std.proofs.Common.{◌∙◌, ap, sym, subst}
use Rattle.gcl_core.specs.declared.rules.TheConstants.{MOST_NAMES}
use Rattle.gcl_core.specs.declared.syntax.Program.{Program}
use Rattle.gcl_core.specs.meaning.Bounds.{ExpressionBelow, BlockBelow}
use Rattle.gcl_core.specs.meaning.Views.{expression_of, statements_of, source_of}
use Rattle.forgetting.specs.Forgetful.{forgetful_of}
use Rattle.forgetting.proofs.Making.{result_below, body_below, program_is}
use Rattle.forgetting.proofs.program.forgotten.Goals as goal

pub with_read-after-requires : goal.with_read-after-requires
with_read-after-requires c =
    subst (λ (q : Program). ExpressionBelow (expression_of q.result) MOST_NAMES) (sym c.program-program.ensures.same) (result_below (source_of c.args.p.now) c.is_kept.ensures.kept)

pub forgetful_branch-requires-clause-below : goal.forgetful_branch-requires-clause-below
forgetful_branch-requires-clause-below c =
    subst (λ (q : Program). BlockBelow MOST_NAMES (statements_of q.body)) (sym c.program-program.ensures.same) (body_below (source_of c.args.p.now) c.is_kept.ensures.kept)

pub returns : goal.returns
returns c =
    program_is (source_of c.program-program.result.now) c.in_ok-names.names (statements_of c.in_ok-body.body) (expression_of c.in_ok-result.result)
    c.count-count.result c.none-none.result.marks c.none-none.result.marks c.none.result.marks c.with_read-after.result.marks
    c.in_ok-names.ensures c.count-count.ensures c.none-none.ensures c.none-none.ensures c.none.ensures c.with_read-after.ensures c.in_ok-body.ensures c.in_ok-result.ensures.same
    ∙ ap (λ (q : Program). forgetful_of (source_of q)) c.program-program.ensures.same
