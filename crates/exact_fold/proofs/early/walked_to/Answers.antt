use Rattle.std.proofs.Common.{sym, ap, ◌∙◌, subst}
use Rattle.gcl_core.specs.meaning.Bounds.{StatementBelow}
use Rattle.gcl_core.specs.meaning.Views.{statement_of}
use Rattle.gcl_core.proofs.ViewLemmas.{uniform_view}
use Rattle.mass_fold.proofs.Fitting.{below_as}
use Rattle.forgetting.proofs.Marking.{below_at}
use Rattle.exact_fold.proofs.early.walked_to.Goals as goal

pub drawn-requires : goal.drawn-requires
drawn-requires c =
    let variables = c.args.table.now.vars in
    let form = ap statement_of c.in-Uniform.is ∙ uniform_view c.in-Uniform.field-0 c.in-Uniform.e in
    let there = subst (λ s. StatementBelow variables (statement_of s)) (sym c.index.ensures) (below_at variables c.args.block.now.stmts.items c.args.from c.index.result.now c.requires.inside c.requires.below) in
    (below_as variables _ _ form there).1
