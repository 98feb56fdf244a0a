use Rattle.std.proofs.Common.{sym, ap, ◌∙◌, subst, arith}
use Rattle.gcl_core.specs.meaning.Bounds.{StatementBelow}
use Rattle.gcl_core.specs.meaning.Views.{statement_of}
use Rattle.gcl_core.proofs.ViewLemmas.{uniform_view}
use Rattle.mass_fold.proofs.Fitting.{below_as}
use Rattle.forgetting.proofs.Marking.{below_at}
use Rattle.enclose_fold.proofs.Between.{draws_once}
use Rattle.enclose_fold.proofs.early.walked_to.Goals as goal

pub drawn-requires : goal.drawn-requires
drawn-requires c =
    let m = c.args.table.now.vars in
    let q = ap statement_of c.in-Uniform.is ∙ uniform_view c.in-Uniform.x c.in-Uniform.e in
    let there = subst (λ s. StatementBelow m (statement_of s)) (sym c.index.ensures) (below_at m c.args.block.now.stmts.items c.args.from c.index.result.now c.requires.inside c.requires.below) in
    (below_as m _ _ q there).1

pub returns-else-drawn-le-FEW_STATES-clause-once : goal.returns-else-drawn-le-FEW_STATES-clause-once
returns-else-drawn-le-FEW_STATES-clause-once c more =
    let q = ap statement_of c.in-Uniform.is ∙ uniform_view c.in-Uniform.x c.in-Uniform.e in
    draws_once c.args.from c.set_anew.result c.args.block.now.stmts.items c.index.result.now c.in-Uniform.x _ c.requires.inside (omega (arith, more)) c.index.ensures q c.set_anew.ensures.exact
