use Rattle.std.proofs.Common.{◌∙◌, ap}
use Rattle.gcl_core.specs.meaning.Syntax.{Bin}
use Rattle.gcl_core.specs.meaning.Views.{expression_of}
use Rattle.formula.proofs.chaining.chain_of.Goals as goal

pub chain_by-requires : goal.chain_by-requires
chain_by-requires c =
    let a = expression_of c.in-Bin.field-1.value in
    let b = expression_of c.in-Bin.field-2.value in
    (a, b, ap expression_of c.in-Bin.is ∙ ap (λ op. Bin op a b) c.in-And.is)

pub chain_by-requires-in-Or : goal.chain_by-requires-in-Or
chain_by-requires-in-Or c =
    let a = expression_of c.in-Bin.field-1.value in
    let b = expression_of c.in-Bin.field-2.value in
    (a, b, ap expression_of c.in-Bin.is ∙ ap (λ op. Bin op a b) c.in-Or.is)
