use Rattle.std.proofs.Common.{◌∷◌, [], ◌∙◌, ap, subst}
use Rattle.gcl_core.specs.meaning.Outcomes.{zeros}
use Rattle.gcl_core.specs.meaning.Views.{source_of}
use Rattle.exact_fold.specs.inner.Settled.{ProgramSettlesTo}
use Rattle.exact_fold.proofs.Programs.{program_settles}
use Rattle.wide_fold.proofs.program.settled.Goals as goal

pub returns : goal.returns
returns c =
    let same = c.program-program.ensures.same in
    let one = c.in_ok-table.ensures.one ∙ ap (λ n. (zeros n, (1, 1)) ∷ []) c.count.ensures in
    subst (λ q. ProgramSettlesTo (source_of q) c.in_ok-table-2.table.states.entries c.settle_block.new.ended) same
    (program_settles (source_of c.program-program.result.now) _ c.in_ok-ended.ended one c.in_ok-ended.ensures _ _ c.in_ok-table-2.ensures.ok)
