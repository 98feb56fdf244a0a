use Rattle.std.proofs.Common.{subst}
use Rattle.gcl_core.specs.meaning.Views.{source_of}
use Rattle.mass_fold.specs.inner.Outcomes.{ResultsGive}
use Rattle.exact_fold.proofs.Rows.{round_of}
use Rattle.exact_fold.proofs.program.limit_round.Goals as goal

pub returns : goal.returns
returns c =
    let program = source_of c.args.checked.now in
    let settled = c.in_ok-table.ensures.ok in
    let fs = c.in_ok-table.table.states.entries in
    let results : ResultsGive program.result fs c.new-rows.result.entries c.add_results.new.rows.entries
    = subst (λ q. ResultsGive (source_of q).result fs c.new-rows.result.entries c.add_results.new.rows.entries) c.program-program.ensures.same c.in_ok-add_results.ensures.ok in
    round_of program settled.outflow fs c.in_ok-table.ended settled.next settled.ends settled.above _ _ _ settled.settles settled.unlimited c.new-rows.ensures.empty results c.in_ok-add_ended.ensures.ok
