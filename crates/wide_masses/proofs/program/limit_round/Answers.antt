use Rattle.std.proofs.Common.{sym, ap, subst}
use Rattle.gcl_core.specs.meaning.Views.{source_of}
use Rattle.mass_fold.specs.inner.Outcomes.{ResultsGive}
use Rattle.exact_fold.specs.inner.Rounds.{RoundOf}
use Rattle.exact_fold.proofs.Rows.{round_of}
use Rattle.wide_masses.proofs.program.limit_round.Goals as goal

pub returns : goal.returns
returns c =
    let p = source_of c.args.checked.now in
    let o = c.in_ok-table.ensures in
    let fs = c.in_ok-table.table.states.entries in
    let results : ResultsGive p.result fs c.new-rows.result.entries c.add_results.new.rows.entries
    = subst (λ q. ResultsGive (source_of q).result fs c.new-rows.result.entries c.add_results.new.rows.entries) c.program-program.ensures.same c.in_ok-add_results.ensures in
    subst (RoundOf p c.add_ended.new.rows.entries) (sym (ap (λ e. e.failed) c.ended.view_is))
    (round_of p o.outflow fs c.in_ok-table.ended o.next o.ends o.above _ _ _ o.settles o.unlimited c.new-rows.ensures.empty results c.in_ok-add_ended.ensures)
