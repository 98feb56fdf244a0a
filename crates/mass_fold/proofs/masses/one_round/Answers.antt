use Rattle.std.proofs.Common.{◌≡◌, Err, subst, arith}
use Rattle.gcl_core.specs.meaning.Views.{source_of}
use Rattle.mass_fold.specs.inner.Outcomes.{ResultsGive}
use Rattle.mass_fold.proofs.RoundMasses.{results_refused, ended_refused, round_gives}
use Rattle.mass_fold.proofs.masses.one_round.Goals as goal

pub returns-in_err-add_results-clause-cause : goal.returns-in_err-add_results-clause-cause
returns-in_err-add_results-clause-cause c =
    let out : c.from_residual-in_err-add_results.result ≡ Err c.in_err-add_results.field-0.0 = grind arith in
    rw out (results_refused (source_of c.args.p.now) c.args.turns c.args.attempts.most c.program-program.ensures.weights _ _ c.in_ok-table.ensures.ok _ c.new-rows.ensures.empty _ c.in_err-add_results.ensures.cause)

pub returns-in_err-add_ended-clause-cause : goal.returns-in_err-add_ended-clause-cause
returns-in_err-add_ended-clause-cause c =
    let p = source_of c.args.p.now in
    let out : c.from_residual-in_err-add_ended.result ≡ Err c.in_err-add_ended.field-0.0 = grind arith in
    let results : ResultsGive p.result c.in_ok-table.table.states.entries c.new-rows.result.entries c.add_results.new.rows.entries
    = subst (λ q. ResultsGive (source_of q).result c.in_ok-table.table.states.entries c.new-rows.result.entries c.add_results.new.rows.entries) c.program-program.ensures.same c.in_ok-add_results.ensures.ok in
    rw out (ended_refused p c.args.turns c.args.attempts.most c.program-program.ensures.weights _ _ c.in_ok-table.ensures.ok _ c.new-rows.ensures.empty _ results _ c.in_err-add_ended.ensures.cause)

pub returns-clause-ok : goal.returns-clause-ok
returns-clause-ok c =
    let p = source_of c.args.p.now in
    let results : ResultsGive p.result c.in_ok-table.table.states.entries c.new-rows.result.entries c.add_results.new.rows.entries
    = subst (λ q. ResultsGive (source_of q).result c.in_ok-table.table.states.entries c.new-rows.result.entries c.add_results.new.rows.entries) c.program-program.ensures.same c.in_ok-add_results.ensures.ok in
    round_gives p c.args.turns c.args.attempts.most c.program-program.ensures.weights _ _ c.in_ok-table.ensures.ok _ c.new-rows.ensures.empty _ results _ c.in_ok-add_ended.ensures.ok
