use Rattle.std.proofs.Common.{◌≡◌, Err, arith}
use Rattle.gcl_core.specs.weighing.Mass.{round_mass}
use Rattle.gcl_core.specs.meaning.Views.{source_of}
use Rattle.table_flow.specs.Width.{round_width}
use Rattle.mass_fold.specs.declared.error.MassError.TheVariants.{OutOfMemory}
use Rattle.mass_fold.proofs.AllRounds.{failed_is}
use Rattle.mass_fold.proofs.OutcomeRows.{rows_are}
use Rattle.mass_fold.proofs.masses.round.Goals as goal

pub returns-in_err-of-clause-refused : goal.returns-in_err-of-clause-refused
returns-in_err-of-clause-refused c =
    let out : c.from_residual-in_err-of.result ≡ Err OutOfMemory = grind (arith, c.in_err-of.ensures.cause) in
    rw out tt

pub returns-clause-rows : goal.returns-clause-rows
returns-clause-rows c =
    let p = source_of c.args.p.now in
    rows_are (round_width p c.args.turns c.args.attempts) (round_mass p c.args.turns c.args.attempts) c.in_ok-table.table.entries c.in_ok-of.field-0 c.in_ok-of.ensures.same c.in_ok-table.ensures.ok.holds c.in_ok-of.ensures.ascending c.in_ok-of.ensures.lowest

pub returns-clause-failed : goal.returns-clause-failed
returns-clause-failed c = failed_is (source_of c.args.p.now) c.args.turns c.args.attempts _ _ c.in_ok-table.ensures.ok c.is_lowest.ensures
