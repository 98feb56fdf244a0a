use Rattle.std.proofs.Common.{refl}
use Rattle.gcl_core.specs.meaning.Runs.{run_on}
use Rattle.gcl_core.specs.meaning.Views.{source_of}
use Rattle.weighing_law.specs.Weighing.{limited_mass}
use Rattle.library_user.proofs.Chances.{chance_found}
use Rattle.library_user.proofs.weighing.chance.Goals as goal

pub returns-in_err-rows-clause-weighs : goal.returns-in_err-rows-clause-weighs
returns-in_err-rows-clause-weighs c =
    let p = source_of c.args.p.now in
    c.runs_weigh_exactly.ensures p c.args.l.now (run_on p c.args.l.now) c.is_kept.ensures.kept (λ w. refl)

pub returns-clause-mass : goal.returns-clause-mass
returns-clause-mass c =
    let p = source_of c.args.p.now in
    chance_found (limited_mass p c.args.l.now) c.in_ok-rows.rows c.args.x c.find.result c.in_ok-rows.ensures.rows c.find.ensures.found c.find.ensures.none

pub returns-clause-weighs : goal.returns-clause-weighs
returns-clause-weighs c =
    let p = source_of c.args.p.now in
    c.runs_weigh_exactly.ensures p c.args.l.now (run_on p c.args.l.now) c.is_kept.ensures.kept (λ w. refl)
