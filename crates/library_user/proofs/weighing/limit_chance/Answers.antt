use Rattle.gcl_core.specs.meaning.Views.{source_of}
use Rattle.forgetting.specs.Forgetful.{forgetful_of}
use Rattle.library_user.proofs.Chances.{limit_found, same_chance}
use Rattle.library_user.proofs.weighing.limit_chance.Goals as goal

pub returns-clause-limit : goal.returns-clause-limit
returns-clause-limit c =
    let p = source_of c.args.p.now in
    let q = forgetful_of p in
    let masses = c.in_ok-masses.masses in
    same_chance p q (c.forgetting_changes_no_meaning.ensures p) c.args.x c.find.result
    (limit_found q c.args.x masses.rows masses.endless _ c.find.result c.requires.settled
    (c.exact_masses_are_limits.ensures q masses.rows masses.endless (c.forgetting_keeps_programs_checked.ensures p c.is_kept.ensures.kept) c.in_ok-masses.ensures.masses)
    c.find.ensures.found c.find.ensures.none)
