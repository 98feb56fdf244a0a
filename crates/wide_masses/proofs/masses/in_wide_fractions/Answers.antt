use Rattle.std.proofs.Common.{subst}
use Rattle.gcl_core.specs.meaning.Syntax.{SourceProgram}
use Rattle.gcl_core.specs.meaning.Views.{source_of}
use Rattle.exact_fold.specs.InTheLimit.{IsExactInTheLimit, FailsInTheLimit}
use Rattle.exact_fold.proofs.SameLimits.{limits_hold, fails_hold}
use Rattle.wide_masses.proofs.masses.in_wide_fractions.Goals as goal

pub returns-in-Ok-clause-limits : goal.returns-in-Ok-clause-limits
returns-in-Ok-clause-limits c =
    let p = source_of c.args.program.now in
    let masses = c.in-Ok.masses in
    limits_hold p (c.forgetting_changes_no_meaning.ensures p) masses.rows masses.endless
    (subst (λ (q : SourceProgram). IsExactInTheLimit q masses.rows masses.endless) c.in_ok-forgetful_program.ensures c.in-Ok.ensures.limits)

pub returns-in-Err-AllFailed-clause-refused : goal.returns-in-Err-AllFailed-clause-refused
returns-in-Err-AllFailed-clause-refused c =
    let p = source_of c.args.program.now in
    fails_hold p (c.forgetting_changes_no_meaning.ensures p)
    (subst (λ (q : SourceProgram). FailsInTheLimit q) c.in_ok-forgetful_program.ensures (c.in-Err-AllFailed.ensures.fails c.in-Err-AllFailed.field-0-is))
