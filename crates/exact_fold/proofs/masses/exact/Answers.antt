use Rattle.std.proofs.Common.{subst}
use Rattle.std.specs.Prelude.{Result, Ok, Err, IfOk, IfErr}
use Rattle.gcl_core.specs.meaning.Syntax.{SourceProgram}
use Rattle.gcl_core.specs.meaning.Views.{source_of}
use Rattle.exact_fold.specs.Exact.{IsExact}
use Rattle.exact_fold.specs.InTheLimit.{IsExactInTheLimit}
use Rattle.exact_fold.specs.inner.AsWritten.{RefusedAsWritten}
use Rattle.exact_fold.proofs.SameLimits.{limits_hold, refused_holds}
use Rattle.exact_fold.proofs.masses.exact.Goals as goal

if_ok : {A E : Type 0} (r : Result A E) {P Q : A → Type 0} → ((b : A) → P b → Q b) → IfOk r P → IfOk r Q
if_ok (Ok b) f h = f b h
if_ok (Err e) f h = h

if_err : {A E : Type 0} (r : Result A E) {P Q : E → Type 0} → ((e : E) → P e → Q e) → IfErr r P → IfErr r Q
if_err (Ok b) f h = h
if_err (Err e) f h = f e h

pub returns-clause-masses : goal.returns-clause-masses
returns-clause-masses c = subst (λ (p : SourceProgram). IfOk c.exact_as_written.result (λ e. IsExact p e.rows e.endless)) c.in_ok-forgetful_program.ensures c.exact_as_written.ensures.masses

pub returns-clause-limits : goal.returns-clause-limits
returns-clause-limits c =
    let program = source_of c.args.program.now in
    if_ok c.exact_as_written.result
    (λ e h. limits_hold program (c.forgetting_changes_no_meaning.ensures program) e.rows e.endless (subst (λ (q : SourceProgram). IsExactInTheLimit q e.rows e.endless) c.in_ok-forgetful_program.ensures h))
    c.exact_as_written.ensures.limits

pub returns-clause-refused : goal.returns-clause-refused
returns-clause-refused c =
    let program = source_of c.args.program.now in
    if_err c.exact_as_written.result
    (λ e h. refused_holds program (c.forgetting_changes_no_meaning.ensures program) e (subst (λ (q : SourceProgram). RefusedAsWritten q e) c.in_ok-forgetful_program.ensures h))
    c.exact_as_written.ensures.refused
