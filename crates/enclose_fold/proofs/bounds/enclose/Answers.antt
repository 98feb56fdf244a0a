use Rattle.std.proofs.Common.{◌∙◌, ap, subst, sym}
use Rattle.std.specs.Prelude.{Result, Ok, Err, IfOk, IfErr, IfNone}
use Rattle.gcl_core.specs.meaning.Syntax.{SourceProgram}
use Rattle.gcl_core.specs.meaning.Views.{source_of}
use Rattle.gcl_core.specs.weighing.Fractions.{Fraction, IsBelowOne}
use Rattle.gcl_core.specs.weighing.Mass.{failed_mass}
use Rattle.units_law.specs.FewOthers.{HaveLittle}
use Rattle.units_law.specs.Holding.{Enclose, MayEnd}
use Rattle.enclose_fold.specs.inner.AsWritten.{RefusedAsWritten}
use Rattle.enclose_fold.proofs.SameBounds.{ends_hold, bounds_hold, refused_holds}
use Rattle.enclose_fold.proofs.bounds.enclose.Goals as goal

if_ok : {A E : Type 0} (r : Result A E) {P Q : A → Type 0} → ((b : A) → P b → Q b) → IfOk r P → IfOk r Q
if_ok (Ok b) f h = f b h
if_ok (Err e) f h = h

if_err : {A E : Type 0} (r : Result A E) {P Q : E → Type 0} → ((e : E) → P e → Q e) → IfErr r P → IfErr r Q
if_err (Ok b) f h = h
if_err (Err e) f h = f e h

pub returns-clause-ordered : goal.returns-clause-ordered
returns-clause-ordered c = if_ok c.enclose_as_written.result (λ b a. a.ordered) c.enclose_as_written.ensures.ok

pub returns-clause-passes : goal.returns-clause-passes
returns-clause-passes c =
    let same = ap (λ (p : SourceProgram). failed_mass p c.args.turns c.args.attempts) c.in_ok-q.ensures ∙ (c.forgetting_changes_no_meaning.ensures (source_of c.args.p.now)).failed c.args.turns c.args.attempts in
    if_ok c.enclose_as_written.result (λ b a. subst (λ (f : Fraction). IfNone c.args.rounds (IsBelowOne f)) same a.passes) c.enclose_as_written.ensures.ok

pub returns-clause-enclose : goal.returns-clause-enclose
returns-clause-enclose c =
    let p = source_of c.args.p.now in
    let same = c.forgetting_changes_no_meaning.ensures p in
    if_ok c.enclose_as_written.result
    (λ b a n is may.
    bounds_hold p same n c.args.attempts c.args.rounds b.rows b.other
    (subst (λ (q : SourceProgram). Enclose q n c.args.attempts c.args.rounds b.rows b.other) c.in_ok-q.ensures
    (a.enclose n is (subst (λ (q : SourceProgram). MayEnd q n c.args.attempts c.args.rounds) (sym c.in_ok-q.ensures) (ends_hold p same n c.args.attempts c.args.rounds may)))))
    c.enclose_as_written.ensures.ok

pub returns-clause-close : goal.returns-clause-close
returns-clause-close c = if_ok c.enclose_as_written.result (λ b a. a.close) c.enclose_as_written.ensures.ok

pub returns-clause-few : goal.returns-clause-few
returns-clause-few c =
    if_ok c.enclose_as_written.result
    (λ b a. subst (λ (p : SourceProgram). HaveLittle p c.args.turns c.args.attempts c.args.rounds c.args.all_turns b.other) c.in_ok-q.ensures a.few)
    c.enclose_as_written.ensures.ok

pub returns-clause-refused : goal.returns-clause-refused
returns-clause-refused c =
    let p = source_of c.args.p.now in
    if_err c.enclose_as_written.result
    (λ e h. refused_holds p (c.forgetting_changes_no_meaning.ensures p) e c.args.turns c.args.attempts c.args.rounds
    (subst (λ (q : SourceProgram). RefusedAsWritten e q c.args.turns c.args.attempts c.args.rounds) c.in_ok-q.ensures h))
    c.enclose_as_written.ensures.refused
