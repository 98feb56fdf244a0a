use Rattle.std.proofs.Common.{◌≡◌, ◌-◌, ◌<◌, Err, Some, None, IfOk, IfNone, sym, subst, arith}
use Rattle.gcl_core.specs.weighing.Mass.{failed_mass, mass_of, mass_of_those}
use Rattle.gcl_core.specs.meaning.Views.{source_of}
use Rattle.table_flow.specs.Scale.{whole}
use Rattle.table_flow.specs.Width.{round_width, width_of}
use Rattle.mass_fold.specs.Amounts.{WholeWithin}
use Rattle.mass_fold.specs.Refused.{MassRefused}
use Rattle.mass_fold.specs.Rounds.{scale_of}
use Rattle.mass_fold.specs.Rows.{AreMasses}
use Rattle.mass_fold.proofs.AllRounds.{round_refused, rounds_refused, rest_refused, rounds_hold, rest_holds, at_most_one, some_pass, some_limit, if_passes, rest_parts, if_parts, no_parts}
use Rattle.mass_fold.proofs.OutcomeRows.{if_rows}
use Rattle.mass_fold.proofs.RoundMasses.{wider}
use Rattle.mass_fold.proofs.masses.mass.Goals as goal

pub returns-in_err-table-clause-refused : goal.returns-in_err-table-clause-refused
returns-in_err-table-clause-refused c =
    let out : c.from_residual.result ≡ Err c.in_err-table.field-0.0 = grind arith in
    rw out (round_refused (source_of c.args.p.now) c.args.turns c.args.attempts c.args.rounds _ (wider (source_of c.args.p.now) c.args.turns c.args.attempts c.is_kept.ensures.weights c.args.rounds) c.in_err-table.ensures.cause)

pub returns-in_err-in_rounds-in-Some-clause-refused : goal.returns-in_err-in_rounds-in-Some-clause-refused
returns-in_err-in_rounds-in-Some-clause-refused c =
    let p = source_of c.args.p.now in
    let k = c.in-Some.count in
    let out : c.from_residual-in_err-in_rounds-in-Some.result ≡ Err c.in_err-in_rounds-in-Some.field-0.0 = grind arith in
    let some : c.args.rounds ≡ Some k = grind arith in
    rw out (subst (λ R. MassRefused c.in_err-in_rounds-in-Some.field-0.0 p c.args.turns c.args.attempts R) (sym some)
    (rounds_refused p c.args.turns c.args.attempts _ _ c.in_ok-table.ensures.ok c.is_lowest.ensures k (some_limit c.args.rounds k some c.requires.rounds) _ c.in_err-in_rounds-in-Some.ensures.cause))

pub returns-in_ok-in_rounds-in-Some-clause-rows : goal.returns-in_ok-in_rounds-in-Some-clause-rows
returns-in_ok-in_rounds-in-Some-clause-rows c =
    let p = source_of c.args.p.now in
    let k = c.in-Some.count in
    let some : c.args.rounds ≡ Some k = grind arith in
    subst (λ R. IfOk c.of.result (AreMasses (mass_of p c.args.turns c.args.attempts R))) (sym some)
    (if_rows (scale_of (round_width p c.args.turns c.args.attempts) c.in_ok-table.failed k) (mass_of_those p c.args.turns c.args.attempts (Some k)) c.in_ok-in_rounds-in-Some.field-0.entries c.of.result
    (rounds_hold p c.args.turns c.args.attempts _ _ c.in_ok-table.ensures.ok k (some_limit c.args.rounds k some c.requires.rounds) _ c.in_ok-in_rounds-in-Some.ensures.ok)
    c.of.ensures.same c.of.ensures.ascending c.of.ensures.lowest)

pub returns-in_err-over_rest-in-None-clause-refused : goal.returns-in_err-over_rest-in-None-clause-refused
returns-in_err-over_rest-in-None-clause-refused c =
    let p = source_of c.args.p.now in
    let out : c.from_residual-in_err-over_rest-in-None.result ≡ Err c.in_err-over_rest-in-None.field-0.0 = grind arith in
    let none : c.args.rounds ≡ None = grind arith in
    rw out (subst (λ R. MassRefused c.in_err-over_rest-in-None.field-0.0 p c.args.turns c.args.attempts R) (sym none)
    (rest_refused p c.args.turns c.args.attempts _ _ c.in_ok-table.ensures.ok _ c.in_err-over_rest-in-None.ensures.cause))

pub returns-in_ok-over_rest-in-None-clause-rows : goal.returns-in_ok-over_rest-in-None-clause-rows
returns-in_ok-over_rest-in-None-clause-rows c =
    let p = source_of c.args.p.now in
    let f = c.in_ok-table.failed in
    let none : c.args.rounds ≡ None = grind arith in
    let m = at_most_one p c.args.turns c.args.attempts _ _ c.in_ok-table.ensures.ok in
    let below : f.0 < f.1 = omega (arith, m, c.if-num-den.false, c.num.ensures.value, c.den.ensures.value) in
    subst (λ R. IfOk c.of-in-None.result (AreMasses (mass_of p c.args.turns c.args.attempts R))) (sym none)
    (if_rows (round_width p c.args.turns c.args.attempts - whole (round_width p c.args.turns c.args.attempts) f) (mass_of_those p c.args.turns c.args.attempts None) c.in_ok-over_rest-in-None.field-0.entries c.of-in-None.result
    (rest_holds p c.args.turns c.args.attempts _ _ c.in_ok-table.ensures.ok below _ c.in_ok-over_rest-in-None.ensures.ok)
    c.of-in-None.ensures.same c.of-in-None.ensures.ascending c.of-in-None.ensures.lowest)

pub returns-in_ok-over_rest-in-None-clause-passes : goal.returns-in_ok-over_rest-in-None-clause-passes
returns-in_ok-over_rest-in-None-clause-passes c =
    let p = source_of c.args.p.now in
    let f = c.in_ok-table.failed in
    let m = at_most_one p c.args.turns c.args.attempts _ _ c.in_ok-table.ensures.ok in
    let below : f.0 < f.1 = omega (arith, m, c.if-num-den.false, c.num.ensures.value, c.den.ensures.value) in
    if_passes c.of-in-None.result c.args.rounds (failed_mass p c.args.turns c.args.attempts) (some_pass p c.args.turns c.args.attempts _ _ c.in_ok-table.ensures.ok below)

pub returns-in_ok-in_rounds-in-Some-clause-parts : goal.returns-in_ok-in_rounds-in-Some-clause-parts
returns-in_ok-in_rounds-in-Some-clause-parts c =
    let some : c.args.rounds ≡ Some c.in-Some.count = grind arith in
    no_parts c.of.result c.args.rounds c.in-Some.count (WholeWithin (width_of (source_of c.args.p.now) c.args.turns c.args.attempts c.args.rounds)) some

pub returns-in_ok-over_rest-in-None-clause-parts : goal.returns-in_ok-over_rest-in-None-clause-parts
returns-in_ok-over_rest-in-None-clause-parts c =
    let p = source_of c.args.p.now in
    let f = c.in_ok-table.failed in
    let none : c.args.rounds ≡ None = grind arith in
    let m = at_most_one p c.args.turns c.args.attempts _ _ c.in_ok-table.ensures.ok in
    let below : f.0 < f.1 = omega (arith, m, c.if-num-den.false, c.num.ensures.value, c.den.ensures.value) in
    subst (λ R. IfOk c.of-in-None.result (λ rows. IfNone R (WholeWithin (width_of p c.args.turns c.args.attempts R) rows))) (sym none)
    (if_parts c.in_ok-over_rest-in-None.field-0.entries c.of-in-None.result None (round_width p c.args.turns c.args.attempts)
    (rest_parts p c.args.turns c.args.attempts _ _ c.in_ok-table.ensures.ok below _ c.in_ok-over_rest-in-None.ensures.ok) c.of-in-None.ensures.same)
