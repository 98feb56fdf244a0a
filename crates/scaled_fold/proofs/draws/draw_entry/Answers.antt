use Rattle.std.proofs.Common.{rules, ◌∙◌, w64, sym, ap, arith}
use Rattle.std.proofs.lemmas.Int.{ints}
use mir.Val.{SFits}
use Rattle.gcl_core.specs.meaning.Views.{expression_of}
use Rattle.gcl_core.specs.meaning.Value.{value_of}
use Rattle.mass_fold.proofs.Bounds.{is_bound}
use Rattle.scaled_fold.proofs.Drawing.{draw_stopped}
use Rattle.scaled_fold.proofs.draws.draw_entry.Goals as goal

pub returns-in_ok-with_attempts-in-Ok-clause-stopped : goal.returns-in_ok-with_attempts-in-Ok-clause-stopped
returns-in_ok-with_attempts-in-Ok-clause-stopped c =
    let a = c.args in
    let v = value_of (expression_of a.e.now) in
    let f : SFits w64 c.in-Ok.v = search rules in
    let b = is_bound c.in-Ok.v f (omega (arith, ints)) in
    let odds = c.of-odds.result in
    draw_stopped a.x a.attempts a.s.now a.w (v a.s.now) c.in-Ok.v (ap v (sym c.values.ensures) ∙ sym c.in-Ok.ensures) b a.before c.in_ok-with_attempts-in-Ok.field-0 odds.bound odds.attempts c.rest.result
    c.of-odds.ensures.bound c.of-odds.ensures.attempts c.rest.ensures c.in_ok-with_attempts-in-Ok.ensures
