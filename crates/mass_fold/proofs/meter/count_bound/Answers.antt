use Rattle.std.proofs.Common.{rules, ◌∙◌, Ok, w64, sym, ap, arith}
use Rattle.std.proofs.lemmas.Int.{ints}
use mir.Val.{SFits}
use Rattle.gcl_core.specs.meaning.Views.{expression_of}
use Rattle.gcl_core.specs.meaning.Value.{value_of}
use Rattle.mass_fold.proofs.Bounds.{is_bound}
use Rattle.mass_fold.proofs.Prices.{bound_wide, bound_adds}
use Rattle.mass_fold.proofs.meter.count_bound.Goals as goal

pub returns-in-None : goal.returns-in-None
returns-in-None c =
    let v = value_of (expression_of c.args.e.now) in
    let f : SFits w64 c.in-Ok.v = search rules in
    let b = is_bound c.in-Ok.v f (omega (arith, ints)) in
    bound_wide v c.args.attempts.most c.args.s.now b.less _ c.uniform_bits.result (ap v (sym c.values.ensures) ∙ sym c.in-Ok.ensures ∙ ap Ok b.is) b.cast c.uniform_bits.ensures.value c.args.f.now c.in-Bits.field-0 c.args.meter c.in-Bits.is c.in-None.ensures.cause

pub returns-in-Some : goal.returns-in-Some
returns-in-Some c =
    let v = value_of (expression_of c.args.e.now) in
    let f : SFits w64 c.in-Ok.v = search rules in
    let b = is_bound c.in-Ok.v f (omega (arith, ints)) in
    bound_adds v c.args.attempts.most c.args.s.now b.less _ c.uniform_bits.result (ap v (sym c.values.ensures) ∙ sym c.in-Ok.ensures ∙ ap Ok b.is) b.cast c.uniform_bits.ensures.value c.in-Some.bits c.args.f.now c.args.meter c.add.result c.in-Some.ensures.value c.add.ensures
