use Rattle.std.proofs.Common.{◌≡◌, Some, Ok, Err, refl, subst, arith}
use Rattle.weighted_roll.specs.WeightedRoll.{weighted_roll}
use Rattle.zar_cli.specs.declared.command.Command.TheVariants.{Roll}
use Rattle.zar_cli.specs.declared.command.Source.TheVariants.{File}
use Rattle.zar_cli.specs.inner.Readings.{GivesOnBits}
use Rattle.zar_cli.proofs.Alone.{roll_refused, roll_said}
use Rattle.zar_cli.proofs.Saying.{said_as}
use Rattle.zar_cli.proofs.commands.weighted_file.Goals as goal

pub returns-in_err-rolled : goal.returns-in_err-rolled
returns-in_err-rolled g c d =
    let e = c.in_err-rolled.field-0.0 in
    let out : c.from_residual.result ≡ Err e = grind arith in
    said_as _ _ _ _ _ out (roll_refused (Roll c.args.list.now c.args.flips (Some (File c.args.bits.now)) d) (weighted_roll c.args.list.now c.args.flips) _ c.args.bits.now c.text.ensures refl _ _
    (λ file output is. is) refl e c.in_err-rolled.ensures.refused c.in_err-rolled.ensures.stage
    (λ file agrees. subst (λ w. GivesOnBits (weighted_roll w c.args.flips) (file c.text.result.now) (Err e)) c.weights.ensures (c.in_err-rolled.ensures.answer file agrees)))

pub returns : goal.returns
returns g c d = roll_said (Roll c.args.list.now c.args.flips (Some (File c.args.bits.now)) d) (weighted_roll c.args.list.now c.args.flips) _ c.args.bits.now c.text.ensures refl _ _
    (λ file output is. is) c.in_ok-rolled.rolled tt c.in_ok-rolled.ensures.stage
    (λ file agrees. subst (λ w. GivesOnBits (weighted_roll w c.args.flips) (file c.text.result.now) (Ok c.in_ok-rolled.rolled)) c.weights.ensures (c.in_ok-rolled.ensures.answer file agrees))
