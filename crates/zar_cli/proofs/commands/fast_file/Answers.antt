use Rattle.std.proofs.Common.{◌≡◌, Some, Err, refl, arith}
use Rattle.dice_roll.specs.FastRoll.{fast_roll}
use Rattle.zar_cli.specs.declared.command.Command.TheVariants.{Fast}
use Rattle.zar_cli.specs.declared.command.Source.TheVariants.{File}
use Rattle.zar_cli.proofs.Alone.{roll_refused, roll_said}
use Rattle.zar_cli.proofs.Saying.{said_as}
use Rattle.zar_cli.proofs.commands.fast_file.Goals as goal

pub returns-in_err-rolled : goal.returns-in_err-rolled
returns-in_err-rolled g c d =
    let e = c.in_err-rolled.field-0.0 in
    let out : c.from_residual.result ≡ Err e = grind arith in
    said_as _ _ _ _ _ out (roll_refused (Fast c.args.labels c.args.flips (Some (File c.args.bits.now)) d) (fast_roll c.args.labels c.args.flips) _ c.args.bits.now c.text.ensures refl _ _
    (λ file output is. is) refl e c.in_err-rolled.ensures.refused c.in_err-rolled.ensures.stage c.in_err-rolled.ensures.answer)

pub returns : goal.returns
returns g c d = roll_said (Fast c.args.labels c.args.flips (Some (File c.args.bits.now)) d) (fast_roll c.args.labels c.args.flips) _ c.args.bits.now c.text.ensures refl _ _
    (λ file output is. is) c.in_ok-rolled.rolled tt c.in_ok-rolled.ensures.stage c.in_ok-rolled.ensures.answer
