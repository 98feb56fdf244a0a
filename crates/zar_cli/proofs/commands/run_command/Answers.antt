use Rattle.std.proofs.Common.{rules, ◌≡◌, None, Some, Ok, Err, refl, ap, arith}
use Rattle.dice_roll.specs.FastRoll.{fast_roll}
use Rattle.gcl_core.specs.meaning.Views.{source_of}
use Rattle.weighted_roll.specs.WeightedRoll.{weighted_roll}
use Rattle.zar_io.specs.StreamBits.{stream_bits}
use Rattle.zar_cli.specs.declared.command.Command.TheVariants.{Gen, Fast, Roll, Help}
use Rattle.zar_cli.specs.declared.command.Source.TheVariants.{Stream}
use Rattle.zar_cli.specs.declared.said.Said.TheVariants.{Shown, Rolled, Helped}
use Rattle.zar_cli.specs.Counts.{IsGeneratedText}
use Rattle.zar_cli.specs.Rolls.{weights_text}
use Rattle.zar_cli.specs.WeightedRolls.{labels_text}
use Rattle.zar_cli.proofs.Alone.{weights_fit, said_alone, said_or_memory}
use Rattle.zar_cli.proofs.Saying.{said_as}
use Rattle.zar_cli.proofs.Worked.{refused_checked, worked_after}
use Rattle.zar_cli.proofs.commands.run_command.Goals as goal

pub returns-in_err-checked-in-Checked : goal.returns-in_err-checked-in-Checked
returns-in_err-checked-in-Checked g c =
    let e = c.in_err-checked-in-Checked.field-0.0 in
    let out : c.from_residual.result ≡ Err e = grind arith in
    said_as _ _ _ _ _ out (refused_checked _ _ _ _ c.in-Checked.is c.text.ensures _ _ e c.in_err-checked-in-Checked.ensures.stage c.in_err-checked-in-Checked.ensures.program)

pub returns-in_ok-checked-in-Checked : goal.returns-in_ok-checked-in-Checked
returns-in_ok-checked-in-Checked g c =
    let read = c.in_ok-checked-in-Checked.ensures in
    worked_after _ _ _ _ c.in-Checked.is c.text.ensures (source_of c.in_ok-checked-in-Checked.checked) _ _ _ _ read.stage read.program c.work_on.ensures

pub returns-in_ok-generated_text-in-Gen : goal.returns-in_ok-generated_text-in-Gen
returns-in_ok-generated_text-in-Gen g c =
    let k = c.in-Gen.k in
    let text = c.in_ok-generated_text-in-Gen.field-0 in
    let is : IsGeneratedText k text = c.in_ok-generated_text-in-Gen.ensures in
    said_alone c.args.command.now (Gen k) _ (Shown text) (search rules) (λ file. (text, is, refl))

pub returns-in-Fast-default-default-Some-Stream-default : goal.returns-in-Fast-default-default-Some-Stream-default
returns-in-Fast-default-default-Some-Stream-default g c =
    let a = c.in-Fast-default-default-Some-Stream-default in
    let is : c.roll_on_stream.result ≡ fast_roll a.labels a.flips (stream_bits a.seed a.stream a.budget) = search rules in
    said_alone c.args.command.now (Fast a.labels a.flips (Some (Stream a.seed a.stream a.budget)) a.field-3) _ (Rolled c.roll_on_stream.result) (search rules)
    (λ file. ap (λ roll. Ok (Rolled roll)) is)

pub returns-in-Roll-default-default-Some-Stream-default : goal.returns-in-Roll-default-default-Some-Stream-default
returns-in-Roll-default-default-Some-Stream-default g c =
    let a = c.in-Roll-default-default-Some-Stream-default in
    said_or_memory c.args.command.now (Roll a.list a.flips (Some (Stream a.seed a.stream a.budget)) a.field-3) _ c.weighted_stream.result
    (Rolled (weighted_roll a.list a.flips (stream_bits a.seed a.stream a.budget))) (search rules) refl (λ file. refl) (search rules)

pub returns-in-Help : goal.returns-in-Help
returns-in-Help g c = said_alone c.args.command.now (Help c.in-Help.topic) _ (Helped c.in-Help.topic) c.in-Help.is (λ file. refl)

pub returns-in-Fast-default-default-None-default : goal.returns-in-Fast-default-default-None-default
returns-in-Fast-default-default-None-default g c =
    let a = c.in-Fast-default-default-None-default in
    weights_fit c.args.command.now (Fast a.labels a.flips None a.decimals) (weights_text a.labels a.flips a.decimals) _ _ (search rules) refl (λ file output is. is) (search rules)

pub returns-in-Roll-default-default-None-default : goal.returns-in-Roll-default-default-None-default
returns-in-Roll-default-default-None-default g c =
    let a = c.in-Roll-default-default-None-default in
    weights_fit c.args.command.now (Roll a.list a.flips None a.decimals) (labels_text a.list a.flips a.decimals) _ _ (search rules) refl (λ file output is. is) (search rules)

pub returns-in-Fast-default-default-Some-File-default : goal.returns-in-Fast-default-default-Some-File-default
returns-in-Fast-default-default-Some-File-default g c =
    let said = c.fast_file.ensures c.in-Fast-default-default-Some-File-default.field-3 in search rules

pub returns-in-Roll-default-default-Some-File-default : goal.returns-in-Roll-default-default-Some-File-default
returns-in-Roll-default-default-Some-File-default g c =
    let said = c.weighted_file.ensures c.in-Roll-default-default-Some-File-default.field-3 in search rules
