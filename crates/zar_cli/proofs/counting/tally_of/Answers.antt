use Rattle.std.proofs.Common.{◌++◌, Ok, ◌∙◌, ap}
use Rattle.zar_cli.specs.declared.said.Said.TheVariants.{Shown}
use Rattle.zar_cli.proofs.counting.tally_of.Goals as goal

pub returns : goal.returns
returns g c =
    let rows = c.in_ok-rows.rows in
    let text = c.in_ok-push.ensures.ok ∙ ap (λ bytes. c.in_ok-text.text ++ bytes) c.bytes.ensures
    ∙ ap (λ front. front ++ rows) c.in_ok-text.ensures in
    record { gives = λ file. (rows, c.in_ok-rows.ensures, ap (λ t. Ok (Shown t)) text) }
