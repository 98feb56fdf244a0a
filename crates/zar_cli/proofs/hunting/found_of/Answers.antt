use Rattle.std.proofs.Common.{◌++◌, Ok, ◌∙◌, ap, refl}
use Rattle.gcl_core.specs.meaning.Runs.{run_on}
use Rattle.gcl_core.specs.meaning.Views.{source_of}
use Rattle.report_text.specs.Lines.{hunt_text}
use Rattle.zar_cli.specs.declared.said.Said.TheVariants.{Shown}
use Rattle.zar_cli.proofs.hunting.found_of.Goals as goal

pub returns : goal.returns
returns g c =
    let l = c.args.limits.now in
    let is = c.in_ok-found.ensures (run_on (source_of c.args.program.now) l) (c.in_ok-sampler.ensures.sampler.runs l c.requires.limits) in
    let line = hunt_text c.in_ok-found.found in
    let text = c.in_ok-push.ensures.ok ∙ ap (λ bytes. c.in_ok-text.text ++ bytes) (c.bytes.ensures.text ∙ c.hunt_line.ensures)
    ∙ ap (λ front. front ++ line) c.in_ok-text.ensures in
    record { gives = λ file. (line, (c.in_ok-found.found, is, refl), ap (λ t. Ok (Shown t)) text) }
