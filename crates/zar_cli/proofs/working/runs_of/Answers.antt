use Rattle.std.proofs.Common.{◌++◌, Ok, ◌∙◌, ap}
use Rattle.gcl_core.specs.meaning.Runs.{run_on}
use Rattle.gcl_core.specs.meaning.Views.{source_of}
use Rattle.stream_lines.specs.Lines.{lines_of_range}
use Rattle.zar_cli.specs.declared.said.Said.TheVariants.{Drawn}
use Rattle.zar_cli.proofs.working.runs_of.Goals as goal

pub returns : goal.returns
returns c =
    let lines = lines_of_range (run_on (source_of c.args.program) c.args.limits.now) c.args.range.now in
    record { gives = λ file. ap (λ t. Ok (Drawn t)) (c.of.ensures ∙ ap (λ front. front ++ lines) c.in_ok-front.ensures) }
