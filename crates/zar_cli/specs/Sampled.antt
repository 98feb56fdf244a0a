-- What `sample` says of a program: how its run ends on the bits of a file, or on the first bits of a stream.
use Rattle.std.specs.Prelude.{ℕ, List, Option}
use Rattle.gcl_core.specs.declared.answers.Limits.{Limits}
use Rattle.gcl_core.specs.meaning.Runs.{run_on}
use Rattle.gcl_core.specs.meaning.Syntax.{SourceProgram}
use Rattle.zar_io.specs.StreamBits.{stream_bits}
use Rattle.zar_cli.specs.declared.command.Source.{Source}
use Rattle.zar_cli.specs.declared.command.Source.TheVariants.{File, Stream}
use Rattle.zar_cli.specs.declared.said.Said.TheVariants.{Answered}
use Rattle.zar_cli.specs.ByStages.{Output, says, on_bits}

abbrev pub SaysSample : (List ℕ → Option (List ℕ)) → SourceProgram → Source → Limits → Output → Type 0
SaysSample file p (File bits) limits = on_bits (file bits) (λ w. Answered (run_on p limits w))
SaysSample file p (Stream seed stream budget) limits = says (Answered (run_on p limits (stream_bits seed stream budget)))
