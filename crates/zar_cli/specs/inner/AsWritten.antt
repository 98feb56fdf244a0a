-- What is made as it is written, so that memory may run out after the output is known.
use Rattle.std.specs.Prelude.{Bool, true, false, IsTrue, Ok, Err}
use Rattle.zar_cli.specs.declared.said.Said.{Said}
use Rattle.zar_cli.specs.declared.said.Said.TheVariants.{Drawn}
use Rattle.zar_cli.specs.ByStages.{Output}

abbrev pub is_drawn : Said → Bool
is_drawn (Drawn text) = true
is_drawn _ = false

abbrev pub IsDrawn : Output → Type 0
IsDrawn (Ok said) = IsTrue (is_drawn said)
IsDrawn (Err refusal) = ⊥
