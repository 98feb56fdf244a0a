-- What a checked program keeps. This project's own rule.
use Rattle.std.specs.Prelude.{◌≡◌}
use Rattle.gcl_core.specs.meaning.Syntax.{SourceProgram}
use Rattle.gcl_core.specs.text.Acceptance.{IsAccepted}
use Rattle.gcl_core.specs.meaning.Bounds.{VariablesBelow, NumbersFit, BlockCounted}
use Rattle.gcl_core.specs.meaning.Lowest.{in_lowest}

pub record IsChecked (p : SourceProgram) : Type 0 where
  pub accepted : IsAccepted p
  pub lowest : in_lowest p ≡ p
  pub variables : VariablesBelow p
  pub numbers : NumbersFit p
  pub arms : BlockCounted p.body
