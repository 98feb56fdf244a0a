-- The headline, as one record: what `sample` says of the program that a text spells, over all bits, and what these weigh.
use Rattle.std.specs.Prelude.{◌≡◌, ℕ, List, Option, Some, Ok}
use Rattle.gcl_core.specs.declared.answers.Limits.{Limits}
use Rattle.gcl_core.specs.meaning.Runs.{run_on}
use Rattle.gcl_core.specs.meaning.Syntax.{SourceProgram}
use Rattle.weighing_law.specs.Counting.{CountsMasses}
use Rattle.weighing_law.specs.LimitsCost.{LimitsCost, MayPass}
use Rattle.weighing_law.specs.Prefixes.{ReadsInOrder}
use Rattle.weighing_law.specs.Weighing.{WeighsExactly}
use Rattle.zar_io.specs.FileBits.{file_bits}
use Rattle.zar_cli.specs.declared.command.Source.TheVariants.{File}
use Rattle.zar_cli.specs.declared.said.Said.TheVariants.{Answered}
use Rattle.zar_cli.specs.ByStages.{Output, reading, if_spelled}
use Rattle.zar_cli.specs.Sampled.{SaysSample}

pub record SamplesExactly (text : List ℕ) (p : SourceProgram) (l : Limits) : Type 0 where
  -- over files that hold the text and some bits, `sample` says how the program's run on the bits ends
  pub says : (file : List ℕ → Option (List ℕ)) (program bits : List ℕ) (bytes : List ℕ) (output : Output)
      → file program ≡ Some text → file bits ≡ Some bytes
      → reading (file program) (if_spelled (λ q. SaysSample file q (File bits) l)) output
      → output ≡ Ok (Answered (run_on p l (file_bits bytes)))
  -- it reads bit by bit, and no further than to its end, where it stays on every longer string
  pub in_order : ReadsInOrder (run_on p l)
  -- the strings of bits on which it ends in an outcome weigh exactly the outcome's mass,
  pub weighs : WeighsExactly (run_on p l) p l
  -- and as many of the strings of each length end in it
  pub counts : CountsMasses (run_on p l) p l
  -- the limits of attempts and of rounds cost no more than they weigh
  pub cost : MayPass p l → LimitsCost p l
