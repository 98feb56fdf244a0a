-- The main theorem's statement: what makes a sampler that of a program. The theorem is that of the compiler of Bagnall, Stewart and
-- Banerjee (PLDI 2023), under limits and with the bits counted. What a sampler answers is a parameter, since the statement holds
-- whatever that word stands for; so nobody has to know the machine that a sampler is.
use Rattle.std.specs.Prelude.{◌≡◌, Bool, List}
use Rattle.gcl_core.specs.declared.answers.Answer.{Answer}
use Rattle.gcl_core.specs.declared.answers.Limits.{Limits}
use Rattle.gcl_core.specs.meaning.LimitRange.{InRange}
use Rattle.gcl_core.specs.meaning.Runs.{run_on}
use Rattle.gcl_core.specs.meaning.Syntax.{SourceProgram}
use Rattle.weighing_law.specs.LimitsCost.{LimitsCost, MayPass}
use Rattle.weighing_law.specs.Weighing.{WeighsExactly}

pub record IsSamplerOf (p : SourceProgram) (Answers : Limits → List Bool → Answer → Type 0) : Type 0 where
  -- on all bits it answers as the program's run does,
  pub runs : (l : Limits) → InRange l → (w : List Bool) → Answers l w (run_on p l w)
  -- and nothing else
  pub only : (l : Limits) (w : List Bool) (a : Answer) → InRange l → Answers l w a → a ≡ run_on p l w
  -- the strings of bits on which the run ends in an outcome weigh exactly the mass that the program states
  pub weighs : (l : Limits) → WeighsExactly (run_on p l) p l
  -- what the limits of attempts and of rounds cost is no more than they weigh
  pub cost : (l : Limits) → MayPass p l → LimitsCost p l
