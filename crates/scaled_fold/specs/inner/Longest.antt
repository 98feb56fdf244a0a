-- How many bits are enough for what is read by one attempt for each draw, under a limit of n turns for each entry of a loop.
use Rattle.std.specs.Prelude.{ℕ, ◌≤◌}
use Rattle.gcl_core.specs.meaning.Bounds.{StatementIsWeighed, BlockIsWeighed, ArmsAreWeighed}
use Rattle.gcl_core.specs.meaning.Syntax.{Statement, Statements, ArmList}
use Rattle.gcl_core.specs.weighing.LongestReading.{longest_statement, longest, longest_arm}

module _ (n : ℕ) where
  abbrev pub BlockReads : Statements → ℕ → Type 0
  BlockReads b d = BlockIsWeighed b → longest n 1 b ≤ d

  abbrev pub StatementReads : Statement → ℕ → Type 0
  StatementReads st d = StatementIsWeighed st → longest_statement n 1 st ≤ d

  abbrev pub ArmsRead : ArmList → ℕ → Type 0
  ArmsRead arms d = ArmsAreWeighed arms → longest_arm n 1 arms ≤ d
