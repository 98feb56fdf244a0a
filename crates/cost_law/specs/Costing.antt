-- The law of costs: the lengths of the bit strings on which a run ends, summed by their weights, are the bits that the statements
-- let expect. This project's own rule.
use Rattle.std.specs.Prelude.{ℕ, ◌*◌, ◌^◌, ◌≤◌, Bool, List}
use Rattle.gcl_core.specs.declared.answers.Answer.{Answer}
use Rattle.gcl_core.specs.declared.answers.Limits.{Limits}
use Rattle.gcl_core.specs.weighing.Fractions.{Fraction, IsShare, IsWithinShare}
use Rattle.gcl_core.specs.weighing.LongestReading.{longest}
use Rattle.gcl_core.specs.meaning.Syntax.{SourceProgram}
use Rattle.weighing_law.specs.Weighing.{Suffices}
use Rattle.cost_law.specs.SummedLengths.{attempt_lengths, draw_lengths, run_lengths}
use Rattle.cost_law.specs.ExpectedBits.{number_bits, attempt_bits, draw_bits}

-- One attempt, and a draw by at most r attempts: at every length L that has all their bits, the summed lengths are 2 ^ L times
-- the expected bits.
pub record DrawCosts (ends : List ℕ) (r : ℕ) : Type 0 where
  pub attempt : (L : ℕ) → number_bits ends ≤ L → IsShare (attempt_lengths ends L) (2 ^ L) (attempt_bits ends)
  pub draw : (L : ℕ) → number_bits ends * r ≤ L → IsShare (draw_lengths ends r L) (2 ^ L) (draw_bits ends r)
  pub fraction : 1 ≤ (draw_bits ends r).1

-- What answers on bits reads this many bits on average: never more, and exactly that at every length that suffices. Such a length
-- is the limit of rounds times the longest reading of the body.
pub record CostsExactly (run : List Bool → Answer) (p : SourceProgram) (l : Limits) (bits : Fraction) : Type 0 where
  pub within : (L : ℕ) → IsWithinShare (run_lengths run L) (2 ^ L) bits
  pub exact : (L : ℕ) → Suffices run L → IsShare (run_lengths run L) (2 ^ L) bits
  pub enough : Suffices run (l.rounds * longest l.turns l.attempts p.body)
  pub fraction : 1 ≤ bits.1
