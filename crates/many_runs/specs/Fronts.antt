-- Runs on streams of bits, by the strings that the streams begin with. It is the equidistribution theorem of Bagnall, Stewart and
-- Banerjee (PLDI 2023), said of finitely many streams in whole numbers.
use Rattle.std.specs.Prelude.{◌≡◌, ℕ, ◌+◌, ◌-◌, ◌*◌, ◌^◌, ◌≤◌, Bool, List, length, All}
use Rattle.gcl_core.specs.declared.answers.Answer.{Answer}
use Rattle.gcl_core.specs.declared.answers.Limits.{Limits}
use Rattle.gcl_core.specs.declared.answers.Outcome.{Outcome}
use Rattle.gcl_core.specs.meaning.Syntax.{SourceProgram}
use Rattle.gcl_core.specs.weighing.Fractions.{IsShare}
use Rattle.gcl_core.specs.weighing.StringWeight.{outcome_weight}
use Rattle.weighing_law.specs.Counting.{strings_that}
use Rattle.weighing_law.specs.Prefixes.{needs_more}
use Rattle.weighing_law.specs.Weighing.{Suffices, limited_mass}
use Rattle.many_runs.specs.Streams.{beginning, runs_to, BeginEvenly}
use Rattle.many_runs.specs.StringSums.{over_just_read, apart}

-- How far the streams are off even at the strings of at most L bits that are just read to the outcome, together. Of N streams
-- N / 2 ^ k should begin with one of k bits; it is said at the scale of 2 ^ L.
abbrev pub off_even : (List Bool → Answer) → Outcome → ℕ → List (List Bool) → ℕ
off_even run x L ss = over_just_read run x (λ u. apart (2 ^ L * beginning u ss) (2 ^ (L - length u) * length ss)) L

-- on so many strings of L bits the run needs more
abbrev pub undecided : (List Bool → Answer) → ℕ → ℕ
undecided run L = strings_that (λ w. needs_more (run w)) L

-- What an outcome weighs at L bits is what the strings do that are just read to it, and with those that need more it has its
-- mass, or more. As many streams of L bits run to it as begin with one of these strings. Of N streams that is off what it weighs
-- of N by no more than the streams are off even there. Where no string of L bits needs more, so it is for streams of at least L
-- bits, and they are off its mass by no more than that; where they begin evenly nothing is off.
pub record FollowsFronts (run : List Bool → Answer) (p : SourceProgram) (l : Limits) : Type 0 where
  pub weighs : (x : Outcome) (L : ℕ) → outcome_weight run x L ≡ over_just_read run x (λ u. 2 ^ (L - length u)) L
  pub short_by : (x : Outcome) (L : ℕ) →
      (limited_mass p l x).0 * 2 ^ L ≤ (limited_mass p l x).1 * (outcome_weight run x L + undecided run L)
  -- streams of L bits
  pub counts_of : (x : Outcome) (L : ℕ) (ss : List (List Bool)) → All (λ s. length s ≡ L) ss →
      runs_to run x ss ≡ over_just_read run x (λ u. beginning u ss) L
  pub off_weight : (x : Outcome) (L : ℕ) (ss : List (List Bool)) → All (λ s. length s ≡ L) ss →
      apart (2 ^ L * runs_to run x ss) (length ss * outcome_weight run x L) ≤ off_even run x L ss
  -- streams of enough bits
  pub counts : (x : Outcome) (L : ℕ) (ss : List (List Bool)) → Suffices run L → All (λ s. L ≤ length s) ss →
      runs_to run x ss ≡ over_just_read run x (λ u. beginning u ss) L
  pub off_by : (x : Outcome) (L : ℕ) (ss : List (List Bool)) → Suffices run L → All (λ s. L ≤ length s) ss →
      apart ((limited_mass p l x).1 * runs_to run x ss) ((limited_mass p l x).0 * length ss) * 2 ^ L
      ≤ (limited_mass p l x).1 * off_even run x L ss
  pub exact : (x : Outcome) (L : ℕ) (ss : List (List Bool)) → Suffices run L → All (λ s. L ≤ length s) ss → BeginEvenly L ss →
      IsShare (runs_to run x ss) (length ss) (limited_mass p l x)
