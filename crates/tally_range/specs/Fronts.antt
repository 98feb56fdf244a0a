-- The counts of a tally, by the strings that its streams begin with.
use Rattle.std.specs.Prelude.{◌≡◌, ℕ, ◌-◌, ◌*◌, ◌^◌, ◌≤◌, Bool, List, length, map, All}
use Rattle.std.specs.List.{range_with_len}
use Rattle.gcl_core.specs.declared.answers.Answer.{Answer}
use Rattle.gcl_core.specs.declared.answers.Limits.{Limits}
use Rattle.gcl_core.specs.declared.answers.Outcome.{Outcome}
use Rattle.gcl_core.specs.declared.answers.TallyKey.TheVariants as key
use Rattle.gcl_core.specs.meaning.Syntax.{SourceProgram}
use Rattle.gcl_core.specs.weighing.StringWeight.{outcome_weight}
use Rattle.weighing_law.specs.Weighing.{Suffices, limited_mass}
use Rattle.many_runs.specs.Fronts.{off_even}
use Rattle.many_runs.specs.Streams.{runs_to}
use Rattle.many_runs.specs.StringSums.{apart}
use Rattle.zar_io.specs.StreamBits.{stream_bits}
use Rattle.stream_runs.specs.declared.range.SeedRange.{SeedRange}
use Rattle.tally_range.specs.Counts.{count_range}

-- the first bits of each stream of the range, as many as its budget says
abbrev pub streams_of : SeedRange → List (List Bool)
streams_of r = map (λ stream. stream_bits r.seed stream r.budget) (range_with_len r.from (r.to - r.from))

-- A tally counts an outcome as often as streams of its range run to it, each of as many bits as the budget says. So its count is
-- off what the outcome weighs at so many bits, of as many streams, by no more than the streams are off even at the strings just
-- read to it. Where no string of L bits needs more, and the budget has as many, it is off the outcome's mass by no more than
-- that.
pub record TalliesFronts (run : List Bool → Answer) (p : SourceProgram) (l : Limits) : Type 0 where
  pub counts : (r : SeedRange) (x : Outcome) → count_range run r (key.Outcome x) ≡ runs_to run x (streams_of r)
  pub all : (r : SeedRange) → length (streams_of r) ≡ r.to - r.from
  pub of_budget : (r : SeedRange) → All (λ s. length s ≡ r.budget) (streams_of r)
  pub off_weight : (r : SeedRange) (x : Outcome) →
      apart (2 ^ r.budget * count_range run r (key.Outcome x)) (length (streams_of r) * outcome_weight run x r.budget)
      ≤ off_even run x r.budget (streams_of r)
  pub off_by : (r : SeedRange) (x : Outcome) (L : ℕ) → Suffices run L → L ≤ r.budget →
      apart ((limited_mass p l x).1 * count_range run r (key.Outcome x)) ((limited_mass p l x).0 * length (streams_of r)) * 2 ^ L
      ≤ (limited_mass p l x).1 * off_even run x L (streams_of r)
