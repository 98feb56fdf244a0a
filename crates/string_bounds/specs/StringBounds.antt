-- What strings of bits weigh lies between the bounds that a limit of turns gives. This project's own rule.
use Rattle.std.specs.Prelude.{◌≡◌, ℕ, ◌^◌, Bool, true, List}
use Rattle.gcl_core.specs.declared.answers.Answer.{Answer}
use Rattle.gcl_core.specs.declared.answers.Limits.{Limits}
use Rattle.gcl_core.specs.declared.answers.Outcome.{Outcome}
use Rattle.gcl_core.specs.meaning.Outcomes.{same_outcome, is_settled}
use Rattle.gcl_core.specs.meaning.Syntax.{SourceProgram}
use Rattle.gcl_core.specs.weighing.Fractions.{Fraction, plus, AtMost}
use Rattle.gcl_core.specs.weighing.StringWeight.{outcome_weight}
use Rattle.weighing_law.specs.LimitsCost.{cut_off}
use Rattle.weighing_law.specs.Weighing.{Suffices}
use Rattle.many_runs.specs.Fronts.{undecided}
use Rattle.bounds_law.specs.PosteriorBounds.{given, lower_of, upper_of, upper_of_others}

-- what an outcome weighs at L bits, of all
abbrev pub weight_at : (List Bool → Answer) → Outcome → ℕ → Fraction
weight_at run x L = (outcome_weight run x L, 2 ^ L)

-- how many strings of L bits need more, of all
abbrev pub rest_at : (List Bool → Answer) → ℕ → Fraction
rest_at run L = (undecided run L, 2 ^ L)

-- The strings that end in a value or a fault weigh at most its upper bound at n turns, and where a round of n turns gives it
-- nothing, at most the bound of all others. They weigh at least its lower bound, less what the limits of attempts and of rounds
-- weigh and what the strings do that need more; at every length that suffices there are none of these.
pub record LiesBetween (run : List Bool → Answer) (p : SourceProgram) (l : Limits) (n : ℕ) : Type 0 where
  pub from_above : (x : Outcome) (L : ℕ) → is_settled x ≡ true → AtMost (weight_at run x L) (upper_of p n x)
  pub among_others : (x : Outcome) (L : ℕ) → is_settled x ≡ true → (given p n (same_outcome x)).0 ≡ 0 →
      AtMost (weight_at run x L) (upper_of_others p n)
  pub from_below : (x : Outcome) (L : ℕ) → is_settled x ≡ true → Suffices run L →
      AtMost (lower_of p n x) (plus (weight_at run x L) (cut_off p l))
  pub from_below_early : (x : Outcome) (L : ℕ) → is_settled x ≡ true →
      AtMost (lower_of p n x) (plus (plus (weight_at run x L) (rest_at run L)) (cut_off p l))

-- What a value or a fault weighs in one run is at most what it weighs in another at a length that suffices, with what the limits
-- of that one weigh and the bound of all others at n turns. So it is for two runs of one program, under limits whose turns are n
-- or more.
abbrev pub AreNear : (List Bool → Answer) → (List Bool → Answer) → SourceProgram → Limits → ℕ → Type 0
AreNear run other p l n =
    (x : Outcome) (L M : ℕ) → is_settled x ≡ true → Suffices other M →
    AtMost (weight_at run x L) (plus (plus (weight_at other x M) (cut_off p l)) (upper_of_others p n))
