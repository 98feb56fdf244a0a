-- How little outcomes without a row have together. This project's own rule.
use Rattle.std.specs.Prelude.{ℕ, ◌+◌, ◌*◌, ◌≤◌, Bool, IsTrue, All, Option, Some, None, length, if◌then◌else◌}
use Rattle.numbers.specs.declared.units.TheConstants.{ALL}
use Rattle.gcl_core.specs.declared.answers.Limit.TheVariants.{Turns}
use Rattle.gcl_core.specs.declared.answers.Outcome.TheVariants as outcome
use Rattle.gcl_core.specs.meaning.Blocks.{by_value, by_bound}
use Rattle.gcl_core.specs.meaning.Fitting.{state_fits}
use Rattle.gcl_core.specs.meaning.Outcomes.{same_outcome}
use Rattle.gcl_core.specs.meaning.Syntax.{Statement, Uniform, Statements, SourceProgram}
use Rattle.gcl_core.specs.meaning.Value.{State, Value, value_of}
use Rattle.gcl_core.specs.text.ReadingOrder.{listed}
use Rattle.gcl_core.specs.weighing.Fractions.{Fraction, zero_share, one, plus, times, power_sum, divided_by_rest, AtMost}
use Rattle.gcl_core.specs.weighing.Mass.{round_mass, failed_mass}
use Rattle.units_law.specs.Points.{points_of, most_states}

-- ---- how much is lost, where the roundings of a round lose c units

-- in a round: these, and for all turns what ran out of turns
abbrev pub lost_at_most : SourceProgram → ℕ → Option ℕ → Bool → ℕ → Fraction
lost_at_most p n r all_turns c =
    plus (if all_turns then round_mass p n r (same_outcome (outcome.Limit Turns)) else zero_share) (c, ALL)

-- In all rounds, each begun where those before it failed. Roundings lose one unit more, and with a limit of rounds two for each.
abbrev pub in_all_rounds : Option ℕ → Fraction → Fraction → Fraction
in_all_rounds None lost failed = plus (divided_by_rest lost failed) (1, ALL)
in_all_rounds (Some R) lost failed = plus (times lost (power_sum failed R)) (2 * R, ALL)

abbrev pub most_of_others : SourceProgram → ℕ → Option ℕ → Option ℕ → Bool → ℕ → Fraction
most_of_others p n r R all_turns c = in_all_rounds R (lost_at_most p n r all_turns c) (failed_mass p n r)

-- ---- how many units the roundings of a round lose

-- how many numbers a uniform draw has in a state
abbrev pub numbers_at : (State → Value) → State → ℕ
numbers_at bound s = by_value (bound s) (λ f. 0) (λ z. by_bound z 0 (λ m. m))

-- no uniform draw has more than m numbers, whatever the state of numbers of 64 bits; where m is 2^63 - 1 this always holds
abbrev pub DrawsWithin : ℕ → Statement → Type 0
DrawsWithin m (Uniform x e) = (s : State) → IsTrue (state_fits s) → numbers_at (value_of e) s ≤ m
DrawsWithin m _ = Unit {0}

abbrev pub BlockWithin : ℕ → Statements → Type 0
BlockWithin m b = All (DrawsWithin m) (listed b)

-- a rounding loses less than a unit, and with a limit of attempts at most six
abbrev pub lost_each : Option ℕ → ℕ
lost_each None = 1
lost_each (Some r) = 6

-- each point of the round is reached with at most so many states, and each state has m + 1 roundings there
abbrev pub lost_units_at_most : SourceProgram → ℕ → Option ℕ → ℕ → ℕ
lost_units_at_most p n r m = lost_each r * (most_states (points_of p n r) * (m + 1) * length (points_of p n r))

-- ---- what outcomes without a row have, and where none has a row

abbrev pub HaveLittle : SourceProgram → ℕ → Option ℕ → Option ℕ → Bool → Fraction → Type 0
HaveLittle p n r R all_turns other =
    (m : ℕ) → BlockWithin m p.body → AtMost other (most_of_others p n r R all_turns (lost_units_at_most p n r m))

-- a round fails, but for what its roundings may have lost
abbrev pub NearlyFails : SourceProgram → ℕ → Option ℕ → Type 0
NearlyFails p n r =
    (m : ℕ) → BlockWithin m p.body → AtMost one (plus (failed_mass p n r) (lost_units_at_most p n r m, ALL))
