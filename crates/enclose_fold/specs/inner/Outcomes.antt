-- The outcomes of a round, each once with its units.
use Rattle.std.specs.Prelude.{◌≡◌, ℕ, ◌+◌, ◌*◌, ◌&&◌, ◌≤◌, Bool, true, cond, [], map, Option, AllPairs, Contains}
use Rattle.std.specs.declared.cmp.Ordering.{Ordering}
use Rattle.std.specs.BTreeMap.{is_at}
use Rattle.std.specs.Map.{keys_of, lookup}
use Rattle.std.specs.Option.{unwrap_or}
use Rattle.gcl_core.specs.declared.answers.Limit.TheVariants.{Rounds}
use Rattle.gcl_core.specs.declared.answers.Outcome.{Outcome}
use Rattle.gcl_core.specs.declared.answers.Outcome.TheVariants as outcome
use Rattle.gcl_core.specs.meaning.Outcomes.{outcome_of}
use Rattle.gcl_core.specs.meaning.Order.{is_before}
use Rattle.gcl_core.specs.meaning.Syntax.{Expression, SourceProgram}
use Rattle.gcl_core.specs.meaning.Value.{State, value_of}
use Rattle.gcl_core.specs.weighing.Mass.{ends_in}
use Rattle.numbers.specs.declared.units.TheConstants.{ALL}
use Rattle.units_law.specs.Flows.{UnitFlow}
use Rattle.units_law.specs.Rounds.{end_units_of}
use Rattle.units_law.specs.Units.{Units, held, total}
use Rattle.units_law.specs.Enclosures.{counts, fails_in}
use Rattle.units_law.specs.Enclosures as enclosures
use Rattle.enclose_fold.specs.declared.ended.Ended.{Ended}
use Rattle.enclose_fold.specs.inner.Ended as ended

-- the units of the outcomes that are meant
abbrev pub those : (Outcome → Bool) → Units Outcome → ℕ
those meant J = held (λ x. cond (meant x) 1 0) J

-- the units of an outcome; 0, where it has none
abbrev pub found : (Outcome → Outcome → Ordering) → Units Outcome → Outcome → ℕ
found order J x = unwrap_or (lookup (is_at (order x)) J) 0

-- after w units of x were added
pub record Adds (J : Units Outcome) (x : Outcome) (w : ℕ) (K : Units Outcome) : Type 0 where
  pub sums : (meant : Outcome → Bool) → those meant K ≡ those meant J + w * cond (meant x) 1 0
  pub there : Contains (keys_of K) x

-- after the outcomes that the result of a program gives all states were added
abbrev pub AddsResults : Expression → Units Outcome → Units State → Units Outcome → Type 0
AddsResults result J I K = (meant : Outcome → Bool) → those meant K ≡ those meant J + held (λ s. cond (meant (outcome_of (value_of result s))) 1 0) I

-- a table, and what ended besides
abbrev pub after : Units State → Ended → UnitFlow
after I E = record { next = I; ended = ended.units_of E; tables = []; draws = []; reached = [] }

-- The outcomes that count have what they are given, and the limit of rounds is among them.
pub record AreOutcomes (result : Expression) (all_turns : Bool) (I : Units State) (E : Ended) (K : Units Outcome) : Type 0 where
  pub sums : (meant : Outcome → Bool) → those meant K ≡ end_units_of (ends_in result (λ x. meant x && counts all_turns x)) (after I E)
  pub rounds : Contains (keys_of K) (outcome.Limit Rounds)

-- in ascending order
abbrev pub Ascending : Units Outcome → Type 0
Ascending K = AllPairs (λ x y. is_before x y ≡ true) (map (λ e. e.0) K)

-- what one round gives outcomes that count, what fails, and what does not
pub record RoundGives (p : SourceProgram) (n : ℕ) (r : Option ℕ) (all_turns : Bool) (K : Units Outcome) (failing passing : ℕ) : Type 0 where
  pub sums : (meant : Outcome → Bool) → those meant K ≡ enclosures.units_of p n r (λ x. meant x && counts all_turns x)
  pub rounds : Contains (keys_of K) (outcome.Limit Rounds)
  pub ascending : Ascending K
  pub failed : failing ≡ fails_in p n r
  pub passed : passing ≡ enclosures.units_of p n r (λ x. true)
  pub within : failing + passing ≤ ALL
  pub counted : failing + total K ≤ ALL
