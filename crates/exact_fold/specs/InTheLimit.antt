-- What exact masses promise, by the masses at n turns alone, without limits of attempts and of rounds. This project's own rule.
use Rattle.std.specs.Prelude.{◌≡◌, ℕ, ◌≤◌, true, Contains, None}
use Rattle.numbers.specs.Arithmetic.{InLowest}
use Rattle.gcl_core.specs.declared.answers.Limit.TheVariants.{Turns}
use Rattle.gcl_core.specs.declared.answers.Outcome.{Outcome}
use Rattle.gcl_core.specs.declared.answers.Outcome.TheVariants as outcome
use Rattle.gcl_core.specs.meaning.Outcomes.{is_settled}
use Rattle.gcl_core.specs.meaning.Syntax.{SourceProgram}
use Rattle.gcl_core.specs.weighing.Fractions.{Fraction, one, plus, AtMost}
use Rattle.gcl_core.specs.weighing.Mass.{failed_mass, mass_of}
use Rattle.mass_fold.specs.Rows.{Rows, Ascending}

-- from some n on no further from q than 1 / k, whatever k
abbrev pub TendsTo : Fraction → (ℕ → Fraction) → Type 0
TendsTo q m = (k : ℕ) → 1 ≤ k → (least : ℕ) × ((n : ℕ) → least ≤ n → AtMost q (plus (m n) (1, k)) × AtMost (m n) (plus q (1, k)))

abbrev pub RisesTo : Fraction → (ℕ → Fraction) → Type 0
RisesTo q m = ((n : ℕ) → 1 ≤ n → AtMost (m n) q) × TendsTo q m

-- Each row is a value or a fault with what its mass rises to as turns grow, above 0 and in lowest terms; a value or a fault without
-- a row has no mass. What runs for ever is what the mass of the limit of turns tends to. A round passes with no less than some 1 / k.
pub record IsExactInTheLimit (p : SourceProgram) (rows : Rows) (endless : Fraction) : Type 0 where
  pub ascending : Ascending rows
  pub row : (x : Outcome) (q : Fraction) → Contains rows (x, q) →
      (is_settled x ≡ true) × (1 ≤ q.0) × InLowest q × RisesTo q (λ n. mass_of p n None None x)
  pub others : (x : Outcome) → is_settled x ≡ true → ((q : Fraction) → Contains rows (x, q) → ⊥) → (n : ℕ) → 1 ≤ n →
      (mass_of p n None None x).0 ≡ 0
  pub never : InLowest endless × TendsTo endless (λ n. mass_of p n None None (outcome.Limit Turns))
  pub passes : (k : ℕ) × (1 ≤ k) × ((n : ℕ) → 1 ≤ n → AtMost (plus (failed_mass p n None) (1, k)) one)

-- every round fails, in the limit
abbrev pub FailsInTheLimit : SourceProgram → Type 0
FailsInTheLimit p = TendsTo one (λ n. failed_mass p n None)
