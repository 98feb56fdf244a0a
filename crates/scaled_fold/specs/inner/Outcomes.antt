-- The outcomes of a round, each once with its units.
use Rattle.std.specs.Prelude.{◌≡◌, ℕ, ◌+◌, ◌*◌, [], Bool, Option}
use Rattle.gcl_core.specs.declared.answers.Outcome.{Outcome}
use Rattle.gcl_core.specs.meaning.Outcomes.{outcome_of}
use Rattle.gcl_core.specs.meaning.Syntax.{Expression, SourceProgram}
use Rattle.gcl_core.specs.meaning.Value.{State, value_of}
use Rattle.gcl_core.specs.weighing.Mass.{ends_in}
use Rattle.units_law.specs.Rounds.{end_units_of, meant_units}
use Rattle.units_law.specs.Units.{held}
use Rattle.scaled_law.specs.Given.{least_flow, most_flow}
use Rattle.scaled_law.specs.Pairs.{Pair, Pairs, at_least, at_most}
use Rattle.scaled_law.specs.Scaled.{Scaled}
use Rattle.scaled_fold.specs.Doubling.{doubled_round}
use Rattle.scaled_fold.specs.Ends.{least_in, most_in}
use Rattle.scaled_fold.specs.declared.ended.Ended.{Ended}
use Rattle.scaled_fold.specs.inner.Ended as ended

-- after w units of x were added
pub record Adds (J : Pairs Outcome) (x : Outcome) (w : Pair) (K : Pairs Outcome) : Type 0 where
  pub least : (G : Outcome → ℕ) → held G (at_least K) ≡ held G (at_least J) + w.0 * G x
  pub most : (G : Outcome → ℕ) → held G (at_most K) ≡ held G (at_most J) + w.1 * G x

-- after the outcomes that the result of a program gives all states were added
pub record AddsResults (e : Expression) (J : Pairs Outcome) (I : Pairs State) (K : Pairs Outcome) : Type 0 where
  pub least : (G : Outcome → ℕ) → held G (at_least K) ≡ held G (at_least J) + held (λ s. G (outcome_of (value_of e s))) (at_least I)
  pub most : (G : Outcome → ℕ) → held G (at_most K) ≡ held G (at_most J) + held (λ s. G (outcome_of (value_of e s))) (at_most I)

-- a table, and what ended besides
abbrev pub after : Pairs State → Ended → Scaled
after I E = record { next = I; aside = []; ended = ended.units_of E; loose = (0, 0); scale = (1, 1); tables = [] }

-- outcomes have what they are given
pub record AreOutcomes (e : Expression) (I : Pairs State) (E : Ended) (K : Pairs Outcome) : Type 0 where
  pub least : (meant : Outcome → Bool) → least_in meant K ≡ end_units_of (ends_in e meant) (least_flow (after I E))
  pub most : (meant : Outcome → Bool) → most_in meant K ≡ end_units_of (ends_in e meant) (most_flow (after I E))

-- outcomes have what the round gives them, and so much is loose
pub record RoundGives (p : SourceProgram) (n : ℕ) (r : Option ℕ) (K : Pairs Outcome) (loose : ℕ) : Type 0 where
  pub least : (meant : Outcome → Bool) → least_in meant K ≡ meant_units p meant (least_flow (doubled_round p n r))
  pub most : (meant : Outcome → Bool) → most_in meant K ≡ meant_units p meant (most_flow (doubled_round p n r))
  pub rest : loose ≡ (doubled_round p n r).loose.1
