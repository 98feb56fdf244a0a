-- The outcomes of a round, each once with its weight, at a scale.
use Rattle.std.specs.Prelude.{◌≡◌, ℕ, ◌+◌, ◌*◌, ◌<◌, ◌≤◌}
use Rattle.gcl_core.specs.declared.answers.Outcome.{Outcome}
use Rattle.gcl_core.specs.declared.answers.Outcome.TheVariants as outcome
use Rattle.gcl_core.specs.meaning.Blocks.{End, on, failed, fault, limit}
use Rattle.gcl_core.specs.meaning.Outcomes.{outcome_of}
use Rattle.gcl_core.specs.meaning.Syntax.{Expression}
use Rattle.gcl_core.specs.weighing.Fractions.{Fraction}
use Rattle.gcl_core.specs.meaning.Value.{State, value_of}
use Rattle.table_flow.specs.Scale.{whole, Whole, Wholes, amount}
use Rattle.mass_fold.specs.declared.error.MassError.{MassError}
use Rattle.mass_fold.specs.declared.ended.Ended.{Ended}
use Rattle.mass_fold.specs.Amounts.{held, AreHeld}
use Rattle.mass_fold.specs.inner.Amounts.{Entries, Blames}
use Rattle.mass_fold.specs.inner.Ended.{rows_of}
use Rattle.mass_fold.specs.Rows.{Rows}

-- after the weight f of x was added, which may be 0
abbrev pub AddGives : Rows → Rows → Outcome → Fraction → Type 0
AddGives es fs x f =
    (N : ℕ) → 0 < N → AreHeld N es → Whole N f → AreHeld N fs × ((G : Outcome → ℕ) → held N G fs ≡ held N G es + whole N f * G x)

-- what is there and what is added weigh no more than all
abbrev pub AddBlames : MassError → Rows → Fraction → Type 0
AddBlames e es f = (N L : ℕ) → 0 < N → AreHeld N es → Whole N f → held N (λ x. 1) es + whole N f ≤ N → Blames e N L

-- what a state counts by the outcome that the result of the program gives it
abbrev pub by_result : Expression → (Outcome → ℕ) → State → ℕ
by_result result G s = G (outcome_of (value_of result s))

-- after the outcomes of all states were added
abbrev pub ResultsGive : Expression → Entries → Rows → Rows → Type 0
ResultsGive result table es fs = (N : ℕ) → 0 < N → AreHeld N table → AreHeld N es
    → AreHeld N fs × ((G : Outcome → ℕ) → held N G fs ≡ held N G es + held N (by_result result G) table)

abbrev pub ResultsBlame : MassError → Entries → Rows → Type 0
ResultsBlame e table es =
    (N L : ℕ) → 0 < N → AreHeld N table → AreHeld N es → held N (λ x. 1) es + held N (λ s. 1) table ≤ N → Blames e N L

-- what an end counts by its outcome; a state and a failed observation have none
abbrev pub count_of_end : (Outcome → ℕ) → End → ℕ
count_of_end G (on s) = 0
count_of_end G failed = 0
count_of_end G (fault f) = G (outcome.Fault f)
count_of_end G (limit l) = G (outcome.Limit l)

-- after the faults and limits were added
abbrev pub EndedGive : Ended → Rows → Rows → Type 0
EndedGive E es fs = (N : ℕ) → 0 < N → Wholes N (rows_of E) → AreHeld N es
    → AreHeld N fs × ((G : Outcome → ℕ) → held N G fs ≡ held N G es + amount N (count_of_end G) (rows_of E))

abbrev pub EndedBlame : MassError → Ended → Rows → Type 0
EndedBlame e E es = (N L : ℕ) → 0 < N → Wholes N (rows_of E) → AreHeld N es
    → held N (λ x. 1) es + amount N (count_of_end (λ x. 1)) (rows_of E) ≤ N → Blames e N L
