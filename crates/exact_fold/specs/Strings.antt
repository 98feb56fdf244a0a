-- What strings of bits weigh tends to the rows of exact masses, as the limits grow. This project's own rule.
use Rattle.std.specs.Prelude.{◌≡◌, ℕ, ◌*◌, ◌≤◌, Bool, true, List, Contains}
use Rattle.gcl_core.specs.declared.answers.Answer.{Answer}
use Rattle.gcl_core.specs.declared.answers.Limits.{Limits}
use Rattle.gcl_core.specs.declared.answers.Outcome.{Outcome}
use Rattle.gcl_core.specs.meaning.Runs.{run_on}
use Rattle.gcl_core.specs.meaning.Syntax.{SourceProgram}
use Rattle.gcl_core.specs.weighing.Fractions.{Fraction, plus, AtMost}
use Rattle.gcl_core.specs.weighing.LongestReading.{longest}
use Rattle.gcl_core.specs.weighing.StringWeight.{outcome_weight}
use Rattle.mass_fold.specs.Rows.{Rows}
use Rattle.string_bounds.specs.ComingTogether.{AreGreat}
use Rattle.gcl_core.specs.meaning.Outcomes.{is_settled}
use Rattle.string_bounds.specs.StringBounds.{weight_at}
use Rattle.weighing_law.specs.Weighing.{Suffices}

-- The strings on which the run ends in the outcome of a row weigh at most what the row says, whatever the limits are. No string
-- ends in a value or a fault without a row. Some length suffices.
pub record StayBelow (run : List Bool → Answer) (p : SourceProgram) (l : Limits) (rows : Rows) : Type 0 where
  pub row : (x : Outcome) (f : Fraction) → Contains rows (x, f) → (L : ℕ) → AtMost (weight_at run x L) f
  pub others : (x : Outcome) → is_settled x ≡ true → ((f : Fraction) → Contains rows (x, f) → ⊥) → (L : ℕ) → outcome_weight run x L ≡ 0
  pub enough : Suffices run (l.rounds * longest l.turns l.attempts p.body)

-- at every length that suffices they weigh no less than what the row says, but for 1 / k
abbrev pub AreWithin : ℕ → (List Bool → Answer) → Rows → Type 0
AreWithin k run rows =
    (x : Outcome) (f : Fraction) → Contains rows (x, f) → (L : ℕ) → Suffices run L → AtMost f (plus (weight_at run x L) (1, k))

-- for whatever answers on bits as the run of the program does under limits of one turn or more; and within 1 / k from some limits on
pub record StringsTend (p : SourceProgram) (rows : Rows) (k : ℕ) : Type 0 where
  pub below : (l : Limits) (run : List Bool → Answer) → ((w : List Bool) → run w ≡ run_on p l w) → 1 ≤ l.turns
      → StayBelow run p l rows
  pub least : ℕ
  pub within : (l : Limits) (run : List Bool → Answer) → ((w : List Bool) → run w ≡ run_on p l w) → AreGreat p least (2 * k) l
      → AreWithin k run rows
