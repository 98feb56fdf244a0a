-- What strings of bits weigh in any two runs comes together as the limits grow: Cauchy's condition, in whole numbers, for that it
-- tends to one real number for each value and each fault. This project's own rule.
use Rattle.std.specs.Prelude.{◌≡◌, ℕ, ◌*◌, ◌≤◌, Bool, true, List}
use Rattle.gcl_core.specs.declared.answers.Answer.{Answer}
use Rattle.gcl_core.specs.declared.answers.Limits.{Limits}
use Rattle.gcl_core.specs.declared.answers.Outcome.{Outcome}
use Rattle.gcl_core.specs.meaning.Runs.{run_on}
use Rattle.gcl_core.specs.meaning.Syntax.{SourceProgram}
use Rattle.gcl_core.specs.weighing.Fractions.{plus, AtMost, IsBelowOne}
use Rattle.weighing_law.specs.Weighing.{Suffices}
use Rattle.weighing_law.specs.CutOff.{enough_attempts, enough_rounds}
use Rattle.bounds_law.specs.PosteriorBounds.{fails, upper_of_others}
use Rattle.gcl_core.specs.meaning.Outcomes.{is_settled}
use Rattle.string_bounds.specs.StringBounds.{weight_at}

-- the bound of all others goes to 0: for each k it is at most 1 / k at some limit of turns, at which a round fails with
-- probability below 1
abbrev pub OthersVanish : SourceProgram → Type 0
OthersVanish p = (k : ℕ) → (n : ℕ) × IsBelowOne (fails p n) × AtMost (upper_of_others p n) (1, k)

-- n turns or more, and so many attempts and rounds that these two limits weigh at most 1 / k
pub record AreGreat (p : SourceProgram) (n k : ℕ) (l : Limits) : Type 0 where
  pub turns : n ≤ l.turns
  pub attempts : enough_attempts p l.turns k ≤ l.attempts
  pub rounds : enough_rounds p l.turns k ≤ l.rounds

-- From some limits on a value or a fault weighs in one run at most 1 / k more than in another, at lengths that suffice.
abbrev pub ComeTogether : SourceProgram → ℕ → Type 0
ComeTogether p k =
    (n : ℕ) × ((l l' : Limits) (run other : List Bool → Answer) → ((w : List Bool) → run w ≡ run_on p l w) →
    ((w : List Bool) → other w ≡ run_on p l' w) → AreGreat p n (2 * k) l → AreGreat p n (2 * k) l' →
    (x : Outcome) (L M : ℕ) → is_settled x ≡ true → Suffices run L → Suffices other M →
    AtMost (weight_at run x L) (plus (weight_at other x M) (1, k)))
