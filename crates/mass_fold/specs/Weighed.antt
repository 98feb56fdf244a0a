-- Rows of masses beside the weights of strings: what the strings of bits weigh on which a run ends in an outcome. This project's
-- own rule.
use Rattle.std.specs.Prelude.{◌≡◌, ℕ, ◌^◌, Bool, List, Contains}
use Rattle.gcl_core.specs.declared.answers.Answer.{Answer}
use Rattle.gcl_core.specs.declared.answers.Outcome.{Outcome}
use Rattle.gcl_core.specs.weighing.Fractions.{Fraction, IsShare, IsWithinShare}
use Rattle.gcl_core.specs.weighing.StringWeight.{outcome_weight}
use Rattle.weighing_law.specs.Weighing.{Suffices}
use Rattle.mass_fold.specs.Rows.{Rows}

pub record AreWeighed (run : List Bool → Answer) (rows : Rows) : Type 0 where
  -- the strings that end in the outcome of a row weigh at most what the row says,
  pub within : (x : Outcome) (f : Fraction) → Contains rows (x, f) → (L : ℕ) → IsWithinShare (outcome_weight run x L) (2 ^ L) f
  -- and exactly that at every length that suffices,
  pub exact : (x : Outcome) (f : Fraction) → Contains rows (x, f) → (L : ℕ) → Suffices run L
      → IsShare (outcome_weight run x L) (2 ^ L) f
  -- and no string ends in an outcome that has no row
  pub others : (x : Outcome) → ((f : Fraction) → Contains rows (x, f) → ⊥) → (L : ℕ) → outcome_weight run x L ≡ 0
