-- An audit beside the masses of the program.
use Rattle.std.specs.Prelude.{◌≡◌, ◌^◌, ℕ}
use Rattle.gcl_core.specs.declared.answers.Limits.{Limits}
use Rattle.gcl_core.specs.declared.answers.Outcome.{Outcome}
use Rattle.gcl_core.specs.weighing.Fractions.{IsShare, IsWithinShare}
use Rattle.gcl_core.specs.meaning.Syntax.{SourceProgram}
use Rattle.weighing_law.specs.Weighing.{limited_mass}
use Rattle.audit_walk.specs.Rows.{Rows, row_count}

-- Each count has at most the share of all strings that is the mass of its outcome, and just that share where nothing is
-- undecided. An outcome that has no row counts 0.
pub record ShowsMasses (p : SourceProgram) (l : Limits) (depth : ℕ) (rows : Rows) (undecided : ℕ) : Type 0 where
  pub within : (x : Outcome) → IsWithinShare (row_count x rows) (2 ^ depth) (limited_mass p l x)
  pub exact : undecided ≡ 0 → (x : Outcome) → IsShare (row_count x rows) (2 ^ depth) (limited_mass p l x)
