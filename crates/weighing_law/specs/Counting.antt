-- The weighing law as counts of strings: how many of the 2 ^ L strings of L bits end in an outcome.
use Rattle.std.specs.Prelude.{ℕ, zero, suc, ◌+◌, ◌^◌, Bool, true, false, List, [], ◌∷◌, if◌then◌else◌}
use Rattle.gcl_core.specs.declared.answers.Answer.{Answer}
use Rattle.gcl_core.specs.declared.answers.Limits.{Limits}
use Rattle.gcl_core.specs.declared.answers.Outcome.{Outcome}
use Rattle.gcl_core.specs.weighing.Fractions.{IsShare, IsWithinShare}
use Rattle.gcl_core.specs.meaning.Syntax.{SourceProgram}
use Rattle.weighing_law.specs.Prefixes.{has_ended_in}
use Rattle.weighing_law.specs.Weighing.{Suffices, limited_mass}

-- how many strings of h bits pass: those that begin with 0, and those that begin with 1
abbrev pub strings_that : (List Bool → Bool) → ℕ → ℕ
strings_that test zero = if test [] then 1 else 0
strings_that test (suc h) = strings_that (λ v. test (false ∷ v)) h + strings_that (λ v. test (true ∷ v)) h

-- on how many strings of L bits the run has ended in the outcome
abbrev pub ended_in : (List Bool → Answer) → Outcome → ℕ → ℕ
ended_in run x L = strings_that (λ w. has_ended_in x (run w)) L

-- The strings of L bits that end in an outcome are never more than 2 ^ L times its mass, and exactly that many at every length
-- that suffices.
pub record CountsMasses (run : List Bool → Answer) (p : SourceProgram) (l : Limits) : Type 0 where
  pub within : (x : Outcome) (L : ℕ) → IsWithinShare (ended_in run x L) (2 ^ L) (limited_mass p l x)
  pub exact : (x : Outcome) (L : ℕ) → Suffices run L → IsShare (ended_in run x L) (2 ^ L) (limited_mass p l x)
