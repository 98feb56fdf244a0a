-- What runs in a row weigh: the law of independent draws, in whole numbers.
use Rattle.std.specs.Prelude.{◌≡◌, ℕ, ◌*◌, ◌^◌, Bool, true, false, ◌&&◌, List, [], ◌∷◌, length}
use Rattle.gcl_core.specs.declared.answers.Limits.{Limits}
use Rattle.gcl_core.specs.declared.answers.Outcome.{Outcome}
use Rattle.gcl_core.specs.meaning.Outcomes.{same_outcome}
use Rattle.gcl_core.specs.meaning.Reading.{Reading, gives, more_bits}
use Rattle.gcl_core.specs.meaning.Syntax.{SourceProgram}
use Rattle.gcl_core.specs.weighing.Fractions.{Fraction, one, times, IsShare, IsWithinShare}
use Rattle.gcl_core.specs.weighing.LongestReading.{longest}
use Rattle.weighing_law.specs.Counting.{strings_that}
use Rattle.weighing_law.specs.Weighing.{limited_mass}
use Rattle.many_runs.specs.InARow.{runs_in_a_row}

-- ---- how many strings

abbrev pub same_outcomes : List Outcome → List Outcome → Bool
same_outcomes [] [] = true
same_outcomes (x ∷ xs) (y ∷ ys) = same_outcome x y && same_outcomes xs ys
same_outcomes _ _ = false

-- a reading ends in what is meant
abbrev pub ends_as : {A : Type 0} → (A → Bool) → Reading A → Bool
ends_as meant (gives a rest) = meant a
ends_as meant more_bits = false

-- on so many strings of L bits the runs in a row end in these outcomes, in this order
abbrev pub ended_in_row : SourceProgram → Limits → List Outcome → ℕ → ℕ
ended_in_row p l xs L = strings_that (λ w. ends_as (same_outcomes xs) (runs_in_a_row p l (length xs) w)) L

-- on no string of L bits do k runs in a row need more
abbrev pub SufficesInARow : SourceProgram → Limits → ℕ → ℕ → Type 0
SufficesInARow p l k L = (w : List Bool) → length w ≡ L → runs_in_a_row p l k w ≡ more_bits → ⊥

-- ---- the law

abbrev pub product : (Outcome → Fraction) → List Outcome → Fraction
product mass [] = one
product mass (x ∷ xs) = times (mass x) (product mass xs)

-- Of the 2 ^ L strings of L bits those on which runs in a row end in some outcomes are never more than 2 ^ L times the product of
-- their masses, and exactly so many at every length that suffices. For k runs such a length is k times one that suffices for a
-- run.
pub record RowsWeighExactly (p : SourceProgram) (l : Limits) : Type 0 where
  pub within : (xs : List Outcome) (L : ℕ) → IsWithinShare (ended_in_row p l xs L) (2 ^ L) (product (limited_mass p l) xs)
  pub exact : (xs : List Outcome) (L : ℕ) → SufficesInARow p l (length xs) L →
      IsShare (ended_in_row p l xs L) (2 ^ L) (product (limited_mass p l) xs)
  pub enough : (k : ℕ) → SufficesInARow p l k (k * (l.rounds * longest l.turns l.attempts p.body))
