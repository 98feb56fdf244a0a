-- The masses of a program in the limit of turns, as rows. This project's own rule.
use Rattle.std.specs.Prelude.{◌≡◌, ◌≤◌, [], ◌∷◌}
use Rattle.numbers.specs.Fraction.{IsEqual, lowest}
use Rattle.gcl_core.specs.declared.answers.Limit.{Limit}
use Rattle.gcl_core.specs.declared.answers.Outcome.TheVariants as outcome
use Rattle.gcl_core.specs.meaning.Outcomes.{same_outcome}
use Rattle.gcl_core.specs.meaning.Syntax.{SourceProgram}
use Rattle.gcl_core.specs.weighing.Fractions.{Fraction, zero_share, one, plus, AtMost, IsBelowOne}
use Rattle.mass_fold.specs.Rows.{Rows, AreMasses}
use Rattle.unlimited_law.specs.Settling.{Outflow}
use Rattle.unlimited_law.specs.SettledMasses.{ProgramSettles, settled_failed, settled_mass, endless_mass}

-- the sum of the weights of rows
abbrev pub all_of : Rows → Fraction
all_of [] = zero_share
all_of (row ∷ rows) = plus row.1 (all_of rows)

-- The rows are the masses of what the program settles to, where a round fails with less than all weight, and what runs for ever
-- is what these leave of 1. No limit has a mass.
pub record IsExact (p : SourceProgram) (rows : Rows) (endless : Fraction) : Type 0 where
  pub settled : Outflow
  pub settles : ProgramSettles p settled
  pub passes : IsBelowOne (settled_failed p settled)
  pub masses : AreMasses (λ x. settled_mass p settled (same_outcome x)) rows
  pub rest : endless ≡ lowest (endless_mass p settled)
  pub no_limit : (k : Limit) → (settled_mass p settled (same_outcome (outcome.Limit k))).0 ≡ 0
  pub sum : IsEqual (plus (all_of rows) endless) one

-- the body settles, and a round fails with all weight
pub record FailsAlways (p : SourceProgram) : Type 0 where
  pub settled : Outflow
  pub settles : ProgramSettles p settled
  pub fails : AtMost one (settled_failed p settled)

-- the body settles, and a round fails with this weight
pub record FailsWith (p : SourceProgram) (f : Fraction) : Type 0 where
  pub settled : Outflow
  pub settles : ProgramSettles p settled
  pub fails : IsEqual f (settled_failed p settled)
  pub fraction : 1 ≤ (settled_failed p settled).1
