-- What a round comes to in the limit of turns, as rows, and what they come to over what does not fail.
use Rattle.std.specs.Prelude.{◌≡◌, ℕ, ◌-◌, ◌≤◌, ◌<◌}
use Rattle.numbers.specs.Fraction.{IsEqual}
use Rattle.numbers.specs.Arithmetic.{InLowest}
use Rattle.gcl_core.specs.meaning.Syntax.{SourceProgram}
use Rattle.gcl_core.specs.weighing.Fractions.{Fraction}
use Rattle.gcl_core.specs.weighing.Mass.{ends_in}
use Rattle.table_flow.specs.Scale.{whole, Whole}
use Rattle.mass_fold.specs.Amounts.{held, AreHeld}
use Rattle.mass_fold.specs.Rows.{Rows, Ascending, EachLowest}
use Rattle.mass_fold.specs.inner.Masses.{HoldMasses}
use Rattle.mass_fold.specs.inner.Rounds.{TableParts, OverRest}
use Rattle.unlimited_law.specs.Settling.{Outflow}
use Rattle.unlimited_law.specs.SettledMasses.{ProgramSettles, settled_weight, settled_failed}
use Rattle.exact_fold.specs.inner.Settled.{AreUnlimited}

-- the sum of the weights
abbrev pub SumsTo : Rows → Fraction → Type 0
SumsTo rows v = (N : ℕ) → 0 < N → AreHeld N rows → Whole N v × (whole N v ≡ held N (λ x. 1) rows)

-- the rows of one round, at a scale, with the weight of a failed one
pub record RoundOf (p : SourceProgram) (rows : Rows) (f : Fraction) : Type 0 where
  pub outflow : Outflow
  pub settles : ProgramSettles p outflow
  pub unlimited : AreUnlimited outflow.ended
  pub scale : ℕ
  pub holds : HoldMasses scale (λ meant. settled_weight (ends_in p.result meant) outflow) rows
  pub part : Whole scale f
  pub failed : IsEqual f (settled_failed p outflow)
  pub fails : 0 < (settled_failed p outflow).1

-- what rows come to over what does not fail, and what these leave of 1
pub record DividesTo (rows : Rows) (f : Fraction) (masses : Rows) (endless : Fraction) : Type 0 where
  pub parts : (N : ℕ) → 0 < N → AreHeld N rows → Whole N f → TableParts N rows f
  pub over : OverRest f rows masses
  pub ascending : Ascending masses
  pub each : EachLowest masses
  pub sum : Fraction
  pub sums : SumsTo masses sum
  pub small : sum.0 ≤ sum.1
  pub some : 1 ≤ sum.1
  pub left : IsEqual endless (sum.1 - sum.0, sum.1)
  pub low : InLowest endless
