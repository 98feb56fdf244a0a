-- Bounds of a program itself, before anything is forgotten, and why they are refused. This project's own rule.
use Rattle.std.specs.Prelude.{◌≡◌, ℕ, ◌<◌, Bool, Option, None, IfNone}
use Rattle.gcl_core.specs.meaning.Syntax.{SourceProgram}
use Rattle.gcl_core.specs.weighing.Fractions.{Fraction, AtMost, IsBelowOne, IsOne, one}
use Rattle.gcl_core.specs.weighing.Mass.{failed_mass}
use Rattle.table_flow.specs.Tables.{peak_of}
use Rattle.mass_fold.specs.declared.table.TheConstants.{MOST_STATES}
use Rattle.bounds_law.specs.Rows.{Rows}
use Rattle.units_law.specs.FewOthers.{HaveLittle, NearlyFails}
use Rattle.units_law.specs.Holding.{IsFor, MayEnd, AreOrdered, Enclose, AreClose, most_apart}
use Rattle.enclose_fold.specs.declared.error.EncloseError.{EncloseError}
use Rattle.enclose_fold.specs.declared.error.EncloseError.TheVariants.{TooManyStates, AllFailed, TooUnlikely, OutOfMemory}

-- bounds that hold, by units or by pairs
pub record AreAnswers (p : SourceProgram) (n : ℕ) (r R : Option ℕ) (all_turns : Bool) (rows : Rows) (other : Fraction) : Type 0 where
  pub ordered : AreOrdered rows other
  pub passes : IfNone R (IsBelowOne (failed_mass p n r))
  pub enclose : (n' : ℕ) → IsFor all_turns n n' → MayEnd p n' r R → Enclose p n' r R rows other
  pub close : AreClose (most_apart R) rows other
  pub few : HaveLittle p n r R all_turns other

-- bounds by pairs
pub record ArePaired (p : SourceProgram) (n : ℕ) (r : Option ℕ) (all_turns : Bool) (rows : Rows) (other : Fraction) : Type 0 where
  pub ordered : AreOrdered rows other
  pub passes : IsBelowOne (failed_mass p n r)
  pub enclose : (n' : ℕ) → IsFor all_turns n n' → Enclose p n' r None rows other
  pub close : AreClose (most_apart None) rows other
  pub most : AtMost other one

abbrev pub RefusedAsWritten : EncloseError → SourceProgram → ℕ → Option ℕ → Option ℕ → Type 0
RefusedAsWritten TooManyStates p n r R = MOST_STATES < peak_of p n r
RefusedAsWritten AllFailed p n r R = (R ≡ None) × IsOne (failed_mass p n r)
RefusedAsWritten TooUnlikely p n r R = (R ≡ None) × NearlyFails p n r
RefusedAsWritten OutOfMemory p n r R = Unit {0}
