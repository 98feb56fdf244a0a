-- The lines of bounds between which masses lie, outcomes ascending, with d decimals.
use Rattle.std.specs.Prelude.{◌≡◌, ℕ, Bool, All, List, Option, IfNone}
use Rattle.units_law.specs.FewOthers.{HaveLittle}
use Rattle.units_law.specs.Holding.{IsFor, MayEnd, AreOrdered, Enclose, AreClose, most_apart}
use Rattle.gcl_core.specs.meaning.Syntax.{SourceProgram}
use Rattle.gcl_core.specs.weighing.Fractions.{Fraction, IsBelowOne}
use Rattle.gcl_core.specs.weighing.Mass.{failed_mass}
use Rattle.forgetting.specs.Forgetful.{forgetful_of}
use Rattle.bounds_law.specs.Rows.{Rows}
use Rattle.mass_lines.specs.BoundLines.{bound_lines}
use Rattle.mass_lines.specs.Narrow.{IsNarrow}

-- Those of rows of bounds, outcomes ascending, each of a possible outcome. The masses lie between them, for all turns at every greater
-- limit of turns too. Two bounds are no further apart than what all others have at most, but for some units; and that is no more than
-- what ran out of turns, for all turns, and what the roundings of the forgetful program may lose. Without a limit of rounds there are
-- none where every round fails.
pub record AreEnclosedLines (p : SourceProgram) (n : ℕ) (r R : Option ℕ) (all_turns : Bool) (d : ℕ) (text : List ℕ) : Type 0 where
  pub rows : Rows
  pub other : Fraction
  pub ordered : AreOrdered rows other
  pub narrow : All (λ row. IsNarrow row.1 × IsNarrow row.2) rows
  pub narrow_others : IsNarrow other
  pub passes : IfNone R (IsBelowOne (failed_mass p n r))
  pub enclose : (n' : ℕ) → IsFor all_turns n n' → MayEnd p n' r R → Enclose p n' r R rows other
  pub close : AreClose (most_apart R) rows other
  pub few : HaveLittle (forgetful_of p) n r R all_turns other
  pub lines : text ≡ bound_lines d rows other
