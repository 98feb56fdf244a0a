-- What the fold of a program's body gives.
use Rattle.std.specs.Prelude.{◌≡◌, ℕ, Option}
use Rattle.gcl_core.specs.meaning.Syntax.{SourceProgram}
use Rattle.gcl_core.specs.meaning.Blocks.{End}
use Rattle.gcl_core.specs.meaning.Value.{State}
use Rattle.units_law.specs.Down.{down}
use Rattle.units_law.specs.Rounds.{round_units}
use Rattle.units_law.specs.Units.{Units, held}
use Rattle.enclose_fold.specs.declared.ended.Ended.{Ended}
use Rattle.enclose_fold.specs.inner.Ended.{units_of}

-- the table after one round, and what ended in it
pub record BodyGives (p : SourceProgram) (n : ℕ) (r : Option ℕ) (es : Units State) (E : Ended) : Type 0 where
  pub next : es ≡ (round_units down p n r).next
  pub ended : (G : End → ℕ) → held G (units_of E) ≡ held G (round_units down p n r).ended
