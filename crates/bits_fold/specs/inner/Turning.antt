-- What one turn of a loop shows of the visits that were found for it.
use Rattle.std.specs.Prelude.{◌≡◌, true, List, ◌++◌}
use Rattle.gcl_core.specs.meaning.Value.{State, Value}
use Rattle.gcl_core.specs.weighing.Fractions.{Fraction}
use Rattle.gcl_core.specs.weighing.WeightedEnds.{sure}
use Rattle.table_flow.specs.Tables.{Table, holds, fails, only}
use Rattle.mass_fold.specs.inner.Amounts.{Entries}
use Rattle.unlimited_law.specs.Alike.{Alike}
use Rattle.unlimited_law.specs.Settling.{Within}
use Rattle.exact_fold.specs.inner.Settled.{as_table, AreAbove}
use Rattle.exact_fold.specs.inner.Turning.{keys_in}
use Rattle.bits_law.specs.Reading.{AreVisits}

module _ (guard : State → Value) (Body : Table → Table → Fraction → Type 0) where
  -- one turn of the body from this state reads nothing, and leads to none but these states; and the guard holds
  abbrev pub IsSilent : List State → State → Type 0
  IsSilent D s = (holds guard s ≡ true) × (K : Table) × (bits : Fraction) × Body (sure s) K bits × (bits.0 ≡ 0) × Within D K

  -- the loop begun with es has the visits vs, where the states of D are silent, reads so many bits, and is left with xs
  pub record HasVisits (D es vs xs : Entries) (bits : Fraction) : Type 0 where
    pub visits_above : AreAbove vs
    pub exits_above : AreAbove xs
    pub visits : AreVisits guard Body (keys_in D) (as_table es) (as_table vs) bits
    pub exits : Alike (as_table xs) (only (fails guard) (as_table vs))

  abbrev pub VisitsFrom : Entries → Entries → Entries → Entries → Fraction → Type 0
  VisitsFrom D es vs xs bits = AreAbove es → HasVisits D es vs xs bits

  -- the loop begun with vs, and maybe with more, has visits
  abbrev pub MayBegin : Entries → Entries → Type 0
  MayBegin D vs = AreAbove vs → (more : Table) × (again : Table) × (most : Fraction) × AreVisits guard Body (keys_in D) (as_table vs ++ more) again most
