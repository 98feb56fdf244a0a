-- What one turn of a loop shows of the visits that were found for it.
use Rattle.std.specs.Prelude.{◌≡◌, Bool, true, false, not, Option, Some, None, List, [], ◌∷◌}
use Rattle.gcl_core.specs.meaning.Blocks.{End}
use Rattle.gcl_core.specs.meaning.Value.{State, Value}
use Rattle.gcl_core.specs.weighing.Fractions.{Fraction}
use Rattle.gcl_core.specs.weighing.WeightedEnds.{Weighted, sure}
use Rattle.table_flow.specs.Tables.{Table, holds}
use Rattle.mass_fold.specs.declared.ended.Ended.{Ended}
use Rattle.mass_fold.specs.inner.Amounts.{Entries, order, found}
use Rattle.unlimited_law.specs.Alike.{Alike}
use Rattle.unlimited_law.specs.Settling.{Outflow, EachState, Within, LoopSettles}
use Rattle.exact_fold.specs.inner.Settled.{as_table, AreAbove, SettlesFrom}

-- whether a state has an entry
abbrev pub there : Option Fraction → Bool
there None = false
there (Some f) = true

abbrev pub inside : Entries → State → Bool
inside es s = there (found order s es)

abbrev pub outside : Entries → State → Bool
outside es s = not (inside es s)

abbrev pub keys_in : Entries → List State
keys_in [] = []
keys_in (e ∷ es) = e.0 ∷ keys_in es

-- one turn of the body from this state ends nothing, and leads to none but these states; and the guard holds
abbrev pub StaysIn : (State → Value) → (Table → Outflow → Type 0) → List State → State → Type 0
StaysIn guard Body D s = (holds guard s ≡ true) × (h : Outflow) × Body (sure s) h × Alike h.ended [] × Within D h.next

-- no state of these is ever left
abbrev pub IsClosed : (State → Value) → (Table → Outflow → Type 0) → List State → Type 0
IsClosed guard Body D = EachState (StaysIn guard Body D) D

-- what one turn of a loop shows of it, where the states of D are never left
abbrev pub TurnsTo : (State → Value) → (Table → Outflow → Type 0) → Entries → Entries → Ended → Entries → Ended → Type 0
TurnsTo guard Body D es E fs F = IsClosed guard Body (keys_in D) → SettlesFrom (LoopSettles Alike Alike guard Body) es E fs F

-- one state with all weight
abbrev pub Alone : State → Entries → Type 0
Alone s es = AreAbove es × Alike (as_table es) (sure s)

-- no weight is above 0
abbrev pub NothingIn : Weighted End → Type 0
NothingIn [] = Unit {0}
NothingIn (e ∷ m) = (e.0.0 ≡ 0) × NothingIn m

abbrev pub AllInside : Entries → Entries → Type 0
AllInside D [] = Unit {0}
AllInside D (e ∷ es) = (inside D e.0 ≡ true) × AllInside D es
