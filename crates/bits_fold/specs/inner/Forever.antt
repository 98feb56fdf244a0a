-- Why a block comes to no table, as the code says it.
use Rattle.std.specs.Prelude.{◌≡◌, ◌++◌}
use Rattle.gcl_core.specs.meaning.Syntax.{SourceProgram}
use Rattle.gcl_core.specs.meaning.Value.{State, Value}
use Rattle.gcl_core.specs.weighing.Fractions.{Fraction}
use Rattle.table_flow.specs.Tables.{Table}
use Rattle.mass_fold.specs.inner.Amounts.{Entries}
use Rattle.unlimited_law.specs.Alike.{Alike}
use Rattle.exact_fold.specs.inner.Settled.{as_table, AreAbove}
use Rattle.bits_law.specs.Forever.{GoesRound, LoopForever, CostsForever}
use Rattle.bits_law.specs.Price.{Price}
use Rattle.bits_fold.specs.declared.stop.Stop.{Stop}
use Rattle.bits_fold.specs.declared.stop.Stop.TheVariants as stop

-- where it says that it costs something for ever, it does
pub record StopsFrom (Forever : Table → Type 0) (es : Entries) (s : Stop) : Type 0 where
  pub forever : s ≡ stop.ReadsForever → AreAbove es → Forever (as_table es)

-- so does a round of a program
pub record RoundStops (price : Price) (p : SourceProgram) (s : Stop) : Type 0 where
  pub forever : s ≡ stop.ReadsForever → CostsForever price p

module _ (guard : State → Value) (Body : Table → Table → Fraction → Type 0) where
  -- a part of the table goes round
  abbrev pub Rounds : Entries → Type 0
  Rounds es = AreAbove es → (S : Table) × (rest : Table) × Alike (as_table es) (S ++ rest) × GoesRound guard Body S

  -- a loop begun with the table reads for ever
  abbrev pub LoopStops : (Table → Type 0) → Entries → Type 0
  LoopStops BodyForever es = AreAbove es → LoopForever guard Body BodyForever (as_table es)
