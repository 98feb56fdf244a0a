-- What the code makes of a table with each state once, where a block settles.
use Rattle.std.specs.Prelude.{◌≤◌, ◌<◌, ◌≡◌, [], ◌∷◌, ◌++◌}
use Rattle.gcl_core.specs.meaning.Blocks.{End, on, failed, fault, limit}
use Rattle.gcl_core.specs.meaning.Syntax.{SourceProgram}
use Rattle.gcl_core.specs.weighing.Fractions.{Fraction}
use Rattle.gcl_core.specs.weighing.WeightedEnds.{Weighted}
use Rattle.table_flow.specs.Tables.{Table}
use Rattle.mass_fold.specs.declared.ended.Ended.{Ended}
use Rattle.mass_fold.specs.inner.Amounts.{Entries}
use Rattle.mass_fold.specs.inner.Ended.{rows_of}
use Rattle.unlimited_law.specs.Alike.{AreFractions, Alike}
use Rattle.unlimited_law.specs.Settling.{Outflow}
use Rattle.unlimited_law.specs.SettledMasses.{ProgramSettles}

-- the entries as a list of states
abbrev pub as_table : Entries → Table
as_table [] = []
as_table (e ∷ es) = (e.1, e.0) ∷ as_table es

-- each weight is a fraction above 0
abbrev pub AreAbove : Entries → Type 0
AreAbove [] = Unit {0}
AreAbove (e ∷ es) = (0 < e.1.0) × (0 < e.1.1) × AreAbove es

abbrev pub IsUnlimited : End → Type 0
IsUnlimited (on s) = Unit {0}
IsUnlimited failed = Unit {0}
IsUnlimited (fault f) = Unit {0}
IsUnlimited (limit l) = ⊥

-- nothing has ended at a limit
abbrev pub AreUnlimited : Weighted End → Type 0
AreUnlimited [] = Unit {0}
AreUnlimited (e ∷ m) = IsUnlimited e.1 × AreUnlimited m

-- The table es settles to the table fs, and to some ends that were added to E. Settle is the relation of a statement or a
-- block.
pub record SettlesTo (Settle : Table → Outflow → Type 0) (es : Entries) (E : Ended) (fs : Entries) (F : Ended) : Type 0 where
  pub above : AreAbove fs
  pub ended : Weighted End
  pub turns : Fraction
  pub some : 1 ≤ turns.1
  pub settles : Settle (as_table es) (record { next = as_table fs; ended = ended; turns = turns })
  pub adds : Alike (rows_of F) (rows_of E ++ ended)
  pub unlimited : AreUnlimited ended

abbrev pub SettlesFrom : (Table → Outflow → Type 0) → Entries → Ended → Entries → Ended → Type 0
SettlesFrom Settle es E fs F = AreAbove es → AreFractions (rows_of E) → SettlesTo Settle es E fs F

-- the body of a program settles to these states and these ends
pub record ProgramSettlesTo (p : SourceProgram) (fs : Entries) (F : Ended) : Type 0 where
  pub outflow : Outflow
  pub settles : ProgramSettles p outflow
  pub next : outflow.next ≡ as_table fs
  pub ends : Alike (rows_of F) outflow.ended
  pub above : AreAbove fs
  pub unlimited : AreUnlimited outflow.ended
