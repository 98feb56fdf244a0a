-- What a block settles to is so up to what weighs the same: as a table in which equal states are one entry, or turns in lowest terms.
use Rattle.std.proofs.Common.{◌≤◌, arith}
use Rattle.numbers.specs.Fraction.{IsEqual}
use Rattle.numbers.proofs.Divisors.{equal_trans}
use Rattle.gcl_core.specs.meaning.Syntax.{Statements, done, ◌▸◌}
use Rattle.gcl_core.specs.meaning.Blocks.{End}
use Rattle.gcl_core.specs.weighing.Fractions.{Fraction}
use Rattle.gcl_core.specs.weighing.Mass.{sum_of}
use Rattle.gcl_core.specs.weighing.WeightedEnds.{Weighted}
use Rattle.table_flow.specs.Tables.{Table}
use Rattle.unlimited_law.specs.Alike.{Alike}
use Rattle.unlimited_law.specs.Settling.{Outflow, IsOutflow}
use Rattle.unlimited_law.specs.SettledMasses.{Settles}
use Rattle.unlimited_law.proofs.SameWeights.{sum_some}

pub alike_trans : {A : Type 0} (m o q : Weighted A) → Alike m o → Alike o q → Alike m q
alike_trans m o q h k = record {
  each = λ event. equal_trans (sum_of event m) (sum_of event o) (sum_of event q) (sum_some event o h.second) (h.each event) (k.each event);
  first = h.first;
  second = k.second;
}

-- an outflow that weighs the same
pub record Like (f g : Outflow) : Type 0 where
  pub next : Alike f.next g.next
  pub ended : Alike f.ended g.ended
  pub turns : IsEqual f.turns g.turns
  pub fraction : 1 ≤ f.turns.1

outflow_like : (f g : Outflow) (after : Table) (gone : Weighted End) (cost : Fraction) → Like f g → IsOutflow Alike Alike g after gone cost → IsOutflow Alike Alike f after gone cost
outflow_like f g after gone cost l o = record {
  next = alike_trans f.next g.next after l.next o.next;
  ended = alike_trans f.ended g.ended gone l.ended o.ended;
  turns = equal_trans f.turns g.turns cost (let z = o.fraction in omega arith) l.turns o.turns;
  fraction = l.fraction;
}

pub settles_like : (b : Statements) (I : Table) (f g : Outflow) → Like f g → Settles b I g → Settles b I f
settles_like done I f g l o = outflow_like f g _ _ _ l o
settles_like (st ▸ b) I f g l o = (o.0, o.1, o.2, o.3, outflow_like f g _ _ _ l o.4)
