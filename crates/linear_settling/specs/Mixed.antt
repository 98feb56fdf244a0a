-- Outflows that are put together: the first by a weight, and one from each state by its weight.
use Rattle.std.specs.Prelude.{List, [], ◌∷◌, ◌++◌}
use Rattle.gcl_core.specs.meaning.Syntax.{Statements}
use Rattle.gcl_core.specs.meaning.Value.{State}
use Rattle.gcl_core.specs.weighing.Fractions.{Fraction, zero_share, plus, times}
use Rattle.gcl_core.specs.weighing.WeightedEnds.{sure, scaled}
use Rattle.table_flow.specs.Tables.{Table}
use Rattle.unlimited_law.specs.Settling.{Outflow}
use Rattle.unlimited_law.specs.SettledMasses.{Settles}

abbrev pub no_outflow : Outflow
no_outflow = record { next = []; ended = []; turns = zero_share }

-- the first by a weight, and the second as it is
abbrev pub mixed : Fraction → Outflow → Outflow → Outflow
mixed w f g = record {
  next = scaled w f.next ++ g.next;
  ended = scaled w f.ended ++ g.ended;
  turns = plus (times w f.turns) g.turns;
}

-- a state with its weight in a table, and an outflow from the state alone
pub record Source : Type 0 where
  pub weight : Fraction
  pub state : State
  pub outflow : Outflow

-- the table of the states
abbrev pub table_of : List Source → Table
table_of [] = []
table_of (e ∷ m) = (e.weight, e.state) ∷ table_of m

-- their outflows together, each by the weight of its state
abbrev pub together : List Source → Outflow
together [] = no_outflow
together (e ∷ m) = mixed e.weight e.outflow (together m)

-- from each state alone the block settles to the outflow
abbrev pub SettlesEach : Statements → List Source → Type 0
SettlesEach b [] = Unit {0}
SettlesEach b (e ∷ m) = Settles b (sure e.state) e.outflow × SettlesEach b m
