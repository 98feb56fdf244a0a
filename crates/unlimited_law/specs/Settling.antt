-- What becomes of a table in a block in the limit, as its loops may take more and more turns. For each loop a table of expected
-- visits is given: how often its guard is evaluated in each state. This project's own rule.
use Rattle.std.specs.Prelude.{◌≡◌, ◌⊎◌, ℕ, ◌-◌, ◌≤◌, true, List, [], ◌∷◌, ◌++◌, None}
use Rattle.std.specs.List.{sum}
use Rattle.numbers.specs.Fraction.{IsEqual}
use Rattle.gcl_core.specs.meaning.Arms.{parts_of}
use Rattle.gcl_core.specs.meaning.Syntax.{Statement, Skip, Set, If, While, Choice, Choose, Uniform, Observe, Statements, done, ◌▸◌, ArmList, no_arm, arm}
use Rattle.gcl_core.specs.meaning.Value.{State, Value, value_of}
use Rattle.gcl_core.specs.meaning.Blocks.{End}
use Rattle.gcl_core.specs.weighing.Fractions.{Fraction, zero_share, plus}
use Rattle.gcl_core.specs.weighing.Mass.{sum_of}
use Rattle.gcl_core.specs.weighing.WeightedEnds.{Weighted, sure, scaled, class_weight}
use Rattle.table_flow.specs.Tables.{Table, holds, fails, only, faults, statement_flow}

-- The table after a block, the entries that ended, and the number of turns that its loops complete by the visits that are given. It is
-- more than the expected number where the visits are more: what goes round in a circle that nothing enters balances, too.
pub record Outflow : Type 0 where
  pub next : Table
  pub ended : Weighted End
  pub turns : Fraction

abbrev pub total : Table → Fraction
total I = sum_of (λ s. true) I

-- ---- a set of states that a loop does not leave
abbrev pub EachState : (State → Type 0) → List State → Type 0
EachState Fact [] = Unit {0}
EachState Fact (s ∷ D) = Fact s × EachState Fact D

abbrev pub StandsIn : List State → State → Type 0
StandsIn [] s = ⊥
StandsIn (t ∷ D) s = (s ≡ t) ⊎ StandsIn D s

abbrev pub Within : List State → Table → Type 0
Within D [] = Unit {0}
Within D (e ∷ I) = StandsIn D e.1 × Within D I

-- for any two relations that say when two tables, and when two lists of ends, are the same
module _ (SameTable : Table → Table → Type 0) (SameEnds : Weighted End → Weighted End → Type 0) where
  pub record IsOutflow (f : Outflow) (after : Table) (gone : Weighted End) (cost : Fraction) : Type 0 where
    pub next : SameTable f.next after
    pub ended : SameEnds f.ended gone
    pub turns : IsEqual f.turns cost
    pub fraction : 1 ≤ f.turns.1

  -- a statement of which no other is a part, by its flow
  abbrev pub SettlesAlone : Statement → Table → Outflow → Type 0
  SettlesAlone st I f = IsOutflow f (statement_flow 0 None st I).next (statement_flow 0 None st I).ended zero_share

  abbrev pub SettlesBoth : Weighted End → Outflow → Outflow → Outflow → Type 0
  SettlesBoth ended g h f = IsOutflow f (g.next ++ h.next) (ended ++ (g.ended ++ h.ended)) (plus g.turns h.turns)

  -- A loop. What comes into it and what its body leads back are together its visits and what enters a set of states that it
  -- never leaves. `Body` says what the body makes of a table.
  abbrev pub LoopSettles : (State → Value) → (Table → Outflow → Type 0) → Table → Outflow → Type 0
  LoopSettles guard Body I f =
      (visits : Table) × (endless : Table) × (D : List State) × (g : Outflow)
      × Body (only (holds guard) visits) g
      × SameTable (visits ++ endless) (I ++ g.next)
      × EachState (λ s. (holds guard s ≡ true) × (h : Outflow) × Body (sure s) h × SameEnds h.ended [] × Within D h.next) D
      × Within D endless
      × IsOutflow f (only (fails guard) visits) (faults guard visits ++ g.ended) (plus (total g.next) g.turns)

  abbrev mutual
    pub StatementSettles : Statement → Table → Outflow → Type 0
    StatementSettles Skip I f = SettlesAlone Skip I f
    StatementSettles (Set x e) I f = SettlesAlone (Set x e) I f
    StatementSettles (Observe e) I f = SettlesAlone (Observe e) I f
    StatementSettles (Uniform x e) I f = SettlesAlone (Uniform x e) I f
    StatementSettles (If e a c) I f =
        (g : Outflow) × (h : Outflow)
        × BlockSettles a (only (holds (value_of e)) I) g
        × BlockSettles c (only (fails (value_of e)) I) h
        × SettlesBoth (faults (value_of e) I) g h f
    StatementSettles (Choice p a c) I f =
        (g : Outflow) × (h : Outflow)
        × BlockSettles a (scaled (class_weight p.den None p.num) I) g
        × BlockSettles c (scaled (class_weight p.den None (p.den - p.num)) I) h
        × SettlesBoth [] g h f
    StatementSettles (Choose arms) I f = ArmsSettle (sum (parts_of arms)) arms I f
    StatementSettles (While e a) I f = LoopSettles (value_of e) (BlockSettles a) I f

    pub BlockSettles : Statements → Table → Outflow → Type 0
    BlockSettles done I f = IsOutflow f I [] zero_share
    BlockSettles (st ▸ b) I f =
        (g : Outflow) × (h : Outflow)
        × StatementSettles st I g
        × BlockSettles b g.next h
        × IsOutflow f h.next (g.ended ++ h.ended) (plus g.turns h.turns)

    -- the arms of a draw with b parts, one after the other
    pub ArmsSettle : ℕ → ArmList → Table → Outflow → Type 0
    ArmsSettle b no_arm I f = IsOutflow f [] [] zero_share
    ArmsSettle b (arm p a arms) I f =
        (g : Outflow) × (h : Outflow)
        × BlockSettles a (scaled (class_weight b None p) I) g
        × ArmsSettle b arms I h
        × SettlesBoth [] g h f
