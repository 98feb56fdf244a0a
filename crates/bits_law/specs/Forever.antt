-- Tables from which a block goes on to cost something for ever with some weight, as reading bits does, so that what it costs on average has no
-- bound: a loop comes to a table that its body leads back, at some cost, or to one from which its body goes on so. This project's own rule.
use Rattle.std.specs.Prelude.{◌⊎◌, ℕ, zero, suc, ◌-◌, ◌<◌, ◌++◌, None, length}
use Rattle.std.specs.List.{sum}
use Rattle.gcl_core.specs.meaning.Arms.{parts_of}
use Rattle.gcl_core.specs.meaning.Outcomes.{zeros}
use Rattle.gcl_core.specs.meaning.Syntax.{Statement, Skip, Set, If, While, Choice, Choose, Uniform, Observe, Statements, done, ◌▸◌, ArmList, no_arm, arm, SourceProgram}
use Rattle.gcl_core.specs.meaning.Value.{State, Value, value_of}
use Rattle.gcl_core.specs.weighing.Fractions.{Fraction}
use Rattle.gcl_core.specs.weighing.WeightedEnds.{sure, scaled, class_weight}
use Rattle.table_flow.specs.Tables.{Table, holds, fails, only}
use Rattle.unlimited_law.specs.Alike.{Alike}
use Rattle.bits_law.specs.Price.{Price, bits_price}
use Rattle.bits_law.specs.Reading.{TurnCosts, StatementCosts, BlockCosts}

module _ (guard : State → Value) (Body : Table → Table → Fraction → Type 0) where
  -- the tables to which m turns of a loop come from I, together
  abbrev pub ComesBy : ℕ → Table → Table → Type 0
  ComesBy zero I T = Alike T I
  ComesBy (suc m) I T =
      (K : Table) × (U : Table) × (read : Fraction)
      × Body (only (holds guard) I) K read
      × ComesBy m K U
      × Alike T (I ++ U)

  -- one turn from the table reads some bits, and leads to it again, and maybe to more
  abbrev pub GoesRound : Table → Type 0
  GoesRound S =
      (K : Table) × (more : Table) × (read : Fraction)
      × Body (only (holds guard) S) K read
      × Alike K (S ++ more)
      × (0 < read.0)

  abbrev pub LoopForever : (Table → Type 0) → Table → Type 0
  LoopForever BodyForever I =
      (m : ℕ) × (T : Table) × (S : Table) × (rest : Table)
      × ComesBy m I T
      × Alike T (S ++ rest)
      × (GoesRound S ⊎ BodyForever (only (holds guard) S))

abbrev mutual
  pub StatementEndless : Price → Statement → Table → Type 0
  StatementEndless price Skip I = ⊥
  StatementEndless price (Set x e) I = ⊥
  StatementEndless price (Observe e) I = ⊥
  StatementEndless price (Uniform x e) I = ⊥
  StatementEndless price (If e a c) I = BlockEndless price a (only (holds (value_of e)) I) ⊎ BlockEndless price c (only (fails (value_of e)) I)
  StatementEndless price (Choice p a c) I =
      BlockEndless price a (scaled (class_weight p.den None p.num) I) ⊎ BlockEndless price c (scaled (class_weight p.den None (p.den - p.num)) I)
  StatementEndless price (Choose arms) I = ArmsEndless price (sum (parts_of arms)) arms I
  StatementEndless price (While e a) I = LoopForever (value_of e) (TurnCosts price.turns (BlockCosts price a)) (BlockEndless price a) I

  pub BlockEndless : Price → Statements → Table → Type 0
  BlockEndless price done I = ⊥
  BlockEndless price (st ▸ b) I = StatementEndless price st I ⊎ ((K : Table) × (cost : Fraction) × StatementCosts price st I K cost × BlockEndless price b K)

  pub ArmsEndless : Price → ℕ → ArmList → Table → Type 0
  ArmsEndless price b no_arm I = ⊥
  ArmsEndless price b (arm p a arms) I = BlockEndless price a (scaled (class_weight b None p) I) ⊎ ArmsEndless price b arms I

-- ---- bits
abbrev pub StatementForever : Statement → Table → Type 0
StatementForever = StatementEndless bits_price

abbrev pub BlockForever : Statements → Table → Type 0
BlockForever = BlockEndless bits_price

abbrev pub ArmsForever : ℕ → ArmList → Table → Type 0
ArmsForever = ArmsEndless bits_price

-- ---- the body of a program
abbrev pub CostsForever : Price → SourceProgram → Type 0
CostsForever price p = BlockEndless price p.body (sure (zeros (length p.names)))

abbrev pub ReadsForever : SourceProgram → Type 0
ReadsForever = CostsForever bits_price
