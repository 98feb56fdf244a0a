-- What a table costs in a block on average, where nothing is limited, and the table that the block leaves, by what is counted; as bits, what
-- it reads. For each loop its expected visits are given, as where masses are settled; its body costs what it costs from the visits. This
-- project's own rule.
use Rattle.std.specs.Prelude.{◌≡◌, ℕ, ◌-◌, ◌≤◌, Bool, true, false, List, [], ◌++◌, None}
use Rattle.std.specs.List.{sum}
use Rattle.numbers.specs.Fraction.{IsEqual}
use Rattle.gcl_core.specs.meaning.Arms.{parts_of}
use Rattle.gcl_core.specs.meaning.Draw.{choice_ends}
use Rattle.gcl_core.specs.meaning.Parts.{partial_sums}
use Rattle.gcl_core.specs.meaning.Syntax.{Statement, Skip, Set, If, While, Choice, Choose, Uniform, Observe, Statements, done, ◌▸◌, ArmList, no_arm, arm}
use Rattle.gcl_core.specs.meaning.Value.{State, Value, value_of}
use Rattle.gcl_core.specs.weighing.Fractions.{Fraction, zero_share, plus}
use Rattle.gcl_core.specs.weighing.WeightedEnds.{sure, scaled, class_weight}
use Rattle.table_flow.specs.Tables.{Table, fractions_kind, holds, fails, only, statement_flow}
use Rattle.unlimited_law.specs.Alike.{Alike}
use Rattle.unlimited_law.specs.Settling.{total, EachState, Within}
use Rattle.bits_law.specs.Price.{Price, bits_price, price_of_draws}

-- the table J weighs what this one does, and so many bits are read
pub record Comes (J : Table) (bits : Fraction) (after : Table) (read : Fraction) : Type 0 where
  pub next : Alike J after
  pub equal : IsEqual bits read
  pub fraction : 1 ≤ bits.1

-- a statement of which no other is a part, where no bit is read: by its flow
abbrev pub ReadsNothing : Statement → Table → Table → Fraction → Type 0
ReadsNothing st I J bits = Comes J bits (statement_flow 0 None st I).next zero_share

-- ---- loops: what is given of the body is which table it leaves, and how many bits it reads
module _ (guard : State → Value) (Body : Table → Table → Fraction → Type 0) where
  -- no bit is read in these states any more, and none of them is left
  abbrev pub AreSilent : List State → Type 0
  AreSilent D = EachState (λ s. (holds guard s ≡ true) × (K : Table) × (bits : Fraction) × Body (sure s) K bits × (bits.0 ≡ 0) × Within D K) D

  -- The visits of a loop begun with a table: with what enters silent states they are what comes in and what the body leads back.
  abbrev pub AreVisits : List State → Table → Table → Fraction → Type 0
  AreVisits D I visits bits =
      (back : Table) × (silent : Table)
      × Body (only (holds guard) visits) back bits
      × Alike (visits ++ silent) (I ++ back)
      × Within D silent

  -- A loop reads what its body reads from the visits. That they are no more than what the loop comes to is shown by visits of the loop
  -- begun with them, and maybe with more: where a loop went round for ever there would be none.
  abbrev pub LoopReads : Table → Table → Fraction → Type 0
  LoopReads I J bits =
      (D : List State) × (visits : Table) × (read : Fraction)
      × AreSilent D
      × AreVisits D I visits read
      × ((more : Table) × (again : Table) × (most : Fraction) × AreVisits D (visits ++ more) again most)
      × Comes J bits (only (fails guard) visits) read

-- One turn of a loop from a table: where each turn costs 1, that of each state besides what the body costs.
abbrev pub TurnCosts : Bool → (Table → Table → Fraction → Type 0) → Table → Table → Fraction → Type 0
TurnCosts false Body I J cost = Body I J cost
TurnCosts true Body I J cost = (within : Fraction) × Body I J within × IsEqual cost (plus (total I) within) × (1 ≤ cost.1)

abbrev mutual
  pub StatementCosts : Price → Statement → Table → Table → Fraction → Type 0
  StatementCosts price Skip I J cost = ReadsNothing Skip I J cost
  StatementCosts price (Set x e) I J cost = ReadsNothing (Set x e) I J cost
  StatementCosts price (Observe e) I J cost = ReadsNothing (Observe e) I J cost
  StatementCosts price (Uniform x e) I J cost =
      Comes J cost (statement_flow 0 None (Uniform x e) I).next (price_of_draws price (statement_flow 0 None (Uniform x e) I).reached)
  StatementCosts price (If e a c) I J cost =
      (K : Table) × (L : Table) × (y : Fraction) × (z : Fraction)
      × BlockCosts price a (only (holds (value_of e)) I) K y
      × BlockCosts price c (only (fails (value_of e)) I) L z
      × Comes J cost (K ++ L) (plus y z)
  StatementCosts price (Choice p a c) I J cost =
      (K : Table) × (L : Table) × (y : Fraction) × (z : Fraction)
      × BlockCosts price a (scaled (class_weight p.den None p.num) I) K y
      × BlockCosts price c (scaled (class_weight p.den None (p.den - p.num)) I) L z
      × Comes J cost (K ++ L) (plus (price_of_draws price (fractions_kind.reached (choice_ends p) I)) (plus y z))
  StatementCosts price (Choose arms) I J cost =
      (K : Table) × (y : Fraction)
      × ArmsCost price (sum (parts_of arms)) arms I K y
      × Comes J cost K (plus (price_of_draws price (fractions_kind.reached (partial_sums (parts_of arms)) I)) y)
  StatementCosts price (While e a) I J cost = LoopReads (value_of e) (TurnCosts price.turns (BlockCosts price a)) I J cost

  pub BlockCosts : Price → Statements → Table → Table → Fraction → Type 0
  BlockCosts price done I J cost = Comes J cost I zero_share
  BlockCosts price (st ▸ b) I J cost =
      (K : Table) × (L : Table) × (y : Fraction) × (z : Fraction)
      × StatementCosts price st I K y
      × BlockCosts price b K L z
      × Comes J cost L (plus y z)

  -- the arms of a draw with b parts, one after the other
  pub ArmsCost : Price → ℕ → ArmList → Table → Table → Fraction → Type 0
  ArmsCost price b no_arm I J cost = Comes J cost [] zero_share
  ArmsCost price b (arm p a arms) I J cost =
      (K : Table) × (L : Table) × (y : Fraction) × (z : Fraction)
      × BlockCosts price a (scaled (class_weight b None p) I) K y
      × ArmsCost price b arms I L z
      × Comes J cost (K ++ L) (plus y z)

-- ---- bits
abbrev pub StatementReads : Statement → Table → Table → Fraction → Type 0
StatementReads = StatementCosts bits_price

abbrev pub BlockReads : Statements → Table → Table → Fraction → Type 0
BlockReads = BlockCosts bits_price

abbrev pub ArmsRead : ℕ → ArmList → Table → Table → Fraction → Type 0
ArmsRead = ArmsCost bits_price
