-- Blocks without a loop, and what their flow is as an outflow.
use Rattle.gcl_core.specs.meaning.Syntax.{Statement, Skip, Set, If, While, Choice, Choose, Uniform, Observe, Statements, done, ◌▸◌, ArmList, no_arm, arm}
use Rattle.gcl_core.specs.weighing.Fractions.{zero_share}
use Rattle.table_flow.specs.Tables.{Flow}
use Rattle.unlimited_law.specs.Settling.{Outflow}

abbrev mutual
  pub StatementFree : Statement → Type 0
  StatementFree Skip = Unit {0}
  StatementFree (Set x e) = Unit {0}
  StatementFree (If e a c) = BlockFree a × BlockFree c
  StatementFree (While e a) = ⊥
  StatementFree (Choice w a c) = BlockFree a × BlockFree c
  StatementFree (Choose arms) = ArmsFree arms
  StatementFree (Uniform x e) = Unit {0}
  StatementFree (Observe e) = Unit {0}

  pub BlockFree : Statements → Type 0
  BlockFree done = Unit {0}
  BlockFree (s ▸ b) = StatementFree s × BlockFree b

  pub ArmsFree : ArmList → Type 0
  ArmsFree no_arm = Unit {0}
  ArmsFree (arm p b arms) = BlockFree b × ArmsFree arms

-- with no turn
abbrev pub flowed_out : Flow → Outflow
flowed_out f = record { next = f.next; ended = f.ended; turns = zero_share }
