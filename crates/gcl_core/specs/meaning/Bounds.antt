-- Facts of all that a program names: its variables lie below a count, its numbers have 64 bits, and a fact of each weight and of
-- the parts of each choice among several. Programs of the code have numbers of 64 bits by their type. How many arms a choice may
-- have, and how great the sum of their parts, is this project's own rule.
use Rattle.std.specs.Prelude.{ℕ, ◌<◌, ◌≤◌, ℤ, IsTrue, List, length, All}
use Rattle.std.specs.Int.{◌∣◌}
use Rattle.std.specs.List.{sum}
use Rattle.gcl_core.specs.declared.rules.TheConstants.{GREATEST_DENOMINATOR, LEAST_ARMS, MOST_ARMS}
use Rattle.gcl_core.specs.declared.syntax.Weight.{Weight}
use Rattle.gcl_core.specs.meaning.Arms.{parts_of}
use Rattle.gcl_core.specs.meaning.Syntax.{Expression, Num, Truth, Var, Neg, Not, Bin, Statement, Skip, Set, If, While, Choice, Choose, Uniform, Observe, Statements, done, ◌▸◌, ArmList, no_arm, arm, SourceProgram}
use Rattle.gcl_core.specs.meaning.Value.{fits_64}

-- each variable of the expression is below this count
abbrev pub ExpressionBelow : Expression → ℕ → Type 0
ExpressionBelow (Num z) count = Unit {0}
ExpressionBelow (Truth b) count = Unit {0}
ExpressionBelow (Var x) count = x < count
ExpressionBelow (Neg a) count = ExpressionBelow a count
ExpressionBelow (Not a) count = ExpressionBelow a count
ExpressionBelow (Bin op a b) count = ExpressionBelow a count × ExpressionBelow b count

-- each variable that is read or set is below a count
module _ (count : ℕ) where
  abbrev mutual
    pub StatementBelow : Statement → Type 0
    StatementBelow Skip = Unit {0}
    StatementBelow (Set x e) = (x < count) × ExpressionBelow e count
    StatementBelow (If e a c) = ExpressionBelow e count × BlockBelow a × BlockBelow c
    StatementBelow (While e a) = ExpressionBelow e count × BlockBelow a
    StatementBelow (Choice w a c) = BlockBelow a × BlockBelow c
    StatementBelow (Choose arms) = ArmsBelow arms
    StatementBelow (Uniform x e) = (x < count) × ExpressionBelow e count
    StatementBelow (Observe e) = ExpressionBelow e count

    pub BlockBelow : Statements → Type 0
    BlockBelow done = Unit {0}
    BlockBelow (s ▸ b) = StatementBelow s × BlockBelow b

    pub ArmsBelow : ArmList → Type 0
    ArmsBelow no_arm = Unit {0}
    ArmsBelow (arm p b arms) = BlockBelow b × ArmsBelow arms

-- below the count of the names
pub record VariablesBelow (p : SourceProgram) : Type 0 where
  pub body : BlockBelow (length p.names) p.body
  pub result : ExpressionBelow p.result (length p.names)

-- a fact of each number
module _ (Fact : ℤ → Type 0) where
  abbrev pub ExpressionNumbers : Expression → Type 0
  ExpressionNumbers (Num z) = Fact z
  ExpressionNumbers (Truth b) = Unit {0}
  ExpressionNumbers (Var x) = Unit {0}
  ExpressionNumbers (Neg a) = ExpressionNumbers a
  ExpressionNumbers (Not a) = ExpressionNumbers a
  ExpressionNumbers (Bin op a b) = ExpressionNumbers a × ExpressionNumbers b

  abbrev mutual
    pub StatementNumbers : Statement → Type 0
    StatementNumbers Skip = Unit {0}
    StatementNumbers (Set x e) = ExpressionNumbers e
    StatementNumbers (If e a c) = ExpressionNumbers e × BlockNumbers a × BlockNumbers c
    StatementNumbers (While e a) = ExpressionNumbers e × BlockNumbers a
    StatementNumbers (Choice w a c) = BlockNumbers a × BlockNumbers c
    StatementNumbers (Choose arms) = ArmsNumbers arms
    StatementNumbers (Uniform x e) = ExpressionNumbers e
    StatementNumbers (Observe e) = ExpressionNumbers e

    pub BlockNumbers : Statements → Type 0
    BlockNumbers done = Unit {0}
    BlockNumbers (s ▸ b) = StatementNumbers s × BlockNumbers b

    pub ArmsNumbers : ArmList → Type 0
    ArmsNumbers no_arm = Unit {0}
    ArmsNumbers (arm p b arms) = BlockNumbers b × ArmsNumbers arms

pub record ProgramNumbers (Fact : ℤ → Type 0) (p : SourceProgram) : Type 0 where
  pub body : BlockNumbers Fact p.body
  pub result : ExpressionNumbers Fact p.result

-- the number has 64 bits
abbrev pub NumberFits : ℤ → Type 0
NumberFits z = IsTrue (fits_64 z)

-- each number of an expression, a statement, a block, some arms or a program has 64 bits
abbrev pub ExpressionFits : Expression → Type 0
ExpressionFits = ExpressionNumbers NumberFits

abbrev pub StatementFits : Statement → Type 0
StatementFits = StatementNumbers NumberFits

abbrev pub BlockFits : Statements → Type 0
BlockFits = BlockNumbers NumberFits

abbrev pub ArmsFit : ArmList → Type 0
ArmsFit = ArmsNumbers NumberFits

abbrev pub NumbersFit : SourceProgram → Type 0
NumbersFit = ProgramNumbers NumberFits

-- a weight is at most 1, over a number from 1 to the greatest denominator
pub record IsWeight (w : Weight) : Type 0 where
  pub at_most_one : w.num ≤ w.den
  pub positive : 1 ≤ w.den
  pub coarse : w.den ≤ GREATEST_DENOMINATOR

-- from LEAST_ARMS to MOST_ARMS parts
pub record HaveArmCount (ps : List ℕ) : Type 0 where
  pub enough : LEAST_ARMS ≤ length ps
  pub few : length ps ≤ MOST_ARMS

-- from LEAST_ARMS to MOST_ARMS parts, all of which no number above 1 divides, with a sum from 1 to the greatest denominator
pub record AreParts (ps : List ℕ) : Type 0 where
  pub enough : LEAST_ARMS ≤ length ps
  pub few : length ps ≤ MOST_ARMS
  pub lowest : (d : ℕ) → All (λ p. d ∣ p) ps → d ≤ 1
  pub positive : 1 ≤ sum ps
  pub coarse : sum ps ≤ GREATEST_DENOMINATOR

-- a fact of each weight, and one of the parts of each choice among several
module _ (Fact : Weight → Type 0) (PartsFact : List ℕ → Type 0) where
  abbrev mutual
    pub StatementWeights : Statement → Type 0
    StatementWeights Skip = Unit {0}
    StatementWeights (Set x e) = Unit {0}
    StatementWeights (If e a c) = BlockWeights a × BlockWeights c
    StatementWeights (While e a) = BlockWeights a
    StatementWeights (Choice w a c) = Fact w × BlockWeights a × BlockWeights c
    StatementWeights (Choose arms) = PartsFact (parts_of arms) × ArmsWeights arms
    StatementWeights (Uniform x e) = Unit {0}
    StatementWeights (Observe e) = Unit {0}

    pub BlockWeights : Statements → Type 0
    BlockWeights done = Unit {0}
    BlockWeights (s ▸ b) = StatementWeights s × BlockWeights b

    pub ArmsWeights : ArmList → Type 0
    ArmsWeights no_arm = Unit {0}
    ArmsWeights (arm p b arms) = BlockWeights b × ArmsWeights arms

-- each draw is by a weight, or by parts, as they have to be
abbrev pub StatementIsWeighed : Statement → Type 0
StatementIsWeighed = StatementWeights IsWeight AreParts

abbrev pub BlockIsWeighed : Statements → Type 0
BlockIsWeighed = BlockWeights IsWeight AreParts

abbrev pub ArmsAreWeighed : ArmList → Type 0
ArmsAreWeighed = ArmsWeights IsWeight AreParts

-- each choice among several has as many arms as it may have
abbrev pub BlockCounted : Statements → Type 0
BlockCounted = BlockWeights (λ w. Unit {0}) HaveArmCount
