-- Whether the value of a variable matters: whether some way on reads it before it is set again. This is the liveness of compilers,
-- the least solution of its equations: at a loop one look at the body is enough, for a way that goes through the body twice reads
-- no variable first that a way through it once does not.
use Rattle.std.specs.Prelude.{ℕ, Bool, false, not, ◌&&◌, ◌||◌, ◌==◌}
use Rattle.gcl_core.specs.meaning.Syntax.{Expression, Num, Truth, Var, Neg, Not, Bin, Statement, Skip, Set, If, While, Choice, Choose, Uniform, Observe, Statements, done, ◌▸◌, ArmList, no_arm, arm}

-- a set of variables
abbrev pub Names : Type 0
Names = ℕ → Bool

abbrev pub no_names : Names
no_names x = false

abbrev pub both : Names → Names → Names
both some others x = some x && others x

module _ (x : ℕ) where
  -- whether an expression reads the variable
  abbrev pub reads : Expression → Bool
  reads (Num z) = false
  reads (Truth b) = false
  reads (Var y) = x == y
  reads (Neg a) = reads a
  reads (Not a) = reads a
  reads (Bin op a b) = reads a || reads b

  -- Whether its value before matters, where its value after does or does not: to a choice among several, whether it does to an arm.
  abbrev mutual
    pub matters_to_statement : Statement → Bool → Bool
    matters_to_statement Skip after = after
    matters_to_statement (Set y e) after = reads e || (not (x == y) && after)
    matters_to_statement (If e a c) after = reads e || (matters_to a after || matters_to c after)
    matters_to_statement (While e a) after = reads e || (after || matters_to a false)
    matters_to_statement (Choice w a c) after = matters_to a after || matters_to c after
    matters_to_statement (Choose arms) after = matters_to_arms arms after
    matters_to_statement (Uniform y e) after = reads e || (not (x == y) && after)
    matters_to_statement (Observe e) after = reads e || after

    pub matters_to : Statements → Bool → Bool
    matters_to done after = after
    matters_to (s ▸ b) after = matters_to_statement s (matters_to b after)

    pub matters_to_arms : ArmList → Bool → Bool
    matters_to_arms no_arm after = false
    matters_to_arms (arm p b arms) after = matters_to b after || matters_to_arms arms after

-- the variables that matter before a statement or a block, from those that matter after it
abbrev pub before_statement : Statement → Names → Names
before_statement s after x = matters_to_statement x s (after x)

abbrev pub before : Statements → Names → Names
before b after x = matters_to x b (after x)
