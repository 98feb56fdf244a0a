-- Whether a variable may differ from 0, by the statements that a way to a place goes through: some way sets it last to what may
-- not be 0. This is an analysis of compilers, forward where that of what matters is backward, and the least solution of its
-- equations: at a loop one look at the body is enough, as there.
use Rattle.std.specs.Prelude.{ℕ, pos, Bool, false, not, ◌&&◌, ◌||◌, ◌==◌, if◌then◌else◌}
use Rattle.std.specs.Ordering.{int_eq}
use Rattle.gcl_core.specs.meaning.Syntax.{Expression, Num, Statement, Skip, Set, If, While, Choice, Choose, Uniform, Observe, Statements, done, ◌▸◌, ArmList, no_arm, arm}
use Rattle.forgetting.specs.Liveness.{Names}

-- whether an expression is the number 0 as it is written
abbrev pub is_nought : Expression → Bool
is_nought (Num z) = int_eq z (pos 0)
is_nought _ = false

module _ (x : ℕ) where
  -- Whether it may differ after, where before it may or may not: after a choice among several, whether it may after an arm.
  abbrev mutual
    pub filled_by_statement : Statement → Bool → Bool
    filled_by_statement Skip filled = filled
    filled_by_statement (Set y e) filled = if is_nought e then not (x == y) && filled else x == y || filled
    filled_by_statement (If e a c) filled = filled_by a filled || filled_by c filled
    filled_by_statement (While e a) filled = filled || filled_by a false
    filled_by_statement (Choice w a c) filled = filled_by a filled || filled_by c filled
    filled_by_statement (Choose arms) filled = filled_by_arms arms filled
    filled_by_statement (Uniform y e) filled = x == y || filled
    filled_by_statement (Observe e) filled = filled

    pub filled_by : Statements → Bool → Bool
    filled_by done filled = filled
    filled_by (s ▸ b) filled = filled_by b (filled_by_statement s filled)

    pub filled_by_arms : ArmList → Bool → Bool
    filled_by_arms no_arm filled = false
    filled_by_arms (arm p b arms) filled = filled_by b filled || filled_by_arms arms filled

-- the variables that may differ from 0 behind a statement, from those that may before it
abbrev pub behind_statement : Statement → Names → Names
behind_statement s filled x = filled_by_statement x s (filled x)
