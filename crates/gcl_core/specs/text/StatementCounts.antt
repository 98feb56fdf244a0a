-- How many statements a program has, those inside blocks too. This project's own rule.
use Rattle.std.specs.Prelude.{ℕ, ◌+◌}
use Rattle.gcl_core.specs.meaning.Syntax.{Statement, Skip, Set, If, While, Choice, Choose, Uniform, Observe, Statements, done, ◌▸◌, ArmList, no_arm, arm}

abbrev mutual
  pub count_one : Statement → ℕ
  count_one (If e a c) = 1 + count_all a + count_all c
  count_one (While e a) = 1 + count_all a
  count_one (Choice w a c) = 1 + count_all a + count_all c
  count_one (Choose arms) = 1 + count_arms arms
  count_one Skip = 1
  count_one (Set x e) = 1
  count_one (Uniform x e) = 1
  count_one (Observe e) = 1

  pub count_all : Statements → ℕ
  count_all done = 0
  count_all (s ▸ b) = count_one s + count_all b

  pub count_arms : ArmList → ℕ
  count_arms no_arm = 0
  count_arms (arm p b arms) = count_all b + count_arms arms
