-- The longest reading: the most bits that a block reads, under limits of n turns for each entry of a loop and r attempts for each
-- draw. A number has 64 bits with its sign, so a uniform draw takes 63 bits for an attempt at most. This project's own rule.
use Rattle.std.specs.Prelude.{ℕ, ◌+◌, ◌*◌, max}
use Rattle.std.specs.List.{sum}
use Rattle.gcl_core.specs.meaning.Syntax.{Statement, Skip, Set, If, While, Choice, Choose, Uniform, Observe, Statements, done, ◌▸◌, ArmList, no_arm, arm}
use Rattle.gcl_core.specs.meaning.Arms.{parts_of}
use Rattle.gcl_core.specs.meaning.Draw.{bits_for}

module _ (n r : ℕ) where
  abbrev mutual
    pub longest_statement : Statement → ℕ
    longest_statement Skip = 0
    longest_statement (Set x e) = 0
    longest_statement (Observe e) = 0
    longest_statement (If e a c) = max (longest a) (longest c)
    longest_statement (Choice p a c) = bits_for p.den * r + max (longest a) (longest c)
    longest_statement (Choose arms) = bits_for (sum (parts_of arms)) * r + longest_arm arms
    longest_statement (Uniform x e) = 63 * r
    longest_statement (While e a) = n * longest a

    pub longest : Statements → ℕ
    longest done = 0
    longest (st ▸ b) = longest_statement st + longest b

    pub longest_arm : ArmList → ℕ
    longest_arm no_arm = 0
    longest_arm (arm p b arms) = max (longest b) (longest_arm arms)
