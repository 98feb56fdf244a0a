-- A program's statements in the order in which its text is read. This project's own rule: a statement's number is its place in
-- this order, from 0, and the result comes after the last of them.
use Rattle.std.specs.Prelude.{List, [], ◌∷◌, ◌++◌}
use Rattle.gcl_core.specs.meaning.Syntax.{Statement, If, While, Choice, Choose, Statements, done, ◌▸◌, ArmList, no_arm, arm}

-- a statement comes before those of its blocks
abbrev mutual
  pub statement_listed : Statement → List Statement
  statement_listed (If e a c) = If e a c ∷ listed a ++ listed c
  statement_listed (While e a) = While e a ∷ listed a
  statement_listed (Choice w a c) = Choice w a c ∷ listed a ++ listed c
  statement_listed (Choose arms) = Choose arms ∷ arms_listed arms
  statement_listed s = s ∷ []

  pub listed : Statements → List Statement
  listed done = []
  listed (s ▸ b) = statement_listed s ++ listed b

  pub arms_listed : ArmList → List Statement
  arms_listed no_arm = []
  arms_listed (arm p b arms) = listed b ++ arms_listed arms
