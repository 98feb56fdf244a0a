-- Whether a block may round a product: where it draws or chooses. One with a loop counts as one that may.
use Rattle.std.specs.Prelude.{◌≡◌, Bool, true, false, cond}
use Rattle.gcl_core.specs.meaning.Syntax.{Statement, Skip, Set, If, While, Choice, Choose, Uniform, Observe, Statements, done, ◌▸◌}

abbrev mutual
  pub one_rounds : Statement → Bool
  one_rounds Skip = false
  one_rounds (Set x e) = false
  one_rounds (If e a c) = cond (any_rounds a) true (any_rounds c)
  one_rounds (While e a) = true
  one_rounds (Choice w a c) = true
  one_rounds (Choose arms) = true
  one_rounds (Uniform x e) = true
  one_rounds (Observe e) = false

  pub any_rounds : Statements → Bool
  any_rounds done = false
  any_rounds (s ▸ b) = cond (one_rounds s) true (any_rounds b)

-- one draw, and behind it what rounds nothing
abbrev pub DrawsOnce : Statements → Type 0
DrawsOnce (Uniform x e ▸ b) = any_rounds b ≡ false
DrawsOnce _ = ⊥
