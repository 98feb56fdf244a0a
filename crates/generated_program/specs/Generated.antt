-- The generated program of a number: a large program that is accepted, for each number up to `GREATEST_NUMBER`. This project's
-- own rule.
use Rattle.std.specs.Prelude.{ℕ, zero, suc, ◌+◌, ◌%◌, pos, List, [], ◌∷◌, codes}
use Rattle.gcl_core.specs.declared.syntax.BinOp.TheVariants as op
use Rattle.gcl_core.specs.declared.syntax.Weight.{Weight}
use Rattle.gcl_core.specs.text.Names.{Name}
use Rattle.gcl_core.specs.meaning.Syntax.{Expression, Num, Var, Bin, SourceProgram}
use Rattle.gcl_core.specs.meaning.Syntax.{Statement, Set, If, While, Choice, Uniform, Observe, Statements, done, ◌▸◌}

-- its eight variables, in their order
abbrev pub variable_names : List Name
variable_names = codes "v0" ∷ codes "v1" ∷ codes "v2" ∷ codes "v3" ∷ codes "v4" ∷ codes "v5" ∷ codes "v6" ∷ codes "v7" ∷ []

-- ---- expressions

-- `x + n`
abbrev pub plus_number : ℕ → ℕ → Expression
plus_number x n = Bin op.Add (Var x) (Num (pos n))

-- `x % n`
abbrev pub modulo : ℕ → ℕ → Expression
modulo x n = Bin op.Rem (Var x) (Num (pos n))

-- `x % n != m`
abbrev pub differs : ℕ → ℕ → ℕ → Expression
differs x n m = Bin op.Ne (modulo x n) (Num (pos m))

-- `x < y`
abbrev pub less : ℕ → ℕ → Expression
less x y = Bin op.Lt (Var x) (Var y)

-- ---- statements

-- a variable is first set to its own number
abbrev pub first_assignment : ℕ → Statement
first_assignment x = Set x (Num (pos x))

-- the block `{ x := x + 1; }`
abbrev pub add_one : ℕ → Statements
add_one x = Set x (plus_number x 1) ▸ done

-- `1/d`
abbrev pub one_of : ℕ → Weight
one_of d = record { num = 1; den = d }

-- a statement of one of five kinds, by a number i, over two variables v and w:
-- 0  `v := w + i;`
-- 1  `v ~ uniform(m);`, with `i % 7 + 2` for m
-- 2  `choice 1/d { v := w; } or { v := v + 1; }`, with `i % 9 + 2` for d
-- 3  `if v < w { v := v + 1; } else { w := w + 1; }`
-- 4  `while v % 3 != 0 { v := v + 1; }`
abbrev pub shaped : ℕ → ℕ → ℕ → ℕ → Statement
shaped zero i v w = Set v (plus_number w i)
shaped (suc zero) i v w = Uniform v (Num (pos (i % 7 + 2)))
shaped (suc (suc zero)) i v w = Choice (one_of (i % 9 + 2)) (Set v (Var w) ▸ done) (add_one v)
shaped (suc (suc (suc zero))) i v w = If (less v w) (add_one v) (add_one w)
shaped _ i v w = While (differs v 3 0) (add_one v)

-- the statement of the number i, over the variables `i % 8` and `(i + 3) % 8`
abbrev pub numbered_statement : ℕ → Statement
numbered_statement i = shaped (i % 5) i (i % 8) ((i + 3) % 8)

-- ---- the program

-- the statements of the numbers from i on, n of them, and then others
abbrev pub each_from : (ℕ → Statement) → ℕ → ℕ → Statements → Statements
each_from statement i zero others = others
each_from statement i (suc n) others = statement i ▸ each_from statement (i + 1) n others

-- `observe v1 % 4 != 3;`
abbrev pub observation : Statement
observation = Observe (differs 1 4 3)

-- a statement for each number below k, and the observation
abbrev pub numbered_statements : ℕ → Statements
numbered_statements k = each_from numbered_statement 0 k (observation ▸ done)

-- eight assignments before them
abbrev pub generated_body : ℕ → Statements
generated_body k = each_from first_assignment 0 8 (numbered_statements k)

-- its result is `v0 % 100`
abbrev pub generated : ℕ → SourceProgram
generated k = record { names = variable_names; body = generated_body k; result = modulo 0 100 }
