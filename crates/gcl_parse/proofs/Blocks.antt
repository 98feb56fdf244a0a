-- Blocks that grow at their end.
use Rattle.std.proofs.Common.{◌≡◌, List, [], ◌∷◌, ◌++◌, refl, ap}
use Rattle.gcl_core.specs.declared.syntax.Stmt.{Stmt}
use Rattle.gcl_core.specs.meaning.Syntax.{Statements, done, ◌▸◌}
use Rattle.gcl_core.specs.meaning.Views.{statement_of, list_of}

-- these statements, and then those
abbrev pub before : List Stmt → Statements → Statements
before [] rest = rest
before (x ∷ xs) rest = statement_of x ▸ before xs rest

pub before-done : (xs : List Stmt) → before xs done ≡ list_of xs
before-done [] = refl
before-done (x ∷ xs) = ap (λ b. statement_of x ▸ b) (before-done xs)

pub before-push : (xs : List Stmt) (x : Stmt) (rest : Statements) → before xs (statement_of x ▸ rest) ≡ before (xs ++ x ∷ []) rest
before-push [] x rest = refl
before-push (y ∷ xs) x rest = ap (λ b. statement_of y ▸ b) (before-push xs x rest)
