-- The sets of variables that may differ from 0 along the statements of a block.
use Rattle.std.specs.Prelude.{◌≡◌, ℕ, zero, suc, ◌≤◌, List, [], ◌∷◌, length, get_or}
use Rattle.gcl_core.specs.declared.syntax.Stmt.{Stmt}
use Rattle.gcl_core.specs.meaning.Views.{statement_of}
use Rattle.forgetting.specs.declared.name_set.NameSet.{NameSet}
use Rattle.forgetting.specs.Liveness.{Names}
use Rattle.forgetting.specs.Filling.{behind_statement}
use Rattle.forgetting.specs.Marks.{marked}

-- behind so many of the statements
abbrev pub filled_at : ℕ → List Stmt → Names → Names
filled_at zero statements filled = filled
filled_at (suc i) [] filled = filled
filled_at (suc i) (s ∷ statements) filled = filled_at i statements (behind_statement (statement_of s) filled)

-- a set for each place before a statement, and one for the end
abbrev pub AreFronts : List NameSet → List Stmt → Names → Type 0
AreFronts sets statements filled =
    (i : ℕ) (d : NameSet) → i ≤ length statements → marked (get_or sets i d).marks ≡ filled_at i statements filled
