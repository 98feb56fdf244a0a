-- Which variables a program sets. The statements are those of cpGCL.
use Rattle.std.specs.Prelude.{ℕ, Bool, false, ◌==◌}
use Rattle.std.specs.List.{list_any}
use Rattle.gcl_core.specs.meaning.Syntax.{Statement, Set, Uniform, Statements}
use Rattle.gcl_core.specs.text.ReadingOrder.{listed}

-- an assignment and a uniform draw set their variable
abbrev pub is_set_by : ℕ → Statement → Bool
is_set_by y (Set x e) = x == y
is_set_by y (Uniform x e) = x == y
is_set_by y _ = false

-- some statement of the block does, or of the blocks in it
abbrev pub sets : Statements → ℕ → Bool
sets b y = list_any (is_set_by y) (listed b)
