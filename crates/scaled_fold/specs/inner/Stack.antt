-- The tables of a stack, the one on top first.
use Rattle.std.specs.Prelude.{List, [], ◌∷◌}
use Rattle.gcl_core.specs.meaning.Value.{State}
use Rattle.scaled_law.specs.Pairs.{Pairs}
use Rattle.scaled_fold.specs.declared.stack.Stack.{Stack}
use Rattle.scaled_fold.specs.declared.table.Table.{Table}

abbrev pub stacked : List Table → List (Pairs State) → List (Pairs State)
stacked [] Ks = Ks
stacked (t ∷ ts) Ks = stacked ts (t.states.entries ∷ Ks)

abbrev pub stack_of : Stack → List (Pairs State)
stack_of s = stacked s.tables.items []
