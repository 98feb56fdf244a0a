use Rattle.std.proofs.Common.{◌≡◌, length, map}
use Rattle.gcl_core.specs.text.Names.{value_named}
use Rattle.gcl_core.proofs.tables.value_named.Given as goal

abbrev pub invariant-loop-table : goal.invariant-loop-table
invariant-loop-table g l = value_named (map (λ e. (e.0.now, e.1)) l.table) l.name ≡ value_named (map (λ e. (e.0.now, e.1)) l.initial.table) l.name

abbrev pub decreases-loop-table : goal.decreases-loop-table
decreases-loop-table g l = length l.table
