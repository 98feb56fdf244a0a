use Rattle.std.proofs.Common.{◌≡◌, ◌++◌, All, length, map, reverse, Ok}
use Rattle.tally_range.specs.declared.share.Entry.{Entry}
use Rattle.tally_range.specs.inner.Worked.{entry_pass, entry_table}
use Rattle.tally_range.proofs.sharing.gather.Given as goal

abbrev pub invariant-loop-entry : goal.invariant-loop-entry
invariant-loop-entry l = (map entry_pass l.entries.items ++ reverse l.passes.items ≡ map entry_pass l.initial.entries.items)
    × (map entry_table l.entries.items ++ reverse l.tables.items ≡ map entry_table l.initial.entries.items)
    × (All (λ (e : Entry). e.done ≡ Ok tt) l.entries.items → All (λ (e : Entry). e.done ≡ Ok tt) l.initial.entries.items)

abbrev pub decreases-loop-entry : goal.decreases-loop-entry
decreases-loop-entry l = length l.entries.items
