use Rattle.std.proofs.Common.{◌≡◌, ◌++◌, [], All, length, map, reverse}
use Rattle.tally_range.specs.declared.share.Entry.{Entry}
use Rattle.tally_range.specs.inner.Worked.{entry_pass, entry_table}
use Rattle.tally_range.proofs.sharing.share_out.Given as goal

abbrev pub invariant-loop-pass : goal.invariant-loop-pass
invariant-loop-pass l = (map entry_pass l.entries.items ++ reverse l.passes.items ≡ reverse l.initial.passes.items) × All (λ (e : Entry). entry_table e ≡ []) l.entries.items

abbrev pub decreases-loop-pass : goal.decreases-loop-pass
decreases-loop-pass l = length l.passes.items
