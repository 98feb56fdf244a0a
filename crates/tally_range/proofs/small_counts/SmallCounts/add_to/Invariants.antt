use Rattle.std.proofs.Common.{◌≡◌, ◌+◌, drop}
use Rattle.gcl_core.specs.declared.answers.TallyKey.{TallyKey}
use Rattle.tally_range.specs.Sums.{count_in}
use Rattle.tally_range.specs.inner.SmallRows.{small_rows}
use Rattle.tally_range.proofs.small_counts.SmallCounts.add_to.Given as goal

-- the table and the values that are left
abbrev pub invariant-loop-value : goal.invariant-loop-value
invariant-loop-value l = (key : TallyKey) → count_in l.table key + count_in (small_rows l.value (drop l.value l.count-items)) key ≡ count_in l.initial.table key + count_in l.self key
