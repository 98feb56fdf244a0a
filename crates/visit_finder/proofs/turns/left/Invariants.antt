use Rattle.std.proofs.Common.{ℕ, ◌+◌, ◌≤◌, nat_cmp, length, Contains}
use Rattle.std.specs.BTreeMap.{ContainsKey}
use Rattle.visit_finder.specs.Sources.{sources_of}
use Rattle.visit_finder.proofs.Closed.{AreSettled, AreSettling, count_under}
use Rattle.visit_finder.proofs.turns.left.Given as goal

-- whatever was found waits
abbrev pub invariant-loop-number : goal.invariant-loop-number
invariant-loop-number l = (s : ℕ) → ContainsKey nat_cmp l.leaving s → Contains l.waiting.items s

abbrev pub invariant-loop-from : goal.invariant-loop-from
invariant-loop-from l = record {
  settling : AreSettling (ContainsKey nat_cmp l.leaving) l.waiting.items (sources_of l.sources.entries) (sources_of l.fn.sources.entries) l.from-items l.from-index;
  count : length l.waiting.items ≤ length l.initial.waiting.items + l.from-index;
}

abbrev pub invariant-loop-to : goal.invariant-loop-to
invariant-loop-to l = AreSettled (ContainsKey nat_cmp l.leaving) l.waiting.items (sources_of l.sources.entries) (sources_of l.fn.sources.entries)

abbrev pub decreases-loop-to : goal.decreases-loop-to
decreases-loop-to l = length l.waiting.items + count_under l.sources.entries
