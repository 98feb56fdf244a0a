use Rattle.std.proofs.Common.{◌≡◌, ◌-◌, ◌≤◌, All, length}
use Rattle.stream_lines.specs.inner.Rounds.{IsWorkerOf}
use Rattle.stream_lines.proofs.filling.workers_of.Given as goal

abbrev pub invariant-loop-made : goal.invariant-loop-made
invariant-loop-made l = All (IsWorkerOf l.home) l.workers.items × (length l.workers.items ≡ l.made) × (l.made ≤ l.count)

abbrev pub decreases-loop-made : goal.decreases-loop-made
decreases-loop-made l = l.count - l.made
