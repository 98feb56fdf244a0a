use Rattle.std.proofs.Common.{◌≡◌, ℕ, ◌<◌, length}
use Rattle.rand_chacha.specs.Block.{add32, double_rounds}
use Rattle.rand_chacha.specs.Lanes.{lane, lane_at}
use Rattle.first_blocks.proofs.blocks.first_blocks.Given as goal

abbrev pub invariant-rounds : goal.invariant-rounds
invariant-rounds l = (j : ℕ) → j < 4 → lane j l.x ≡ double_rounds l._done (lane j l.first)

abbrev pub invariant-rows : goal.invariant-rows
invariant-rows l = (length l.words ≡ 16) × ((j k : ℕ) → j < 4 → k < l.k → lane_at l.words k j ≡ add32 (lane_at l.x k j) (lane_at l.first k j))
