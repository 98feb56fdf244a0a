-- The streams of a block, and the first of them that is wanted.
use Rattle.std.specs.Prelude.{ℕ, ◌+◌, ◌<◌, ◌≤◌, ◌≡◌, true, Option, Some, None}
use Rattle.stream_runs.specs.declared.range.TheConstants.{STREAMS_OF_A_BLOCK}
use Rattle.stream_runs.specs.Blocks.{first_in_block}
use Rattle.hunt_range.specs.Sought.{Sought, NoneWanted}

-- the first stream of a block
abbrev pub block_start : Sought → ℕ → ℕ
block_start s j = first_in_block s.from j

-- the first that is wanted of the streams of a block, which begins at `first`, below `to`
abbrev pub FirstWanted : Sought → ℕ → ℕ → Option ℕ → Type 0
FirstWanted s first to None = (i : ℕ) → first ≤ i → i < first + STREAMS_OF_A_BLOCK → i < to → s.wants i ≡ true → ⊥
FirstWanted s first to (Some x) =
    (first ≤ x) × (x < first + STREAMS_OF_A_BLOCK) × (x < to) × (s.wants x ≡ true) × NoneWanted s first x
