-- The blocks that begin among streams that follow one another.
use Rattle.std.specs.Prelude.{ℕ, ◌-◌, ◌/◌, ◌%◌, ◌==◌, List, [], ◌∷◌, flat_map, if◌then◌else◌}
use Rattle.std.specs.List.{range_with_len}
use Rattle.stream_runs.specs.declared.range.TheConstants.{STREAMS_OF_A_BLOCK}

-- the number of the block that begins with a stream, if one does
abbrev pub block_at : ℕ → ℕ → List ℕ
block_at from stream = if (stream - from) % STREAMS_OF_A_BLOCK == 0 then (stream - from) / STREAMS_OF_A_BLOCK ∷ [] else []

-- of those that begin with the streams from `first` up to but not including `end`
abbrev pub blocks_begun : ℕ → ℕ → ℕ → List ℕ
blocks_begun from first end = flat_map (block_at from) (range_with_len first (end - first))
