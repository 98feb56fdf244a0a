-- Blocks of streams, which are dealt to workers. This project's own rule.
use Rattle.std.specs.Prelude.{ℕ, ◌+◌, ◌-◌, ◌*◌, ◌/◌}
use Rattle.stream_runs.specs.declared.range.TheConstants.{STREAMS_OF_A_BLOCK}

-- the first stream of the block number j
abbrev pub first_in_block : ℕ → ℕ → ℕ
first_in_block from j = from + STREAMS_OF_A_BLOCK * j

-- how many blocks there are, the last of which may be shorter
abbrev pub blocks_over : ℕ → ℕ → ℕ
blocks_over from to = (to - from + (STREAMS_OF_A_BLOCK - 1)) / STREAMS_OF_A_BLOCK
