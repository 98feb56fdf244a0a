use Rattle.std.proofs.Common.{◌≡◌, ℕ, ◌+◌, ◌<◌, get_or, length}
use Rattle.weighted_roll.specs.WeightedRoll.{weighted_roll}
use Rattle.zar_io.specs.StreamBits.{stream_bits}
use Rattle.stream_rolls.specs.Ends.{end_of, label_of}
use Rattle.stream_rolls.proofs.rolling.fill.Given as goal

abbrev pub invariant-loop-k : goal.invariant-loop-k
invariant-loop-k l = (length l.ends ≡ length l.labels)
    × (length l.room ≡ length l.loaded)
    × ((k : ℕ) → k < l.k → get_or l.labels k 0 ≡ label_of (weighted_roll l.loaded l.flips (stream_bits l.streams.seed (l.streams.first + k) l.streams.budget)))
    × ((k : ℕ) → k < l.k → get_or l.ends k 0 ≡ end_of (weighted_roll l.loaded l.flips (stream_bits l.streams.seed (l.streams.first + k) l.streams.budget)))
