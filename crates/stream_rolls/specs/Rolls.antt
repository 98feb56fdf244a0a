-- What stands in two slices: what rolls by weights give on the streams of a seed that follow one another.
use Rattle.std.specs.Prelude.{◌≡◌, ℕ, ◌+◌, ◌<◌, List, length, get_or}
use Rattle.stream_rolls.specs.Ends.{end_of, label_of}
use Rattle.weighted_roll.specs.WeightedRoll.{weighted_roll}
use Rattle.zar_io.specs.StreamBits.{stream_bits}

-- at place k what the roll gives on the first bits of the stream first + k
pub record AreRolled (ws : List ℕ) (flips seed first budget : ℕ) (labels ends : List ℕ) : Type 0 where
  pub alike : length ends ≡ length labels
  pub labels_are : (k : ℕ) → k < length labels
      → get_or labels k 0 ≡ label_of (weighted_roll ws flips (stream_bits seed (first + k) budget))
  pub ends_are : (k : ℕ) → k < length labels
      → get_or ends k 0 ≡ end_of (weighted_roll ws flips (stream_bits seed (first + k) budget))
