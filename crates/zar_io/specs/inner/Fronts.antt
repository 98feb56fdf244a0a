-- Where the words of a stream come from: first blocks of neighbours, and a generator behind them.
use Rattle.std.specs.Prelude.{◌≡◌, ◌<◌, ◌+◌, ◌*◌, ℕ, List}
use Rattle.rand_chacha.specs.ChaCha.{ChaCha, key_of}
use Rattle.rand_chacha.specs.Lanes.{lane_at}
use Rattle.zar_io.specs.StreamBits.{seed_bytes, stream_word}

-- rows of words are the first blocks of four streams that follow one another
abbrev pub AreFronts : ℕ → ℕ → List (List ℕ) → Type 0
AreFronts seed group rows = (j k : ℕ) → j < 4 → k < 16 → lane_at rows k j ≡ stream_word seed (4 * group + j) k

-- a generator that stands before word number t of a stream
abbrev pub stream_at : ℕ → ℕ → ℕ → ChaCha
stream_at seed stream t = record { key = key_of (seed_bytes seed); stream = stream; word_pos = t }
