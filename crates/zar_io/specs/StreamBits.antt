-- The bits of a stream: those of its words in order, each word's most significant bit first. Its words are those of
-- ChaCha20 (RFC 8439), whose key is the eight bytes of the seed, the least significant first, and 24 bytes of 0, and
-- whose nonce is the stream's number. This use of seed and number is this project's own.
use Rattle.std.specs.Prelude.{◌==◌, ◌+◌, ◌-◌, ◌/◌, ◌%◌, ◌^◌, ◌++◌, ℕ, suc, zero, Bool, List, [], ◌∷◌, replicate}
use Rattle.std.specs.Int.{w64, to_le_bytes}
use Rattle.rand_chacha.specs.ChaCha.{word_at, key_of}

-- the 32 bytes of a seed
abbrev pub seed_bytes : ℕ → List ℕ
seed_bytes seed = to_le_bytes w64 seed ++ replicate 24 0

-- word number t of a stream
abbrev pub stream_word : ℕ → ℕ → ℕ → ℕ
stream_word seed stream t = word_at 10 (key_of (seed_bytes seed)) stream t

-- bit number n of words of 32 bits
abbrev pub word_bit : (ℕ → ℕ) → ℕ → Bool
word_bit word n = word (n / 32) / 2 ^ (31 - n % 32) % 2 == 1

-- k bits, from bit number n on
unfoldable pub word_bits : (ℕ → ℕ) → ℕ → ℕ → List Bool
word_bits word n zero = []
word_bits word n (suc k) = word_bit word n ∷ word_bits word (n + 1) k

-- the first bits of a stream, as many as the budget says
abbrev pub stream_bits : ℕ → ℕ → ℕ → List Bool
stream_bits seed stream budget = word_bits (stream_word seed stream) 0 budget
