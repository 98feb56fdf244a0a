-- The bits that are left of some bytes, as one is taken up and gives its bits.
use Rattle.std.proofs.Common.{◌≡◌, ◌<◌, ◌≤◌, ◌+◌, ℕ, Bool, false, List, [], drop, length, get_or, refl, sym, ap, subst, arith}
use Rattle.std.proofs.Math.Seq.{drop-length}
use Rattle.std.proofs.lemmas.List.{drop_more}
use Rattle.zar_io.specs.FileBits.{low_bits, file_bits, bits_left}
use Rattle.bit_runs.specs.ByteBits.{bits_to_come}

-- before the first byte
pub first_byte : (byte : ℕ) (bytes : List ℕ) → bits_to_come 0 byte 0 bytes ≡ file_bits bytes
unfolding bits_left low_bits
first_byte byte bytes = refl

-- a byte is taken up
pub next_byte : (waiting byte next : ℕ) (bytes : List ℕ) → waiting ≡ 0 → next < length bytes →
    bits_to_come 8 (get_or bytes next 0) (next + 1) bytes ≡ bits_to_come waiting byte next bytes
unfolding bits_left low_bits file_bits
next_byte waiting byte next bytes used_up some = rw (used_up, drop_more bytes next 0 some) refl

-- there are no more
pub no_byte : (waiting byte next : ℕ) (bytes : List ℕ) → waiting ≡ 0 → next ≡ length bytes → bits_to_come waiting byte next bytes ≡ []
unfolding bits_left low_bits file_bits
no_byte waiting byte next bytes used_up end = rw (used_up, end, drop-length bytes) refl

pub ruleset bytes_kept = (first_byte, next_byte, no_byte)
