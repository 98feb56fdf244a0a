-- The bits that are at hand, as a reader reads, takes up a byte and gives a bit.
use Rattle.std.proofs.Common.{◌≡◌, ◌≤◌, ◌-◌, ℕ, Bool, true, false, List, [], ◌∷◌, inl, inr, length, take, refl, sym, ◌∙◌, ap, arith}
use Rattle.std.specs.Prelude.{slice_range}
use Rattle.std.proofs.lemmas.List.{append-nil, length-take-le}
use Rattle.zar_io.specs.FileBits.{low_bits, file_bits, bits_left}
use Rattle.zar_io.specs.FileReader.{ReadsBehind}
use Rattle.zar_io.specs.declared.trace.Event.{Event}
use Rattle.zar_io.specs.declared.trace.Event.TheVariants.{Read}
use Rattle.zar_io.specs.declared.file_bits.TheConstants.{BUFFER_BYTES}
use Rattle.zar_io.proofs.TraceLemmas.{gone_on, more_is_open}
use Rattle.zar_io.proofs.FileBitsLemmas.{bits_left-end, bits_left-done}

-- no bit is at hand where all bytes are used up
pub none_at_hand : (done : Bool) (k byte start end : ℕ) (buffer : List ℕ) → k ≡ 0 → start ≡ end
    → bits_left done k byte (slice_range buffer start end) [] ≡ []
none_at_hand true k byte start end buffer used_up empty = bits_left-done true k byte _ [] refl
none_at_hand false k byte start end buffer used_up empty = bits_left-end false k byte start end buffer [] refl used_up empty refl

-- nothing is read
pub reads_none : (hand after : List Bool) (before now : List Event) → after ≡ hand → now ≡ before → ReadsBehind hand after before now
unfolding file_bits
reads_none hand after before now kept unread = record {
  bytes = [];
  few = omega arith;
  read = inl (unread, refl);
  behind = kept ∙ sym (append-nil hand);
}

-- no byte is left
pub reads_end : (done : Bool) (k byte start end n : ℕ) (buffer read : List ℕ) (before now : List Event) → k ≡ 0 → start ≡ end → n ≡ 0 → now ≡ Read (take n read) ∷ before
    → ReadsBehind (bits_left done k byte (slice_range buffer start end) []) (bits_left true k byte (slice_range read start end) []) before now
unfolding file_bits
reads_end done k byte start end n buffer read before now used_up empty none taken = record {
  bytes = [];
  few = omega arith;
  read = inr (taken ∙ ap (λ m. Read (take m read) ∷ before) none);
  behind = none_at_hand true k byte start end read used_up empty ∙ sym (none_at_hand done k byte start end buffer used_up empty) ∙ sym (append-nil _);
}

-- n bytes are read
pub reads_some : (done : Bool) (k byte start end n : ℕ) (buffer read : List ℕ) (before now : List Event) → k ≡ 0 → start ≡ end → n ≤ length read → length read ≤ BUFFER_BYTES → now ≡ Read (take n read) ∷ before
    → ReadsBehind (bits_left done k byte (slice_range buffer start end) []) (bits_left false k byte (slice_range read 0 n) []) before now
unfolding bits_left low_bits
reads_some done k byte start end n buffer read before now used_up empty within few taken = record {
  bytes = take n read;
  few = omega (arith, length-take-le n read within);
  read = inr taken;
  behind =
      let e : n - 0 ≡ n = omega arith in
      rw (none_at_hand done k byte start end buffer used_up empty, used_up, e, append-nil (take n read)) refl;
}

-- what was read stays at hand as a byte is taken up
pub reads_kept : (hand after later : List Bool) (before now : List Event) → ReadsBehind hand after before now → later ≡ after
    → ReadsBehind hand later before now
reads_kept hand after later before now reads kept = record { bytes = reads.bytes; few = reads.few; read = reads.read; behind = kept ∙ reads.behind }

pub ruleset bits_read = (reads_none, reads_end, reads_some, reads_kept, none_at_hand, gone_on, more_is_open)
