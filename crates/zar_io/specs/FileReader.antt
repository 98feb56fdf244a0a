-- What a reader of a file's bits shows: the record of the files that it reads from, and the bits that it has at hand.
-- This project's own rule.
use Rattle.std.specs.Prelude.{◌≡◌, ◌≤◌, ◌++◌, ◌∷◌, ◌⊎◌, List, ℕ, Bool, [], length, slice_range}
use Rattle.zar_io.specs.FileBits.{bits_left, file_bits}
use Rattle.zar_io.specs.Trace.{World, left_in}
use Rattle.zar_io.specs.declared.outside.Files.{Ghosts}
use Rattle.zar_io.specs.declared.trace.Event.{Event}
use Rattle.zar_io.specs.declared.trace.Event.TheVariants.{Read}
use Rattle.zar_io.specs.declared.file_bits.FileBits.{FileBits}
use Rattle.zar_io.specs.declared.file_bits.TheConstants.{BUFFER_BYTES}

-- what the files answered
abbrev pub answered_by : {F : Type 0} {ghosts : Ghosts F} → (F → List Event) → FileBits F ghosts → List Event
answered_by answered reader = answered reader.files.now

-- the bits that are left, over files with these bytes
abbrev pub bits_to_come : {F : Type 0} {ghosts : Ghosts F} → (F → List Event) → FileBits F ghosts → World → List Bool
bits_to_come answered reader file =
    bits_left reader.done reader.waiting reader.current (slice_range reader.buffer reader.start reader.end)
    (left_in file (answered_by answered reader))

-- the bits of the bytes that were read, as far as they were not given yet
abbrev pub at_hand : {F : Type 0} {ghosts : Ghosts F} → FileBits F ghosts → List Bool
at_hand reader =
    bits_left reader.done reader.waiting reader.current (slice_range reader.buffer reader.start reader.end) []

-- whether a call has answered that no bit is left
abbrev pub has_ended : {F : Type 0} {ghosts : Ghosts F} → FileBits F ghosts → Bool
has_ended reader = reader.ended

-- whether a call has failed
abbrev pub has_failed : {F : Type 0} {ghosts : Ghosts F} → FileBits F ghosts → Bool
has_failed reader = reader.broken

-- the ghost name of the files
abbrev pub source_of : {F : Type 0} {ghosts : Ghosts F} → FileBits F ghosts → ℕ
source_of reader = reader.files.ghost_name

-- Nothing is read, or one read gives at most BUFFER_BYTES bytes, and their bits come behind the bits at hand.
pub record ReadsBehind (hand after : List Bool) (before now : List Event) : Type 0 where
  pub bytes : List ℕ
  pub few : length bytes ≤ BUFFER_BYTES
  pub read : ((now ≡ before) × (bytes ≡ [])) ⊎ (now ≡ Read bytes ∷ before)
  pub behind : after ≡ hand ++ file_bits bytes
