-- How much of a piece a sink took. This project's own rule.
use Rattle.std.specs.Prelude.{◌≡◌, ◌<◌, ◌+◌, ◌++◌, ℕ, Bool, true, false, List, length, take}
use Rattle.zar_io.specs.declared.trace.Event.{Event}
use Rattle.zar_io.specs.Trace.{failures, written}

-- The whole piece was taken; or where it failed, a part of its front and not all of it, and one write failed.
abbrev pub IsWritten : Bool → List Event → List Event → List ℕ → Type 0
IsWritten false before now piece = (failures now ≡ failures before) × (written now ≡ written before ++ piece)
IsWritten true before now piece = (failures now ≡ failures before + 1)
    × ((n : ℕ) × (n < length piece) × (written now ≡ written before ++ take n piece))
