-- The bits that are left of some bytes: the lowest of one, as many as wait, and then those of the bytes from a place on.
use Rattle.std.specs.Prelude.{ℕ, Bool, false, List, [], drop}
use Rattle.zar_io.specs.FileBits.{bits_left}

abbrev pub bits_to_come : ℕ → ℕ → ℕ → List ℕ → List Bool
bits_to_come waiting byte next bytes = bits_left false waiting byte [] (drop next bytes)
