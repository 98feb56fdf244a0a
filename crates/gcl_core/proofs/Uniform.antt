-- The ends of a uniform draw.
use Rattle.std.proofs.Common.{◌≡◌, ℕ, zero, suc, ◌+◌, length, arith}
use Rattle.std.specs.List.{range_with_len}
use Rattle.std.proofs.lemmas.List.FromFn.{length-range_with_len}
use Rattle.gcl_core.specs.meaning.Draw.{uniform_ends}
use Rattle.gcl_core.specs.weighing.OneDraw.{Ascends}

pub range_ascends : (c m : ℕ) → Ascends c (range_with_len (c + 1) m)
range_ascends c zero = tt
range_ascends c (suc m) = (omega arith, range_ascends (c + 1) m)

pub uniform_length : (m : ℕ) → length (uniform_ends m) ≡ m
uniform_length m = length-range_with_len 1 m
