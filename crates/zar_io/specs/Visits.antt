-- What a worker told a gate of.
use Rattle.std.specs.Prelude.{ℕ, List}
use Rattle.zar_io.specs.declared.visits.Visits.{Visits}

-- the blocks, in the order in which the gate was told of them
abbrev pub blocks_told : Visits → List ℕ
blocks_told v = v.told
