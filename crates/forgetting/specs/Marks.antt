-- Sets of variables as lists of marks, one for each number below the list's length.
use Rattle.std.specs.Prelude.{Bool, false, List, slice_index_or}
use Rattle.forgetting.specs.Liveness.{Names}

-- the variables that are marked
abbrev pub marked : List Bool → Names
marked marks x = slice_index_or marks x false
