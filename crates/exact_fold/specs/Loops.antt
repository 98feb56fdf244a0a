-- Whether a block has a loop.
use Rattle.std.specs.Prelude.{Bool, true, false}
use Rattle.std.specs.List.{list_any}
use Rattle.gcl_core.specs.meaning.Syntax.{Statement, While, Statements}
use Rattle.gcl_core.specs.text.ReadingOrder.{listed}

abbrev pub is_loop : Statement → Bool
is_loop (While e a) = true
is_loop _ = false

-- some statement of the block is one, or of the blocks in it
abbrev pub any_loops : Statements → Bool
any_loops b = list_any is_loop (listed b)
