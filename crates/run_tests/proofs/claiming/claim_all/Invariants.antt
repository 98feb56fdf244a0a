use Rattle.std.proofs.Common.{◌≡◌, ◌-◌, ◌≤◌, false}
use Rattle.passes.specs.Numbers.{top}
use Rattle.claim_board.specs.Board.{blocks_of, dealt_to, had_none, IsPassOf, IsSamePass}
use Rattle.run_tests.proofs.claiming.claim_all.Given as goal

abbrev pub invariant-loop-block : goal.invariant-loop-block
invariant-loop-block l = IsPassOf l.board l.pass × IsSamePass l.initial.pass l.pass × (had_none l.pass ≡ false) × (top (dealt_to l.pass) ≤ blocks_of l.board)

-- each block is above those before it
abbrev pub decreases-loop-block : goal.decreases-loop-block
decreases-loop-block l = blocks_of l.board - top (dealt_to l.pass)
