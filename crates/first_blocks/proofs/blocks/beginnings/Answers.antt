use Rattle.std.proofs.Common.{refl, slice_index}
use Rattle.rand_chacha.specs.Block.{initial_state}
use Rattle.first_blocks.proofs.Lanes.{agree}
use Rattle.first_blocks.proofs.blocks.beginnings.Goals as goal

pub returns : goal.returns
returns c =
    agree _ (λ j. initial_state c.args.key.now 0 (slice_index c.args.streams.now j)) 4
    (rw (c.low_half.ensures, c.low_half-2.ensures, c.low_half-3.ensures, c.low_half-4.ensures, c.high_half.ensures, c.high_half-2.ensures, c.high_half-3.ensures, c.high_half-4.ensures) refl)
