use Rattle.std.proofs.Common.{refl}
use Rattle.rand_core.specs.Steps.{u32_at}
use Rattle.rand_chacha.specs.Block.{quarter_round, column_round, diagonal_round, double_rounds, block_word}
use Rattle.zar_io.specs.FileBits.{low_bits}
use Rattle.zar_io.specs.StreamBits.{word_bits}
use Rattle.zar_io.proofs.stream_bits.streams_begin_as_published.Goals as goal

pub returns-clause-first_block : goal.returns-clause-first_block
unfolding u32_at block_word double_rounds diagonal_round quarter_round column_round
returns-clause-first_block c = refl

pub returns-clause-next_block : goal.returns-clause-next_block
unfolding u32_at block_word double_rounds diagonal_round quarter_round column_round
returns-clause-next_block c = refl

pub returns-clause-other_seed : goal.returns-clause-other_seed
unfolding u32_at block_word double_rounds diagonal_round quarter_round column_round
returns-clause-other_seed c = refl

pub returns-clause-other_stream : goal.returns-clause-other_stream
unfolding u32_at block_word double_rounds diagonal_round quarter_round column_round
returns-clause-other_stream c = refl

pub returns-clause-bits : goal.returns-clause-bits
unfolding u32_at block_word double_rounds diagonal_round quarter_round column_round word_bits low_bits
returns-clause-bits c = refl
