use Rattle.std.proofs.Common.{ap, ◌∙◌}
use Rattle.zar_io.specs.FileBits.{low_bits}
use Rattle.zar_io.proofs.WordLemmas.{word_bytes}
use Rattle.zar_io.proofs.file_bits.word_at.Goals as goal

pub returns : goal.returns
returns c = ap (λ n. low_bits 64 n) c.from_be_bytes.ensures ∙ word_bytes c.args.buffer.now c.args.start c.requires (λ k. (c.type_inv.buffer k).fits)
