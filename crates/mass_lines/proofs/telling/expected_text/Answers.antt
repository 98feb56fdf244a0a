use Rattle.bits_law.specs.Price.{bits_price}
use Rattle.bits_law.specs.RunPrice.{expected_price}
use Rattle.gcl_core.specs.meaning.Views.{source_of}
use Rattle.mass_lines.proofs.telling.expected_text.Goals as goal

pub returns-clause-line : goal.returns-clause-line
returns-clause-line c =
    let p = source_of c.args.program.now in
    c.in_ok-count_line.ensures (expected_price bits_price p) c.in_ok-bits.ensures.answer
