use Rattle.mass_lines.proofs.telling.bits_text.Goals as goal

pub returns-clause-line : goal.returns-clause-line
returns-clause-line c =
    let text = c.in_ok-bit_line.ensures in
    let bits = c.in_ok-bits.bits in
    let exact = c.in_ok-bits.ensures.bits in
    record { bits = bits; exact = exact; narrow = text.narrow; line = text.line }
