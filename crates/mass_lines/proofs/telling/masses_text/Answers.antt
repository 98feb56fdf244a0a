use Rattle.mass_lines.proofs.telling.masses_text.Goals as goal

pub returns-clause-lines : goal.returns-clause-lines
returns-clause-lines c =
    let text = c.in_ok-mass_rows_text.ensures in
    record { rows = c.in_ok-rows.rows; exact = c.in_ok-rows.ensures.rows; passes = c.in_ok-rows.ensures.passes; narrow = text.narrow; lines = text.lines }
