use Rattle.mass_lines.proofs.telling.enclosed_text.Goals as goal

pub returns-clause-lines : goal.returns-clause-lines
returns-clause-lines c =
    let b = c.in_ok-found.ensures in
    let text = c.in_ok-bound_lines.ensures in
    record {
      rows = c.in_ok-found.found.rows;
      other = c.in_ok-found.found.other;
      ordered = b.ordered;
      narrow = text.narrow;
      narrow_others = text.narrow_others;
      passes = b.passes;
      enclose = b.enclose;
      close = b.close;
      few = b.few;
      lines = text.lines;
    }
