use Rattle.wide_masses.specs.Masses.{rows_of, endless_of}
use Rattle.mass_lines.proofs.telling.exact_text.Goals as goal

pub returns-clause-lines : goal.returns-clause-lines
returns-clause-lines c = record {
  rows = rows_of c.in_ok-masses.masses;
  endless = endless_of c.in_ok-masses.masses;
  exact = c.in_ok-masses.ensures.limits;
  lines = c.in_ok-exact_lines.ensures;
}
