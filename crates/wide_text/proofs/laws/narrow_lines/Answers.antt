use Rattle.wide_text.proofs.Narrow.{narrow_mass, narrow_endless}
use Rattle.wide_text.proofs.laws.narrow_lines.Goals as goal

pub returns-clause-mass : goal.returns-clause-mass
returns-clause-mass c d outcome mass num den = narrow_mass d outcome mass.0 mass.1 num den

pub returns-clause-endless : goal.returns-clause-endless
returns-clause-endless c d mass num den = narrow_endless d mass.0 mass.1 num den
