use Rattle.narrow_fractions.proofs.Rows.{row_moves, other_moves, both_move}
use Rattle.narrow_fractions.proofs.refusing.rows_may_be_merged.Goals as goal

pub returns-clause-row : goal.returns-clause-row
returns-clause-row c = row_moves

pub returns-clause-other : goal.returns-clause-other
returns-clause-other c = other_moves

pub returns-clause-both : goal.returns-clause-both
returns-clause-both c = both_move
