use Rattle.std.proofs.Common.{sym}
use Rattle.units_law.proofs.SamePoints.{peaks_are_same, as_many_points}
use Rattle.units_law.proofs.enclosing.points_are_tables.Goals as goal

pub returns-clause-states : goal.returns-clause-states
returns-clause-states c p n r = sym (peaks_are_same p n r)

pub returns-clause-points : goal.returns-clause-points
returns-clause-points c p n r = sym (as_many_points p n r)
