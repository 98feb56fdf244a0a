use Rattle.std.proofs.Common.{◌≤◌}
use Rattle.units_law.specs.Units.{total}
use Rattle.scaled_law.specs.Pairs.{at_least, at_most}
use Rattle.scaled_fold.specs.inner.Listing.{counted, bounds_at}
use Rattle.scaled_fold.proofs.RowsBy.{AreSoFar}
use Rattle.scaled_fold.proofs.listing.listed.Given as goal

abbrev pub invariant-loop-x : goal.invariant-loop-x
invariant-loop-x l = record {
  next : (goal.iterator-loop-x).can_next l.x-iterator;
  finite : (goal.iterator-loop-x).is_finite l.x-iterator;
  least : total (at_least (counted l.all_turns l.x-iterator)) ≤ l.whole.least;
  most : total (at_most (counted l.all_turns l.x-iterator)) ≤ l.whole.most;
  so_far : AreSoFar (bounds_at l.whole.least l.whole.most l.whole.rest l.spare) (counted l.all_turns l.fn.units.entries) (counted l.all_turns l.x-iterator) l.rows.items l.kept;
}
