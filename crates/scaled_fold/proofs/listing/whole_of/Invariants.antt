use Rattle.std.proofs.Common.{◌≡◌, ◌+◌}
use Rattle.units_law.specs.Units.{total}
use Rattle.scaled_law.specs.Pairs.{at_least, at_most}
use Rattle.scaled_fold.specs.inner.Listing.{counted, set_aside}
use Rattle.scaled_fold.proofs.listing.whole_of.Given as goal

abbrev pub invariant-loop-x : goal.invariant-loop-x
invariant-loop-x l = record {
  next : (goal.iterator-loop-x).can_next l.x-iterator;
  finite : (goal.iterator-loop-x).is_finite l.x-iterator;
  least : l.all.0 + total (at_least (counted l.all_turns l.x-iterator)) ≡ total (at_least (counted l.all_turns l.units.entries));
  most : l.all.1 + total (at_most (counted l.all_turns l.x-iterator)) ≡ total (at_most (counted l.all_turns l.units.entries));
  rest : l.rest + set_aside l.all_turns l.x-iterator ≡ l.loose + set_aside l.all_turns l.units.entries;
}
