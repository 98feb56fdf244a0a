use Rattle.std.proofs.Common.{◌≡◌, ◌++◌, map}
use Rattle.std.specs.Map.Iter.{deref_pair}
use Rattle.visit_finder.proofs.Fractions.{Fractioned}
use Rattle.visit_finder.proofs.turns.fractions.Given as goal

abbrev pub invariant-loop-number : goal.invariant-loop-number
invariant-loop-number l = record {
  next : (goal.iterator-loop-number).can_next l.number-iterator;
  finite : (goal.iterator-loop-number).is_finite l.number-iterator;
  gone : map deref_pair l.yielded ++ l.number-iterator ≡ l.visits.entries;
  so_far : Fractioned l.moduli (map (λ e. e.0) l.leaving.entries) (map deref_pair l.yielded) l.fractions.entries;
}
