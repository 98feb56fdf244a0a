use Rattle.mass_fold.specs.Rounds.{geometric, scale_of}
use Rattle.mass_fold.proofs.Passing.{PassesOn}
use Rattle.mass_fold.proofs.rounds.in_rounds.Given as goal

abbrev pub invariant-loop-x : goal.invariant-loop-x
invariant-loop-x l = record {
  next : (goal.iterator-loop-x).can_next l.x-iterator;
  finite : (goal.iterator-loop-x).is_finite l.x-iterator;
  so_far : PassesOn (λ N. scale_of N l.failed l.rounds) (λ N. geometric l.failed l.rounds) l.failed l.fn.table.entries l.masses.entries l.x-iterator;
}
