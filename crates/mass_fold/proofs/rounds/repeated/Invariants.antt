use Rattle.mass_fold.proofs.Repeats.{Rounds}
use Rattle.mass_fold.proofs.rounds.repeated.Given as goal

abbrev pub invariant-loop : goal.invariant-loop
invariant-loop l = Rounds l.s l.f l.sum l.counter
