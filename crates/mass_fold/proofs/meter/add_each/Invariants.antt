use Rattle.table_flow.specs.Scale.{whole, Whole}
use Rattle.mass_fold.specs.inner.Metering.{CountsRest}
use Rattle.mass_fold.proofs.meter.add_each.Given as goal

abbrev pub invariant-loop-f : goal.invariant-loop-f
invariant-loop-f l = record {
  next : (goal.iterator-loop-f).can_next l.f-iterator;
  finite : (goal.iterator-loop-f).is_finite l.f-iterator;
  so_far : CountsRest (λ M s. Whole M l.bits) (λ M s. whole M l.bits) l.table.states.entries l.fn.meter l.now l.f-iterator;
}
