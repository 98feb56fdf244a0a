use Rattle.visit_finder.specs.Equations.{AllForms}
use Rattle.visit_finder.proofs.solving.are_forms.Given as goal

abbrev pub invariant-loop-part : goal.invariant-loop-part
invariant-loop-part o l = record {
  next : (goal.iterator-loop-part o).can_next l.part-iterator;
  finite : (goal.iterator-loop-part o).is_finite l.part-iterator;
  rest : AllForms l.moduli l.part-iterator → AllForms l.moduli l.residues.entries;
}
