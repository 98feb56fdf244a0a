use Rattle.std.proofs.Common.{sym, subst}
use Rattle.visit_finder.specs.Equations.{AllForms}
use Rattle.visit_finder.proofs.Forming.{no_forms_at, first_forms}
use Rattle.visit_finder.proofs.solving.are_forms.Goals as goal

pub loop-part-init : goal.loop-part-init
loop-part-init g c = record { next = tt; finite = tt; rest = λ forms. subst (AllForms c.args.moduli.now) c.into_iter-part-iterator.ensures.into_iter_gives.0 forms }

pub loop-part-preserved : goal.loop-part-preserved
loop-part-preserved g c = record {
  next = tt;
  finite = tt;
  rest = λ forms. c.loop-part.invariant.rest (subst (AllForms c.args.moduli.now) (sym c.in-Some.ensures.steps) (first_forms c.args.moduli.now _ _ _ (c.are_forms.ensures c.if-not-are_forms.false) forms));
}

pub returns : goal.returns
returns g c same = c.loop-part.invariant.rest (subst (AllForms c.args.moduli.now) (sym c.in-None.ensures.steps.0) (no_forms_at c.args.moduli.now))
