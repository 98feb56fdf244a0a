use Rattle.std.proofs.Common.{Contains, sym, subst, arith}
use Rattle.std.proofs.lemmas.Grind.{common_steps}
use Rattle.std.proofs.lemmas.List.{nil_from_length}
use Rattle.std.proofs.lemmas.List.Elements.{Contains-push}
use Rattle.visit_finder.proofs.AtPlaces.{forms_after}
use Rattle.visit_finder.proofs.FoundVisits.{IsTold, told_more, told_all}
use Rattle.visit_finder.proofs.solving.visits_by.Goals as goal

pub visit-visited-requires-clause-pivot : goal.visit-visited-requires-clause-pivot
visit-visited-requires-clause-pivot c =
    let new = c.loop-pivot.moduli in
    let i = c.loop-pivot.invariant in
    let pivot = c.in-Some.pivot in
    let forms = c.requires pivot (i.within pivot (subst (λ ps. Contains ps pivot) (sym c.in-Some.ensures.items) (Contains-push c.pop.new.self.items pivot))) in
    record {
      over = forms_after c.args.moduli.now new pivot.leaves i.loses forms.over;
      from = record {
        entered = forms_after c.args.moduli.now new pivot.column.entered i.loses forms.from.entered;
        from = λ k r has. forms_after c.args.moduli.now new r i.loses (forms.from.from k r has);
      };
    }

pub visit-visited-requires-clause-visits : goal.visit-visited-requires-clause-visits
visit-visited-requires-clause-visits c = λ k r has. forms_after c.args.moduli.now c.loop-pivot.moduli r c.loop-pivot.invariant.loses (c.loop-pivot.invariant.forms k r has)

pub loop-pivot-preserved : goal.loop-pivot-preserved
loop-pivot-preserved c =
    let e = c.visit-visited.ensures in
    subst (IsTold c.args.moduli.now c.visit-visited.new.moduli c.args.pivots.items c.pop.new.self.items) (sym c.in_ok-insert.ensures.entries)
    (told_more c.args.moduli.now c.loop-pivot.moduli c.visit-visited.new.moduli c.args.pivots.items c.loop-pivot.stack.items c.pop.new.self.items c.loop-pivot.visits.entries c.in-Some.pivot c.visit-visited.result
    c.in-Some.ensures.items e.loses e.forms e.known c.loop-pivot.invariant)

pub returns-clause-all : goal.returns-clause-all
returns-clause-all c = told_all c.args.moduli.now c.loop-pivot.moduli c.args.pivots.items c.loop-pivot.stack.items c.loop-pivot.visits.entries
    (nil_from_length c.loop-pivot.stack.items (grind (arith, common_steps))) c.loop-pivot.invariant
