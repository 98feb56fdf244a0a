use Rattle.std.proofs.Common.{◌∙◌, [], ◌∷◌, map, refl, sym, subst}
use Rattle.std.specs.Map.Iter.{deref_pair}
use Rattle.std.proofs.lemmas.List.{map-append}
use Rattle.visit_finder.proofs.Members.{among, not_among}
use Rattle.visit_finder.proofs.Fractions.{Fractioned, none_gone, one_found, one_skipped, all_gone, gone_more, gone_all, next_there}
use Rattle.visit_finder.proofs.turns.fractions.Goals as goal

pub loop-number-init : goal.loop-number-init
loop-number-init c = record {
  next = tt;
  finite = tt;
  gone = c.into_iter-number-iterator.ensures.into_iter_gives.0;
  so_far = none_gone c.args.moduli.now (map (λ e. e.0) c.args.leaving.now.entries) c.new-fractions.result.entries c.new-fractions.ensures.empty;
}

pub loop-number-preserved-in_ok-insert : goal.loop-number-preserved-in_ok-insert
loop-number-preserved-in_ok-insert c =
    let states = map (λ e. e.0) c.args.leaving.now.entries in
    let gone = map deref_pair c.loop-number.yielded in
    let e = deref_pair (c.in-Some.number, c.in-Some.part) in
    record {
      next = tt;
      finite = tt;
      gone = gone_more deref_pair c.loop-number.yielded (c.in-Some.number, c.in-Some.part) c.loop-number.number-iterator c.next.new.self c.args.visits.now.entries c.in-Some.ensures.steps c.loop-number.invariant.gone;
      so_far = subst (λ gone. Fractioned c.args.moduli.now states gone c.insert.new.self.entries) (sym (map-append deref_pair c.loop-number.yielded ((c.in-Some.number, c.in-Some.part) ∷ [])))
          (one_found c.args.moduli.now states gone c.loop-number.fractions.entries c.insert.new.self.entries e c.in-Some-fraction.fraction (among states e.0 (sym c.may_leave.ensures ∙ c.if-may_leave.true))
          c.in-Some-fraction.ensures.one c.in_ok-insert.ensures.entries c.loop-number.invariant.so_far);
    }

pub loop-number-preserved : goal.loop-number-preserved
loop-number-preserved c =
    let states = map (λ e. e.0) c.args.leaving.now.entries in
    let gone = map deref_pair c.loop-number.yielded in
    let e = deref_pair (c.in-Some.number, c.in-Some.part) in
    record {
      next = tt;
      finite = tt;
      gone = gone_more deref_pair c.loop-number.yielded (c.in-Some.number, c.in-Some.part) c.loop-number.number-iterator c.next.new.self c.args.visits.now.entries c.in-Some.ensures.steps c.loop-number.invariant.gone;
      so_far = subst (λ gone. Fractioned c.args.moduli.now states gone c.loop-number.fractions.entries) (sym (map-append deref_pair c.loop-number.yielded ((c.in-Some.number, c.in-Some.part) ∷ [])))
          (one_skipped c.args.moduli.now states gone c.loop-number.fractions.entries e (not_among states e.0 (sym c.may_leave.ensures ∙ c.if-may_leave.false)) c.loop-number.invariant.so_far);
    }

pub returns-clause-fractions : goal.returns-clause-fractions
returns-clause-fractions c =
    let all = gone_all (map deref_pair c.loop-number.yielded) c.loop-number.number-iterator c.args.visits.now.entries c.in-None.ensures.steps.0 c.loop-number.invariant.gone in
    all_gone c.args.moduli.now (map (λ e. e.0) c.args.leaving.now.entries) c.args.visits.now.entries (map deref_pair c.loop-number.yielded) c.loop-number.fractions.entries all
    c.into_iter-number-iterator.ensures.into_iter_gives.5 c.loop-number.invariant.so_far

pub returns-in_default-clause-none : goal.returns-in_default-clause-none
returns-in_default-clause-none c = λ e. record {
  ordered = c.into_iter-number-iterator.ensures.into_iter_gives.5;
  state = c.in-Some.number.now;
  among = among (map (λ e. e.0) c.args.leaving.now.entries) c.in-Some.number.now (sym c.may_leave.ensures ∙ c.if-may_leave.true);
  residues = c.in-Some.part.now;
  there = next_there (map deref_pair c.loop-number.yielded) c.loop-number.number-iterator c.next.new.self c.args.visits.now.entries (deref_pair (c.in-Some.number, c.in-Some.part)) c.in-Some.ensures.steps c.loop-number.invariant.gone;
  none = c.in_default.ensures.none refl;
}
