use Rattle.std.proofs.Common.{ℕ, ◌<◌, Bool, true, false, None, refl, le_refl, sym, ◌∙◌, subst, arith}
use Rattle.gcl_core.specs.meaning.Views.{source_of}
use Rattle.gcl_core.specs.weighing.Fractions.{AtMost, one}
use Rattle.mass_fold.proofs.Listing.{outcomes_ascend}
use Rattle.units_law.specs.Down.{down}
use Rattle.units_law.specs.Holding.{IsFor, AreOrdered, Enclose, AreClose}
use Rattle.scaled_law.specs.Up.{up}
use Rattle.scaled_law.specs.Listed.{all_least}
use Rattle.scaled_fold.specs.Doubling.{doubling, doubled_round}
use Rattle.scaled_fold.proofs.Ending.{doubling_positive}
use Rattle.scaled_fold.proofs.Listed.{all_least_is, kept_most, listed_rows, rows_ordered, rows_enclose, rows_close}
use Rattle.scaled_fold.proofs.Others.{at_most_one}
use Rattle.scaled_fold.proofs.enclosing.enclose_in_pairs.Goals as goal

-- the limit itself
itself : (all_turns : Bool) (n : ℕ) → IsFor all_turns n n
itself false n = refl
itself true n = le_refl n

pub others-requires : goal.others-requires
others-requires c =
    let whole = c.in_ok-whole.ensures in
    kept_most (source_of c.args.p.now) c.args.turns c.args.attempts c.args.all_turns _ _ c.in_ok-ends.ensures.round (outcomes_ascend _ c.outcomes_are_ordered.ensures.outcomes _ c.is_ordered.ensures)
    c.in_ok-whole.whole.least c.in_ok-whole.whole.most c.in_ok-whole.whole.rest whole.least whole.most whole.rest c.in_ok-rows.kept c.in_ok-rows.ensures.kept

pub returns-clause-passes : goal.returns-clause-passes
returns-clause-passes c =
    let p = source_of c.args.p.now in
    let ascending = outcomes_ascend _ c.outcomes_are_ordered.ensures.outcomes _ c.is_ordered.ensures in
    let all = all_least_is p c.args.turns c.args.attempts c.args.all_turns _ _ c.in_ok-ends.ensures.round ascending in
    let unit : 0 < all_least p c.args.all_turns (doubled_round p c.args.turns c.args.attempts) = omega (arith, all, c.in_ok-whole.ensures.least, c.if-whole-eq0.false) in
    c.masses_lie_beside_others.ensures.passes down up c.products_are_rounded_down.ensures.below doubling doubling_positive p c.args.turns c.args.turns c.args.attempts c.args.all_turns c.is_kept.ensures.kept
    (itself c.args.all_turns c.args.turns) unit

pub returns-clause-ordered : goal.returns-clause-ordered
returns-clause-ordered c =
    let p = source_of c.args.p.now in
    let whole = c.in_ok-whole.ensures in
    let ascending = outcomes_ascend _ c.outcomes_are_ordered.ensures.outcomes _ c.is_ordered.ensures in
    let rows = c.of.ensures ∙ c.in_ok-rows.ensures.rows in
    let are = listed_rows p c.args.turns c.args.attempts c.args.all_turns _ _ c.in_ok-ends.ensures.round ascending
    c.in_ok-whole.whole.least c.in_ok-whole.whole.most c.in_ok-whole.whole.rest whole.least whole.most whole.rest c.in_ok-rows.kept c.in_ok-rows.ensures.kept
    c.of.result rows c.in_ok-units.units c.in_ok-units.ensures in
    subst (AreOrdered c.of.result) (sym c.of-2.ensures.value)
    (rows_ordered p c.args.turns c.args.attempts c.args.all_turns _ _ c.in_ok-ends.ensures.round ascending
    c.in_ok-whole.whole.least c.in_ok-whole.whole.most c.in_ok-whole.whole.rest whole.least whole.most whole.rest c.in_ok-rows.kept c.in_ok-rows.ensures.kept
    c.of.result rows c.in_ok-units.units c.in_ok-units.ensures
    (c.bounds_beside_others_hold.ensures.ordered down up doubling p c.args.turns c.args.attempts c.args.all_turns c.of.result _ are refl))

pub returns-clause-enclose : goal.returns-clause-enclose
returns-clause-enclose c n is =
    let p = source_of c.args.p.now in
    let whole = c.in_ok-whole.ensures in
    let ascending = outcomes_ascend _ c.outcomes_are_ordered.ensures.outcomes _ c.is_ordered.ensures in
    let all = all_least_is p c.args.turns c.args.attempts c.args.all_turns _ _ c.in_ok-ends.ensures.round ascending in
    let unit : 0 < all_least p c.args.all_turns (doubled_round p c.args.turns c.args.attempts) = omega (arith, all, whole.least, c.if-whole-eq0.false) in
    let rows = c.of.ensures ∙ c.in_ok-rows.ensures.rows in
    let are = listed_rows p c.args.turns c.args.attempts c.args.all_turns _ _ c.in_ok-ends.ensures.round ascending
    c.in_ok-whole.whole.least c.in_ok-whole.whole.most c.in_ok-whole.whole.rest whole.least whole.most whole.rest c.in_ok-rows.kept c.in_ok-rows.ensures.kept
    c.of.result rows c.in_ok-units.units c.in_ok-units.ensures in
    subst (Enclose p n c.args.attempts None c.of.result) (sym c.of-2.ensures.value)
    (rows_enclose p c.args.turns c.args.attempts c.args.all_turns _ _ c.in_ok-ends.ensures.round ascending
    c.in_ok-whole.whole.least c.in_ok-whole.whole.most c.in_ok-whole.whole.rest whole.least whole.most whole.rest c.in_ok-rows.kept c.in_ok-rows.ensures.kept
    c.of.result rows c.in_ok-units.units c.in_ok-units.ensures n
    (c.bounds_beside_others_hold.ensures.enclose down up c.products_are_rounded_down.ensures.below c.products_are_rounded_up.ensures doubling doubling_positive p c.args.turns n c.args.attempts c.args.all_turns
    c.is_kept.ensures.kept is unit c.of.result _ are refl))

pub returns-clause-close : goal.returns-clause-close
returns-clause-close c =
    let p = source_of c.args.p.now in
    let whole = c.in_ok-whole.ensures in
    let ascending = outcomes_ascend _ c.outcomes_are_ordered.ensures.outcomes _ c.is_ordered.ensures in
    let all = all_least_is p c.args.turns c.args.attempts c.args.all_turns _ _ c.in_ok-ends.ensures.round ascending in
    let unit : 0 < all_least p c.args.all_turns (doubled_round p c.args.turns c.args.attempts) = omega (arith, all, whole.least, c.if-whole-eq0.false) in
    let rows = c.of.ensures ∙ c.in_ok-rows.ensures.rows in
    let are = listed_rows p c.args.turns c.args.attempts c.args.all_turns _ _ c.in_ok-ends.ensures.round ascending
    c.in_ok-whole.whole.least c.in_ok-whole.whole.most c.in_ok-whole.whole.rest whole.least whole.most whole.rest c.in_ok-rows.kept c.in_ok-rows.ensures.kept
    c.of.result rows c.in_ok-units.units c.in_ok-units.ensures in
    subst (AreClose 1 c.of.result) (sym c.of-2.ensures.value)
    (rows_close p c.args.turns c.args.attempts c.args.all_turns _ _ c.in_ok-ends.ensures.round ascending
    c.in_ok-whole.whole.least c.in_ok-whole.whole.most c.in_ok-whole.whole.rest whole.least whole.most whole.rest c.in_ok-rows.kept c.in_ok-rows.ensures.kept
    c.of.result rows c.in_ok-units.units c.in_ok-units.ensures (omega (arith, all, unit))
    (c.bounds_beside_others_hold.ensures.near down up c.products_are_rounded_down.ensures.below c.products_are_rounded_up.ensures doubling doubling_positive p c.args.turns c.args.attempts c.args.all_turns
    c.is_kept.ensures.kept unit c.of.result are))

pub returns-clause-most : goal.returns-clause-most
returns-clause-most c = subst (λ q. AtMost q one) (sym c.of-2.ensures.value) (at_most_one c.in_ok-units.units c.in_ok-units.ensures.within)
