use Rattle.std.proofs.Common.{◌*◌, ◌^◌, ◌≤◌, ◌<◌, false, None, refl, sym, ap, ◌∙◌, subst, arith}
use Rattle.numbers.specs.declared.units.TheConstants.{ALL}
use Rattle.gcl_core.specs.declared.syntax.Program.{Program}
use Rattle.gcl_core.specs.meaning.Views.{source_of}
use Rattle.gcl_core.specs.weighing.Fractions.{AtMost, IsBelowOne, one}
use Rattle.gcl_core.specs.weighing.Mass.{failed_mass}
use Rattle.gcl_core.proofs.Accepted.{checked_weights}
use Rattle.mass_fold.proofs.Listing.{outcomes_ascend}
use Rattle.units_law.specs.Down.{down}
use Rattle.units_law.specs.Units.{total}
use Rattle.scaled_law.specs.Listed.{all_least}
use Rattle.scaled_law.specs.Pairs.{Pair, at_least}
use Rattle.scaled_law.specs.Up.{up}
use Rattle.scaled_fold.specs.Doubling.{doubling, doubled_round}
use Rattle.scaled_fold.specs.inner.Listing.{counted, bounds_at}
use Rattle.scaled_fold.specs.inner.Longest.{BlockReads}
use Rattle.scaled_fold.proofs.Ending.{doubling_positive}
use Rattle.scaled_fold.proofs.Listed.{all_least_is}
use Rattle.scaled_fold.proofs.Others.{at_most_one}
use Rattle.scaled_fold.proofs.RowsBy.{kept_within}
use Rattle.scaled_fold.proofs.UnderLimit.{HoldUnder, little, hold_under}
use Rattle.scaled_fold.proofs.limiting.enclose_under_attempts.Goals as goal
use Rattle.scaled_fold.proofs.limiting.enclose_under_attempts.Goals.{After-of-2}

pub others-requires : goal.others-requires
others-requires c =
    let whole = c.in_ok-whole.whole in
    let a = kept_within (bounds_at whole.least whole.most whole.rest 1) (counted false c.in_ok-ends.ends.outcomes.entries) in
    let b = ap (λ (w : Pair). w.1) c.in_ok-rows.ensures.kept in
    omega (arith, a, b, c.in_ok-whole.ensures.most)

-- a unit passes
some_units : (c : After-of-2) → 0 < total (at_least (counted false c.in_ok-ends.ends.outcomes.entries))
some_units c = omega (arith, c.in_ok-whole.ensures.least, c.if-whole-eq0.false)

some_pass : (c : After-of-2) → 0 < all_least (source_of c.args.p.now) false (doubled_round (source_of c.args.p.now) c.args.turns None)
some_pass c =
    let ascending = outcomes_ascend _ c.outcomes_are_ordered.ensures.outcomes _ c.is_ordered.ensures in
    let all = all_least_is (source_of c.args.p.now) c.args.turns None false _ _ c.in_ok-ends.ensures.round ascending in
    let unit = some_units c in
    omega (arith, all, unit)

passes : (c : After-of-2) → IsBelowOne (failed_mass (source_of c.args.p.now) c.args.turns None)
passes c =
    c.masses_lie_beside_others.ensures.passes down up c.products_are_rounded_down.ensures.below doubling doubling_positive (source_of c.args.p.now) c.args.turns c.args.turns None false c.is_kept.ensures.kept refl
    (some_pass c)

pub returns-clause-passes : goal.returns-clause-passes
returns-clause-passes c = c.attempts_cost_what_they_weigh.ensures.passes (source_of c.args.p.now) c.args.turns c.args.attempts c.is_kept.ensures.kept (passes c)

holds : (c : After-of-2) → HoldUnder (source_of c.args.p.now) c.args.turns c.args.attempts c.of.result c.of-2.result
holds c =
    let p = source_of c.args.p.now in
    let n = c.args.turns in
    let t = c.args.attempts in
    let ok = c.is_kept.ensures.kept in
    let K = c.in_ok-ends.ends.outcomes.entries in
    let loose = c.in_ok-ends.ends.loose in
    let g = c.in_ok-ends.ensures.round in
    let ascending = outcomes_ascend _ c.outcomes_are_ordered.ensures.outcomes _ c.is_ordered.ensures in
    let laws = c.attempts_cost_what_they_weigh.ensures in
    let downs = c.products_are_rounded_down.ensures.below in
    let ups = c.products_are_rounded_up.ensures in
    let below = passes c in
    let still = laws.passes p n t ok below in
    let within = c.rounds_hold_masses.ensures.least down up downs doubling doubling_positive p n n None false ok refl in
    let enough = c.if-not-are_enough.ensures.enough refl in
    let reads = subst (λ (q : Program). BlockReads n (source_of q).body c.in_ok-reads.reads) c.program-program.ensures.same c.in_ok-reads.ensures in
    let units = c.in_ok-whole.ensures in
    let weight = little p n t ok K loose g ascending below still within c.in_ok-ends.ends.doubled c.in_ok-ends.ensures.scale (some_units c) c.in_ok-reads.reads
    (laws.little p n t ok below (c.if-not-are_enough.ensures.some refl)) (reads (checked_weights p ok)) (subst (λ l. c.in_ok-reads.reads * ALL * (ALL * 2 ^ c.in_ok-ends.ends.doubled) ≤ 2 ^ t * l) units.least enough) in
    subst (HoldUnder p n t c.of.result) (sym c.of-2.ensures.value)
    (hold_under p n t ok K loose g ascending below still within c.in_ok-ends.ends.doubled c.in_ok-ends.ensures.scale (some_units c)
    (c.rounds_hold_masses.ensures.most down up ups doubling doubling_positive p n n None false ok refl)
    (c.masses_lie_beside_others.ensures.between down up downs ups doubling doubling_positive p n n None false ok refl below)
    (c.bounds_beside_others_hold.ensures.enclose down up downs ups doubling doubling_positive p n n None false ok refl (some_pass c))
    (c.bounds_beside_others_hold.ensures.near down up downs ups doubling doubling_positive p n None false ok (some_pass c))
    (laws.below p n t ok below) (laws.no_more p n t ok below) (laws.no_less p n t ok below) weight
    c.in_ok-whole.whole.least c.in_ok-whole.whole.most c.in_ok-whole.whole.rest units.least units.most units.rest c.in_ok-rows.kept c.in_ok-rows.ensures.kept
    c.of.result (c.of.ensures ∙ c.in_ok-rows.ensures.rows) c.in_ok-units.units c.in_ok-units.ensures)

pub returns-clause-ordered : goal.returns-clause-ordered
returns-clause-ordered c = (holds c).ordered

pub returns-clause-enclose : goal.returns-clause-enclose
returns-clause-enclose c = (holds c).encloses

pub returns-clause-close : goal.returns-clause-close
returns-clause-close c = (holds c).close

pub returns-clause-most : goal.returns-clause-most
returns-clause-most c = subst (λ q. AtMost q one) (sym c.of-2.ensures.value) (at_most_one c.in_ok-units.units c.in_ok-units.ensures.within)
