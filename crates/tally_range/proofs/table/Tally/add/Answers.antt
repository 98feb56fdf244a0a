use Rattle.std.proofs.Common.{◌≡◌, ◌+◌, true, sym, subst, ap, ◌∙◌, arith}
use Rattle.tally_range.specs.Rows.{Rows, counted_at}
use Rattle.tally_range.specs.Tallies.{keys_ascend, IsTally}
use Rattle.tally_range.specs.Sums.{count_in}
use Rattle.tally_range.proofs.Entries.{found_count, looked_up, written, tally_inserted, count_inserted, count_first}
use Rattle.tally_range.proofs.table.Tally.add.Goals as goal

pub overflow_add-count : goal.overflow_add-count
overflow_add-count c =
    let is = ap found_count c.in-Some.ensures.value ∙ looked_up _ c.outcomes_are_ordered.ensures.keys c.self.inside.rows.entries c.args.key c.self.invariant.ascending in
    let same = ap (λ (r : Rows). count_in r c.args.key) c.self.view_is in
    let fits = c.requires.fits in
    omega (arith, is, same, fits)

pub invariant_of-self : goal.invariant_of-self
invariant_of-self c =
    let es = c.self.inside.rows.entries in
    let n = c.in-Some.count.now + c.args.n in
    let some = c.requires.some in
    subst IsTally (sym ((c.get_mut.follows.holds n).0 ∙ written _ c.outcomes_are_ordered.ensures.keys es c.args.key n c.in-Some.count.now c.self.invariant.ascending (sym c.in-Some.ensures.value)))
    (tally_inserted _ c.outcomes_are_ordered.ensures.keys es c.args.key n c.self.invariant (omega (arith, some)))

pub returns-in-Some-clause-counted : goal.returns-in-Some-clause-counted
returns-in-Some-clause-counted c =
    let es = c.self.inside.rows.entries in
    let n = c.in-Some.count.now + c.args.n in
    let is = ap found_count c.in-Some.ensures.value ∙ looked_up _ c.outcomes_are_ordered.ensures.keys es c.args.key c.self.invariant.ascending in λ other.
    ap (λ (r : Rows). count_in r other) ((c.get_mut.follows.holds n).0 ∙ written _ c.outcomes_are_ordered.ensures.keys es c.args.key n c.in-Some.count.now c.self.invariant.ascending (sym c.in-Some.ensures.value))
    ∙ count_inserted _ c.outcomes_are_ordered.ensures.keys es c.args.key c.in-Some.count.now c.args.n other c.self.invariant.ascending is
    ∙ ap (λ (r : Rows). count_in r other + counted_at c.args.key c.args.n other) c.self.view_is

pub invariant_of-self-in_ok-insert-in-None : goal.invariant_of-self-in_ok-insert-in-None
invariant_of-self-in_ok-insert-in-None c =
    let same = ap (λ m. m.entries) c.get_mut.follows.holds-at-none in
    subst IsTally (sym c.in_ok-insert-in-None.ensures.entries)
    (tally_inserted _ c.outcomes_are_ordered.ensures.keys c.get_mut.follows.lender-at-none.entries c.args.key c.args.n (subst IsTally (sym same) c.self.invariant) c.requires.some)

pub returns-in_ok-insert-in-None-clause-counted : goal.returns-in_ok-insert-in-None-clause-counted
returns-in_ok-insert-in-None-clause-counted c =
    let es = c.get_mut.follows.lender-at-none.entries in
    let same = ap (λ m. m.entries) c.get_mut.follows.holds-at-none in
    let ascending = subst (λ (r : Rows). keys_ascend r ≡ true) (sym same) c.self.invariant.ascending in
    let none = ap found_count c.in-None.ensures.value ∙ looked_up _ c.outcomes_are_ordered.ensures.keys c.self.inside.rows.entries c.args.key c.self.invariant.ascending ∙ ap (λ (r : Rows). count_in r c.args.key) (sym same) in λ other.
    ap (λ (r : Rows). count_in r other) c.in_ok-insert-in-None.ensures.entries
    ∙ count_first _ c.outcomes_are_ordered.ensures.keys es c.args.key c.args.n other ascending none
    ∙ ap (λ (r : Rows). count_in r other + counted_at c.args.key c.args.n other) (same ∙ c.self.view_is)
