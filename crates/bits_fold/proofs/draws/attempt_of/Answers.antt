use Rattle.std.proofs.Common.{◌∙◌, ◌+◌, slice_set, sym, ap, subst, arith}
use Rattle.std.proofs.lemmas.List.{length-take-le}
use Rattle.cost_law.specs.ExpectedBits.{attempt_bits}
use Rattle.gcl_core.specs.declared.rules.TheConstants.{GREATEST_DENOMINATOR}
use Rattle.mass_fold.proofs.ArmsLeft.{EndsAt, few_arms, ends_next, ends_all, ends_within}
use Rattle.bits_fold.proofs.draws.attempt_of.Goals as goal

pub bounds-ends-count : goal.bounds-ends-count
bounds-ends-count c =
    let few = few_arms c.deref-part-items.result.now _ c.deref-part-items.ensures.value c.requires.few in
    omega (arith, few, c.loop-part.invariant.many, c.loop-part-test.true)

pub loop-part-preserved : goal.loop-part-preserved
loop-part-preserved c =
    let items = c.deref-part-items.result.now in
    let i = c.loop-part.part-index in
    let end = c.loop-part.end + c.loop-part-item.result.0 in
    let few = few_arms items _ c.deref-part-items.ensures.value c.requires.few in
    record {
      many = omega (arith, c.loop-part.invariant.many);
      at = subst (λ k. EndsAt (slice_set c.loop-part.ends k end) end (i + 1) items) (sym c.loop-part.invariant.many)
          (ends_next c.loop-part.ends c.loop-part.end i items c.loop-part-item.result c.loop-part-test.true c.loop-part-item.is (omega (arith, few, c.loop-part.invariant.at.room, c.loop-part-test.true)) c.loop-part.invariant.at);
    }

pub slice_bounds-ends-end : goal.slice_bounds-ends-end
slice_bounds-ends-end c =
    let few = few_arms c.deref-part-items.result.now _ c.deref-part-items.ensures.value c.requires.few in
    omega (arith, few, c.loop-part.invariant.many, c.loop-part.invariant.at.room, c.loop-part.auto.part-index-end)

pub slice_bounds-arms_bits-end : goal.slice_bounds-arms_bits-end
slice_bounds-arms_bits-end c =
    let few = few_arms c.deref-part-items.result.now _ c.deref-part-items.ensures.value c.requires.few in
    sym (length-take-le c.loop-part.count c.loop-part.ends (omega (arith, few, c.loop-part.invariant.many, c.loop-part.invariant.at.room, c.loop-part.auto.part-index-end)))

pub arms_bits-requires : goal.arms_bits-requires
arms_bits-requires c =
    ends_within _ _ GREATEST_DENOMINATOR (ends_all c.loop-part.ends c.loop-part.end c.loop-part.count c.loop-part.part-index c.deref-part-items.result.now _ c.deref-part-items.ensures.value c.loop-part.invariant.many (omega (arith, c.loop-part-test.false)) c.loop-part.invariant.at)
    c.requires.coarse

pub returns : goal.returns
returns c =
    c.arms_bits.ensures.value
    ∙ ap (λ ends. (attempt_bits ends).0) (ends_all c.loop-part.ends c.loop-part.end c.loop-part.count c.loop-part.part-index c.deref-part-items.result.now _ c.deref-part-items.ensures.value c.loop-part.invariant.many (omega (arith, c.loop-part-test.false)) c.loop-part.invariant.at)
