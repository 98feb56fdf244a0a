use Rattle.std.proofs.Common.{◌≡◌, ◌+◌, ◌≤◌, [], drop, ap, sym, subst, arith}
use Rattle.gcl_core.specs.meaning.Arms.{parts_of}
use Rattle.gcl_core.specs.meaning.Views.{arm_list_of}
use Rattle.gcl_core.proofs.ArmDivisors.{Gathered, one_gathered, zero_gathered, all_gathered}
use Rattle.gcl_core.proofs.ArmLists.{parts_more, no_parts}
use Rattle.gcl_core.proofs.LowestParts.{divisor_positive}
use Rattle.gcl_core.proofs.syntax.Arms.divisor.Goals as goal
use Rattle.gcl_core.proofs.syntax.Arms.divisor.Goals.{then-part-ne0, else-part-ne0}

pub loop-part-preserved : goal.loop-part-preserved
loop-part-preserved c =
    let items = c.deref-part-items.result.now in
    let all = parts_of (arm_list_of items) in
    let left = parts_of (arm_list_of (drop (c.loop-part.part-index + 1) items)) in
    let here = subst (λ ps. Gathered c.loop-part.divisor ps all) (parts_more items c.loop-part.part-index c.loop-part-item.result c.loop-part-test.true c.loop-part-item.is) c.loop-part.invariant in
    elim c.if-part-ne0.branch [
      | then-part-ne0 w ↦
          subst (λ g. Gathered g left all) (sym w.divisor-is) (one_gathered c.loop-part.divisor w.greatest_common-divisor.result c.loop-part-item.result.0 left all w.greatest_common-divisor.ensures.greatest here)
      | else-part-ne0 w ↦ subst (λ g. Gathered g left all) (sym w.divisor-is) (zero_gathered c.loop-part.divisor c.loop-part-item.result.0 left all w.if-part-ne0.false here)
    ]

pub returns-clause-divisor : goal.returns-clause-divisor
returns-clause-divisor c =
    let items = c.deref-part-items.result.now in
    let same : parts_of (arm_list_of items) ≡ parts_of (arm_list_of _) = ap (λ l. parts_of (arm_list_of l)) c.deref-part-items.ensures.value in
    let none = subst (λ ps. Gathered c.loop-part.divisor ps (parts_of (arm_list_of items))) (no_parts items c.loop-part.part-index (omega (arith, c.loop-part-test.false))) c.loop-part.invariant in
    all_gathered c.loop-part.divisor _ c.requires (subst (Gathered c.loop-part.divisor []) same none)

pub returns-clause-positive : goal.returns-clause-positive
returns-clause-positive c = subst (λ d. 1 ≤ d) (sym (returns-clause-divisor c)) (divisor_positive _ c.requires)
