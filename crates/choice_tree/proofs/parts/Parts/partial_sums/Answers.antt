use Rattle.std.proofs.Common.{◌≡◌, ◌∙◌, ℕ, List, get_or, ap, arith}
use Rattle.std.proofs.lemmas.List.{get_or_default}
use Rattle.std.specs.List.{sum}
use Rattle.gcl_core.proofs.PartialSums.{end_within}
use Rattle.choice_tree.proofs.parts.Parts.partial_sums.Goals as goal

pub overflow_add-end : goal.overflow_add-end
overflow_add-end c =
    let parts : List ℕ = c.deref-part-items.result.now in
    let total : sum parts ≡ sum c.args.self.now = ap sum (c.deref-part-items.ensures.value ∙ c.self.view_is) in
    let part : ℕ = get_or parts c.loop-part.part-index 0 in
    let here = get_or_default parts c.loop-part.part-index 0 part c.loop-part-test.true in
    let le = end_within c.loop-part.ends.items c.loop-part.end c.loop-part.part-index parts part c.loop-part-test.true here c.loop-part.invariant in
    omega (arith, le, total, c.requires)
