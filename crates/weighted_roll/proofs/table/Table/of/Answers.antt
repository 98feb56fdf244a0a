use Rattle.std.proofs.Common.{◌≡◌, ◌<◌, sym, subst, ◌∙◌}
use Rattle.std.specs.List.{All}
use Rattle.weighted_roll.proofs.Tabled.{after_small}
use Rattle.weighted_roll.proofs.table.Table.of.Goals as goal

pub push_leaves-requires-clause-below : goal.push_leaves-requires-clause-below
push_leaves-requires-clause-below c =
    let e : c.as_slice.result.now ≡ c.loop-t.rests.items = c.as_slice.ensures.value in
    subst (λ x. All (λ r. r < c.sum_of-whole.result) x) (sym (e ∙ c.loop-t.invariant.rests))
    (after_small c.sum_of-whole.result c.loop-t.t c.args.weights.now (subst (λ b. All (λ r. r < b) c.args.weights.now) (sym c.sum_of-whole.ensures) c.weights_are_small.ensures.below))

pub double-requires-clause-below : goal.double-requires-clause-below
double-requires-clause-below c =
    let e : c.as_mut_slice.result.now ≡ c.loop-t.rests.items = c.as_mut_slice.ensures.value in
    subst (λ x. All (λ r. r < c.sum_of-whole.result) x) (sym (e ∙ c.loop-t.invariant.rests))
    (after_small c.sum_of-whole.result c.loop-t.t c.args.weights.now (subst (λ b. All (λ r. r < b) c.args.weights.now) (sym c.sum_of-whole.ensures) c.weights_are_small.ensures.below))
