use Rattle.std.proofs.Common.{◌∙◌, ap}
use Rattle.numbers.specs.Fraction.{lowest}
use Rattle.weighted_roll.specs.Rollers.{decided}
use Rattle.weighted_roll.specs.WeightedRoll.{weighted}
use Rattle.weighted_roll.specs.Shares.{share_of}
use Rattle.weighted_roll.proofs.Weighing.{share_given, values_one_more}
use Rattle.weighted_roll.proofs.sharing.label_shares.Goals as goal

pub loop-weight-preserved : goal.loop-weight-preserved
loop-weight-preserved c =
    let ws = c.args.weights.now in
    let i = c.loop-weight.weight-index in
    let given = share_given ws c.args.whole c.args.flips i c.strings_given.result c.requires.weights c.requires.whole (c.strings_given.ensures) in
    values_one_more (share_of ws c.args.flips) i c.loop-weight.shares.items _ c.of.result c.loop-weight.invariant
    (c.of.ensures.value ∙ ap (λ n. lowest (n, c.strings_of-strings.result)) given ∙ ap (λ n. lowest (decided (weighted ws) i c.args.flips, n)) c.strings_of-strings.ensures) c.in_ok-push.ensures.items
