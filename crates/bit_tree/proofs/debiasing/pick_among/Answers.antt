use Rattle.std.proofs.Common.{◌≡◌, length, ap, ◌∙◌, arith}
use Rattle.std.specs.List.{sum}
use Rattle.gcl_core.specs.meaning.Draw.{last_end}
use Rattle.gcl_core.proofs.PartialSums.{as_many, last_is}
use Rattle.bit_tree.proofs.debiasing.pick_among.Goals as goal

pub direct-requires-clause-few : goal.direct-requires-clause-few
direct-requires-clause-few c =
    let many : length c.deref.result.now ≡ length c.args.parts.now = ap length (c.deref.ensures.value ∙ c.in_ok-ends.ensures) ∙ as_many c.args.parts.now in
    omega (arith, many, c.requires.few)

pub direct-requires-clause-low : goal.direct-requires-clause-low
direct-requires-clause-low c =
    let last : last_end c.deref.result.now ≡ sum c.args.parts.now = ap last_end (c.deref.ensures.value ∙ c.in_ok-ends.ensures) ∙ last_is c.args.parts.now in
    omega (arith, last, c.requires.coarse)
