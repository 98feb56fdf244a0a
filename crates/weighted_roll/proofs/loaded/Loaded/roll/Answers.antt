use Rattle.std.proofs.Common.{◌≡◌, ◌∙◌, ap, subst}
use Rattle.std.specs.Prelude.{IfOk}
use Rattle.zar_io.specs.Trace.{World, Agrees}
use Rattle.dice_roll.specs.Rolled.{TookEach}
use Rattle.weighted_roll.specs.WeightedRoll.{weighted_from, weighted_roll}
use Rattle.weighted_roll.proofs.loaded.Loaded.roll.Goals as goal

pub returns-clause-answer : goal.returns-clause-answer
returns-clause-answer g c =
    let table = c.self.inside.table in
    let start = ap (λ whole. weighted_from whole c.args.flips table.weights.items 0 0) table.total ∙ ap (λ ws. weighted_roll ws c.args.flips) c.self.view_is in
    subst (λ rolls. IfOk c.roll_on.result (λ r. (file : World) → Agrees file (g.B.Bits.answered c.roll_on.new.bits) → rolls (g.B.Bits.left c.args.bits.now file) ≡ r)) start
    c.roll_on.ensures.answer

pub returns-clause-taken : goal.returns-clause-taken
returns-clause-taken g c =
    let table = c.self.inside.table in
    let start = ap (λ whole. weighted_from whole c.args.flips table.weights.items 0 0) table.total ∙ ap (λ ws. weighted_roll ws c.args.flips) c.self.view_is in
    subst (λ rolls. IfOk c.roll_on.result (λ r. (file : World) → Agrees file (g.B.Bits.answered c.roll_on.new.bits)
    → TookEach rolls r (g.B.Bits.left c.args.bits.now file) (g.B.Bits.left c.roll_on.new.bits file))) start c.roll_on.ensures.taken
