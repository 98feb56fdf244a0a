use Rattle.std.proofs.Common.{rules, ◌∙◌, Ok, w64, sym, ap, arith}
use Rattle.std.proofs.lemmas.Int.{ints}
use mir.Val.{SFits}
use Rattle.gcl_core.specs.meaning.Views.{expression_of}
use Rattle.gcl_core.specs.meaning.Value.{value_of}
use Rattle.mass_fold.proofs.Bounds.{is_bound, unsigned}
use Rattle.bits_fold.specs.Counted.{price_of}
use Rattle.bits_fold.proofs.DrawSums.{bound_at}
use Rattle.bits_fold.proofs.draws.cost_of_state.Goals as goal

pub returns-else-v-lt1-clause-equal : goal.returns-else-v-lt1-clause-equal
returns-else-v-lt1-clause-equal c =
    let v = value_of (expression_of c.args.e.now) in
    let f : SFits w64 c.in-Ok.v = search rules in
    let b = is_bound c.in-Ok.v f (omega (arith, ints)) in
    bound_at (price_of c.args.what) (v c.args.s.now) b.less (unsigned c.in-Ok.v) c.bound_price.result (ap v (sym c.values.ensures) ∙ sym c.in-Ok.ensures ∙ ap Ok b.is) b.cast c.bound_price.ensures.equal
