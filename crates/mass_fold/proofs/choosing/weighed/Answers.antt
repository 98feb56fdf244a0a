use Rattle.std.proofs.lemmas.Result.{IfOk-weaker, IfErr-weaker}
use Rattle.std.proofs.Common.{arith, ◌≡◌, Err}
use Rattle.mass_fold.proofs.Sides.{weighed_none, side_refused, side_given, side_blames, side_above, as_count}
use Rattle.mass_fold.proofs.Fits.{fits, none_where_wide, is_wide}
use Rattle.mass_fold.specs.declared.error.MassError.TheVariants.{TooWide}
use Rattle.mass_fold.proofs.choosing.weighed.Goals as goal

pub returns-then-count-eq0-clause-ok : goal.returns-then-count-eq0-clause-ok
returns-then-count-eq0-clause-ok c = weighed_none c.args.part.now c.args.count c.args.table.now.states.entries _ (omega (arith, c.is_lowest.ensures.positive)) c.if-count-eq0.true c.new.ensures.empty

pub returns-in_err-w-clause-cause : goal.returns-in_err-w-clause-cause
returns-in_err-w-clause-cause c =
    let out : c.from_residual.result ≡ Err TooWide = grind (arith, is_wide _ _ c.in_err-w.ensures.value) in
    rw out (side_refused c.args.part.now c.of-over.result c.args.part.now c.args.count c.args.table.now.states.entries (omega (arith, c.of-over.ensures.lowest.positive)) (omega (arith, c.is_lowest.ensures.positive))
    (as_count _ _ _ c.from.ensures c.of-over.ensures.equal) (none_where_wide _ _ _ c.mul.ensures c.in_err-w.ensures.value))

pub scale-requires : goal.scale-requires
scale-requires c =
    side_above c.args.part.now c.of-over.result c.in_ok-w.w c.args.count c.args.table.now.states.entries (omega (arith, c.of-over.ensures.lowest.positive)) (omega (arith, c.is_lowest.ensures.positive))
    (as_count _ _ _ c.from.ensures c.of-over.ensures.equal) (omega (arith, c.is_lowest-2.ensures.positive)) (fits _ _ _ c.mul.ensures c.in_ok-w.ensures.value) c.requires c.if-count-eq0.false

pub returns-clause-ok : goal.returns-clause-ok
returns-clause-ok c =
    IfOk-weaker c.scale.result _ _
    (λ _ a. side_given c.args.part.now c.of-over.result c.in_ok-w.w c.args.count c.args.table.now.states.entries (omega (arith, c.of-over.ensures.lowest.positive)) (omega (arith, c.is_lowest.ensures.positive))
    (as_count _ _ _ c.from.ensures c.of-over.ensures.equal) (omega (arith, c.is_lowest-2.ensures.positive)) (fits _ _ _ c.mul.ensures c.in_ok-w.ensures.value) _ c.is_ordered.ensures a) c.scale.ensures.ok

pub returns-clause-cause : goal.returns-clause-cause
returns-clause-cause c =
    IfErr-weaker c.scale.result _ _
    (λ e a. side_blames c.args.part.now c.of-over.result c.in_ok-w.w c.args.count c.args.table.now.states.entries (omega (arith, c.of-over.ensures.lowest.positive)) (omega (arith, c.is_lowest.ensures.positive))
    (as_count _ _ _ c.from.ensures c.of-over.ensures.equal) (omega (arith, c.is_lowest-2.ensures.positive)) (fits _ _ _ c.mul.ensures c.in_ok-w.ensures.value) e c.is_ordered.ensures a) c.scale.ensures.cause
