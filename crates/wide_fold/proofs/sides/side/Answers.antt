use Rattle.std.proofs.Common.{◌≤◌, sym, subst, arith}
use Rattle.std.proofs.lemmas.Result.{IfOk-weaker}
use Rattle.mass_fold.proofs.Sides.{weighed_none}
use Rattle.wide_fold.proofs.Weights.{lowest_above}
use Rattle.wide_fold.proofs.Parted.{side_given, some_parts}
use Rattle.wide_fold.proofs.sides.side.Goals as goal

pub returns-then-count-eq0-clause-ok : goal.returns-then-count-eq0-clause-ok
returns-then-count-eq0-clause-ok c = weighed_none (1, c.args.all) c.args.count c.args.table.now.states.entries _ (omega (arith, c.requires)) c.if-count-eq0.true c.new.ensures.empty

pub scale-requires : goal.scale-requires
scale-requires c =
    subst (λ f. 1 ≤ f.0) (sym c.in_ok-times.ensures) (lowest_above (c.args.count, c.args.all) (some_parts c.args.count c.if-count-eq0.false) (omega (arith, c.requires)))

pub returns-clause-ok : goal.returns-clause-ok
returns-clause-ok c =
    IfOk-weaker c.scale.result _ _
    (λ t a. side_given c.args.count c.args.all c.in_ok-times.times c.args.table.now.states.entries t.states.entries (omega (arith, c.requires)) (omega (arith, c.den-den.ensures.lowest.positive)) c.in_ok-times.ensures c.is_ordered.ensures a) c.scale.ensures.ok
