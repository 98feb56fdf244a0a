use Rattle.std.proofs.Common.{◌∙◌, ap, arith}
use Rattle.units_law.specs.Units.{total}
use Rattle.enclose_fold.proofs.Listed.{rows_start, rows_next, rows_end}
use Rattle.enclose_fold.proofs.rows.bound_rows.Goals as goal

pub loop-x-init : goal.loop-x-init
loop-x-init c =
    let p = c.into_iter-x-iterator.ensures.into_iter_gives.0 in record {
      next = tt;
      finite = tt;
      within = let e = ap total p in omega (arith, e, c.requires);
      so_far = rows_start c.args.round.rounds c.args.round.failed c.args.round.all _ _ _ c.new-rows.ensures.items p;
    }

pub bounds-requires : goal.bounds-requires
bounds-requires c = let e = ap total c.in-Some.ensures.steps in omega (arith, e, c.loop-x.invariant.within)

pub loop-x-preserved : goal.loop-x-preserved
loop-x-preserved c = record {
  next = tt;
  finite = tt;
  within = let e = ap total c.in-Some.ensures.steps in omega (arith, e, c.loop-x.invariant.within);
  so_far = rows_next c.args.round.rounds c.args.round.failed c.args.round.all _ _ _ _ _ c.in-Some.x c.in-Some.w _ c.in-Some.ensures.steps c.in_ok-add_row.ensures.ok c.bounds.ensures c.loop-x.invariant.so_far;
}

pub returns-clause-rows : goal.returns-clause-rows
returns-clause-rows c = c.of.ensures ∙ rows_end c.args.round.rounds c.args.round.failed c.args.round.all _ _ _ c.in-None.ensures.steps.0 c.loop-x.invariant.so_far
