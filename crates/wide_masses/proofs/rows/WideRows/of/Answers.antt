use Rattle.mass_fold.proofs.Listing.{rows_ascend, copied_next, copied_all, lowest_next}
use Rattle.wide_masses.proofs.rows.WideRows.of.Goals as goal

pub loop-x-preserved : goal.loop-x-preserved
loop-x-preserved c =
    let i = c.loop-x.invariant in record {
      next = tt;
      finite = tt;
      copied = copied_next c.args.table.entries _ _ _ _ c.in-Some.x c.in-Some.f c.in-Some.ensures.steps c.in_ok-push.ensures.items i.copied;
      lowest = lowest_next _ _ c.in-Some.x c.in-Some.f c.in_ok-push.ensures.items c.den-den.ensures.lowest i.lowest;
    }

pub returns-clause-ascending : goal.returns-clause-ascending
returns-clause-ascending c =
    rows_ascend _ c.outcomes_are_ordered.ensures.outcomes c.args.table.entries c.loop-x.rows.items (copied_all _ _ _ c.in-None.ensures.steps.0 c.loop-x.invariant.copied) c.is_ordered.ensures
