use Rattle.std.proofs.Common.{[], refl}
use Rattle.mass_fold.specs.inner.Ended.{end_of}
use Rattle.table_flow.specs.Counts.{none_kept, all_stopped}
use Rattle.mass_fold.proofs.Doings.{doing_along, doing_stop, doing_all}
use Rattle.mass_fold.proofs.steps.end_all.Goals as goal

pub loop-f-preserved : goal.loop-f-preserved
loop-f-preserved c = record {
  next = tt;
  finite = tt;
  so_far = doing_stop none_kept (all_stopped (end_of c.args.x)) [] c.args.table.states.entries c.args.ended.now [] c.loop-f.ended c.in-Some.field-0-0 c.in-Some.f c.next.new.self
      (doing_along _ _ _ _ _ _ _ _ _ c.in-Some.ensures.steps c.loop-f.invariant.so_far) c.add.new.self c.args.x c.in_ok-add.ensures.ok (λ G. refl) (λ G. refl);
}

pub returns-clause-ok : goal.returns-clause-ok
returns-clause-ok c =
    doing_all none_kept (all_stopped (end_of c.args.x)) [] c.args.table.states.entries c.args.ended.now [] c.loop-f.ended
    (doing_along _ _ _ _ _ _ _ _ _ c.in-None.ensures.steps.0 c.loop-f.invariant.so_far)
