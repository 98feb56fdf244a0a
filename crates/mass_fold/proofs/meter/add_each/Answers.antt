use Rattle.table_flow.specs.Scale.{whole, Whole}
use Rattle.mass_fold.proofs.Meters.{rest_turn, rest_end, one_adds}
use Rattle.mass_fold.proofs.meter.add_each.Goals as goal

pub loop-f-preserved : goal.loop-f-preserved
loop-f-preserved c = record {
  next = tt;
  finite = tt;
  so_far = rest_turn (λ M s. Whole M c.args.bits.now) (λ M s. whole M c.args.bits.now) c.args.table.now.states.entries c.args.meter c.loop-f.now c.add-now.result _ _ c.in-Some.field-0-0.now c.in-Some.f.now c.in-Some.ensures.steps c.loop-f.invariant.so_far
      (one_adds c.args.bits.now c.in-Some.f.now c.in-Some.field-0-0.now c.loop-f.now c.add-now.result c.add-now.ensures);
}

pub returns : goal.returns
returns c = rest_end (λ M s. Whole M c.args.bits.now) (λ M s. whole M c.args.bits.now) c.args.table.now.states.entries c.args.meter c.loop-f.now _ c.in-None.ensures.steps.0 c.loop-f.invariant.so_far
