use Rattle.std.proofs.Common.{length, sym, ap, ◌∙◌, refl}
use Rattle.std.specs.Map.Iter.{deref_pair}
use Rattle.mass_fold.proofs.Sizes.{sized_at}
use Rattle.wide_fold.proofs.Weights.{led_start, led_next, led_end}
use Rattle.wide_fold.proofs.sources.add_led.Goals as goal

pub loop-state-init : goal.loop-state-init
loop-state-init c = record { next = tt; finite = tt; vars = refl; so_far = led_start _ _ _ _ c.into_iter-state-iterator.ensures.into_iter_gives.0 }

pub put-requires : goal.put-requires
put-requires c =
    ap length c.in_ok-copy.ensures
    ∙ sized_at _ _ c.args.table.now.sized deref_pair _ _ _ _ _ _ c.into_iter-state-iterator.ensures.into_iter_gives.0 c.loop-state.yielded_by c.in-Some.is c.next.ensures.steps
    ∙ c.requires ∙ sym c.loop-state.invariant.vars

pub loop-state-preserved : goal.loop-state-preserved
loop-state-preserved c = record {
  next = tt;
  finite = tt;
  vars = c.put.ensures.vars ∙ c.loop-state.invariant.vars;
  so_far = led_next _ _ _ _ _ _ _ c.in-Some.state.now _ c.in-Some.weight.now _ _ c.in-Some.ensures.steps c.in_ok-part.ensures c.in_ok-added.ensures c.in_ok-copy.ensures c.in_ok-put.ensures.ok c.loop-state.invariant.so_far;
}

pub returns-clause-ok : goal.returns-clause-ok
returns-clause-ok c = led_end _ _ _ _ _ c.in-None.ensures.steps.0 c.loop-state.invariant.so_far
