use Rattle.std.proofs.Common.{◌≡◌, arith, slice_set, [], length, sym, ap, ◌∙◌, Err}
use Rattle.std.proofs.lemmas.Int.{to_z-of_z}
use Rattle.std.proofs.lemmas.List.{length-set}
use Rattle.gcl_core.specs.meaning.Views.{expression_of}
use Rattle.gcl_core.specs.meaning.Value.{value_of}
use Rattle.table_flow.specs.Counts.{moved, stopped}
use Rattle.mass_fold.proofs.Doings.{doing_start, doing_along, doing_go, doing_stop, doing_all, blame_go, blame_stop}
use Rattle.mass_fold.proofs.Moves.{moved_ok, stopped_ok, moved_err, stopped_err, reads_at}
use Rattle.mass_fold.proofs.Sizes.{sized_at}
use Rattle.mass_fold.proofs.steps.assign.Goals as goal

pub loop-s-init : goal.loop-s-init
loop-s-init c =
    let p : c.into_iter-s-iterator.result ≡ c.args.table.states.entries = c.into_iter-s-iterator.ensures.into_iter_gives.0 in
    record {
      next = tt;
      finite = tt;
      vars = c.new-next.ensures.vars;
      so_far = doing_start _ _ _ _ _ _ _ c.new-next.ensures.empty p;
    }

pub eval-requires : goal.eval-requires
eval-requires c =
    let p : length c.in-Some.s ≡ c.args.table.vars = sized_at _ _ c.args.table.sized (λ e. e) _ _ _ _ _ _ c.into_iter-s-iterator.ensures.into_iter_gives.0 c.loop-s.yielded_by c.in-Some.is c.next.ensures.steps in
    reads_at (expression_of c.args.e.now) _ _ (ap length c.values.ensures ∙ p) c.requires.reads

pub set-requires : goal.set-requires
set-requires c =
    let p : length c.in-Some.s ≡ c.args.table.vars = sized_at _ _ c.args.table.sized (λ e. e) _ _ _ _ _ _ c.into_iter-s-iterator.ensures.into_iter_gives.0 c.loop-s.yielded_by c.in-Some.is c.next.ensures.steps in
    omega (arith, c.requires.place)

pub put-requires : goal.put-requires
put-requires c =
    let p : length c.in-Some.s ≡ c.args.table.vars = sized_at _ _ c.args.table.sized (λ e. e) _ _ _ _ _ _ c.into_iter-s-iterator.ensures.into_iter_gives.0 c.loop-s.yielded_by c.in-Some.is c.next.ensures.steps in
    ap length c.set.ensures ∙ length-set _ _ _ ∙ p ∙ sym c.loop-s.invariant.vars

pub returns-clause-ok : goal.returns-clause-ok
returns-clause-ok c =
    let v = value_of (expression_of c.args.e.now) in
    doing_all (moved c.args.x v) (stopped v) [] c.args.table.states.entries c.args.ended.now c.loop-s.next.states.entries c.loop-s.ended
    (doing_along _ _ _ _ _ _ _ _ _ c.in-None.ensures.steps.0 c.loop-s.invariant.so_far)

pub returns-in_err-put-in-Ok-clause-cause : goal.returns-in_err-put-in-Ok-clause-cause
returns-in_err-put-in-Ok-clause-cause c =
    let v = value_of (expression_of c.args.e.now) in
    let t : c.set.new.self ≡ slice_set c.in-Some.s c.args.x c.in-Ok.v = grind (arith, to_z-of_z, c.set.ensures) in
    let out : c.from_residual.result ≡ Err c.in_err-put-in-Ok.field-0.0 = grind arith in
    rw out (blame_go (moved c.args.x v) (stopped v) [] c.args.table.states.entries c.args.ended.now c.loop-s.next.states.entries c.loop-s.ended c.in-Some.s c.in-Some.f c.next.new.self
    (doing_along _ _ _ _ _ _ _ _ _ c.in-Some.ensures.steps c.loop-s.invariant.so_far) _ c.set.new.self c.in_err-put-in-Ok.ensures.cause
    (moved_ok c.args.x v _ _ _ _ c.in-Ok.ensures c.values.ensures t))

pub loop-s-preserved-in-Continue-1 : goal.loop-s-preserved-in-Continue-1
loop-s-preserved-in-Continue-1 c =
    let v = value_of (expression_of c.args.e.now) in
    let t : c.set.new.self ≡ slice_set c.in-Some.s c.args.x c.in-Ok.v = grind (arith, to_z-of_z, c.set.ensures) in
    record {
      next = tt;
      finite = tt;
      vars = c.put.ensures.vars ∙ c.loop-s.invariant.vars;
      so_far = doing_go (moved c.args.x v) (stopped v) [] c.args.table.states.entries c.args.ended.now c.loop-s.next.states.entries c.loop-s.ended c.in-Some.s c.in-Some.f c.next.new.self
          (doing_along _ _ _ _ _ _ _ _ _ c.in-Some.ensures.steps c.loop-s.invariant.so_far)
          c.put.new.self.states.entries c.set.new.self c.in_ok-put-in-Ok.ensures.ok
          (moved_ok c.args.x v _ _ _ _ c.in-Ok.ensures c.values.ensures t)
          (stopped_ok v _ _ _ c.in-Ok.ensures c.values.ensures);
    }

pub returns-in_err-add-in-Err-clause-cause : goal.returns-in_err-add-in-Err-clause-cause
returns-in_err-add-in-Err-clause-cause c =
    let v = value_of (expression_of c.args.e.now) in
    let out : c.from_residual-in_err-add-in-Err.result ≡ Err c.in_err-add-in-Err.field-0.0 = grind arith in
    rw out (blame_stop (moved c.args.x v) (stopped v) [] c.args.table.states.entries c.args.ended.now c.loop-s.next.states.entries c.loop-s.ended c.in-Some.s c.in-Some.f c.next.new.self
    (doing_along _ _ _ _ _ _ _ _ _ c.in-Some.ensures.steps c.loop-s.invariant.so_far) _ c.ended_by.result c.in_err-add-in-Err.ensures.cause
    (stopped_err v _ _ _ _ c.in-Err.ensures c.values.ensures c.ended_by.ensures))

pub loop-s-preserved : goal.loop-s-preserved
loop-s-preserved c =
    let v = value_of (expression_of c.args.e.now) in
    record {
      next = tt;
      finite = tt;
      vars = c.loop-s.invariant.vars;
      so_far = doing_stop (moved c.args.x v) (stopped v) [] c.args.table.states.entries c.args.ended.now c.loop-s.next.states.entries c.loop-s.ended c.in-Some.s c.in-Some.f c.next.new.self
          (doing_along _ _ _ _ _ _ _ _ _ c.in-Some.ensures.steps c.loop-s.invariant.so_far)
          c.add.new.self c.ended_by.result c.in_ok-add-in-Err.ensures.ok
          (moved_err c.args.x v _ _ _ c.in-Err.ensures c.values.ensures)
          (stopped_err v _ _ _ _ c.in-Err.ensures c.values.ensures c.ended_by.ensures);
    }
