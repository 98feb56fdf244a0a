use Rattle.std.proofs.Common.{◌≡◌, ◌∙◌, [], length, pos, of_z, w64, sym, ap, arith}
use Rattle.std.proofs.lemmas.Int.{to_z-of_z}
use Rattle.gcl_core.specs.meaning.Views.{expression_of}
use Rattle.gcl_core.specs.meaning.Value.{value_of}
use Rattle.table_flow.specs.Tables.{holds, fails}
use Rattle.table_flow.specs.Counts.{kept_if, stopped}
use Rattle.mass_fold.proofs.Doings.{doing_along, doing_go, doing_skip, doing_stop, doing_all}
use Rattle.mass_fold.proofs.Moves.{stopped_ok, stopped_err, reads_at, first_zero, second_zero, first_not, second_not, first_err, second_err}
use Rattle.mass_fold.proofs.Sizes.{sized_at}
use Rattle.wide_fold.proofs.turning.split.Goals as goal

pub loop-s-preserved-in-Continue-1 : goal.loop-s-preserved-in-Continue-1
loop-s-preserved-in-Continue-1 c =
    let v = value_of (expression_of c.args.guard.now) in
    let z : c.in-Ok.v ≡ pos 0 = grind (arith, to_z-of_z, c.if-v-eq0.true) in
    record {
      next = tt;
      finite = tt;
      second_vars = c.put.ensures.vars ∙ c.loop-s.invariant.second_vars;
      first_vars = c.loop-s.invariant.first_vars;
      second = doing_go (kept_if (fails v)) (stopped v) [] c.args.table.states.entries c.args.ended.now c.loop-s.second.states.entries c.loop-s.ended c.in-Some.s c.in-Some.f c.next.new.self
          (doing_along _ _ _ _ _ _ _ _ _ c.in-Some.ensures.steps c.loop-s.invariant.second)
          c.put.new.self.states.entries c.in-Some.s c.in_ok-put-in-Ok.ensures.ok (second_zero v _ _ _ c.in-Ok.ensures c.values.ensures z) (stopped_ok v _ _ _ c.in-Ok.ensures c.values.ensures);
      first = doing_skip (kept_if (holds v)) (stopped v) [] c.args.table.states.entries c.args.ended.now c.loop-s.first.states.entries c.loop-s.ended c.in-Some.s c.in-Some.f c.next.new.self
          (doing_along _ _ _ _ _ _ _ _ _ c.in-Some.ensures.steps c.loop-s.invariant.first)
          (first_zero v _ _ _ c.in-Ok.ensures c.values.ensures z) (stopped_ok v _ _ _ c.in-Ok.ensures c.values.ensures);
    }

pub loop-s-preserved-in-Continue-branch-2 : goal.loop-s-preserved-in-Continue-branch-2
loop-s-preserved-in-Continue-branch-2 c =
    let v = value_of (expression_of c.args.guard.now) in
    let z : ¬ (c.in-Ok.v ≡ pos 0) = λ e. c.if-v-eq0.false (ap (of_z w64) e) in
    record {
      next = tt;
      finite = tt;
      first_vars = c.put-else-v-eq0.ensures.vars ∙ c.loop-s.invariant.first_vars;
      second_vars = c.loop-s.invariant.second_vars;
      first = doing_go (kept_if (holds v)) (stopped v) [] c.args.table.states.entries c.args.ended.now c.loop-s.first.states.entries c.loop-s.ended c.in-Some.s c.in-Some.f c.next.new.self
          (doing_along _ _ _ _ _ _ _ _ _ c.in-Some.ensures.steps c.loop-s.invariant.first)
          c.put-else-v-eq0.new.self.states.entries c.in-Some.s c.in_ok-put-in-Ok-2.ensures.ok (first_not v _ _ _ c.in-Ok.ensures c.values.ensures z) (stopped_ok v _ _ _ c.in-Ok.ensures c.values.ensures);
      second = doing_skip (kept_if (fails v)) (stopped v) [] c.args.table.states.entries c.args.ended.now c.loop-s.second.states.entries c.loop-s.ended c.in-Some.s c.in-Some.f c.next.new.self
          (doing_along _ _ _ _ _ _ _ _ _ c.in-Some.ensures.steps c.loop-s.invariant.second)
          (second_not v _ _ _ c.in-Ok.ensures c.values.ensures z) (stopped_ok v _ _ _ c.in-Ok.ensures c.values.ensures);
    }

pub loop-s-preserved : goal.loop-s-preserved
loop-s-preserved c =
    let v = value_of (expression_of c.args.guard.now) in
    record {
      next = tt;
      finite = tt;
      first_vars = c.loop-s.invariant.first_vars;
      second_vars = c.loop-s.invariant.second_vars;
      first = doing_stop (kept_if (holds v)) (stopped v) [] c.args.table.states.entries c.args.ended.now c.loop-s.first.states.entries c.loop-s.ended c.in-Some.s c.in-Some.f c.next.new.self
          (doing_along _ _ _ _ _ _ _ _ _ c.in-Some.ensures.steps c.loop-s.invariant.first) c.add.new.self c.ended_by.result c.in_ok-add-in-Err.ensures (first_err v _ _ _ c.in-Err.ensures c.values.ensures) (stopped_err v _ _ _ _ c.in-Err.ensures c.values.ensures c.ended_by.ensures);
      second = doing_stop (kept_if (fails v)) (stopped v) [] c.args.table.states.entries c.args.ended.now c.loop-s.second.states.entries c.loop-s.ended c.in-Some.s c.in-Some.f c.next.new.self
          (doing_along _ _ _ _ _ _ _ _ _ c.in-Some.ensures.steps c.loop-s.invariant.second) c.add.new.self c.ended_by.result c.in_ok-add-in-Err.ensures (second_err v _ _ _ c.in-Err.ensures c.values.ensures) (stopped_err v _ _ _ _ c.in-Err.ensures c.values.ensures c.ended_by.ensures);
    }

pub returns-clause-first : goal.returns-clause-first
returns-clause-first c =
    let v = value_of (expression_of c.args.guard.now) in
    doing_all (kept_if (holds v)) (stopped v) [] c.args.table.states.entries c.args.ended.now c.loop-s.first.states.entries c.loop-s.ended
    (doing_along _ _ _ _ _ _ _ _ _ c.in-None.ensures.steps.0 c.loop-s.invariant.first)

pub returns-clause-second : goal.returns-clause-second
returns-clause-second c =
    let v = value_of (expression_of c.args.guard.now) in
    doing_all (kept_if (fails v)) (stopped v) [] c.args.table.states.entries c.args.ended.now c.loop-s.second.states.entries c.loop-s.ended
    (doing_along _ _ _ _ _ _ _ _ _ c.in-None.ensures.steps.0 c.loop-s.invariant.second)

pub eval-requires : goal.eval-requires
eval-requires c =
    let p : length c.in-Some.s ≡ c.args.table.vars = sized_at _ _ c.args.table.sized (λ e. e) _ _ _ _ _ _ c.into_iter-s-iterator.ensures.into_iter_gives.0 c.loop-s.yielded_by c.in-Some.is c.next.ensures.steps in
    reads_at (expression_of c.args.guard.now) _ _ (ap length c.values.ensures ∙ p) c.requires

pub put-requires : goal.put-requires
put-requires c = sized_at _ _ c.args.table.sized (λ e. e) _ _ _ _ _ _ c.into_iter-s-iterator.ensures.into_iter_gives.0 c.loop-s.yielded_by c.in-Some.is c.next.ensures.steps ∙ sym c.loop-s.invariant.second_vars

pub put-requires-else-v-eq0 : goal.put-requires-else-v-eq0
put-requires-else-v-eq0 c = sized_at _ _ c.args.table.sized (λ e. e) _ _ _ _ _ _ c.into_iter-s-iterator.ensures.into_iter_gives.0 c.loop-s.yielded_by c.in-Some.is c.next.ensures.steps ∙ sym c.loop-s.invariant.first_vars
