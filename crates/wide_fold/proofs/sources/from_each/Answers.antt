use Rattle.std.proofs.Common.{sym, ◌∙◌, subst}
use Rattle.std.specs.Map.Iter.{deref_pair}
use Rattle.gcl_core.specs.meaning.Bounds.{StatementBelow}
use Rattle.gcl_core.specs.meaning.Views.{statement_of}
use Rattle.mass_fold.proofs.Sizes.{sized_at}
use Rattle.unlimited_law.specs.Alike.{Alike}
use Rattle.unlimited_law.specs.Settling.{StatementSettles}
use Rattle.wide_fold.proofs.FromEach.{statement_linear, sources_start, sources_next, sources_end}
use Rattle.wide_fold.proofs.sources.from_each.Goals as goal

pub loop-state-init : goal.loop-state-init
loop-state-init c = record {
  next = tt;
  finite = tt;
  vars = c.new-out.ensures.vars;
  so_far = sources_start (StatementSettles Alike Alike (statement_of c.args.statement.now)) (statement_linear (statement_of c.args.statement.now) c.requires.weights) _ _ _ _ c.into_iter-state-iterator.ensures.into_iter_gives.0 c.new-out.ensures.empty;
}

pub alone-requires : goal.alone-requires
alone-requires c = sized_at _ _ c.args.table.now.sized deref_pair _ _ _ _ _ _ c.into_iter-state-iterator.ensures.into_iter_gives.0 c.loop-state.yielded_by c.in-Some.is c.next.ensures.steps

pub settle_stmt-requires : goal.settle_stmt-requires
settle_stmt-requires c = record { below = subst (λ m. StatementBelow m (statement_of c.args.statement.now)) (sym c.in_ok-one.ensures.vars) c.requires.below; weights = c.requires.weights }

pub add_led-requires : goal.add_led-requires
add_led-requires c = c.in_ok-next.ensures.vars ∙ c.in_ok-one.ensures.vars ∙ sym c.loop-state.invariant.vars

pub loop-state-preserved : goal.loop-state-preserved
loop-state-preserved c = record {
  next = tt;
  finite = tt;
  vars = c.add_led.ensures.vars ∙ c.loop-state.invariant.vars;
  so_far = sources_next (StatementSettles Alike Alike (statement_of c.args.statement.now)) (statement_linear (statement_of c.args.statement.now) c.requires.weights) _ _ _ _ _ _ _ _ c.in-Some.state.now c.in-Some.weight.now _ _ _ _ c.in-Some.ensures.steps c.in_ok-one.ensures.one c.none-gone.ensures c.in_ok-next.ensures.ok
      c.in_ok-add_led.ensures.ok c.in_ok-add_times.ensures c.loop-state.invariant.so_far;
}

pub returns-clause-ok : goal.returns-clause-ok
returns-clause-ok c = sources_end (StatementSettles Alike Alike (statement_of c.args.statement.now)) (statement_linear (statement_of c.args.statement.now) c.requires.weights) _ _ _ _ _ c.in-None.ensures.steps.0 c.loop-state.invariant.so_far
