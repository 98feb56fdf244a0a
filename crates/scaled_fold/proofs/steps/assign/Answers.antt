use Rattle.std.proofs.Common.{◌≡◌, arith, [], length, sym, ap, ◌∙◌}
use Rattle.std.proofs.lemmas.List.{length-set}
use Rattle.gcl_core.specs.meaning.Views.{expression_of}
use Rattle.gcl_core.specs.meaning.Value.{value_of}
use Rattle.mass_fold.proofs.Moves.{reads_at}
use Rattle.table_flow.specs.Tables.{set_go, faults_go}
use Rattle.scaled_law.specs.Pairs.{counted_pairs}
use Rattle.scaled_fold.proofs.Passing.{puts_start, stops_start}
use Rattle.scaled_fold.proofs.Sizes.{sized_at}
use Rattle.scaled_fold.proofs.steps.assign.Goals as goal

pub loop-s-init : goal.loop-s-init
loop-s-init c =
    let v = value_of (expression_of c.args.e.now) in
    let p = c.into_iter-s-iterator.ensures.into_iter_gives.0 in
    record {
      next = tt;
      finite = tt;
      vars = c.new-next.ensures.vars;
      so_far = puts_start (set_go counted_pairs c.args.x v) [] c.args.table.states.entries _ _ c.new-next.ensures.empty p;
      stopped = stops_start (faults_go counted_pairs v) c.args.before c.args.table.states.entries _ p;
    }

pub eval-requires : goal.eval-requires
eval-requires c =
    let p : length c.in-Some.s ≡ c.args.table.vars = sized_at _ _ c.args.table.sized (λ e. e) _ _ _ _ _ _ c.into_iter-s-iterator.ensures.into_iter_gives.0 c.loop-s.yielded_by c.in-Some.is c.next.ensures.steps in
    reads_at (expression_of c.args.e.now) _ _ (ap length c.values.ensures ∙ p) c.requires.reads

pub set-requires : goal.set-requires
set-requires c =
    let p : length c.in-Some.s ≡ c.args.table.vars = sized_at _ _ c.args.table.sized (λ e. e) _ _ _ _ _ _ c.into_iter-s-iterator.ensures.into_iter_gives.0 c.loop-s.yielded_by c.in-Some.is c.next.ensures.steps in
    omega (arith, c.requires.place)

pub put-requires : goal.put-requires
put-requires c =
    let p : length c.in-Some.s ≡ c.args.table.vars = sized_at _ _ c.args.table.sized (λ e. e) _ _ _ _ _ _ c.into_iter-s-iterator.ensures.into_iter_gives.0 c.loop-s.yielded_by c.in-Some.is c.next.ensures.steps in
    record { sized = ap length c.set.ensures ∙ length-set _ _ _ ∙ p ∙ sym c.loop-s.invariant.vars }
