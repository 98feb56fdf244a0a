use Rattle.std.proofs.Common.{◌≡◌, ◌∙◌, length, [], ◌∷◌, sym, arith}
use Rattle.gcl_core.specs.meaning.Views.{expression_of}
use Rattle.gcl_core.specs.meaning.Value.{State, value_of}
use Rattle.mass_fold.proofs.Moves.{reads_at}
use Rattle.scaled_law.specs.Pairs.{Pair}
use Rattle.scaled_fold.proofs.Drawing.{drawn_first, undrawn_first}
use Rattle.scaled_fold.proofs.Passing.{puts_list, stops_list}
use Rattle.scaled_fold.proofs.Sizes.{sized_at}
use Rattle.scaled_fold.proofs.draws.draw.Goals as goal
use Rattle.scaled_fold.proofs.DrawnPairs.{drawn_pairs, undrawn_pairs}

pub draw_entry-requires-clause-sized : goal.draw_entry-requires-clause-sized
draw_entry-requires-clause-sized c = sized_at _ _ c.args.table.sized (λ e. e) _ _ _ _ _ _ c.into_iter-s-iterator.ensures.into_iter_gives.0 c.loop-s.yielded_by c.in-Some.is c.next.ensures.steps ∙ sym c.loop-s.invariant.vars

pub draw_entry-requires-clause-place : goal.draw_entry-requires-clause-place
draw_entry-requires-clause-place c =
    let p : length c.in-Some.s ≡ c.args.table.vars = sized_at _ _ c.args.table.sized (λ e. e) _ _ _ _ _ _ c.into_iter-s-iterator.ensures.into_iter_gives.0 c.loop-s.yielded_by c.in-Some.is c.next.ensures.steps in
    omega (arith, c.requires.place)

pub draw_entry-requires-clause-reads : goal.draw_entry-requires-clause-reads
draw_entry-requires-clause-reads c =
    let p : length c.in-Some.s ≡ c.args.table.vars = sized_at _ _ c.args.table.sized (λ e. e) _ _ _ _ _ _ c.into_iter-s-iterator.ensures.into_iter_gives.0 c.loop-s.yielded_by c.in-Some.is c.next.ensures.steps in
    reads_at (expression_of c.args.e.now) _ _ p c.requires.reads

pub loop-s-preserved : goal.loop-s-preserved
loop-s-preserved c =
    let v = value_of (expression_of c.args.e.now) in
    let r = c.args.attempts in
    let es = c.args.table.states.entries in
    let entry : State × Pair = (c.in-Some.s, c.in-Some.w) in
    record {
      next = tt;
      finite = tt;
      vars = c.in_ok-more.ensures.vars ∙ c.loop-s.invariant.vars;
      so_far = puts_list (drawn_pairs c.args.x v r) [] es c.loop-s.next.states.entries _ c.loop-s.invariant.so_far c.in-Some.s c.in-Some.w c.next.new.self c.in-Some.ensures.steps
          (drawn_pairs c.args.x v r (entry ∷ [])) _ (drawn_first c.args.x v r c.in-Some.s c.in-Some.w c.next.new.self) c.in_ok-more.ensures.added;
      stopped = stops_list (undrawn_pairs c.args.x v r) c.args.before es c.loop-s.ended _ c.loop-s.invariant.stopped c.in-Some.s c.in-Some.w c.next.new.self c.in-Some.ensures.steps
          (undrawn_pairs c.args.x v r (entry ∷ [])) _ (undrawn_first c.args.x v r c.in-Some.s c.in-Some.w c.next.new.self) c.in_ok-more.ensures.stopped;
    }
