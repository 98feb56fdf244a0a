use Rattle.std.proofs.Common.{◌≡◌, ◌∙◌, length, sym, arith, Err}
use Rattle.gcl_core.specs.meaning.Views.{expression_of}
use Rattle.gcl_core.specs.meaning.Value.{value_of}
use Rattle.table_flow.specs.Counts.{part_at, rest_at, drawn, undrawn}
use Rattle.mass_fold.proofs.Moves.{reads_at}
use Rattle.mass_fold.proofs.Sizes.{sized_at}
use Rattle.mass_fold.proofs.Drawings.{drawing_start, drawing_along, drawing_turn, drawing_blame}
use Rattle.mass_fold.proofs.fold.Fold.draw.Goals as goal

pub loop-s-init : goal.loop-s-init
loop-s-init c =
    let v = value_of (expression_of c.args.e.now) in
    let p = c.into_iter-s-iterator.ensures.into_iter_gives.0 in
    record {
      next = tt;
      finite = tt;
      vars = c.new-next.ensures.vars;
      so_far = drawing_start (part_at v c.args.self.attempts.most) (rest_at v c.args.self.attempts.most) (drawn c.args.x v) (undrawn v) c.args.table.states.entries c.args.ended.now _ _ c.new-next.ensures.empty p;
    }

pub draw_entry-requires-clause-sized : goal.draw_entry-requires-clause-sized
draw_entry-requires-clause-sized c = sized_at _ _ c.args.table.sized (λ e. e) _ _ _ _ _ _ c.into_iter-s-iterator.ensures.into_iter_gives.0 c.loop-s.yielded_by c.in-Some.is c.next.ensures.steps ∙ sym c.loop-s.invariant.vars

pub draw_entry-requires-clause-place : goal.draw_entry-requires-clause-place
draw_entry-requires-clause-place c =
    let p : length c.in-Some.s ≡ c.args.table.vars = sized_at _ _ c.args.table.sized (λ e. e) _ _ _ _ _ _ c.into_iter-s-iterator.ensures.into_iter_gives.0 c.loop-s.yielded_by c.in-Some.is c.next.ensures.steps in
    omega (arith, c.requires.place)

pub draw_entry-requires-clause-reads : goal.draw_entry-requires-clause-reads
draw_entry-requires-clause-reads c =
    let p : length c.in-Some.s ≡ c.args.table.vars = sized_at _ _ c.args.table.sized (λ e. e) _ _ _ _ _ _ c.into_iter-s-iterator.ensures.into_iter_gives.0 c.loop-s.yielded_by c.in-Some.is c.next.ensures.steps in
    reads_at (expression_of c.args.e.now) _ _ p c.requires.reads

pub loop-s-preserved : goal.loop-s-preserved
loop-s-preserved c =
    let v = value_of (expression_of c.args.e.now) in
    record {
      next = tt;
      finite = tt;
      vars = c.draw_entry.ensures.vars ∙ c.loop-s.invariant.vars;
      so_far = drawing_turn (part_at v c.args.self.attempts.most) (rest_at v c.args.self.attempts.most) (drawn c.args.x v) (undrawn v) c.args.table.states.entries c.args.ended.now c.loop-s.next.states.entries c.loop-s.ended c.in-Some.s c.in-Some.f c.next.new.self
          (drawing_along (part_at v c.args.self.attempts.most) (rest_at v c.args.self.attempts.most) (drawn c.args.x v) (undrawn v) c.args.table.states.entries c.args.ended.now _ _ _ _ c.in-Some.ensures.steps c.loop-s.invariant.so_far)
          c.draw_entry.new.next.states.entries c.draw_entry.new.ended c.in_ok-draw_entry.ensures.added c.in_ok-draw_entry.ensures.stopped;
    }

pub returns-clause-ok : goal.returns-clause-ok
returns-clause-ok c =
    let v = value_of (expression_of c.args.e.now) in
    drawing_along (part_at v c.args.self.attempts.most) (rest_at v c.args.self.attempts.most) (drawn c.args.x v) (undrawn v) c.args.table.states.entries c.args.ended.now _ _ _ _ c.in-None.ensures.steps.0 c.loop-s.invariant.so_far

pub returns-in_err-draw_entry-clause-cause : goal.returns-in_err-draw_entry-clause-cause
returns-in_err-draw_entry-clause-cause c =
    let v = value_of (expression_of c.args.e.now) in
    let out : c.from_residual.result ≡ Err c.in_err-draw_entry.field-0.0 = grind arith in
    rw out (drawing_blame (part_at v c.args.self.attempts.most) (rest_at v c.args.self.attempts.most) (drawn c.args.x v) (undrawn v) c.args.table.states.entries c.args.ended.now c.loop-s.next.states.entries c.loop-s.ended c.in-Some.s c.in-Some.f c.next.new.self
    (drawing_along (part_at v c.args.self.attempts.most) (rest_at v c.args.self.attempts.most) (drawn c.args.x v) (undrawn v) c.args.table.states.entries c.args.ended.now _ _ _ _ c.in-Some.ensures.steps c.loop-s.invariant.so_far)
    _ c.in_err-draw_entry.ensures.cause)
