use Rattle.std.proofs.Common.{◌≡◌, ◌≤◌, ◌∙◌, sym, length, ap, arith, Err}
use Rattle.numbers.specs.declared.units.TheConstants.{ALL}
use Rattle.gcl_core.specs.meaning.Views.{expression_of}
use Rattle.gcl_core.specs.meaning.Value.{value_of}
use Rattle.mass_fold.proofs.Moves.{reads_at}
use Rattle.units_law.specs.Down.{down}
use Rattle.units_law.specs.Units.{total}
use Rattle.units_law.proofs.UnitWords.{undrawn_units}
use Rattle.enclose_fold.proofs.Drawing.{draws_start, draws_next, draws_refused, draws_end, draws_within}
use Rattle.enclose_fold.proofs.EachEntry.{each_undrawn}
use Rattle.enclose_fold.proofs.Passing.{stop_start, stop_along, stop_go, stop_all}
use Rattle.enclose_fold.proofs.Sizes.{sized_at}
use Rattle.enclose_fold.proofs.fold.Fold.draw.Goals as goal

pub loop-s-init : goal.loop-s-init
loop-s-init c =
    let v = value_of (expression_of c.args.e.now) in
    let r = c.args.self.attempts in
    let es = c.args.table.states.entries in
    let p = c.into_iter-s-iterator.ensures.into_iter_gives.0 in
    record {
      next = tt;
      finite = tt;
      vars = c.new-next.ensures.vars;
      within = let a = ap total c.new-next.ensures.empty in let b = ap total p in omega arith;
      so_far = draws_start c.args.x v r es _ _ c.new-next.ensures.empty p;
      stopped = stop_start (undrawn_units down c.args.x v r) (each_undrawn c.args.x v r) es c.args.ended.now _ p;
    }

pub draw_entry-requires-clause-sized : goal.draw_entry-requires-clause-sized
draw_entry-requires-clause-sized c = sized_at _ _ c.args.table.sized (λ e. e) _ _ _ _ _ _ c.into_iter-s-iterator.ensures.into_iter_gives.0 c.loop-s.yielded_by c.in-Some.is c.next.ensures.steps ∙ sym c.loop-s.invariant.vars

pub draw_entry-requires-clause-place : goal.draw_entry-requires-clause-place
draw_entry-requires-clause-place c =
    let p : length c.in-Some.s ≡ c.args.table.vars = sized_at _ _ c.args.table.sized (λ e. e) _ _ _ _ _ _ c.into_iter-s-iterator.ensures.into_iter_gives.0 c.loop-s.yielded_by c.in-Some.is c.next.ensures.steps in
    omega (arith, c.requires.place)

pub draw_entry-requires-clause-reads : goal.draw_entry-requires-clause-reads
draw_entry-requires-clause-reads c =
    let p : length c.in-Some.s ≡ c.args.table.vars = sized_at _ _ c.args.table.sized (λ e. e) _ _ _ _ _ _ c.into_iter-s-iterator.ensures.into_iter_gives.0 c.loop-s.yielded_by c.in-Some.is c.next.ensures.steps in
    reads_at (expression_of c.args.e.now) _ _ p c.requires.reads

pub draw_entry-requires-clause-within : goal.draw_entry-requires-clause-within
draw_entry-requires-clause-within c =
    let b = ap total c.in-Some.ensures.steps in
    let w = c.loop-s.invariant.within in
    omega (arith, c.requires.within, w, b)

pub loop-s-preserved : goal.loop-s-preserved
loop-s-preserved c =
    let v = value_of (expression_of c.args.e.now) in
    let r = c.args.self.attempts in
    let es = c.args.table.states.entries in
    let few : c.in-Some.w ≤ ALL = let b = ap total c.in-Some.ensures.steps in let w = c.loop-s.invariant.within in omega (arith, c.requires.within, w, b) in
    record {
      next = tt;
      finite = tt;
      vars = c.draw_entry.ensures.vars ∙ c.loop-s.invariant.vars;
      within = draws_within c.args.x v r c.loop-s.next.states.entries _ _ c.next.new.self c.in-Some.s c.in-Some.w _ c.loop-s.ended _ c.in-Some.ensures.steps few
          c.in_ok-draw_entry.ensures.added c.in_ok-draw_entry.ensures.stopped c.loop-s.invariant.within;
      so_far = draws_next c.args.x v r es c.loop-s.next.states.entries _ c.next.new.self c.in-Some.s c.in-Some.w c.in-Some.ensures.steps c.loop-s.invariant.so_far _ c.in_ok-draw_entry.ensures.added;
      stopped = stop_go (undrawn_units down c.args.x v r) (each_undrawn c.args.x v r) es c.args.ended.now _ c.in-Some.s c.in-Some.w c.next.new.self
          (stop_along (undrawn_units down c.args.x v r) (each_undrawn c.args.x v r) es c.args.ended.now _ _ _ c.in-Some.ensures.steps c.loop-s.invariant.stopped) _
          c.in_ok-draw_entry.ensures.stopped;
    }

pub returns-clause-next : goal.returns-clause-next
returns-clause-next c =
    let v = value_of (expression_of c.args.e.now) in
    draws_end c.args.x v c.args.self.attempts c.args.table.states.entries _ _ c.in-None.ensures.steps.0 c.loop-s.next.once c.loop-s.invariant.so_far

pub returns-clause-stopped : goal.returns-clause-stopped
returns-clause-stopped c =
    let v = value_of (expression_of c.args.e.now) in
    let r = c.args.self.attempts in
    let es = c.args.table.states.entries in
    stop_all (undrawn_units down c.args.x v r) (each_undrawn c.args.x v r) es c.args.ended.now _
    (stop_along (undrawn_units down c.args.x v r) (each_undrawn c.args.x v r) es c.args.ended.now _ _ _ c.in-None.ensures.steps.0 c.loop-s.invariant.stopped)

pub returns-in_err-draw_entry-clause-cause : goal.returns-in_err-draw_entry-clause-cause
returns-in_err-draw_entry-clause-cause c =
    let v = value_of (expression_of c.args.e.now) in
    let out : c.from_residual.result ≡ Err c.in_err-draw_entry.field-0.0 = grind arith in
    rw out (draws_refused c.args.x v c.args.self.attempts c.args.table.states.entries c.loop-s.next.states.entries _ c.next.new.self c.in-Some.s c.in-Some.w c.in-Some.ensures.steps c.loop-s.invariant.so_far _ c.in_err-draw_entry.ensures.cause)
