use Rattle.std.proofs.Common.{◌≡◌, ◌∙◌, [], ◌∷◌, ◌++◌, refl, sym, Err, arith}
use Rattle.units_law.proofs.Held.{held_append}
use Rattle.enclose_fold.proofs.EachEntry.{each_itself}
use Rattle.enclose_fold.proofs.Passing.{pass_start, pass_along, pass_go, pass_room, pass_end}
use Rattle.enclose_fold.proofs.Putting.{put_holds, put_short, put_refused, refused_in, is_merged}
use Rattle.enclose_fold.proofs.Sizes.{sized_at}
use Rattle.enclose_fold.proofs.steps.merge.Goals as goal

pub loop-s-init : goal.loop-s-init
loop-s-init c = record {
  next = tt;
  finite = tt;
  vars = refl;
  so_far = pass_start (λ J. J) each_itself c.args.into.now.states.entries c.args.table.states.entries _ _ refl c.into_iter-s-iterator.ensures.into_iter_gives.0;
}

pub put-requires-clause-sized : goal.put-requires-clause-sized
put-requires-clause-sized c = sized_at _ _ c.args.table.sized (λ e. e) _ _ _ _ _ _ c.into_iter-s-iterator.ensures.into_iter_gives.0 c.loop-s.yielded_by c.in-Some.is c.next.ensures.steps ∙ c.requires.vars ∙ sym c.loop-s.invariant.vars

pub put-requires-clause-within : goal.put-requires-clause-within
put-requires-clause-within c =
    let bs = c.args.into.now.states.entries in
    let es = c.args.table.states.entries in
    let a = pass_room (λ J. J) each_itself bs es _ c.next.new.self c.in-Some.s c.in-Some.w (pass_along (λ J. J) each_itself bs es _ _ _ c.in-Some.ensures.steps c.loop-s.invariant.so_far) in
    omega (arith, c.requires.within, a)

pub loop-s-preserved : goal.loop-s-preserved
loop-s-preserved c =
    let bs = c.args.into.now.states.entries in
    let es = c.args.table.states.entries in
    record {
      next = tt;
      finite = tt;
      vars = c.put.ensures.vars ∙ c.loop-s.invariant.vars;
      so_far = pass_go (λ J. J) each_itself bs es _ c.next.new.self c.in-Some.s c.in-Some.w
          (pass_along (λ J. J) each_itself bs es _ _ _ c.in-Some.ensures.steps c.loop-s.invariant.so_far) _
          (λ G. put_holds c.loop-s.into.states.entries _ _ c.in-Some.w c.in_ok-put.ensures.ok c.loop-s.into.once G _ (omega arith))
          (put_short c.loop-s.into.states.entries _ _ c.in-Some.w c.in_ok-put.ensures.ok);
    }

pub returns-clause-ok : goal.returns-clause-ok
returns-clause-ok c =
    let bs = c.args.into.now.states.entries in
    let es = c.args.table.states.entries in
    let h = pass_along (λ J. J) each_itself bs es _ _ _ c.in-None.ensures.steps.0 c.loop-s.invariant.so_far in
    is_merged _ (bs ++ es) c.loop-s.into.once (λ G. pass_end (λ J. J) each_itself bs es _ h G ∙ sym (held_append G bs es))

pub returns-in_err-put-clause-cause : goal.returns-in_err-put-clause-cause
returns-in_err-put-clause-cause c =
    let out : c.from_residual.result ≡ Err c.in_err-put.field-0.0 = grind arith in
    let bs = c.args.into.now.states.entries in
    let es = c.args.table.states.entries in
    let h = pass_along (λ J. J) each_itself bs es _ _ _ c.in-Some.ensures.steps c.loop-s.invariant.so_far in
    let fs = c.loop-s.into.states.entries in
    rw out (refused_in _ (fs ++ (c.in-Some.s, c.in-Some.w) ∷ []) c.next.new.self (bs ++ es)
    (λ G. let a = held_append G fs ((c.in-Some.s, c.in-Some.w) ∷ []) in let b = h.going G in let d = held_append G bs es in omega arith)
    (put_refused _ fs c.in-Some.s c.in-Some.w c.loop-s.into.once c.in_err-put.ensures.cause))
