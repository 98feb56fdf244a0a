use Rattle.std.proofs.Common.{◌≡◌, List, [], OnErr, Result, Ok, Err, refl, sym, ap, subst, ◌∙◌, arith}
use Rattle.zar_io.specs.Bits.{Took}
use Rattle.zar_io.specs.declared.trace.Event.{Event}
use Rattle.zar_io.specs.GoesOn.{GoesOn}
use Rattle.zar_io.specs.Trace.{World, Agrees, failures}
use Rattle.zar_io.proofs.TraceLemmas.{agrees_before, goes_on-none, goes_on-more}
use Rattle.sampler_run.specs.declared.machine.Progress.TheVariants.{NeedBit, Ended}
use Rattle.sampler_code.specs.Running.{Reached}
use Rattle.sampler_run.specs.Held.{Held, Ahead}
use Rattle.sampler_run.specs.Sampled.{WentOn}
use Rattle.sampler_run.specs.Telling.{Tells}
use Rattle.sampler_run.proofs.BitsUsed.{took_to}
use Rattle.sampler_run.proofs.Taking.{told_reached, needs_told, needs_there, none_left, went_none, went_more, went_join, went_in_vain, went_reached}
use Rattle.sampler_run.proofs.sampling.go_on.Goals as goal

on_err : {A E : Type 0} (r : Result A E) (P : Type 0) → P → OnErr r P
on_err (Ok a) P h = tt
on_err (Err e) P h = h

pub loop-outcome-init : goal.loop-outcome-init
loop-outcome-init g c =
    record {
      fails = refl;
      goes_on = goes_on-none (g.B.Bits.answered c.args.bits.now) (g.B.Bits.answered c.args.bits.now) refl;
      ended = refl;
      broken = refl;
      source = refl;
      start = refl;
      went = λ file agrees. went_none c.args.state.now (g.B.Bits.left c.args.bits.now file);
    }

pub returns-in-Ended-clause-answer : goal.returns-in-Ended-clause-answer
returns-in-Ended-clause-answer g c = λ file agrees.
    let s = c.loop-outcome.state in
    let told = subst (λ p. Tells s p) c.in-Ended.is c.progress.ensures.told in
    let end = told_reached s (Ended c.in-Ended.outcome) c.used.result c.place.result told c.used.ensures c.place.ensures (c.progress.ensures.some []) in
    went_reached c.args.state.now s (g.B.Bits.left c.args.bits.now file) (g.B.Bits.left c.loop-outcome.bits file) _ (c.loop-outcome.invariant.went file agrees)
    ((c.progress.ensures.ended c.in-Ended.outcome told (g.B.Bits.left c.loop-outcome.bits file) _).1 end)

pub returns-in-Ended-clause-stands : goal.returns-in-Ended-clause-stands
returns-in-Ended-clause-stands g c =
    let s = c.loop-outcome.state in
    let told = subst (λ p. Tells s p) c.in-Ended.is c.progress.ensures.told in
    told_reached s (Ended c.in-Ended.outcome) c.used.result c.place.result told c.used.ensures c.place.ensures (c.progress.ensures.some [])

pub returns-in-Ended-clause-taken : goal.returns-in-Ended-clause-taken
returns-in-Ended-clause-taken g c = λ file agrees n used.
    let s = c.loop-outcome.state in
    let told = subst (λ p. Tells s p) c.in-Ended.is c.progress.ensures.told in
    let end = told_reached s (Ended c.in-Ended.outcome) c.used.result c.place.result told c.used.ensures c.place.ensures (c.progress.ensures.some []) in
    took_to c.args.state.now s n (g.B.Bits.left c.args.bits.now file) (g.B.Bits.left c.loop-outcome.bits file) _ (c.loop-outcome.invariant.went file agrees) used (grind arith) tt end

pub loop-outcome-preserved-then-take_ready : goal.loop-outcome-preserved-then-take_ready
loop-outcome-preserved-then-take_ready g c =
    let inv = c.loop-outcome.invariant in
    let t = c.take_ready.ensures in
    let before = g.B.Bits.answered c.args.bits.now in
    let between = g.B.Bits.answered c.loop-outcome.bits in
    let now = g.B.Bits.answered c.take_ready.new.bits in
    record {
      fails = ap failures t.no_call ∙ inv.fails;
      goes_on = goes_on-more [] before between now inv.goes_on (goes_on-none between now t.no_call);
      ended = t.ended ∙ inv.ended;
      broken = t.broken ∙ inv.broken;
      source = t.same_source ∙ inv.source;
      start = t.same_start ∙ inv.start;
      went = λ file agrees. went_join c.args.state.now c.loop-outcome.state c.take_ready.new.state _ _ _ (inv.went file (subst (Agrees file) t.no_call agrees)) (t.went file);
    }

-- files that agree after the next bit agreed before those that lay ready
agreed_then : (file : World) (before ready now : List Event) → ready ≡ before → GoesOn [] ready now → Agrees file now → Agrees file before
agreed_then file before ready now same on agrees = subst (Agrees file) same (agrees_before file [] ready now on agrees)

pub returns-in_err-next-in-NeedBit-clause-asked_in_vain :
    goal.returns-in_err-next-in-NeedBit-clause-asked_in_vain
returns-in_err-next-in-NeedBit-clause-asked_in_vain g c = on_err c.from_residual.result _ (λ file agrees.
    let s = c.take_ready.new.state in
    let earlier = agreed_then file (g.B.Bits.answered c.loop-outcome.bits) (g.B.Bits.answered c.take_ready.new.bits) (g.B.Bits.answered c.next.new.self) c.take_ready.ensures.no_call c.in_err-next-in-NeedBit.ensures.goes_on agrees in
    let went = went_join c.args.state.now c.loop-outcome.state s _ _ _ (c.loop-outcome.invariant.went file earlier) (c.take_ready.ensures.went file) in
    let told = subst (λ s. Tells s NeedBit) (sym (c.take_ready.ensures.none c.if-take_ready.false)) (subst (λ p. Tells c.loop-outcome.state p) c.in-NeedBit.is c.progress.ensures.told) in
    let some = subst (λ (s : Held). (a : Reached) × Ahead s [] a) (sym (c.take_ready.ensures.none c.if-take_ready.false)) (c.progress.ensures.some []) in
    went_in_vain c.args.state.now s (g.B.Bits.left c.args.bits.now file) (g.B.Bits.left c.take_ready.new.bits file) went
    (needs_there c.args.state.now s went.asked.taken went.stands (needs_told s told some)))

pub returns-in-None-clause-answer : goal.returns-in-None-clause-answer
returns-in-None-clause-answer g c = λ file agrees.
    let s = c.take_ready.new.state in
    let earlier = agreed_then file (g.B.Bits.answered c.loop-outcome.bits) (g.B.Bits.answered c.take_ready.new.bits) (g.B.Bits.answered c.next.new.self) c.take_ready.ensures.no_call c.in_ok-next-in-NeedBit.ensures.goes_on agrees in
    let went = went_join c.args.state.now c.loop-outcome.state s _ _ _ (c.loop-outcome.invariant.went file earlier) (c.take_ready.ensures.went file) in
    let told = subst (λ s. Tells s NeedBit) (sym (c.take_ready.ensures.none c.if-take_ready.false)) (subst (λ p. Tells c.loop-outcome.state p) c.in-NeedBit.is c.progress.ensures.told) in
    let some = subst (λ (s : Held). (a : Reached) × Ahead s [] a) (sym (c.take_ready.ensures.none c.if-take_ready.false)) (c.progress.ensures.some []) in
    let need = told_reached s NeedBit c.used-in-None.result c.place-in-None.result told c.used-in-None.ensures c.place-in-None.ensures some in
    let took = subst (λ o. Took o (g.B.Bits.left c.take_ready.new.bits file) (g.B.Bits.left c.next.new.self file)) c.in-None.is (c.in_ok-next-in-NeedBit.ensures.bit file agrees) in
    went_reached c.args.state.now s (g.B.Bits.left c.args.bits.now file) (g.B.Bits.left c.take_ready.new.bits file) _ went
    (none_left s _ _ took.0 need)

pub returns-in-None-clause-stands : goal.returns-in-None-clause-stands
returns-in-None-clause-stands g c =
    let s = c.take_ready.new.state in
    let told = subst (λ s. Tells s NeedBit) (sym (c.take_ready.ensures.none c.if-take_ready.false)) (subst (λ p. Tells c.loop-outcome.state p) c.in-NeedBit.is c.progress.ensures.told) in
    let some = subst (λ (s : Held). (a : Reached) × Ahead s [] a) (sym (c.take_ready.ensures.none c.if-take_ready.false)) (c.progress.ensures.some []) in
    told_reached s NeedBit c.used-in-None.result c.place-in-None.result told c.used-in-None.ensures c.place-in-None.ensures some

pub returns-in-None-clause-taken : goal.returns-in-None-clause-taken
returns-in-None-clause-taken g c = λ file agrees n used.
    let s = c.take_ready.new.state in
    let earlier = agreed_then file (g.B.Bits.answered c.loop-outcome.bits) (g.B.Bits.answered c.take_ready.new.bits) (g.B.Bits.answered c.next.new.self) c.take_ready.ensures.no_call c.in_ok-next-in-NeedBit.ensures.goes_on agrees in
    let went = went_join c.args.state.now c.loop-outcome.state s _ _ _ (c.loop-outcome.invariant.went file earlier) (c.take_ready.ensures.went file) in
    let told = subst (λ s. Tells s NeedBit) (sym (c.take_ready.ensures.none c.if-take_ready.false)) (subst (λ p. Tells c.loop-outcome.state p) c.in-NeedBit.is c.progress.ensures.told) in
    let some = subst (λ (s : Held). (a : Reached) × Ahead s [] a) (sym (c.take_ready.ensures.none c.if-take_ready.false)) (c.progress.ensures.some []) in
    let need = told_reached s NeedBit c.used-in-None.result c.place-in-None.result told c.used-in-None.ensures c.place-in-None.ensures some in
    let took = subst (λ o. Took o (g.B.Bits.left c.take_ready.new.bits file) (g.B.Bits.left c.next.new.self file)) c.in-None.is (c.in_ok-next-in-NeedBit.ensures.bit file agrees) in
    let here = subst (λ w. WentOn c.args.state.now s (g.B.Bits.left c.args.bits.now file) w) (took.0 ∙ sym took.1) went in
    took_to c.args.state.now s n (g.B.Bits.left c.args.bits.now file) (g.B.Bits.left c.next.new.self file) _ here used (grind arith) took.1 need

pub returns-in-None-clause-asked : goal.returns-in-None-clause-asked
returns-in-None-clause-asked g c = λ file agrees.
    let s = c.take_ready.new.state in
    let earlier = agreed_then file (g.B.Bits.answered c.loop-outcome.bits) (g.B.Bits.answered c.take_ready.new.bits) (g.B.Bits.answered c.next.new.self) c.take_ready.ensures.no_call c.in_ok-next-in-NeedBit.ensures.goes_on agrees in
    let went = went_join c.args.state.now c.loop-outcome.state s _ _ _ (c.loop-outcome.invariant.went file earlier) (c.take_ready.ensures.went file) in
    let took = subst (λ o. Took o (g.B.Bits.left c.take_ready.new.bits file) (g.B.Bits.left c.next.new.self file)) c.in-None.is (c.in_ok-next-in-NeedBit.ensures.bit file agrees) in
    subst (λ w. WentOn c.args.state.now s (g.B.Bits.left c.args.bits.now file) w) (took.0 ∙ sym took.1) went

pub loop-outcome-preserved : goal.loop-outcome-preserved
loop-outcome-preserved g c =
    let s = c.take_ready.new.state in
    let inv = c.loop-outcome.invariant in
    let t = c.take_ready.ensures in
    let told = subst (λ s. Tells s NeedBit) (sym (t.none c.if-take_ready.false)) (subst (λ p. Tells c.loop-outcome.state p) c.in-NeedBit.is c.progress.ensures.told) in
    let some = subst (λ (s : Held). (a : Reached) × Ahead s [] a) (sym (t.none c.if-take_ready.false)) (c.progress.ensures.some []) in
    let e = c.in_ok-next-in-NeedBit.ensures in
    let before = g.B.Bits.answered c.args.bits.now in
    let between = g.B.Bits.answered c.loop-outcome.bits in
    let ready = g.B.Bits.answered c.take_ready.new.bits in
    let now = g.B.Bits.answered c.next.new.self in
    record {
      fails = e.fails ∙ ap failures t.no_call ∙ inv.fails;
      goes_on = goes_on-more [] before ready now (goes_on-more [] before between ready inv.goes_on (goes_on-none between ready t.no_call)) e.goes_on;
      ended = (rw c.in-Some.is at e.ended) ∙ t.ended ∙ inv.ended;
      broken = e.broken ∙ t.broken ∙ inv.broken;
      source = e.same_source ∙ t.same_source ∙ inv.source;
      start = c.take.ensures.same_start ∙ t.same_start ∙ inv.start;
      went = λ file agrees.
          let went = went_join c.args.state.now c.loop-outcome.state s _ _ _ (inv.went file (agreed_then file between ready now t.no_call e.goes_on agrees)) (t.went file) in
          went_more c.args.state.now s c.take.new.self (g.B.Bits.left c.args.bits.now file) (g.B.Bits.left c.take_ready.new.bits file) (g.B.Bits.left c.next.new.self file) c.in-Some.bit went
          (subst (λ o. Took o (g.B.Bits.left c.take_ready.new.bits file) (g.B.Bits.left c.next.new.self file)) c.in-Some.is (e.bit file agrees))
          (needs_there c.args.state.now s went.asked.taken went.stands (needs_told s told some))
          c.take.ensures.fed;
    }
