use Rattle.std.proofs.Common.{rules, ◌∙◌, w64, length, sym, ap, subst, arith}
use Rattle.std.proofs.lemmas.Int.{ints}
use Rattle.std.proofs.lemmas.Result.{IfOk-weaker, IfErr-weaker}
use mir.Val.{SFits}
use Rattle.gcl_core.specs.meaning.Views.{expression_of}
use Rattle.gcl_core.specs.meaning.Value.{value_of}
use Rattle.gcl_core.specs.meaning.Bounds.{ExpressionBelow}
use Rattle.mass_fold.proofs.Bounds.{is_bound}
use Rattle.enclose_fold.proofs.Spreading.{fault_added, fault_stopped, bad_added, bad_stopped, draw_added, draw_stopped, draw_refused}
use Rattle.enclose_fold.proofs.fold.Fold.draw_entry.Goals as goal

pub eval-requires : goal.eval-requires
eval-requires c = subst (λ s. ExpressionBelow (expression_of c.args.e.now) (length s)) (sym c.values.ensures) c.requires.reads

pub returns-in-Err-clause-added : goal.returns-in-Err-clause-added
returns-in-Err-clause-added c =
    let a = c.args in
    let v = value_of (expression_of a.e.now) in
    fault_added a.x a.self.attempts a.s.now a.w (v a.s.now) c.in-Err.fault a.next.now.states.entries (ap v (sym c.values.ensures) ∙ sym c.in-Err.ensures) a.next.now.once

pub returns-in-Err-clause-stopped : goal.returns-in-Err-clause-stopped
returns-in-Err-clause-stopped c =
    let a = c.args in
    let v = value_of (expression_of a.e.now) in
    fault_stopped a.x a.self.attempts a.s.now a.w (v a.s.now) c.in-Err.fault a.ended.now _ (ap v (sym c.values.ensures) ∙ sym c.in-Err.ensures) c.add_fault.ensures

pub returns-then-v-lt1-clause-added : goal.returns-then-v-lt1-clause-added
returns-then-v-lt1-clause-added c =
    let a = c.args in
    let v = value_of (expression_of a.e.now) in
    bad_added a.x a.self.attempts a.s.now a.w (v a.s.now) c.in-Ok.v a.next.now.states.entries (ap v (sym c.values.ensures) ∙ sym c.in-Ok.ensures) (λ h. omega (arith, ints)) a.next.now.once

pub returns-then-v-lt1-clause-stopped : goal.returns-then-v-lt1-clause-stopped
returns-then-v-lt1-clause-stopped c =
    let a = c.args in
    let v = value_of (expression_of a.e.now) in
    bad_stopped a.x a.self.attempts a.s.now a.w (v a.s.now) c.in-Ok.v a.ended.now _ (ap v (sym c.values.ensures) ∙ sym c.in-Ok.ensures) (λ h. omega (arith, ints)) c.add_fault-then-v-lt1.ensures

pub returns-else-v-lt1-clause-added : goal.returns-else-v-lt1-clause-added
returns-else-v-lt1-clause-added c =
    let a = c.args in
    let v = value_of (expression_of a.e.now) in
    let f : SFits w64 c.in-Ok.v = search rules in
    let b = is_bound c.in-Ok.v f (omega (arith, ints)) in
    IfOk-weaker c.draw_state.result _ _ (λ _ d. draw_added a.x a.self.attempts a.s.now a.w (v a.s.now) c.in-Ok.v (ap v (sym c.values.ensures) ∙ sym c.in-Ok.ensures) b a.next.now.states.entries _ d) c.draw_state.ensures.added

pub returns-else-v-lt1-clause-stopped : goal.returns-else-v-lt1-clause-stopped
returns-else-v-lt1-clause-stopped c =
    let a = c.args in
    let v = value_of (expression_of a.e.now) in
    let f : SFits w64 c.in-Ok.v = search rules in
    let b = is_bound c.in-Ok.v f (omega (arith, ints)) in
    IfOk-weaker c.draw_state.result _ _ (λ _ d. draw_stopped a.x a.self.attempts a.s.now a.w (v a.s.now) c.in-Ok.v (ap v (sym c.values.ensures) ∙ sym c.in-Ok.ensures) b a.ended.now _ d) c.draw_state.ensures.stopped

pub returns-else-v-lt1-clause-cause : goal.returns-else-v-lt1-clause-cause
returns-else-v-lt1-clause-cause c =
    let a = c.args in
    let v = value_of (expression_of a.e.now) in
    let f : SFits w64 c.in-Ok.v = search rules in
    let b = is_bound c.in-Ok.v f (omega (arith, ints)) in
    IfErr-weaker c.draw_state.result _ _ (λ e d. draw_refused a.x a.self.attempts a.s.now a.w (v a.s.now) c.in-Ok.v (ap v (sym c.values.ensures) ∙ sym c.in-Ok.ensures) b a.next.now.states.entries e d) c.draw_state.ensures.cause
