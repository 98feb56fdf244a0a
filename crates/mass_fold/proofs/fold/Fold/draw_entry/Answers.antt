use Rattle.std.proofs.Common.{rules, ◌∙◌, w64, length, sym, ap, subst, arith}
use Rattle.std.proofs.lemmas.Int.{ints}
use Rattle.std.proofs.lemmas.Result.{IfOk-weaker, IfErr-weaker}
use mir.Val.{SFits}
use Rattle.gcl_core.specs.meaning.Views.{expression_of}
use Rattle.gcl_core.specs.meaning.Value.{value_of}
use Rattle.gcl_core.specs.meaning.Bounds.{ExpressionBelow}
use Rattle.mass_fold.proofs.Bounds.{is_bound, fault_added, fault_stopped, fault_blamed, bad_added, bad_stopped, bad_blamed, draw_added, draw_stopped, draw_blamed}
use Rattle.mass_fold.proofs.fold.Fold.draw_entry.Goals as goal

pub eval-requires : goal.eval-requires
eval-requires c = subst (λ s. ExpressionBelow (expression_of c.args.e.now) (length s)) (sym c.values.ensures) c.requires.reads

pub returns-in-Err-clause-stopped : goal.returns-in-Err-clause-stopped
returns-in-Err-clause-stopped c =
    let v = value_of (expression_of c.args.e.now) in
    IfOk-weaker c.add.result _ _ (λ _ a. fault_stopped c.args.x c.args.self.attempts.most c.args.s.now (v c.args.s.now) c.in-Err.fault c.ended_by.result _ _ _ (ap v (sym c.values.ensures) ∙ sym c.in-Err.ensures) c.ended_by.ensures a) c.add.ensures.ok

pub returns-in-Err-clause-added : goal.returns-in-Err-clause-added
returns-in-Err-clause-added c =
    let v = value_of (expression_of c.args.e.now) in
    IfOk-weaker c.add.result _ _ (λ _ _. fault_added c.args.x c.args.self.attempts.most c.args.s.now (v c.args.s.now) c.in-Err.fault _ _ (ap v (sym c.values.ensures) ∙ sym c.in-Err.ensures)) c.add.ensures.ok

pub returns-in-Err-clause-cause : goal.returns-in-Err-clause-cause
returns-in-Err-clause-cause c =
    let v = value_of (expression_of c.args.e.now) in
    IfErr-weaker c.add.result _ _ (λ e a. fault_blamed c.args.x c.args.self.attempts.most c.args.s.now (v c.args.s.now) c.in-Err.fault c.ended_by.result _ _ _ e (ap v (sym c.values.ensures) ∙ sym c.in-Err.ensures) c.ended_by.ensures a) c.add.ensures.cause

pub returns-then-v-lt1-clause-added : goal.returns-then-v-lt1-clause-added
returns-then-v-lt1-clause-added c =
    let v = value_of (expression_of c.args.e.now) in
    IfOk-weaker c.add-then-v-lt1.result _ _ (λ _ _. bad_added c.args.x c.args.self.attempts.most c.args.s.now (v c.args.s.now) c.in-Ok.v _ _ (ap v (sym c.values.ensures) ∙ sym c.in-Ok.ensures) (λ h. omega (arith, ints))) c.add-then-v-lt1.ensures.ok

pub returns-then-v-lt1-clause-stopped : goal.returns-then-v-lt1-clause-stopped
returns-then-v-lt1-clause-stopped c =
    let v = value_of (expression_of c.args.e.now) in
    IfOk-weaker c.add-then-v-lt1.result _ _ (λ _ a. bad_stopped c.args.x c.args.self.attempts.most c.args.s.now (v c.args.s.now) c.in-Ok.v _ _ _ (ap v (sym c.values.ensures) ∙ sym c.in-Ok.ensures) (λ h. omega (arith, ints)) a) c.add-then-v-lt1.ensures.ok

pub returns-then-v-lt1-clause-cause : goal.returns-then-v-lt1-clause-cause
returns-then-v-lt1-clause-cause c =
    let v = value_of (expression_of c.args.e.now) in
    IfErr-weaker c.add-then-v-lt1.result _ _ (λ e a. bad_blamed c.args.x c.args.self.attempts.most c.args.s.now (v c.args.s.now) c.in-Ok.v _ _ _ e (ap v (sym c.values.ensures) ∙ sym c.in-Ok.ensures) (λ h. omega (arith, ints)) a) c.add-then-v-lt1.ensures.cause

pub returns-else-v-lt1-clause-added : goal.returns-else-v-lt1-clause-added
returns-else-v-lt1-clause-added c =
    let v = value_of (expression_of c.args.e.now) in
    let f : SFits w64 c.in-Ok.v = search rules in
    let b = is_bound c.in-Ok.v f (omega (arith, ints)) in
    IfOk-weaker c.draw_state.result _ _ (λ _ a. draw_added c.args.x c.args.self.attempts.most c.args.s.now (v c.args.s.now) c.in-Ok.v (ap v (sym c.values.ensures) ∙ sym c.in-Ok.ensures) b _ _ _ a) c.draw_state.ensures.added

pub returns-else-v-lt1-clause-stopped : goal.returns-else-v-lt1-clause-stopped
returns-else-v-lt1-clause-stopped c =
    let v = value_of (expression_of c.args.e.now) in
    let f : SFits w64 c.in-Ok.v = search rules in
    let b = is_bound c.in-Ok.v f (omega (arith, ints)) in
    IfOk-weaker c.draw_state.result _ _ (λ _ a. draw_stopped c.args.x c.args.self.attempts.most c.args.s.now (v c.args.s.now) c.in-Ok.v (ap v (sym c.values.ensures) ∙ sym c.in-Ok.ensures) b _ _ _ a) c.draw_state.ensures.stopped

pub returns-else-v-lt1-clause-cause : goal.returns-else-v-lt1-clause-cause
returns-else-v-lt1-clause-cause c =
    let v = value_of (expression_of c.args.e.now) in
    let f : SFits w64 c.in-Ok.v = search rules in
    let b = is_bound c.in-Ok.v f (omega (arith, ints)) in
    IfErr-weaker c.draw_state.result _ _ (λ e a. draw_blamed c.args.x c.args.self.attempts.most c.args.s.now (v c.args.s.now) c.in-Ok.v (ap v (sym c.values.ensures) ∙ sym c.in-Ok.ensures) b _ _ _ e a) c.draw_state.ensures.cause
