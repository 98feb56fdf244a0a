use Rattle.std.proofs.Common.{◌≡◌, ◌≤◌, Err, arith}
use Rattle.std.proofs.lemmas.Result.{IfOk-weaker, IfErr-weaker}
use Rattle.gcl_core.specs.meaning.Blocks.{limit}
use Rattle.gcl_core.specs.declared.answers.Limit.TheVariants.{Attempts}
use Rattle.gcl_core.specs.weighing.WeightedEnds.{class_weight, no_class_weight}
use Rattle.mass_fold.specs.declared.ended.Gone.TheVariants as gone_kind
use Rattle.mass_fold.specs.declared.error.MassError.TheVariants.{TooWide}
use Rattle.mass_fold.specs.inner.Steps.{IsParts, at_numbers}
use Rattle.mass_fold.proofs.Bounds.{class_above}
use Rattle.mass_fold.proofs.Drawings.{added_spread, blamed_spread, blamed_part, blamed_rest, blamed_parts, blamed_end, stopped_end}
use Rattle.mass_fold.proofs.Fits.{fits, none_where_wide, is_wide, some_fits, on_wide}
use Rattle.mass_fold.proofs.fold.Fold.draw_state.Goals as goal
use Rattle.table_flow.proofs.Kept.{sum_ones}

pub returns-in_err-part-clause-cause : goal.returns-in_err-part-clause-cause
returns-in_err-part-clause-cause c =
    let out : c.from_residual.result ≡ Err TooWide = grind (arith, is_wide _ _ c.in_err-part.ensures.value) in
    rw out (blamed_parts c.args.bound c.args.self.attempts.most c.args.next.now.states.entries c.args.ended.now c.args.f.now (at_numbers c.args.x c.args.bound c.args.s.now) (λ G. G (limit Attempts)) (on_wide _ _ _ c.parts.ensures.cause c.in_err-part.ensures.value))

pub returns-in_err-h-clause-cause : goal.returns-in_err-h-clause-cause
returns-in_err-h-clause-cause c =
    let p = some_fits _ _ (λ t. IsParts c.args.bound c.args.self.attempts.most t.0 t.1) c.parts.ensures.value c.in_ok-part.ensures.value in
    let o : 1 ≤ at_numbers c.args.x c.args.bound c.args.s.now (λ s. 1) = let e = sum_ones c.args.bound in let h = c.requires.least in omega arith in
    let out : c.from_residual-in_err-h.result ≡ Err TooWide = grind (arith, is_wide _ _ c.in_err-h.ensures.value) in
    rw out (blamed_part _ (class_weight c.args.bound c.args.self.attempts.most 1) (no_class_weight c.args.bound c.args.self.attempts.most) c.args.next.now.states.entries c.args.ended.now c.args.f.now (at_numbers c.args.x c.args.bound c.args.s.now) (λ G. G (limit Attempts))
    p.part_positive p.part_is o (none_where_wide _ _ _ c.mul.ensures c.in_err-h.ensures.value))

pub returns-in_err-spread-clause-cause : goal.returns-in_err-spread-clause-cause
returns-in_err-spread-clause-cause c =
    let p = some_fits _ _ (λ t. IsParts c.args.bound c.args.self.attempts.most t.0 t.1) c.parts.ensures.value c.in_ok-part.ensures.value in
    let out : c.from_residual-in_err-spread.result ≡ Err c.in_err-spread.field-0.0 = grind arith in
    rw out (blamed_spread _ (class_weight c.args.bound c.args.self.attempts.most 1) (no_class_weight c.args.bound c.args.self.attempts.most) c.args.next.now.states.entries c.args.ended.now c.args.f.now c.in_ok-h.h c.args.x c.args.bound c.args.s.now (λ G. G (limit Attempts)) _
    p.part_positive p.part_is (class_above c.args.bound c.args.self.attempts.most c.args.self.attempts.some) (fits _ _ _ c.mul.ensures c.in_ok-h.ensures.value) c.in_err-spread.ensures.cause)

pub returns-in_err-g-clause-cause : goal.returns-in_err-g-clause-cause
returns-in_err-g-clause-cause c =
    let p = some_fits _ _ (λ t. IsParts c.args.bound c.args.self.attempts.most t.0 t.1) c.parts.ensures.value c.in_ok-part.ensures.value in
    let out : c.from_residual-in_err-g.result ≡ Err TooWide = grind (arith, is_wide _ _ c.in_err-g.ensures.value) in
    rw out (blamed_rest _ (class_weight c.args.bound c.args.self.attempts.most 1) (no_class_weight c.args.bound c.args.self.attempts.most) c.args.next.now.states.entries c.args.ended.now c.args.f.now (at_numbers c.args.x c.args.bound c.args.s.now) gone_kind.Attempts
    p.rest_positive p.rest_is (none_where_wide _ _ _ c.mul-2.ensures c.in_err-g.ensures.value))

pub returns-clause-added : goal.returns-clause-added
returns-clause-added c =
    let p = some_fits _ _ (λ t. IsParts c.args.bound c.args.self.attempts.most t.0 t.1) c.parts.ensures.value c.in_ok-part.ensures.value in
    IfOk-weaker c.add.result _ _
    (λ _ _. added_spread _ (class_weight c.args.bound c.args.self.attempts.most 1) c.args.next.now.states.entries c.spread.new.next.states.entries c.args.f.now c.in_ok-h.h c.args.x c.args.bound c.args.s.now
    p.part_positive p.part_is (class_above c.args.bound c.args.self.attempts.most c.args.self.attempts.some) (fits _ _ _ c.mul.ensures c.in_ok-h.ensures.value) c.in_ok-spread.ensures.ok) c.add.ensures.ok

pub returns-clause-stopped : goal.returns-clause-stopped
returns-clause-stopped c =
    let p = some_fits _ _ (λ t. IsParts c.args.bound c.args.self.attempts.most t.0 t.1) c.parts.ensures.value c.in_ok-part.ensures.value in
    IfOk-weaker c.add.result _ _
    (λ _ a. stopped_end _ (no_class_weight c.args.bound c.args.self.attempts.most) c.args.ended.now c.add.new.self c.args.f.now c.in_ok-g.g gone_kind.Attempts p.rest_positive p.rest_is (fits _ _ _ c.mul-2.ensures c.in_ok-g.ensures.value) a) c.add.ensures.ok

pub returns-clause-cause : goal.returns-clause-cause
returns-clause-cause c =
    let p = some_fits _ _ (λ t. IsParts c.args.bound c.args.self.attempts.most t.0 t.1) c.parts.ensures.value c.in_ok-part.ensures.value in
    IfErr-weaker c.add.result _ _
    (λ e b. blamed_end _ (class_weight c.args.bound c.args.self.attempts.most 1) (no_class_weight c.args.bound c.args.self.attempts.most) c.args.next.now.states.entries c.args.ended.now c.args.f.now c.in_ok-g.g (at_numbers c.args.x c.args.bound c.args.s.now) gone_kind.Attempts e
    p.rest_positive p.rest_is (fits _ _ _ c.mul-2.ensures c.in_ok-g.ensures.value) b) c.add.ensures.cause
