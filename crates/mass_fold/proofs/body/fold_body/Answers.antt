use Rattle.std.proofs.Common.{◌≡◌, ◌∷◌, [], ◌∙◌, Err, sym, ap, subst, arith}
use Rattle.gcl_core.specs.meaning.Bounds.{BlockIsWeighed}
use Rattle.gcl_core.specs.meaning.Outcomes.{zeros}
use Rattle.gcl_core.specs.meaning.Views.{source_of, statements_of}
use Rattle.table_flow.specs.Tables.{peak_of}
use Rattle.table_flow.specs.Width.{round_width}
use Rattle.mass_fold.specs.inner.Amounts.{Blames}
use Rattle.mass_fold.specs.inner.Body.{BodyGives, BodyMeters}
use Rattle.mass_fold.proofs.Beginning.{body_gives, body_blames, body_meters}
use Rattle.mass_fold.proofs.body.fold_body.Goals as goal

pub returns-clause-ok : goal.returns-clause-ok
returns-clause-ok c =
    let same = c.program-program.ensures.same in
    let w = subst (λ q. BlockIsWeighed (statements_of q.body)) (sym same) c.program-program.ensures.weights in
    let one = c.in_ok-table.ensures.one ∙ ap (λ n. (zeros n, (1, 1)) ∷ []) c.count.ensures in
    subst (λ q. BodyGives (source_of q) c.args.turns c.args.attempts.most c.in_ok-table-2.table.states.entries c.block.new.ended) same
    (body_gives (source_of c.program-program.result.now) c.args.turns c.args.attempts.most w _ c.none-ended.result one c.none-ended.ensures _ _ c.in_ok-table-2.ensures.ok)

pub returns-clause-bits : goal.returns-clause-bits
returns-clause-bits c =
    let same = c.program-program.ensures.same in
    let w = subst (λ q. BlockIsWeighed (statements_of q.body)) (sym same) c.program-program.ensures.weights in
    let one = c.in_ok-table.ensures.one ∙ ap (λ n. (zeros n, (1, 1)) ∷ []) c.count.ensures in
    subst (λ q. BodyMeters (source_of q) c.args.turns c.args.attempts.most c.args.meter.now c.block.new.meter) same
    (body_meters (source_of c.program-program.result.now) c.args.turns c.args.attempts.most w _ c.none-ended.result one c.none-ended.ensures _ _ c.in_ok-table-2.ensures.bits)

pub returns-in_err-table-2-clause-cause : goal.returns-in_err-table-2-clause-cause
returns-in_err-table-2-clause-cause c =
    let same = c.program-program.ensures.same in
    let w = subst (λ q. BlockIsWeighed (statements_of q.body)) (sym same) c.program-program.ensures.weights in
    let one = c.in_ok-table.ensures.one ∙ ap (λ n. (zeros n, (1, 1)) ∷ []) c.count.ensures in
    let out : c.from_residual-in_err-table-2.result ≡ Err c.in_err-table-2.field-0.0 = grind arith in
    rw out (subst (λ q. Blames c.in_err-table-2.field-0.0 (round_width (source_of q) c.args.turns c.args.attempts.most) (peak_of (source_of q) c.args.turns c.args.attempts.most)) same
    (body_blames (source_of c.program-program.result.now) c.args.turns c.args.attempts.most w _ c.none-ended.result one c.none-ended.ensures _ c.in_err-table-2.ensures.cause))
