use Rattle.std.proofs.Common.{◌≡◌, ◌∷◌, [], ◌∙◌, Err, sym, ap, subst, arith}
use Rattle.numbers.specs.declared.units.TheConstants.{ALL}
use Rattle.gcl_core.specs.meaning.Bounds.{BlockIsWeighed}
use Rattle.gcl_core.specs.meaning.Outcomes.{zeros}
use Rattle.gcl_core.specs.meaning.Views.{source_of, statements_of}
use Rattle.table_flow.specs.Tables.{peak_of}
use Rattle.enclose_fold.specs.inner.Body.{BodyGives}
use Rattle.enclose_fold.specs.inner.Refusals.{Refuses}
use Rattle.enclose_fold.proofs.CycleBody.{body_gives, body_refused, body_room}
use Rattle.enclose_fold.proofs.body.fold_body.Goals as goal

pub returns-clause-ok : goal.returns-clause-ok
returns-clause-ok c =
    let same = c.program-program.ensures.same in
    let one = c.in_ok-table.ensures.one ∙ ap (λ n. (zeros n, ALL) ∷ []) c.count.ensures in
    subst (λ q. BodyGives (source_of q) c.args.turns c.args.attempts c.in_ok-table-2.table.states.entries c.block.new.ended) same
    (body_gives (source_of c.program-program.result.now) c.args.turns c.args.attempts _ c.none-ended.result one c.none-ended.ensures _ _ c.in_ok-table-2.ensures.ok)

pub returns-in_err-table-2-clause-cause : goal.returns-in_err-table-2-clause-cause
returns-in_err-table-2-clause-cause c =
    let same = c.program-program.ensures.same in
    let w = subst (λ q. BlockIsWeighed (statements_of q.body)) (sym same) c.program-program.ensures.weights in
    let one = c.in_ok-table.ensures.one ∙ ap (λ n. (zeros n, ALL) ∷ []) c.count.ensures in
    let out : c.from_residual-in_err-table-2.result ≡ Err c.in_err-table-2.field-0.0 = grind arith in
    rw out (subst (λ q. Refuses c.in_err-table-2.field-0.0 (peak_of (source_of q) c.args.turns c.args.attempts)) same
    (body_refused (source_of c.program-program.result.now) c.args.turns c.args.attempts _ c.none-ended.result one c.none-ended.ensures w _ c.in_err-table-2.ensures.cause))

pub block-requires-clause-within : goal.block-requires-clause-within
block-requires-clause-within c =
    let one = c.in_ok-table.ensures.one ∙ ap (λ n. (zeros n, ALL) ∷ []) c.count.ensures in
    body_room (source_of c.program-program.result.now) c.args.turns c.args.attempts _ c.none-ended.result one c.none-ended.ensures
