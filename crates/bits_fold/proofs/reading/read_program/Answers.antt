use Rattle.std.proofs.Common.{◌≡◌, ◌∷◌, [], ◌∙◌, Err, ap, subst, arith}
use Rattle.gcl_core.specs.meaning.Outcomes.{zeros}
use Rattle.gcl_core.specs.meaning.Views.{source_of}
use Rattle.bits_fold.specs.inner.Forever.{RoundStops}
use Rattle.bits_fold.specs.Counted.{price_of}
use Rattle.bits_fold.specs.inner.Reading.{CostsInRound}
use Rattle.bits_fold.proofs.Programs.{program_costs, program_stops}
use Rattle.bits_fold.proofs.reading.read_program.Goals as goal

pub returns-clause-ok : goal.returns-clause-ok
returns-clause-ok c =
    let same = c.program-program.ensures.same in
    let one = c.in_ok-table.ensures.one ∙ ap (λ n. (zeros n, (1, 1)) ∷ []) c.count.ensures in
    subst (λ q. CostsInRound (price_of c.args.what) (source_of q) c.in_ok-reached.reached.bits) same
    (program_costs (price_of c.args.what) (source_of c.program-program.result.now) _ _ c.in_ok-reached.reached.bits one c.in_ok-reached.ensures.ok)

pub returns-in_err-reached-clause-stops : goal.returns-in_err-reached-clause-stops
returns-in_err-reached-clause-stops c =
    let same = c.program-program.ensures.same in
    let one = c.in_ok-table.ensures.one ∙ ap (λ n. (zeros n, (1, 1)) ∷ []) c.count.ensures in
    let s = c.in_err-reached.field-0.0 in
    let out : c.from_residual-in_err-reached.result ≡ Err s = grind arith in
    rw out (subst (λ q. RoundStops (price_of c.args.what) (source_of q) s) same (program_stops (price_of c.args.what) (source_of c.program-program.result.now) _ s one c.in_err-reached.ensures.stops))
