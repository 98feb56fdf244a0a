use Rattle.std.proofs.Common.{◌*◌, ◌/◌, ◌^◌, ◌<◌, ◌∙◌, sym, subst, arith, ltb-true}
use Rattle.sampler_run.proofs.Reading.{spelled_behind, spelled_over, part_below}
use Rattle.sampler_run.proofs.Trying.{read_tried, short_tried}
use Rattle.sampler_run.proofs.trials.attempt.Goals as goal

pub first_above-need-requires-clause-before : goal.first_above-need-requires-clause-before
first_above-need-requires-clause-before c =
    let t = c.args.trial in
    let under = ltb-true (t.low * 2 ^ t.need) c.args.bound (sym c.is_below.ensures ∙ c.if-not-is_below.false) in
    spelled_behind c.spelled-number.result.0 c.args.word t c.spelled-number.result.1 c.spelled-number.ensures c.args.bound under

pub read_to-requires-clause-enough : goal.read_to-requires-clause-enough
read_to-requires-clause-enough c =
    let s = c.spelled-number.ensures in
    let enough = s.enough in
    let more = spelled_over c.spelled-number.result.0 c.args.word c.args.trial c.spelled-number.result.1 s c.args.bound c.first_above-need.result c.if-number-bound.true c.first_above-need.ensures.below in
    omega (arith, enough, more)

pub returns-then-number-bound-clause-tried : goal.returns-then-number-bound-clause-tried
returns-then-number-bound-clause-tried c =
    let s = c.spelled-number.ensures in
    let f = c.first_above-need.ensures in
    let r = c.read_to.ensures in
    let fewer = f.left in
    let more = spelled_over c.spelled-number.result.0 c.args.word c.args.trial c.spelled-number.result.1 s c.args.bound c.first_above-need.result c.if-number-bound.true f.below in
    read_tried c.args.bound c.args.word c.args.trial c.read_to.result c.spelled-number.result.0 c.spelled-number.result.1 s r.known c.first_above-need.result more (omega (arith, fewer)) f.below r.need r.low r.tries r.used r.left

pub returns-then-missing-eq0-clause-tried : goal.returns-then-missing-eq0-clause-tried
returns-then-missing-eq0-clause-tried c =
    let r = c.read_to-after.ensures in
    short_tried c.args.bound c.args.word c.args.trial c.read_to-after.result c.spelled-number.result.0 c.spelled-number.result.1 c.spelled-number.ensures r.known (omega (arith, c.if-number-bound.false)) r.need r.low r.tries r.used r.left

pub returns-else-missing-eq0-clause-tried : goal.returns-else-missing-eq0-clause-tried
returns-else-missing-eq0-clause-tried c =
    let r = c.read_to-after.ensures in
    short_tried c.args.bound c.args.word c.args.trial c.read_to-after.result c.spelled-number.result.0 c.spelled-number.result.1 c.spelled-number.ensures r.known (omega (arith, c.if-number-bound.false)) r.need r.low r.tries r.used r.left

pub returns-else-missing-eq0-clause-came : goal.returns-else-missing-eq0-clause-came
returns-else-missing-eq0-clause-came c =
    let u = c.read_to-after.result in
    let n = c.spelled-number.result.0 in
    let missing = c.spelled-number.result.1 in
    let r = c.read_to-after.ensures in
    let some : 0 < missing = omega (arith, c.if-missing-eq0.false) in
    let used_up = c.spelled-number.ensures.used_up some in
    let need = r.need in
    let left = r.left in
    let under = part_below c.args.bound n missing (omega (arith, c.if-number-bound.false)) in
    let low : u.low * 2 ^ u.need < c.args.bound = subst (λ q. q * 2 ^ u.need < c.args.bound) (sym r.low) (subst (λ i. n / 2 ^ missing * 2 ^ i < c.args.bound) (sym r.need) under) in
    (omega (arith, need, some), low, omega (arith, left, used_up))
