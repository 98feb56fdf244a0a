use Rattle.std.proofs.Common.{◌≡◌, ◌*◌, ◌%◌, ◌∙◌, arith}
use Rattle.scaled_fold.proofs.Rounding.{even, odd, less}
use Rattle.scaled_fold.proofs.pair.part_up.Goals as goal

pub overflow_add-result : goal.overflow_add-result
overflow_add-result c =
    let a = c.args in
    let h : ¬ (a.w % a.bound * a.count % a.bound ≡ 0) = grind (arith, c.if-w-bound-eq0.false, c.from-count.ensures, c.from-bound.ensures) in
    let l = less a.w a.count a.bound c.requires.part h in
    omega (arith, l, c.part_down-whole.ensures.value, c.ranges.w.fits)

pub returns-then-w-bound-eq0 : goal.returns-then-w-bound-eq0
returns-then-w-bound-eq0 c =
    let a = c.args in
    let h : a.w % a.bound * a.count % a.bound ≡ 0 = grind (arith, c.if-w-bound-eq0.true, c.from-count.ensures, c.from-bound.ensures) in
    c.part_down-whole.ensures.value ∙ even a.w a.count a.bound h

pub returns-else-w-bound-eq0 : goal.returns-else-w-bound-eq0
returns-else-w-bound-eq0 c =
    let a = c.args in
    let h : ¬ (a.w % a.bound * a.count % a.bound ≡ 0) = grind (arith, c.if-w-bound-eq0.false, c.from-count.ensures, c.from-bound.ensures) in
    let o = odd a.w a.count a.bound h in
    omega (arith, o, c.part_down-whole.ensures.value)
