use Rattle.std.proofs.Common.{◌+◌, ◌%◌, ◌≡◌, ℕ}
use Rattle.std.specs.Int.{IsGcd}
use Rattle.numbers.proofs.divisor.odd_divisor.Given as goal

abbrev pub invariant-loop-first : goal.invariant-loop-first
invariant-loop-first l = (l.first % 2 ≡ 1) × (l.second % 2 ≡ 1) × ((g : ℕ) → IsGcd l.first l.second g → IsGcd l.fn.a l.fn.b g)

abbrev pub decreases-loop-first : goal.decreases-loop-first
decreases-loop-first l = l.first + l.second
