use Rattle.std.proofs.Common.{◌≡◌, ℕ, ◌<◌, slice_index_or}
use Rattle.numbers.specs.Fraction.{Fraction}
use Rattle.exact_fold.proofs.program.weight_of.Given as goal

-- no row before this one has the outcome
abbrev pub invariant-loop-i : goal.invariant-loop-i
invariant-loop-i l = (f : Fraction) (k : ℕ) → k < l.i → slice_index_or l.rows k (l.x, f) ≡ (l.x, f) → ⊥
