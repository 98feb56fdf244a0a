use Rattle.std.proofs.Common.{◌≡◌, ℕ, ◌<◌, ◌≤◌, ◌/◌, length, get_or}
use Rattle.gcl_core.specs.declared.syntax.Block.{Block}
use Rattle.gcl_core.proofs.syntax.Arms.lowest.Given as goal

abbrev pub invariant-loop-arm : goal.invariant-loop-arm
invariant-loop-arm l = record {
  long : length l.arm-items ≡ length l.initial.arm-items;
  rest : (k : ℕ) (d : ℕ × Block) → l.arm-index ≤ k → get_or l.arm-items k d ≡ get_or l.initial.arm-items k d;
  parts : (k : ℕ) (d : ℕ × Block) → k < l.arm-index → (get_or l.arm-items k d).0 ≡ (get_or l.initial.arm-items k d).0 / l.divisor;
  blocks : (k : ℕ) (d : ℕ × Block) → k < l.arm-index → (get_or l.arm-items k d).1 ≡ (get_or l.initial.arm-items k d).1;
}
