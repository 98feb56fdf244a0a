use Rattle.std.proofs.Common.{◌≡◌, ℕ, ◌<◌, ◌≤◌, ◌&&◌, length}
use Rattle.gcl_core.specs.declared.rules.TheConstants.{MOST_NAMES}
use Rattle.forgetting.specs.Marks.{marked}
use Rattle.forgetting.proofs.name_set.NameSet.and.Given as goal

abbrev pub invariant-loop-i : goal.invariant-loop-i
invariant-loop-i l = record {
  length : length l.set.marks ≡ MOST_NAMES;
  ready : (y : ℕ) → y < l.i → marked l.set.marks y ≡ (marked l.self.marks y && marked l.other.marks y);
  rest : (y : ℕ) → l.i ≤ y → marked l.set.marks y ≡ marked l.self.marks y;
}
