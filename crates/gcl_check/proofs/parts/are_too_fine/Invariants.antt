use Rattle.std.proofs.Common.{◌≡◌, ◌≤◌, ◌/◌, take}
use Rattle.std.specs.List.{sum_by}
use Rattle.gcl_core.specs.declared.rules.TheConstants.{GREATEST_DENOMINATOR}
use Rattle.gcl_core.specs.meaning.Arms.{parts_of}
use Rattle.gcl_core.specs.meaning.Views.{list_of_arms}
use Rattle.gcl_check.proofs.parts.are_too_fine.Given as goal

abbrev pub invariant-loop-i : goal.invariant-loop-i
invariant-loop-i l = record {
  so_far : l.total ≡ sum_by (λ p. p / l.divisor) (take l.i (parts_of (list_of_arms l.arms)));
  coarse : l.total ≤ GREATEST_DENOMINATOR;
}
