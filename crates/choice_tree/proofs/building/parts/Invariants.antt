use Rattle.std.proofs.Common.{◌≡◌, take}
use Rattle.gcl_core.specs.meaning.Arms.{parts_of}
use Rattle.gcl_core.specs.meaning.Views.{list_of_arms}
use Rattle.choice_tree.proofs.building.parts.Given as goal

abbrev pub invariant-loop-i : goal.invariant-loop-i
invariant-loop-i l = l.parts.items ≡ take l.i (parts_of (list_of_arms l.arms))
