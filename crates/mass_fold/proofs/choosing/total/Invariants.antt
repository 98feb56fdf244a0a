use Rattle.std.proofs.Common.{◌≡◌, ◌+◌}
use Rattle.std.specs.List.{sum}
use Rattle.gcl_core.specs.meaning.Arms.{parts_of}
use Rattle.gcl_core.specs.meaning.Views.{arm_list_of}
use Rattle.mass_fold.proofs.ArmsLeft.{parts_left}
use Rattle.mass_fold.proofs.choosing.total.Given as goal

abbrev pub invariant-loop-part : goal.invariant-loop-part
invariant-loop-part l = l.total + sum (parts_left l.part-items l.part-index) ≡ sum (parts_of (arm_list_of l.part-items))
