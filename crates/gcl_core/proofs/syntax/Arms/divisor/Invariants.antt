use Rattle.std.proofs.Common.{drop}
use Rattle.gcl_core.specs.meaning.Arms.{parts_of}
use Rattle.gcl_core.specs.meaning.Views.{arm_list_of}
use Rattle.gcl_core.proofs.ArmDivisors.{Gathered}
use Rattle.gcl_core.proofs.syntax.Arms.divisor.Given as goal

abbrev pub invariant-loop-part : goal.invariant-loop-part
invariant-loop-part l = Gathered l.divisor (parts_of (arm_list_of (drop l.part-index l.part-items))) (parts_of (arm_list_of l.part-items))
