use Rattle.gcl_core.proofs.PartialSums.{Summed}
use Rattle.choice_tree.proofs.parts.Parts.partial_sums.Given as goal

abbrev pub invariant-loop-part : goal.invariant-loop-part
invariant-loop-part l = Summed l.ends.items l.end l.part-index l.part-items
