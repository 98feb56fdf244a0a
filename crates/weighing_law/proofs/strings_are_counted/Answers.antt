use Rattle.weighing_law.proofs.Counted.{counts_strings, counts_masses}
use Rattle.weighing_law.proofs.InOrder.{reads_in_order}
use Rattle.weighing_law.proofs.WeighingLaw.{weighs_exactly}
use Rattle.weighing_law.proofs.strings_are_counted.Goals as goal

pub returns-clause-strings : goal.returns-clause-strings
returns-clause-strings c = λ p l run same. counts_strings run (reads_in_order p l run same)

pub returns-clause-masses : goal.returns-clause-masses
returns-clause-masses c = λ p l run ok same. counts_masses p l run (counts_strings run (reads_in_order p l run same)) (weighs_exactly p l run ok same)
