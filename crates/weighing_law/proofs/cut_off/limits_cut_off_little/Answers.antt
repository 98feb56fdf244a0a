use Rattle.weighing_law.proofs.CutOffLaw.{cut_off_at_most, cut_off_vanishes}
use Rattle.weighing_law.proofs.cut_off.limits_cut_off_little.Goals as goal

pub returns-clause-at_most : goal.returns-clause-at_most
returns-clause-at_most c = λ p l ok passes some. cut_off_at_most p l ok passes some

pub returns-clause-vanishes : goal.returns-clause-vanishes
returns-clause-vanishes c = cut_off_vanishes
