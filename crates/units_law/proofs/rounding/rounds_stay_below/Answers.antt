use Rattle.gcl_core.specs.weighing.Mass.{ends_in, is_failed}
use Rattle.units_law.proofs.Rounds.{ends_below, round_below}
use Rattle.units_law.proofs.rounding.rounds_stay_below.Goals as goal

pub returns-clause-meant : goal.returns-clause-meant
returns-clause-meant c cut h p n r w meant = ends_below cut h p n r w (ends_in p.result meant)

pub returns-clause-failed : goal.returns-clause-failed
returns-clause-failed c cut h p n r w = ends_below cut h p n r w is_failed

pub returns-clause-tables : goal.returns-clause-tables
returns-clause-tables c cut h p n r w = (round_below cut h p n r w).few
