use Rattle.units_law.proofs.Merging.{held_merged, merged_once, merged_same, merged_again, merged_further, merged_longer}
use Rattle.units_law.proofs.rounding.tables_are_merged.Goals as goal

pub returns-clause-held : goal.returns-clause-held
returns-clause-held c = held_merged

pub returns-clause-each_once : goal.returns-clause-each_once
returns-clause-each_once c = merged_once

pub returns-clause-one : goal.returns-clause-one
returns-clause-one c = merged_same

pub returns-clause-again : goal.returns-clause-again
returns-clause-again c = merged_again

pub returns-clause-further : goal.returns-clause-further
returns-clause-further c = merged_further

pub returns-clause-longer : goal.returns-clause-longer
returns-clause-longer c = merged_longer
