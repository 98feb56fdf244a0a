use Rattle.scaled_law.proofs.Merging.{most_merged, least_merged_same, merged_in_order, pairs_merged_same, pairs_merged_again, pairs_merged_further}
use Rattle.scaled_law.proofs.laws.pairs_are_merged.Goals as goal

pub returns-clause-most : goal.returns-clause-most
returns-clause-most c = most_merged

pub returns-clause-least : goal.returns-clause-least
returns-clause-least c = least_merged_same

pub returns-clause-in_order : goal.returns-clause-in_order
returns-clause-in_order c = merged_in_order

pub returns-clause-one : goal.returns-clause-one
returns-clause-one c = pairs_merged_same

pub returns-clause-again : goal.returns-clause-again
returns-clause-again c = pairs_merged_again

pub returns-clause-further : goal.returns-clause-further
returns-clause-further c = pairs_merged_further
