use Rattle.std.proofs.Common.{◌∙◌}
use Rattle.weighted_roll.proofs.Summing.{listed_tests}
use Rattle.weighted_roll.proofs.reading.lists_weights.Goals as goal

pub returns-in-Some : goal.returns-in-Some
returns-in-Some c = c.may_be.ensures ∙ listed_tests _ _ _ _ c.in-Some.ensures
