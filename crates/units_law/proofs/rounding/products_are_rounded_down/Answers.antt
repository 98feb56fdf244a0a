use Rattle.units_law.proofs.Downs.{rounds_down, loses_one, loses_six, again_exact}
use Rattle.units_law.proofs.rounding.products_are_rounded_down.Goals as goal

pub returns-clause-below : goal.returns-clause-below
returns-clause-below c = rounds_down

pub returns-clause-without_limit : goal.returns-clause-without_limit
returns-clause-without_limit c = loses_one

pub returns-clause-with_limit : goal.returns-clause-with_limit
returns-clause-with_limit c = loses_six

pub returns-clause-exact : goal.returns-clause-exact
returns-clause-exact c = again_exact
