use Rattle.scaled_law.proofs.Growing.{growing_positive, grows_within, grows_near}
use Rattle.scaled_law.proofs.laws.units_grow_with_what_is_left.Goals as goal

pub returns-clause-positive : goal.returns-clause-positive
returns-clause-positive c = growing_positive

pub returns-clause-within : goal.returns-clause-within
returns-clause-within c = grows_within

pub returns-clause-near : goal.returns-clause-near
returns-clause-near c = grows_near
