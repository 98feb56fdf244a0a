use Rattle.scaled_law.proofs.Rounds.{tables_few}
use Rattle.scaled_law.proofs.Sides.{are_within, are_enough}
use Rattle.scaled_law.proofs.laws.rounds_hold_masses.Goals as goal

pub returns-clause-least : goal.returns-clause-least
returns-clause-least c low high down steer q p n n' r all_turns ok is = are_within low high steer q p n r ok all_turns n' is down

pub returns-clause-most : goal.returns-clause-most
returns-clause-most c low high up steer q p n n' r all_turns ok is = are_enough low high steer q p n r ok all_turns n' is up

pub returns-clause-tables : goal.returns-clause-tables
returns-clause-tables c low high up steer q p n r w = tables_few low high steer q p n r w up
