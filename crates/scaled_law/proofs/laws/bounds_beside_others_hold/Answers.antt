use Rattle.std.specs.Prelude.{ℕ, Bool, true, false}
use Rattle.std.proofs.Common.{refl, le_refl}
use Rattle.units_law.specs.Holding.{IsFor}
use Rattle.scaled_law.proofs.Listed.{rows_enclose, rows_ordered, rows_near}
use Rattle.scaled_law.proofs.Sides.{last, units_are, are_within, are_enough, passing, lie_between, some_fraction, mass_fraction}
use Rattle.scaled_law.proofs.laws.bounds_beside_others_hold.Goals as goal

-- the limit itself
itself : (all_turns : Bool) (n : ℕ) → IsFor all_turns n n
itself false n = refl
itself true n = le_refl n

pub returns-clause-enclose : goal.returns-clause-enclose
returns-clause-enclose c low high down up steer q p n n' r all_turns ok is unit rows other are same =
    let passes = passing low high steer q p n r ok all_turns n' is down unit in
    let s = units_are low high steer q p n r ok down in
    rows_enclose p n' r all_turns (last low high steer q p n r ok) s.1 (are_within low high steer q p n r ok all_turns n' is down) (are_enough low high steer q p n r ok all_turns n' is up)
    (some_fraction low high steer q p n r ok all_turns n' is) unit (lie_between low high steer q p n r ok all_turns n' is down up passes) (mass_fraction low high steer q p n r ok all_turns n' is passes) rows other are same

pub returns-clause-ordered : goal.returns-clause-ordered
returns-clause-ordered c low high steer p n r all_turns rows other are is = rows_ordered p all_turns _ rows other are is

pub returns-clause-near : goal.returns-clause-near
returns-clause-near c low high down up steer q p n r all_turns ok unit rows are =
    let is = itself all_turns n in
    let passes = passing low high steer q p n r ok all_turns n is down unit in
    let s = units_are low high steer q p n r ok down in
    rows_near p n r all_turns (last low high steer q p n r ok) s.1 (are_within low high steer q p n r ok all_turns n is down) (are_enough low high steer q p n r ok all_turns n is up)
    (some_fraction low high steer q p n r ok all_turns n is) unit (lie_between low high steer q p n r ok all_turns n is down up passes) (mass_fraction low high steer q p n r ok all_turns n is passes) rows _ are refl
