-- What a round over pairs, rounded down and up, says of masses, for the laws.
use Rattle.std.proofs.Common.{ℕ, ◌-◌, ◌≤◌, ◌<◌, Bool, Option, None, arith, le_refl}
use Rattle.numbers.proofs.Divisors.{product_pos}
use Rattle.gcl_core.specs.declared.answers.Outcome.{Outcome}
use Rattle.gcl_core.specs.meaning.Checked.{IsChecked}
use Rattle.gcl_core.specs.meaning.Syntax.{SourceProgram}
use Rattle.gcl_core.specs.weighing.Fractions.{IsBelowOne}
use Rattle.gcl_core.specs.weighing.Mass.{ends_in, round_mass, failed_mass, mass_of_those}
use Rattle.gcl_core.proofs.Accepted.{checked_weights}
use Rattle.units_law.specs.Holding.{IsFor}
use Rattle.units_law.specs.Rounding.{Rounding, RoundsDown}
use Rattle.units_law.proofs.OneRound.{parted}
use Rattle.scaled_law.specs.Given.{least_of, most_of, AreWithin, AreEnough, LiesBetween}
use Rattle.scaled_law.specs.Listed.{all_least}
use Rattle.scaled_law.specs.Scaled.{Scaled, Steering, IsPositive, round_scaled}
use Rattle.scaled_law.specs.Up.{RoundsUp}
use Rattle.scaled_law.proofs.BesideOthers.{lies_between, a_unit_passes}
use Rattle.scaled_law.proofs.MoreTurns.{within_turns, enough_turns}
use Rattle.scaled_law.proofs.Rounds.{within, enough, units_positive}

module _ (low high : Rounding) (steer : Steering) (q : IsPositive steer) (p : SourceProgram) (n : ℕ) (r : Option ℕ) (ok : IsChecked p) where
  abbrev pub last : Scaled
  last = round_scaled low high steer p n r

  pub units_are : RoundsDown low → (0 < last.scale.0) × (0 < last.scale.1)
  units_are down = units_positive low high steer q p n r (checked_weights p ok) down

  module _ (all_turns : Bool) (n' : ℕ) (is : IsFor all_turns n n') where
    pub are_within : RoundsDown low → (meant : Outcome → Bool) → AreWithin last.scale (least_of p all_turns meant last) (round_mass p n' r meant)
    are_within down = within_turns p ok n r last (λ m. within low high steer q p n r (checked_weights p ok) down (ends_in p.result m)) all_turns n' is

    pub are_enough : RoundsUp high → (meant : Outcome → Bool) → AreEnough last.scale (most_of p all_turns meant last) (round_mass p n' r meant)
    are_enough up = enough_turns p ok n r last (λ m. enough low high steer q p n r (checked_weights p ok) up (ends_in p.result m)) all_turns n' is

    pub passing : RoundsDown low → 0 < all_least p all_turns last → IsBelowOne (failed_mass p n' r)
    passing down unit = let s = units_are down in a_unit_passes p n' r ok all_turns last s.0 s.1 (are_within down) unit

    pub lie_between : RoundsDown low → RoundsUp high → IsBelowOne (failed_mass p n' r) → (meant : Outcome → Bool) → LiesBetween p n' r all_turns last meant
    lie_between down up passes meant = let s = units_are down in lies_between p n' r ok all_turns last s.0 s.1 (are_within down) (are_enough up) passes meant

    pub some_fraction : (meant : Outcome → Bool) → 0 < (round_mass p n' r meant).1
    some_fraction meant = (parted p ok n' n' (le_refl n') r meant).given_fraction

    pub mass_fraction : IsBelowOne (failed_mass p n' r) → (meant : Outcome → Bool) → 1 ≤ (mass_of_those p n' r None meant).1
    mass_fraction passes meant =
        let f = failed_mass p n' r in
        let x = product_pos (round_mass p n' r meant).1 (f.1 - f.0) (some_fraction meant) (omega (arith, passes)) in
        omega (arith, x)
