-- What has ended but for failed observations, as a list of pairs. Two lists say the same where they hold the same of all else.
use Rattle.std.specs.Prelude.{◌≡◌, ℕ, ◌+◌, [], ◌∷◌}
use Rattle.gcl_core.specs.declared.answers.Fault.TheVariants.{Overflow, ZeroDivisor, BadBound}
use Rattle.gcl_core.specs.declared.answers.Limit.TheVariants.{Turns, Attempts}
use Rattle.gcl_core.specs.meaning.Blocks.{End, failed, fault, limit}
use Rattle.units_law.specs.Units.{held}
use Rattle.scaled_law.specs.Pairs.{Pairs, at_least, at_most}
use Rattle.scaled_fold.specs.declared.ended.Ended.{Ended}

abbrev pub units_of : Ended → Pairs End
units_of E = (fault Overflow, E.overflow) ∷ ((fault ZeroDivisor, E.divisor)
    ∷ ((fault BadBound, E.bound) ∷ ((limit Turns, E.turns) ∷ ((limit Attempts, E.attempts) ∷ []))))

-- A and B together have what C and D have, but for failed observations.
pub record EndAlike (A B C D : Pairs End) : Type 0 where
  pub least : (G : End → ℕ) → G failed ≡ 0 → held G (at_least A) + held G (at_least B) ≡ held G (at_least C) + held G (at_least D)
  pub most : (G : End → ℕ) → G failed ≡ 0 → held G (at_most A) + held G (at_most B) ≡ held G (at_most C) + held G (at_most D)

-- F is E and what J holds besides
abbrev pub EndsWith : Ended → Pairs End → Ended → Type 0
EndsWith E J F = EndAlike (units_of F) [] (units_of E) J
