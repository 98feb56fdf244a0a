-- What has ended, as a list of units.
use Rattle.std.specs.Prelude.{◌≡◌, ℕ, ◌+◌, [], ◌∷◌}
use Rattle.gcl_core.specs.declared.answers.Fault.TheVariants.{Overflow, ZeroDivisor, BadBound}
use Rattle.gcl_core.specs.declared.answers.Limit.TheVariants.{Turns, Attempts}
use Rattle.gcl_core.specs.meaning.Blocks.{End, failed, fault, limit}
use Rattle.units_law.specs.Units.{Units, held}
use Rattle.enclose_fold.specs.declared.ended.Ended.{Ended}

abbrev pub units_of : Ended → Units End
units_of E = (failed, E.failed) ∷ ((fault Overflow, E.overflow)
    ∷ ((fault ZeroDivisor, E.divisor)
    ∷ ((fault BadBound, E.bound) ∷ ((limit Turns, E.turns) ∷ ((limit Attempts, E.attempts) ∷ [])))))

-- F is E and what J holds besides
abbrev pub EndsWith : Ended → Units End → Ended → Type 0
EndsWith E J F = (G : End → ℕ) → held G (units_of F) ≡ held G (units_of E) + held G J

-- nothing has ended
abbrev pub IsNone : Ended → Type 0
IsNone E = (G : End → ℕ) → held G (units_of E) ≡ 0
