-- What has ended, at a scale.
use Rattle.std.specs.Prelude.{◌≡◌, ℕ, ◌+◌, ◌*◌, ◌≤◌, ◌<◌, [], ◌∷◌}
use Rattle.gcl_core.specs.declared.answers.Fault.{Fault}
use Rattle.gcl_core.specs.meaning.Blocks.{End, failed, fault, limit}
use Rattle.gcl_core.specs.weighing.Fractions.{Fraction}
use Rattle.gcl_core.specs.weighing.WeightedEnds.{Weighted}
use Rattle.table_flow.specs.Scale.{whole, Whole, Wholes, amount}
use Rattle.mass_fold.specs.declared.error.MassError.{MassError}
use Rattle.mass_fold.specs.declared.error.MassError.TheVariants.{TooWide}
use Rattle.mass_fold.specs.declared.ended.Gone.{Gone}
use Rattle.mass_fold.specs.declared.ended.Gone.TheVariants.{Failed, Overflow, Divisor, Bound, Turns, Attempts}
use Rattle.mass_fold.specs.declared.ended.Ended.{Ended}
use Rattle.gcl_core.specs.declared.answers.Fault.TheVariants as fault_kind
use Rattle.gcl_core.specs.declared.answers.Limit.TheVariants as limit_kind
use Rattle.numbers.specs.Fraction.{Overfills}

abbrev pub end_of : Gone → End
end_of Failed = failed
end_of Overflow = fault fault_kind.Overflow
end_of Divisor = fault fault_kind.ZeroDivisor
end_of Bound = fault fault_kind.BadBound
end_of Turns = limit limit_kind.Turns
end_of Attempts = limit limit_kind.Attempts

abbrev pub fault_end : Fault → End
fault_end f = fault f

abbrev pub rows_of : Ended → Weighted End
rows_of E =
    (E.failed, end_of Failed) ∷ ((E.overflow, end_of Overflow)
    ∷ ((E.divisor, end_of Divisor)
    ∷ ((E.bound, end_of Bound) ∷ ((E.turns, end_of Turns) ∷ ((E.attempts, end_of Attempts) ∷ [])))))

abbrev pub weight_of : Ended → Gone → Fraction
weight_of E Failed = E.failed
weight_of E Overflow = E.overflow
weight_of E Divisor = E.divisor
weight_of E Bound = E.bound
weight_of E Turns = E.turns
weight_of E Attempts = E.attempts

abbrev pub with_weight : Ended → Gone → Fraction → Ended
with_weight E Failed f = record E { failed = f }
with_weight E Overflow f = record E { overflow = f }
with_weight E Divisor f = record E { divisor = f }
with_weight E Bound f = record E { bound = f }
with_weight E Turns f = record E { turns = f }
with_weight E Attempts f = record E { attempts = f }

abbrev pub EndGives : Ended → Ended → Gone → Fraction → Type 0
EndGives E F x f = (N : ℕ) → Wholes N (rows_of E) → Whole N f
    → Wholes N (rows_of F) × ((G : End → ℕ) → amount N G (rows_of F) ≡ amount N G (rows_of E) + whole N f * G (end_of x))

abbrev pub EndBlames : MassError → Ended → Gone → Fraction → Type 0
EndBlames e E x f = (e ≡ TooWide)
    × ((N : ℕ) → 0 < N → Wholes N (rows_of E) → Whole N f → amount N (λ x. 1) (rows_of E) + whole N f ≤ N → Overfills N)

-- each is 0
abbrev pub IsNoWeight : Fraction → Type 0
IsNoWeight f = (f.0 ≡ 0) × (0 < f.1)

pub record IsNone (E : Ended) : Type 0 where
  pub failed : IsNoWeight E.failed
  pub overflow : IsNoWeight E.overflow
  pub divisor : IsNoWeight E.divisor
  pub bound : IsNoWeight E.bound
  pub turns : IsNoWeight E.turns
  pub attempts : IsNoWeight E.attempts
