-- One round of a program in units.
use Rattle.std.specs.Prelude.{ℕ, ◌+◌, ◌*◌, ◌≤◌, Bool, cond, [], ◌∷◌, length, Option}
use Rattle.numbers.specs.declared.units.TheConstants.{ALL}
use Rattle.gcl_core.specs.declared.answers.Outcome.{Outcome}
use Rattle.gcl_core.specs.meaning.Syntax.{SourceProgram}
use Rattle.gcl_core.specs.meaning.Blocks.{End, on}
use Rattle.gcl_core.specs.meaning.Outcomes.{zeros}
use Rattle.gcl_core.specs.weighing.Fractions.{Fraction}
use Rattle.gcl_core.specs.weighing.Mass.{ends_in, is_failed}
use Rattle.units_law.specs.Units.{held}
use Rattle.units_law.specs.Rounding.{Rounding}
use Rattle.units_law.specs.Flows.{UnitFlow, block_units}

-- the body of a program, begun with the state of zeros at all units
abbrev pub round_units : Rounding → SourceProgram → ℕ → Option ℕ → UnitFlow
round_units cut p n r = block_units cut n r p.body ((zeros (length p.names), ALL) ∷ [])

-- the units of the ends that are meant
abbrev pub end_units_of : (End → Bool) → UnitFlow → ℕ
end_units_of is f = held (λ s. cond (is (on s)) 1 0) f.next + held (λ x. cond (is x) 1 0) f.ended

-- of the outcomes that are meant, and of a failed observation
abbrev pub meant_units : SourceProgram → (Outcome → Bool) → UnitFlow → ℕ
meant_units p meant f = end_units_of (ends_in p.result meant) f

abbrev pub failed_units : UnitFlow → ℕ
failed_units f = end_units_of is_failed f

-- so many units are at most this fraction of all
abbrev pub StandsBelow : ℕ → Fraction → Type 0
StandsBelow many q = many * q.1 ≤ q.0 * ALL
