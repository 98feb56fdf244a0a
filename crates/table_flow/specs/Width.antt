-- How wide the fractions of a program are.
use Rattle.std.specs.Prelude.{ℕ, ◌-◌, ◌*◌, ◌^◌, List, [], ◌∷◌, ◌++◌, map, Option, Some, None}
use Rattle.numbers.specs.Divisor.{lcm}
use Rattle.numbers.specs.Fraction.{lowest}
use Rattle.gcl_core.specs.meaning.Syntax.{SourceProgram}
use Rattle.gcl_core.specs.weighing.Fractions.{Fraction}
use Rattle.gcl_core.specs.weighing.WeightedEnds.{Weighted}
use Rattle.gcl_core.specs.weighing.Mass.{failed_mass}
use Rattle.table_flow.specs.Tables.{Table, Flow, tables_of}

-- the denominator in lowest terms
abbrev pub denominator : Fraction → ℕ
denominator p = (lowest p).1

-- the least common multiple of the denominators
abbrev pub common_denominator : List Fraction → ℕ
common_denominator [] = 1
common_denominator (p ∷ ps) = lcm (denominator p) (common_denominator ps)

abbrev pub weights : {A : Type 0} → Weighted A → List Fraction
weights m = map (λ e. e.0) m

abbrev pub table_weights : List Table → List Fraction
table_weights [] = []
table_weights (I ∷ Is) = weights I ++ table_weights Is

-- all fractions of a flow: of its tables, of what ended, and of its draws
abbrev pub fractions : Flow → List Fraction
fractions f = table_weights f.tables ++ (weights f.ended ++ f.draws)

-- under a limit of n turns, and of r attempts or none: the common denominator of one round
abbrev pub round_width : SourceProgram → ℕ → Option ℕ → ℕ
round_width p n r = common_denominator (fractions (tables_of p n r))

-- the width under R rounds, or with no limit of rounds
abbrev pub width_of : SourceProgram → ℕ → Option ℕ → Option ℕ → ℕ
width_of p n r None = round_width p n r
width_of p n r (Some R) = round_width p n r * denominator (failed_mass p n r) ^ (R - 1)
