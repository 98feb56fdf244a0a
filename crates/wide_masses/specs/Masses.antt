-- Exact masses, whichever fractions the code has them in.
use Rattle.gcl_core.specs.weighing.Fractions.{Fraction}
use Rattle.mass_fold.specs.Rows.{Rows}
use Rattle.wide_masses.specs.declared.masses.Masses.{Masses}
use Rattle.wide_masses.specs.declared.masses.Masses.TheVariants.{Narrow, Wide}

abbrev pub rows_of : Masses → Rows
rows_of (Narrow masses) = masses.rows
rows_of (Wide masses) = masses.rows

-- what runs for ever
abbrev pub endless_of : Masses → Fraction
endless_of (Narrow masses) = masses.endless
endless_of (Wide masses) = masses.endless

-- in wide fractions
abbrev pub IsWide : Masses → Type 0
IsWide (Narrow masses) = ⊥
IsWide (Wide masses) = Unit {0}
