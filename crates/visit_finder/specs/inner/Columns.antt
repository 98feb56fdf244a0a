-- The equations of states, by columns, at a modulus.
use Rattle.std.specs.Prelude.{ℕ, ◌+◌, ◌*◌, ◌^◌, List, [], ◌∷◌, Contains}
use Rattle.narrow_fractions.specs.Remainders.{Same}
use Rattle.visit_finder.specs.declared.columns.Column.{Column}
use Rattle.visit_finder.specs.declared.residues.Moduli.{Moduli}
use Rattle.visit_finder.specs.declared.residues.Residues.{Residues}
use Rattle.visit_finder.specs.Equations.{AllForms}
use Rattle.visit_finder.specs.Places.{modulus, form_at, AreForms}

abbrev pub HasKey : {A : Type 0} → List (ℕ × A) → ℕ → Type 0
HasKey {A} es s = (a : A) × Contains es (s, a)

-- what the states of a row lead on, by the visits of each
abbrev pub row_at : ℕ → List (ℕ × Residues) → (ℕ → ℕ) → ℕ
row_at place [] v = 0
row_at place (e ∷ es) v = form_at place e.1 * v e.0 + row_at place es v

-- what the loop is entered with, so many times, and what a row leads on
abbrev pub sum_at : ℕ → ℕ → (ℕ → ℕ) → Residues → List (ℕ × Residues) → ℕ
sum_at place once v entered from = form_at place entered * once + row_at place from v

pub record ColumnForms (moduli : Moduli) (column : Column) : Type 0 where
  pub entered : AreForms moduli column.entered
  pub from : AllForms moduli column.from.items

-- the visits v of a state are those of its column
abbrev pub ColumnHolds : Moduli → ℕ → ℕ → (ℕ → ℕ) → ℕ → Column → Type 0
ColumnHolds moduli place once v s column = Same (modulus moduli place) (2 ^ 64 * v s) (sum_at place once v column.entered column.from.items)

abbrev pub ColumnsForms : Moduli → List (ℕ × Column) → Type 0
ColumnsForms moduli columns = (s : ℕ) (column : Column) → Contains columns (s, column) → ColumnForms moduli column

abbrev pub ColumnsHold : Moduli → ℕ → ℕ → (ℕ → ℕ) → List (ℕ × Column) → Type 0
ColumnsHold moduli place once v columns = (s : ℕ) (column : Column) → Contains columns (s, column) → ColumnHolds moduli place once v s column
