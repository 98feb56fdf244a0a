-- States that were eliminated, and what is found of them, at a modulus.
use Rattle.std.specs.Prelude.{◌≡◌, ◌⊎◌, ℕ, suc, ◌*◌, ◌^◌, ◌≤◌, ◌<◌, List, length, Contains}
use Rattle.narrow_fractions.specs.Remainders.{Same}
use Rattle.visit_finder.specs.declared.columns.Column.{Column}
use Rattle.visit_finder.specs.declared.residues.Moduli.{Moduli}
use Rattle.visit_finder.specs.declared.residues.Residues.{Residues}
use Rattle.visit_finder.specs.declared.solving.Pivot.{Pivot}
use Rattle.visit_finder.specs.Places.{modulus, form_at, AreForms}
use Rattle.visit_finder.specs.inner.Columns.{sum_at, HasKey, ColumnForms, ColumnsForms, ColumnsHold}

-- a column is taken away; the others stay
pub record Takes (old : List (ℕ × Column)) (s : ℕ) (column : Column) (new : List (ℕ × Column)) : Type 0 where
  pub count : length old ≡ suc (length new)
  pub had : Contains old (s, column)
  pub from : (t : ℕ) (c : Column) → Contains new (t, c) → Contains old (t, c)
  pub others : (t : ℕ) (c : Column) → Contains old (t, c) → (t ≡ s) ⊎ Contains new (t, c)

pub record PivotForms (moduli : Moduli) (leaves : Residues) (column : Column) : Type 0 where
  pub over : AreForms moduli leaves
  pub from : ColumnForms moduli column

abbrev pub PivotsForms : Moduli → List Pivot → Type 0
PivotsForms moduli pivots = (pivot : Pivot) → Contains pivots pivot → PivotForms moduli pivot.leaves pivot.column

-- the visits v of a state are those of its column, over what leaves it
abbrev pub PivotHolds : Moduli → ℕ → ℕ → (ℕ → ℕ) → ℕ → Residues → Column → Type 0
PivotHolds moduli place once v s leaves column =
    Same (modulus moduli place) (2 ^ 64 * (2 ^ 64 * v s)) (form_at place leaves * sum_at place once v column.entered column.from.items)

-- The columns of the same states are others, and the visits v are still those of each, where they are those of a pivot.
pub record Renews (moduli : Moduli) (s : ℕ) (leaves : Residues) (pivot : Column) (old new : List (ℕ × Column)) : Type 0 where
  pub forms : ColumnsForms moduli old → ColumnsForms moduli new
  pub keys : (t : ℕ) → HasKey old t → HasKey new t
  pub count : length new ≤ length old
  pub hold : (place : ℕ) → place < 5 → (once : ℕ) (v : ℕ → ℕ) → PivotHolds moduli place once v s leaves pivot → ColumnsHold moduli place once v old →
      ColumnsHold moduli place once v new

abbrev pub PivotsHold : Moduli → ℕ → ℕ → (ℕ → ℕ) → List Pivot → Type 0
PivotsHold moduli place once v pivots = (pivot : Pivot) → Contains pivots pivot → PivotHolds moduli place once v pivot.state pivot.leaves pivot.column

-- the visits v of each state are so many times what is found
abbrev pub FoundHolds : Moduli → ℕ → ℕ → (ℕ → ℕ) → List (ℕ × Residues) → Type 0
FoundHolds moduli place once v found = (s : ℕ) (r : Residues) → Contains found (s, r) → Same (modulus moduli place) (2 ^ 64 * v s) (once * form_at place r)
