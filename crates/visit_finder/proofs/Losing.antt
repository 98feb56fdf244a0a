-- What is said at moduli is said at the same moduli of which more are lost, and the other way round.
use Rattle.std.proofs.Common.{ℕ, ◌*◌, ◌^◌, List, sym, subst}
use Rattle.narrow_fractions.specs.Remainders.{Same}
use Rattle.visit_finder.specs.declared.columns.Column.{Column}
use Rattle.visit_finder.specs.declared.residues.Moduli.{Moduli}
use Rattle.visit_finder.specs.declared.residues.Residues.{Residues}
use Rattle.visit_finder.specs.declared.solving.Pivot.{Pivot}
use Rattle.visit_finder.specs.Places.{form_at, Loses}
use Rattle.visit_finder.specs.inner.Columns.{sum_at, ColumnForms, ColumnHolds}
use Rattle.visit_finder.specs.inner.Pivots.{Renews, PivotForms, PivotsForms, PivotHolds, PivotsHold, FoundHolds}
use Rattle.visit_finder.proofs.AtPlaces.{same_modulus, forms_after, forms_before}

module _ (old new : Moduli) (loses : Loses old new) where
  pub column_forms_after : (column : Column) → ColumnForms old column → ColumnForms new column
  column_forms_after column h = record { entered = forms_after old new column.entered loses h.entered; from = λ s r has. forms_after old new r loses (h.from s r has) }

  pub column_forms_before : (column : Column) → ColumnForms new column → ColumnForms old column
  column_forms_before column h = record { entered = forms_before old new column.entered loses h.entered; from = λ s r has. forms_before old new r loses (h.from s r has) }

  pub pivot_forms_before : (leaves : Residues) (column : Column) → PivotForms new leaves column → PivotForms old leaves column
  pivot_forms_before leaves column h = record { over = forms_before old new leaves loses h.over; from = column_forms_before column h.from }

  pub pivots_after : (pivots : List Pivot) → PivotsForms old pivots → PivotsForms new pivots
  pivots_after pivots forms pivot has = let h = forms pivot has in record { over = forms_after old new pivot.leaves loses h.over; from = column_forms_after pivot.column h.from }

  pub column_after : (place once : ℕ) (v : ℕ → ℕ) (s : ℕ) (column : Column) → ColumnHolds old place once v s column → ColumnHolds new place once v s column
  column_after place once v s column h = subst (λ m. Same m (2 ^ 64 * v s) (sum_at place once v column.entered column.from.items)) (sym (same_modulus old new place loses)) h

  pub column_before : (place once : ℕ) (v : ℕ → ℕ) (s : ℕ) (column : Column) → ColumnHolds new place once v s column → ColumnHolds old place once v s column
  column_before place once v s column h = subst (λ m. Same m (2 ^ 64 * v s) (sum_at place once v column.entered column.from.items)) (same_modulus old new place loses) h

  pub pivot_after : (place once : ℕ) (v : ℕ → ℕ) (s : ℕ) (leaves : Residues) (column : Column) → PivotHolds old place once v s leaves column → PivotHolds new place once v s leaves column
  pivot_after place once v s leaves column h =
      subst (λ m. Same m (2 ^ 64 * (2 ^ 64 * v s)) (form_at place leaves * sum_at place once v column.entered column.from.items)) (sym (same_modulus old new place loses)) h

  pub pivot_before : (place once : ℕ) (v : ℕ → ℕ) (s : ℕ) (leaves : Residues) (column : Column) → PivotHolds new place once v s leaves column → PivotHolds old place once v s leaves column
  pivot_before place once v s leaves column h =
      subst (λ m. Same m (2 ^ 64 * (2 ^ 64 * v s)) (form_at place leaves * sum_at place once v column.entered column.from.items)) (same_modulus old new place loses) h

  pub renews_before : (s : ℕ) (leaves : Residues) (pivot : Column) (before after : List (ℕ × Column)) → Renews new s leaves pivot before after → Renews old s leaves pivot before after
  renews_before s leaves pivot before after h = record {
    forms = λ all t c has. column_forms_before c (h.forms (λ t c has. column_forms_after c (all t c has)) t c has);
    keys = h.keys;
    count = h.count;
    hold = λ place within once v holds all t c has.
        column_before place once v t c (h.hold place within once v (pivot_after place once v s leaves pivot holds) (λ t c has. column_after place once v t c (all t c has)) t c has);
  }

  pub found_before : (pivots : List Pivot) (found : List (ℕ × Residues)) (place once : ℕ) (v : ℕ → ℕ) → (PivotsHold new place once v pivots → FoundHolds new place once v found) →
      PivotsHold old place once v pivots → FoundHolds old place once v found
  found_before pivots found place once v clause holds s r has =
      subst (λ m. Same m (2 ^ 64 * v s) (once * form_at place r)) (same_modulus old new place loses)
      (clause (λ pivot h. pivot_after place once v pivot.state pivot.leaves pivot.column (holds pivot h)) s r has)
