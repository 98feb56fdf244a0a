-- Columns that are renewed, one after the other.
use Rattle.std.proofs.Common.{◌≡◌, ◌⊎◌, inl, inr, ℕ, ◌≤◌, ◌<◌, List, length, sym, subst, subst₂, arith}
use Rattle.std.specs.Prelude.{Contains}
use Rattle.std.specs.BTreeMap.{insert_entry, is_at}
use Rattle.std.specs.Map.{remove_entry}
use Rattle.std.specs.Ordering.{nat_cmp}
use Rattle.visit_finder.specs.declared.columns.Column.{Column}
use Rattle.visit_finder.specs.declared.residues.Moduli.{Moduli}
use Rattle.visit_finder.specs.declared.residues.Residues.{Residues}
use Rattle.visit_finder.specs.inner.Columns.{HasKey, ColumnForms, ColumnHolds}
use Rattle.visit_finder.specs.inner.Pivots.{Renews, PivotHolds}
use Rattle.visit_finder.proofs.Entries.{from_removed, stays_removed, put_or_before, put_key, put_keeps}

module _ (moduli : Moduli) (s : ℕ) (leaves : Residues) (pivot : Column) where
  pub renews_none : (columns : List (ℕ × Column)) → Renews moduli s leaves pivot columns columns
  renews_none columns = record { forms = λ h. h; keys = λ t h. h; count = omega arith; hold = λ place within once v p h. h }

  pub renews_more : (old columns new : List (ℕ × Column)) → Renews moduli s leaves pivot old columns → Renews moduli s leaves pivot columns new → Renews moduli s leaves pivot old new
  renews_more old columns new first second = record {
    forms = λ h. second.forms (first.forms h);
    keys = λ t h. second.keys t (first.keys t h);
    count = let a = first.count in let b = second.count in omega (arith, a, b);
    hold = λ place within once v p h. second.hold place within once v p (first.hold place within once v p h);
  }

  -- the column of the target is another
  pub renews_one : (old : List (ℕ × Column)) (target : ℕ) (column next : Column) → Contains {X = ℕ × Column} old (target, column) → (ColumnForms moduli column → ColumnForms moduli next)
      → ((place : ℕ) → place < 5 → (once : ℕ) (v : ℕ → ℕ) → PivotHolds moduli place once v s leaves pivot → ColumnHolds moduli place once v target column → ColumnHolds moduli place once v target next)
      → length (insert_entry nat_cmp (remove_entry (is_at (nat_cmp target)) old) target next) ≤ length old
      → Renews moduli s leaves pivot old (insert_entry nat_cmp (remove_entry (is_at (nat_cmp target)) old) target next)
  renews_one old target column next has forms hold count =
      let rest = remove_entry (is_at (nat_cmp target)) old in record {
        forms = λ all t c h. forms_at all t c (put_or_before rest target next t c h);
        keys = λ t h. key_at t h (stays_removed old target t h.0 h.1);
        count = count;
        hold = λ place within once v p all t c h. hold_at place within once v p all t c (put_or_before rest target next t c h);
      }
    where
      key_at : (t : ℕ) (h : HasKey old t) → (t ≡ target) ⊎ Contains {X = ℕ × Column} (remove_entry (is_at (nat_cmp target)) old) (t, h.0)
          → HasKey (insert_entry nat_cmp (remove_entry (is_at (nat_cmp target)) old) target next) t
      key_at t h (inl here) = subst (HasKey (insert_entry nat_cmp (remove_entry (is_at (nat_cmp target)) old) target next)) (sym here) (put_key _ target next)
      key_at t h (inr there) = put_keeps _ target next t (h.0, there)

      forms_at : ((t : ℕ) (c : Column) → Contains {X = ℕ × Column} old (t, c) → ColumnForms moduli c) → (t : ℕ) (c : Column) → ((t ≡ target) × (c ≡ next)) ⊎ Contains {X = ℕ × Column} (remove_entry (is_at (nat_cmp target)) old) (t, c) →
          ColumnForms moduli c
      forms_at all t c (inl here) = subst (ColumnForms moduli) (sym here.1) (forms (all target column has))
      forms_at all t c (inr there) = all t c (from_removed old target t c there)

      hold_at : (place : ℕ) → place < 5 → (once : ℕ) (v : ℕ → ℕ) → PivotHolds moduli place once v s leaves pivot → ((t : ℕ) (c : Column) → Contains {X = ℕ × Column} old (t, c) → ColumnHolds moduli place once v t c)
          → (t : ℕ) (c : Column) → ((t ≡ target) × (c ≡ next)) ⊎ Contains {X = ℕ × Column} (remove_entry (is_at (nat_cmp target)) old) (t, c) → ColumnHolds moduli place once v t c
      hold_at place within once v p all t c (inl here) =
          subst₂ (λ t c. ColumnHolds moduli place once v t c) (sym here.0) (sym here.1) (hold place within once v p (all target column has))
      hold_at place within once v p all t c (inr there) = all t c (from_removed old target t c there)
