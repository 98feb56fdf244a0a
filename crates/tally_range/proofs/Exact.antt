-- Rows with ascending keys and counts above 0 are exactly the rows of their counts.
use Rattle.std.proofs.Common.{◌≡◌, ℕ, zero, suc, ◌<◌, Bool, true, false, [], ◌∷◌, length, get_or, refl, sym, ap, ◌∙◌, subst, arith}
use Rattle.std.specs.Prelude.{if◌then◌else◌, AllPairs, Contains}
use Rattle.std.proofs.lemmas.List.Kept.{AllPairs-cons}
use Rattle.gcl_core.specs.declared.answers.TallyKey.{TallyKey}
use Rattle.gcl_core.specs.meaning.Order.{is_key_before, same_key}
use Rattle.tally_range.specs.Rows.{Rows, counted_at, IsTallyOf}
use Rattle.tally_range.specs.Tallies.{is_before_all, keys_ascend, IsTally}
use Rattle.tally_range.specs.Sums.{count_in}
use Rattle.gcl_core.proofs.OutcomeOrder.{key_before_differs, key_after_differs}
use Rattle.gcl_core.proofs.SameOutcomes.{same_keys}
use Rattle.gcl_core.proofs.Booleans.{both}
use Rattle.tally_range.proofs.InRows.{before_at, above_at, counted_itself}

pub not_counted : (key : TallyKey) (n : ℕ) (other : TallyKey) → same_key key other ≡ false → counted_at key n other ≡ 0
not_counted key n other h = ap (λ (b : Bool). if b then n else 0) h

pub none_counted : (key : TallyKey) (rows : Rows) → is_before_all key rows ≡ true → count_in rows key ≡ 0
none_counted key [] h = refl
none_counted key (r ∷ rows) h = let p = both (is_key_before key r.0) (is_before_all key rows) h in
    let here = not_counted r.0 r.1 key (key_after_differs key r.0 p.0) in let rest = none_counted key rows p.1 in omega arith

counts_here : (rows : Rows) (i : ℕ) (d : TallyKey × ℕ) → i < length rows → keys_ascend rows ≡ true → count_in rows (get_or rows i d).0 ≡ (get_or rows i d).1
counts_here [] i d lt up = absurd (omega arith)
counts_here (r ∷ rows) zero d lt up = let p = both (is_before_all r.0 rows) (keys_ascend rows) up in
    let here = counted_itself r.0 r.1 in let rest = none_counted r.0 rows p.0 in omega arith
counts_here (r ∷ rows) (suc i) d lt up = let p = both (is_before_all r.0 rows) (keys_ascend rows) up in
    let here = not_counted r.0 r.1 (get_or rows i d).0 (key_before_differs r.0 (get_or rows i d).0 (before_at r.0 rows i d (omega arith) p.0)) in
    let rest = counts_here rows i d (omega arith) p.1 in omega arith

there : (rows : Rows) (key : TallyKey) (n : ℕ) → keys_ascend rows ≡ true → count_in rows key ≡ n → 0 < n → Contains rows (key, n)
there [] key n up e lt = absurd (omega arith)
there (r ∷ rows) key n up e lt = by (same_key r.0 key) refl (there rows key n (both (is_before_all r.0 rows) (keys_ascend rows) up).1)
  where
    by : (b : Bool) → same_key r.0 key ≡ b → (count_in rows key ≡ n → 0 < n → Contains rows (key, n)) → Contains (r ∷ rows) (key, n)
    by true same later = let is = same_keys r.0 key same in let here = ap (λ (b : Bool). if b then r.1 else 0) same in
        let rest = none_counted key rows (subst (λ (k : TallyKey). is_before_all k rows ≡ true) is (both (is_before_all r.0 rows) (keys_ascend rows) up).0) in
        let count : r.1 ≡ n = omega arith in (0, omega arith, ap (λ (k : TallyKey). (k, r.1)) is ∙ ap (λ (m : ℕ). (key, m)) count)
    by false other later = let here = not_counted r.0 r.1 key other in let found = later (omega arith) lt in (suc found.0, omega (arith, found.1), found.2)

ascending_pairs : (rows : Rows) → keys_ascend rows ≡ true → AllPairs (λ r s. is_key_before r.0 s.0 ≡ true) rows
ascending_pairs [] up = λ i j d lt within. absurd (omega arith)
ascending_pairs (r ∷ rows) up = let p = both (is_before_all r.0 rows) (keys_ascend rows) up in
    AllPairs-cons (λ r s. is_key_before r.0 s.0 ≡ true) r rows (λ k d lt. before_at r.0 rows k d lt p.0) (ascending_pairs rows p.1)

pub exact_rows : (f : TallyKey → ℕ) (rows : Rows) → IsTally rows → ((key : TallyKey) → count_in rows key ≡ f key) → IsTallyOf f rows
exact_rows f rows t counts = record {
  ascending = ascending_pairs rows t.ascending;
  exact = λ key n. (
    (λ at. let here = counts_here rows at.0 (key, n) at.1 t.ascending in let above = above_at rows at.0 (key, n) at.1 t.above_zero in
        let count : count_in rows key ≡ n = subst (λ (x : TallyKey × ℕ). count_in rows x.0 ≡ x.1) at.2 here in
        (sym count ∙ counts key, subst (λ (x : TallyKey × ℕ). 0 < x.1) at.2 above)),
    (λ h. there rows key n t.ascending (counts key ∙ sym h.0) h.1),
  );
}
