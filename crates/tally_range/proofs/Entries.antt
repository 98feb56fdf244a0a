-- The entries of an ordered map, as rows.
use Rattle.std.proofs.Common.{◌≡◌, ℕ, ◌+◌, ◌<◌, Bool, true, false, Ordering, Option, Some, None, [], ◌∷◌, refl, ap, ◌∙◌, arith}
use Rattle.std.specs.Prelude.{nat_lt, if◌then◌else◌}
use Rattle.std.specs.declared.cmp.Ordering.TheVariants.{Less, Equal, Greater}
use Rattle.std.specs.Ordering.{MatchOrdering, match_ordering}
use Rattle.std.specs.BTreeMap.{insert_entry, is_at}
use Rattle.std.specs.Map.{lookup, set_value}
use Rattle.std.proofs.lemmas.Bool.Decides.{nat_tests}
use Rattle.gcl_core.specs.declared.answers.TallyKey.{TallyKey}
use Rattle.gcl_core.specs.meaning.Order.{is_key_before, same_key}
use Rattle.tally_range.specs.Rows.{Rows, counted_at}
use Rattle.tally_range.specs.Tallies.{is_before_all, keys_ascend, counts_are_above_zero, IsTally}
use Rattle.tally_range.specs.Sums.{count_in}
use Rattle.gcl_core.proofs.OutcomeOrder.{key_before_differs, key_after_differs, key_before_trans}
use Rattle.gcl_core.proofs.SameOutcomes.{key_itself}
use Rattle.gcl_core.proofs.Booleans.{both}
use Rattle.tally_range.proofs.InRows.{join, before_all_from, counted_itself}
use Rattle.tally_range.proofs.Exact.{not_counted, none_counted}

pub counted_add : (key : TallyKey) (a n : ℕ) (other : TallyKey) → counted_at key (a + n) other ≡ counted_at key a other + counted_at key n other
counted_add key a n other = by (same_key key other)
  where
    by : (b : Bool) → (if b then a + n else 0) ≡ (if b then a else 0) + (if b then n else 0)
    by true = refl
    by false = refl

pub counted_none : (key : TallyKey) (n : ℕ) (other : TallyKey) → n ≡ 0 → counted_at key n other ≡ 0
counted_none key n other e = by (same_key key other)
  where
    by : (b : Bool) → (if b then n else 0) ≡ 0
    by true = e
    by false = refl

not_itself : (key : TallyKey) → is_key_before key key ≡ true → ⊥
not_itself key h = let differs = key_before_differs key key h in let same = key_itself key in cc

-- what a look-up finds counts this much
abbrev pub found_count : Option ℕ → ℕ
found_count None = 0
found_count (Some n) = n

-- cmp is the order of keys
abbrev pub IsKeyOrder : (TallyKey → TallyKey → Ordering) → Type 0
IsKeyOrder cmp = (a b : TallyKey) → MatchOrdering (cmp a b) (is_key_before a b ≡ true) (a ≡ b) (is_key_before b a ≡ true)

module _ (cmp : TallyKey → TallyKey → Ordering) (agrees : IsKeyOrder cmp) where
  pub looked_up : (rows : Rows) (key : TallyKey) → keys_ascend rows ≡ true → found_count (lookup (is_at (cmp key)) rows) ≡ count_in rows key
  looked_up [] key up = refl
  looked_up (r ∷ rows) key up = let p = both (is_before_all r.0 rows) (keys_ascend rows) up in by (cmp key r.0) refl (agrees key r.0) (looked_up rows key p.1)
    where
      by : (o : Ordering) → cmp key r.0 ≡ o → MatchOrdering (cmp key r.0) (is_key_before key r.0 ≡ true) (key ≡ r.0) (is_key_before r.0 key ≡ true) → found_count (lookup (is_at (cmp key)) rows) ≡ count_in rows key →
          found_count (lookup (is_at (cmp key)) (r ∷ rows)) ≡ count_in (r ∷ rows) key
      by Less e m h = let none = not_counted r.0 r.1 key (key_after_differs key r.0 (rw e at m)) in rw e (omega arith)
      by Equal e m h = let p = both (is_before_all r.0 rows) (keys_ascend rows) up in let is : key ≡ r.0 = rw e at m in
          let itself = counted_itself r.0 r.1 in let same = ap (λ (k : TallyKey). counted_at r.0 r.1 k) is in let rest = none_counted r.0 rows p.0 in let rest_same = ap (count_in rows) is in rw e (omega arith)
      by Greater e m h = let none = not_counted r.0 r.1 key (key_before_differs r.0 key (rw e at m)) in rw e (omega arith)

  before_all_inserted : (a : TallyKey) (rows : Rows) (key : TallyKey) (n : ℕ) → is_before_all a rows ≡ true → is_key_before a key ≡ true → is_before_all a (insert_entry cmp rows key n) ≡ true
  before_all_inserted a [] key n h p = join (is_key_before a key) true p refl
  before_all_inserted a (r ∷ rows) key n h p = let q = both (is_key_before a r.0) (is_before_all a rows) h in by (cmp key r.0) (before_all_inserted a rows key n q.1 p)
    where
      by : (o : Ordering) → is_before_all a (insert_entry cmp rows key n) ≡ true → is_before_all a (match_ordering o ((key, n) ∷ r ∷ rows) ((r.0, n) ∷ rows) (r ∷ insert_entry cmp rows key n)) ≡ true
      by Less rest = join (is_key_before a key) (is_before_all a (r ∷ rows)) p h
      by Equal rest = h
      by Greater rest = join (is_key_before a r.0) (is_before_all a (insert_entry cmp rows key n)) (both (is_key_before a r.0) (is_before_all a rows) h).0 rest

  ascends_inserted : (rows : Rows) (key : TallyKey) (n : ℕ) → keys_ascend rows ≡ true → keys_ascend (insert_entry cmp rows key n) ≡ true
  ascends_inserted [] key n up = refl
  ascends_inserted (r ∷ rows) key n up = let q = both (is_before_all r.0 rows) (keys_ascend rows) up in by (cmp key r.0) (agrees key r.0) (ascends_inserted rows key n q.1)
    where
      by : (o : Ordering) → MatchOrdering o (is_key_before key r.0 ≡ true) (key ≡ r.0) (is_key_before r.0 key ≡ true) → keys_ascend (insert_entry cmp rows key n) ≡ true →
          keys_ascend (match_ordering o ((key, n) ∷ r ∷ rows) ((r.0, n) ∷ rows) (r ∷ insert_entry cmp rows key n)) ≡ true
      by Less m rest = join (is_before_all key (r ∷ rows)) (keys_ascend (r ∷ rows)) (join (is_key_before key r.0) (is_before_all key rows) m (before_all_from key r.0 rows m (both (is_before_all r.0 rows) (keys_ascend rows) up).0)) up
      by Equal m rest = up
      by Greater m rest = join (is_before_all r.0 (insert_entry cmp rows key n)) (keys_ascend (insert_entry cmp rows key n)) (before_all_inserted r.0 rows key n (both (is_before_all r.0 rows) (keys_ascend rows) up).0 m) rest

  above_inserted : (rows : Rows) (key : TallyKey) (n : ℕ) → counts_are_above_zero rows ≡ true → 0 < n → counts_are_above_zero (insert_entry cmp rows key n) ≡ true
  above_inserted [] key n h p = grind (arith, nat_tests)
  above_inserted (r ∷ rows) key n h p = let q = both (nat_lt 0 r.1) (counts_are_above_zero rows) h in by (cmp key r.0) (above_inserted rows key n q.1 p)
    where
      by : (o : Ordering) → counts_are_above_zero (insert_entry cmp rows key n) ≡ true → counts_are_above_zero (match_ordering o ((key, n) ∷ r ∷ rows) ((r.0, n) ∷ rows) (r ∷ insert_entry cmp rows key n)) ≡ true
      by Less rest = grind (arith, nat_tests)
      by Equal rest = let q = both (nat_lt 0 r.1) (counts_are_above_zero rows) h in grind (arith, nat_tests)
      by Greater rest = join (nat_lt 0 r.1) (counts_are_above_zero (insert_entry cmp rows key n)) (both (nat_lt 0 r.1) (counts_are_above_zero rows) h).0 rest

  pub tally_inserted : (rows : Rows) (key : TallyKey) (n : ℕ) → IsTally rows → 0 < n → IsTally (insert_entry cmp rows key n)
  tally_inserted rows key n t p = record { ascending = ascends_inserted rows key n t.ascending; above_zero = above_inserted rows key n t.above_zero p }

  -- the new count stands in the place of the old
  inserted : (rows : Rows) (key : TallyKey) (n : ℕ) (other : TallyKey) → keys_ascend rows ≡ true →
      count_in (insert_entry cmp rows key n) other + counted_at key (count_in rows key) other ≡ count_in rows other + counted_at key n other
  inserted [] key n other up = let none = counted_none key 0 other refl in omega arith
  inserted (r ∷ rows) key n other up = let q = both (is_before_all r.0 rows) (keys_ascend rows) up in by (cmp key r.0) (agrees key r.0) (inserted rows key n other q.1)
    where
      by : (o : Ordering) → MatchOrdering o (is_key_before key r.0 ≡ true) (key ≡ r.0) (is_key_before r.0 key ≡ true) →
          count_in (insert_entry cmp rows key n) other + counted_at key (count_in rows key) other ≡ count_in rows other + counted_at key n other →
          count_in (match_ordering o ((key, n) ∷ r ∷ rows) ((r.0, n) ∷ rows) (r ∷ insert_entry cmp rows key n)) other + counted_at key (count_in (r ∷ rows) key) other ≡ count_in (r ∷ rows) other + counted_at key n other
      by Less m rest = let q = both (is_before_all r.0 rows) (keys_ascend rows) up in
          let none = none_counted key (r ∷ rows) (join (is_key_before key r.0) (is_before_all key rows) m (before_all_from key r.0 rows m q.0)) in
          let zero_more = counted_none key (count_in (r ∷ rows) key) other none in omega arith
      by Equal m rest = let q = both (is_before_all r.0 rows) (keys_ascend rows) up in
          let none : count_in rows key ≡ 0 = ap (count_in rows) m ∙ none_counted r.0 rows q.0 in
          let here : counted_at r.0 r.1 key ≡ r.1 = ap (counted_at r.0 r.1) m ∙ counted_itself r.0 r.1 in
          let all : count_in (r ∷ rows) key ≡ r.1 = omega arith in
          let old = ap (λ (c : ℕ). counted_at key c other) all in let new = ap (λ (k : TallyKey). counted_at k r.1 other) m in let more = ap (λ (k : TallyKey). counted_at k n other) m in omega arith
      by Greater m rest = let none = not_counted r.0 r.1 key (key_before_differs r.0 key m) in let all : count_in (r ∷ rows) key ≡ count_in rows key = omega arith in
          let old = ap (λ (c : ℕ). counted_at key c other) all in omega arith

  pub count_inserted : (rows : Rows) (key : TallyKey) (before n : ℕ) (other : TallyKey) → keys_ascend rows ≡ true → before ≡ count_in rows key →
      count_in (insert_entry cmp rows key (before + n)) other ≡ count_in rows other + counted_at key n other
  count_inserted rows key before n other up is = let h = inserted rows key (before + n) other up in let old = ap (λ (c : ℕ). counted_at key c other) is in
      let s = counted_add key before n other in omega arith

  -- a key that had no count
  pub count_first : (rows : Rows) (key : TallyKey) (n : ℕ) (other : TallyKey) → keys_ascend rows ≡ true → 0 ≡ count_in rows key →
      count_in (insert_entry cmp rows key n) other ≡ count_in rows other + counted_at key n other
  count_first rows key n other up none = let only : n ≡ 0 + n = omega arith in ap (λ n. count_in (insert_entry cmp rows key n) other) only ∙ count_inserted rows key 0 n other up none

  -- a key before those of all rows is found in none
  absent : (rows : Rows) (key : TallyKey) → is_before_all key rows ≡ true → lookup (is_at (cmp key)) rows ≡ None
  absent [] key h = refl
  absent (r ∷ rows) key h = let q = both (is_key_before key r.0) (is_before_all key rows) h in by (cmp key r.0) refl (agrees key r.0) (absent rows key q.1)
    where
      before : is_key_before key r.0 ≡ true
      before = (both (is_key_before key r.0) (is_before_all key rows) h).0

      by : (o : Ordering) → cmp key r.0 ≡ o → MatchOrdering (cmp key r.0) (is_key_before key r.0 ≡ true) (key ≡ r.0) (is_key_before r.0 key ≡ true) → lookup (is_at (cmp key)) rows ≡ None →
          lookup (is_at (cmp key)) (r ∷ rows) ≡ None
      by Less e m rest = rw e rest
      by Equal e m rest = absurd (not_itself key (let is : key ≡ r.0 = rw e at m in ap (is_key_before key) is ∙ before))
      by Greater e m rest = absurd (not_itself key (key_before_trans key r.0 key before (rw e at m)))

  -- a count that is written in the place of one that is there
  pub written : (rows : Rows) (key : TallyKey) (n v : ℕ) → keys_ascend rows ≡ true → lookup (is_at (cmp key)) rows ≡ Some v →
      set_value (is_at (cmp key)) rows n ≡ insert_entry cmp rows key n
  written [] key n v up found = absurd (cc)
  written (r ∷ rows) key n v up found = let q = both (is_before_all r.0 rows) (keys_ascend rows) up in by (cmp key r.0) refl (agrees key r.0) found (written rows key n v q.1)
    where
      by : (o : Ordering) → cmp key r.0 ≡ o → MatchOrdering (cmp key r.0) (is_key_before key r.0 ≡ true) (key ≡ r.0) (is_key_before r.0 key ≡ true) →
          lookup (is_at (cmp key)) (r ∷ rows) ≡ Some v → (lookup (is_at (cmp key)) rows ≡ Some v → set_value (is_at (cmp key)) rows n ≡ insert_entry cmp rows key n) →
          set_value (is_at (cmp key)) (r ∷ rows) n ≡ insert_entry cmp (r ∷ rows) key n
      by Less e m found rest = let q = both (is_before_all r.0 rows) (keys_ascend rows) up in
          let first : is_key_before key r.0 ≡ true = rw e at m in
          let none = absent (r ∷ rows) key (join (is_key_before key r.0) (is_before_all key rows) first (before_all_from key r.0 rows first q.0)) in absurd (cc)
      by Equal e m found rest = rw e refl
      by Greater e m found rest = let same = rest (rw e at found) in rw e (ap (λ es. r ∷ es) same)
