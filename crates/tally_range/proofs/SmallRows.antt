-- Rows of values that follow one another, and what they count.
use Rattle.std.proofs.Common.{◌≡◌, ℕ, zero, suc, ◌+◌, ◌≤◌, ◌<◌, List, [], ◌∷◌, length, set, get_or, drop, refl, ap, arith}
use Rattle.std.specs.Prelude.{replicate}
use Rattle.gcl_core.specs.declared.answers.TallyKey.{TallyKey}
use Rattle.tally_range.specs.Rows.{counted_at}
use Rattle.tally_range.specs.Sums.{count_in}
use Rattle.tally_range.specs.inner.SmallRows.{value_key, small_rows}
use Rattle.tally_range.proofs.InRows.{counted_itself}
use Rattle.tally_range.proofs.Entries.{counted_add, counted_none}

-- no counts
pub none_small : (first n : ℕ) (key : TallyKey) → count_in (small_rows first (replicate n 0)) key ≡ 0
unfolding small_rows
none_small first zero key = refl
none_small first (suc n) key = let here = counted_none (value_key first) 0 key refl in let rest = none_small (suc first) n key in omega arith

-- past the last of them
pub none_left : (value : ℕ) (counts : List ℕ) (i : ℕ) (key : TallyKey) → length counts ≤ i → count_in (small_rows value (drop i counts)) key ≡ 0
unfolding small_rows
none_left value [] zero key le = refl
none_left value [] (suc i) key le = refl
none_left value (n ∷ counts) zero key le = absurd (omega arith)
none_left value (n ∷ counts) (suc i) key le = none_left value counts i key (omega arith)

-- one more of a value
pub one_more : (first : ℕ) (counts : List ℕ) (i : ℕ) (key : TallyKey) → i < length counts →
    count_in (small_rows first (set counts i (get_or counts i 0 + 1))) key ≡ count_in (small_rows first counts) key + counted_at (value_key (first + i)) 1 key
unfolding small_rows
one_more first [] i key lt = absurd (omega arith)
one_more first (n ∷ counts) zero key lt = let e : first + 0 ≡ first = omega arith in let same = ap (λ (v : ℕ). counted_at (value_key v) 1 key) e in
    let more = counted_add (value_key first) n 1 key in omega arith
one_more first (n ∷ counts) (suc i) key lt = let e : suc first + i ≡ first + suc i = omega arith in let same = ap (λ (v : ℕ). counted_at (value_key v) 1 key) e in
    let rest = one_more (suc first) counts i key (omega arith) in omega arith

-- the first of those that are left
pub next_small : (value : ℕ) (counts : List ℕ) (i : ℕ) (key : TallyKey) → i < length counts →
    count_in (small_rows value (drop i counts)) key ≡ counted_at (value_key value) (get_or counts i 0) key + count_in (small_rows (value + 1) (drop (i + 1) counts)) key
unfolding small_rows
next_small value [] i key lt = absurd (omega arith)
next_small value (n ∷ counts) zero key lt = let e : value + 1 ≡ suc value = omega arith in let same = ap (λ (v : ℕ). count_in (small_rows v counts) key) e in omega arith
next_small value (n ∷ counts) (suc i) key lt = let h = next_small value counts i key (omega arith) in let e : suc i + 1 ≡ suc (i + 1) = omega arith in rw e h

-- the rows of a value count at least as often as its own
pub at_least : (first : ℕ) (counts : List ℕ) (i : ℕ) → i < length counts → get_or counts i 0 ≤ count_in (small_rows first counts) (value_key (first + i))
unfolding small_rows
at_least first [] i lt = absurd (omega arith)
at_least first (n ∷ counts) zero lt = let e : first + 0 ≡ first = omega arith in let itself = counted_itself (value_key first) n in
    let same = ap (λ (v : ℕ). counted_at (value_key first) n (value_key v)) e in omega arith
at_least first (n ∷ counts) (suc i) lt = let e : suc first + i ≡ first + suc i = omega arith in
    let same = ap (λ (v : ℕ). count_in (small_rows (suc first) counts) (value_key v)) e in let rest = at_least (suc first) counts i (omega arith) in omega arith
