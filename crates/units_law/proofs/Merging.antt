-- Merged tables: each state once, in order, and what they hold.
use Rattle.std.proofs.Common.{◌≡◌, ℕ, zero, suc, ◌+◌, ◌*◌, ◌≤◌, ◌<◌, All, Ordering, List, [], ◌∷◌, ◌++◌, length, refl, sym, ap, ◌∙◌, arith}
use Rattle.std.specs.declared.cmp.Ordering.TheVariants.{Less, Equal, Greater}
use Rattle.std.specs.BTreeMap.{insert_entry, is_at}
use Rattle.std.specs.Map.{keys_of, values_of}
use Rattle.std.specs.List.{AllByRecursion}
use Rattle.std.specs.List.Sorted.{IsStrictlySortedBy}
use Rattle.std.proofs.lemmas.List.Elements.{All-nil, All-cons, All-head, All-tail}
use Rattle.std.proofs.lemmas.Map.{lookup-none}
use Rattle.std.proofs.lemmas.Map.Entries.{none_below_head}
use Rattle.std.proofs.lemmas.Map.Keys.{sorted_head, sorted_tail}
use Rattle.gcl_core.specs.meaning.Value.{State}
use Rattle.units_law.specs.Units.{Units, held}
use Rattle.units_law.specs.Merged.{order, units_at, put, put_all, merged, IsMerged}
use Rattle.units_law.proofs.States.{order_total, equal_is, reversed, at, at_itself, at_above}

abbrev Sorted : Units State → Type 0
Sorted es = IsStrictlySortedBy order (keys_of es)

abbrev Some : Units State → Type 0
Some es = All (λ w. 0 < w) (values_of es)

-- ---- one entry more

pub held_insert : (G : State → ℕ) (s : State) (w : ℕ) (es : Units State) → Sorted es → held G (insert_entry order es s w) + units_at es s * G s ≡ held G es + w * G s
held_insert G s w [] h = omega arith
held_insert G s w (e ∷ es) h = at_head (order s e.0) refl (held_insert G s w es (sorted_tail order e.0 (keys_of es) h))
  where
    at_head : (o : Ordering) → order s e.0 ≡ o → held G (insert_entry order es s w) + units_at es s * G s ≡ held G es + w * G s →
        held G (insert_entry order (e ∷ es) s w) + units_at (e ∷ es) s * G s ≡ held G (e ∷ es) + w * G s
    at_head Less p i = rw p (rw (lookup-none (is_at (order s)) es (none_below_head order_total s e es h p).1) (omega arith))
    at_head Equal p i = rw p (rw (ap G (equal_is s e.0 p)) (omega arith))
    at_head Greater p i = rw p (omega arith)

above_insert : (x s : State) (w : ℕ) (es : Units State) → order x s ≡ Less → AllByRecursion (λ y. order x y ≡ Less) (keys_of es) →
    AllByRecursion (λ y. order x y ≡ Less) (keys_of (insert_entry order es s w))
above_insert x s w [] l h = (l, tt)
above_insert x s w (e ∷ es) l h = at_head (order s e.0) refl (above_insert x s w es l h.1)
  where
    at_head : (o : Ordering) → order s e.0 ≡ o → AllByRecursion (λ y. order x y ≡ Less) (keys_of (insert_entry order es s w)) →
        AllByRecursion (λ y. order x y ≡ Less) (keys_of (insert_entry order (e ∷ es) s w))
    at_head Less p i = rw p (l, h)
    at_head Equal p i = rw p h
    at_head Greater p i = rw p (h.0, i)

all_above : (s x : State) (ks : List State) → order s x ≡ Less → AllByRecursion (λ y. order x y ≡ Less) ks → AllByRecursion (λ y. order s y ≡ Less) ks
all_above s x [] p h = tt
all_above s x (k ∷ ks) p h = (order_total.trans s x k p h.0, all_above s x ks p h.1)

sorted_insert : (s : State) (w : ℕ) (es : Units State) → Sorted es → Sorted (insert_entry order es s w)
unfolding IsStrictlySortedBy
sorted_insert s w [] h = (tt, tt)
sorted_insert s w (e ∷ es) h = at_head (order s e.0) refl (sorted_insert s w es (sorted_tail order e.0 (keys_of es) h))
  where
    at_head : (o : Ordering) → order s e.0 ≡ o → Sorted (insert_entry order es s w) → Sorted (insert_entry order (e ∷ es) s w)
    at_head Less p i = rw p ((p, all_above s e.0 (keys_of es) p (sorted_head order e.0 (keys_of es) h)), h)
    at_head Equal p i = rw p h
    at_head Greater p i = rw p (above_insert e.0 s w es (reversed s e.0 Greater p) (sorted_head order e.0 (keys_of es) h), i)

some_insert : (s : State) (w : ℕ) (es : Units State) → 0 < w → Some es → Some (insert_entry order es s w)
some_insert s w [] p h = All-cons (λ w. 0 < w) w [] p (All-nil (λ w. 0 < w))
some_insert s w (e ∷ es) p h = at_head (order s e.0) refl (some_insert s w es p (All-tail (λ w. 0 < w) e.1 (values_of es) h))
  where
    at_head : (o : Ordering) → order s e.0 ≡ o → Some (insert_entry order es s w) → Some (insert_entry order (e ∷ es) s w)
    at_head Less q i = rw q (All-cons (λ w. 0 < w) w (values_of (e ∷ es)) p h)
    at_head Equal q i = rw q (All-cons (λ w. 0 < w) w (values_of es) p (All-tail (λ w. 0 < w) e.1 (values_of es) h))
    at_head Greater q i = rw q (All-cons (λ w. 0 < w) e.1 (values_of (insert_entry order es s w)) (All-head (λ w. 0 < w) e.1 (values_of es) h) i)

longer_insert : (s : State) (w : ℕ) (es : Units State) → length es ≤ length (insert_entry order es s w)
longer_insert s w [] = omega arith
longer_insert s w (e ∷ es) = at_head (order s e.0) refl (longer_insert s w es)
  where
    at_head : (o : Ordering) → order s e.0 ≡ o → length es ≤ length (insert_entry order es s w) → length (e ∷ es) ≤ length (insert_entry order (e ∷ es) s w)
    at_head Less p i = rw p (omega arith)
    at_head Equal p i = rw p (omega arith)
    at_head Greater p i = rw p (omega arith)

-- ---- what is put

pub held_put : (G : State → ℕ) (es : Units State) (s : State) (w : ℕ) → IsMerged es → held G (put es s w) ≡ held G es + w * G s
held_put G es s zero m = omega arith
held_put G es s (suc w) m = let i = held_insert G s (units_at es s + suc w) es m.sorted in omega arith

pub put_merged : (es : Units State) (s : State) (w : ℕ) → IsMerged es → IsMerged (put es s w)
put_merged es s zero m = m
put_merged es s (suc w) m = record { sorted = sorted_insert s (units_at es s + suc w) es m.sorted; some = some_insert s (units_at es s + suc w) es (omega arith) m.some }

put_longer : (es : Units State) (s : State) (w : ℕ) → length es ≤ length (put es s w)
put_longer es s zero = omega arith
put_longer es s (suc w) = longer_insert s (units_at es s + suc w) es

pub held_put_all : (G : State → ℕ) (es J : Units State) → IsMerged es → held G (put_all es J) ≡ held G es + held G J
held_put_all G es [] m = omega arith
held_put_all G es (e ∷ J) m =
    let i = held_put_all G (put es e.0 e.1) J (put_merged es e.0 e.1 m) in
    let a = held_put G es e.0 e.1 m in
    omega arith

put_all_merged : (es J : Units State) → IsMerged es → IsMerged (put_all es J)
put_all_merged es [] m = m
put_all_merged es (e ∷ J) m = put_all_merged (put es e.0 e.1) J (put_merged es e.0 e.1 m)

pub put_all_longer : (es J : Units State) → length es ≤ length (put_all es J)
put_all_longer es [] = omega arith
put_all_longer es (e ∷ J) = let i = put_all_longer (put es e.0 e.1) J in let a = put_longer es e.0 e.1 in omega arith

put_all_append : (es J K : Units State) → put_all es (J ++ K) ≡ put_all (put_all es J) K
put_all_append es [] K = refl
put_all_append es (e ∷ J) K = put_all_append (put es e.0 e.1) J K

-- ---- merged lists

none_merged : IsMerged []
unfolding IsStrictlySortedBy
none_merged = record { sorted = tt; some = All-nil (λ w. 0 < w) }

pub merged_once : (J : Units State) → IsMerged (merged J)
merged_once J = put_all_merged [] J none_merged

pub held_merged : (J : Units State) (G : State → ℕ) → held G (merged J) ≡ held G J
held_merged J G = let i = held_put_all G [] J none_merged in omega arith

pub merged_further : (J K : Units State) → merged (J ++ K) ≡ put_all (merged J) K
merged_further J K = put_all_append [] J K

pub merged_longer : (J K : Units State) → length (merged J) ≤ length (merged (J ++ K))
merged_longer J K = rw (merged_further J K) (put_all_longer (merged J) K)

-- ---- two merged lists that hold the same

none_held : (s : State) (es : Units State) → AllByRecursion (λ y. order s y ≡ Less) (keys_of es) → held (at s) es ≡ 0
none_held s [] h = refl
none_held s (e ∷ es) h = let i = none_held s es h.1 in let a = at_above s e.0 h.0 in let b = ap (λ t. e.1 * t) a in omega arith

pub first_held : (e : State × ℕ) (es : Units State) → Sorted (e ∷ es) → held (at e.0) (e ∷ es) ≡ e.1
first_held e es h =
    let a = none_held e.0 es (sorted_head order e.0 (keys_of es) h) in
    let b = ap (λ t. e.1 * t) (at_itself e.0) in
    omega arith

-- a state below the first one is not held
below_held : (s : State) (e : State × ℕ) (es : Units State) → order s e.0 ≡ Less → Sorted (e ∷ es) → held (at s) (e ∷ es) ≡ 0
below_held s e es p h = none_held s (e ∷ es) (p, all_above s e.0 (keys_of es) p (sorted_head order e.0 (keys_of es) h))

abbrev Same : Units State → Units State → Type 0
Same J K = (G : State → ℕ) → held G J ≡ held G K

pub one_merged : (J K : Units State) → IsMerged J → IsMerged K → Same J K → J ≡ K
one_merged [] [] m l h = refl
one_merged [] (e ∷ K) m l h = let a = h (λ s. 1) in let b = All-head (λ w. 0 < w) e.1 (values_of K) l.some in absurd (omega arith)
one_merged (d ∷ J) [] m l h = let a = h (λ s. 1) in let b = All-head (λ w. 0 < w) d.1 (values_of J) m.some in absurd (omega arith)
one_merged (d ∷ J) (e ∷ K) m l h = by_order (order d.0 e.0) refl (one_merged J K (tail_merged d J m) (tail_merged e K l))
  where
    tail_merged : (e : State × ℕ) (es : Units State) → IsMerged (e ∷ es) → IsMerged es
    tail_merged e es m = record { sorted = sorted_tail order e.0 (keys_of es) m.sorted; some = All-tail (λ w. 0 < w) e.1 (values_of es) m.some }

    by_order : (o : Ordering) → order d.0 e.0 ≡ o → (Same J K → J ≡ K) → d ∷ J ≡ e ∷ K
    by_order Less p i =
        let a = h (at d.0) in
        let b = first_held d J m.sorted in
        let c = below_held d.0 e K p l.sorted in
        let f = All-head (λ w. 0 < w) d.1 (values_of J) m.some in
        absurd (omega arith)
    by_order Equal p i =
        let q = equal_is d.0 e.0 p in
        let a = h (at d.0) in
        let b = first_held d J m.sorted in
        let c = first_held e K l.sorted in
        let f : held (at d.0) (e ∷ K) ≡ held (at e.0) (e ∷ K) = ap (λ s. held (at s) (e ∷ K)) q in
        let u : d.1 ≡ e.1 = omega arith in
        let same : d ≡ e = ap (λ s. (s, d.1)) q ∙ ap (λ w. (e.0, w)) u in
        let rest : Same J K = λ G. let x = h G in let y = ap (λ t. t.1 * G t.0) same in omega arith in
        ap (λ t. t ∷ J) same ∙ ap (λ t. e ∷ t) (i rest)
    by_order Greater p i =
        let a = h (at e.0) in
        let b = first_held e K l.sorted in
        let c = below_held e.0 d J (reversed d.0 e.0 Greater p) m.sorted in
        let f = All-head (λ w. 0 < w) e.1 (values_of K) l.some in
        absurd (omega arith)

pub merged_same : (J K : Units State) → Same J K → merged J ≡ merged K
merged_same J K h = one_merged (merged J) (merged K) (merged_once J) (merged_once K) (λ G. held_merged J G ∙ h G ∙ sym (held_merged K G))

pub merged_again : (J : Units State) → IsMerged J → merged J ≡ J
merged_again J m = one_merged (merged J) J (merged_once J) m (held_merged J)
