-- Merged tables of pairs: at most they are the merged tables of units, and at least they hold no more than what was merged, and as much
-- where no state has more at least than at most.
use Rattle.std.proofs.Common.{List, length, ◌≡◌, ℕ, zero, suc, ◌+◌, ◌*◌, ◌≤◌, Ordering, [], ◌∷◌, ◌++◌, map, refl, sym, ap, ◌∙◌, subst, arith}
use Rattle.std.specs.declared.cmp.Ordering.TheVariants.{Less, Equal, Greater}
use Rattle.std.specs.BTreeMap.{insert_entry}
use Rattle.std.specs.Map.{keys_of}
use Rattle.std.specs.List.Sorted.{IsStrictlySortedBy}
use Rattle.std.proofs.lemmas.Map.Keys.{sorted_tail}
use Rattle.gcl_core.specs.meaning.Value.{State}
use Rattle.units_law.specs.Merged.{order, units_at, put, put_all, merged, IsMerged}
use Rattle.units_law.specs.Units.{Units, held}
use Rattle.units_law.proofs.Merging.{held_insert, put_merged, merged_once, merged_same, merged_again, first_held}
use Rattle.units_law.proofs.States.{at}
use Rattle.scaled_law.specs.Pairs.{Pair, Pairs, InOrder, added, at_least, at_most, pair_at, put_pair, put_pairs, merged_pairs}

-- the units that are one part of the pairs
abbrev pub parts : (Pair → ℕ) → {A : Type 0} → Pairs A → Units A
parts part J = map (λ e. (e.0, part e.1)) J

module _ (part : Pair → ℕ) where
  inserted : (s : State) (w : Pair) (es : Pairs State) → parts part (insert_entry order es s w) ≡ insert_entry order (parts part es) s (part w)
  inserted s w [] = refl
  inserted s w (e ∷ es) = at_head (order s e.0) refl (inserted s w es)
    where
      at_head : (o : Ordering) → order s e.0 ≡ o → parts part (insert_entry order es s w) ≡ insert_entry order (parts part es) s (part w) →
          parts part (insert_entry order (e ∷ es) s w) ≡ insert_entry order (parts part (e ∷ es)) s (part w)
      at_head Less p i = rw p refl
      at_head Equal p i = rw p refl
      at_head Greater p i = rw p (ap (λ t. (e.0, part e.1) ∷ t) i)

  part_at : part (0, 0) ≡ 0 → (s : State) (es : Pairs State) → units_at (parts part es) s ≡ part (pair_at es s)
  part_at z s [] = sym z
  part_at z s (e ∷ es) = at_head (order s e.0) refl (part_at z s es)
    where
      at_head : (o : Ordering) → order s e.0 ≡ o → units_at (parts part es) s ≡ part (pair_at es s) → units_at (parts part (e ∷ es)) s ≡ part (pair_at (e ∷ es) s)
      at_head Less p i = rw p i
      at_head Equal p i = rw p refl
      at_head Greater p i = rw p i

  same_keys : (es : Pairs State) → keys_of (parts part es) ≡ keys_of es
  same_keys [] = refl
  same_keys (e ∷ es) = ap (λ t. e.0 ∷ t) (same_keys es)

-- ---- at most

most_put : (es : Pairs State) (s : State) (l h : ℕ) → at_most (put_pair es s l h) ≡ put (at_most es) s h
most_put es s l zero = refl
most_put es s l (suc h) = inserted (λ w. w.1) s (added (pair_at es s) (l, suc h)) es ∙ ap (λ t. insert_entry order (at_most es) s (t + suc h)) (sym (part_at (λ w. w.1) refl s es))

most_put_all : (es J : Pairs State) → at_most (put_pairs es J) ≡ put_all (at_most es) (at_most J)
most_put_all es [] = refl
most_put_all es (e ∷ J) = most_put_all (put_pair es e.0 e.1.0 e.1.1) J ∙ ap (λ t. put_all t (at_most J)) (most_put es e.0 e.1.0 e.1.1)

pub most_merged : (J : Pairs State) → at_most (merged_pairs J) ≡ merged (at_most J)
most_merged J = most_put_all [] J

-- ---- at least

-- where each state stands once
abbrev IsOnce : Pairs State → Type 0
IsOnce es = IsMerged (at_most es)

put_once : (es : Pairs State) (s : State) (l h : ℕ) → IsOnce es → IsOnce (put_pair es s l h)
put_once es s l h m = subst IsMerged (sym (most_put es s l h)) (put_merged (at_most es) s h m)

least_held : (G : State → ℕ) (es : Pairs State) (s : State) (l h : ℕ) → IsOnce es → held G (at_least (put_pair es s l (suc h))) ≡ held G (at_least es) + l * G s
least_held G es s l h m =
    let w = added (pair_at es s) (l, suc h) in
    let e : keys_of (at_most es) ≡ keys_of (at_least es) = same_keys (λ w. w.1) es ∙ sym (same_keys (λ w. w.0) es) in
    let i = held_insert G s w.0 (at_least es) (subst (IsStrictlySortedBy order) e m.sorted) in
    let a : held G (at_least (put_pair es s l (suc h))) ≡ held G (insert_entry order (at_least es) s w.0) = ap (λ t. held G t) (inserted (λ w. w.0) s w es) in
    let b = ap (λ t. t * G s) (part_at (λ w. w.0) refl s es) in
    omega arith

least_put : (G : State → ℕ) (es : Pairs State) (s : State) (l h : ℕ) → IsOnce es → held G (at_least (put_pair es s l h)) ≤ held G (at_least es) + l * G s
least_put G es s l zero m = omega arith
least_put G es s l (suc h) m = let i = least_held G es s l h m in omega arith

least_put_all : (G : State → ℕ) (es J : Pairs State) → IsOnce es → held G (at_least (put_pairs es J)) ≤ held G (at_least es) + held G (at_least J)
least_put_all G es [] m = omega arith
least_put_all G es (e ∷ J) m =
    let i = least_put_all G (put_pair es e.0 e.1.0 e.1.1) J (put_once es e.0 e.1.0 e.1.1 m) in
    let a = least_put G es e.0 e.1.0 e.1.1 m in
    omega arith

pub least_merged : (G : State → ℕ) (J : Pairs State) → held G (at_least (merged_pairs J)) ≤ held G (at_least J)
least_merged G J = let i = least_put_all G [] J (merged_once []) in omega arith

-- ---- where no state has more at least than at most

in_order_insert : (s : State) (w : Pair) (es : Pairs State) → w.0 ≤ w.1 → InOrder es → InOrder (insert_entry order es s w)
in_order_insert s w [] l h = (l, tt)
in_order_insert s w (e ∷ es) l h = at_head (order s e.0) refl (in_order_insert s w es l h.1)
  where
    at_head : (o : Ordering) → order s e.0 ≡ o → InOrder (insert_entry order es s w) → InOrder (insert_entry order (e ∷ es) s w)
    at_head Less p i = rw p (l, h)
    at_head Equal p i = rw p (l, h.1)
    at_head Greater p i = rw p (h.0, i)

at_in_order : (s : State) (es : Pairs State) → InOrder es → (pair_at es s).0 ≤ (pair_at es s).1
at_in_order s [] h = omega arith
at_in_order s (e ∷ es) h = at_head (order s e.0) refl (at_in_order s es h.1)
  where
    at_head : (o : Ordering) → order s e.0 ≡ o → (pair_at es s).0 ≤ (pair_at es s).1 → (pair_at (e ∷ es) s).0 ≤ (pair_at (e ∷ es) s).1
    at_head Less p i = rw p i
    at_head Equal p i = rw p h.0
    at_head Greater p i = rw p i

put_in_order : (es : Pairs State) (s : State) (l h : ℕ) → l ≤ h → InOrder es → InOrder (put_pair es s l h)
put_in_order es s l zero m i = i
put_in_order es s l (suc h) m i = in_order_insert s (added (pair_at es s) (l, suc h)) es (let x = at_in_order s es i in omega (arith, x, m)) i

put_all_in_order : (es J : Pairs State) → InOrder es → InOrder J → InOrder (put_pairs es J)
put_all_in_order es [] i j = i
put_all_in_order es (e ∷ J) i j = put_all_in_order (put_pair es e.0 e.1.0 e.1.1) J (put_in_order es e.0 e.1.0 e.1.1 j.0 i) j.1

pub merged_in_order : (J : Pairs State) → InOrder J → InOrder (merged_pairs J)
merged_in_order J h = put_all_in_order [] J tt h

least_put_same : (G : State → ℕ) (es : Pairs State) (s : State) (l h : ℕ) → l ≤ h → IsOnce es → held G (at_least (put_pair es s l h)) ≡ held G (at_least es) + l * G s
least_put_same G es s zero zero i m = omega arith
least_put_same G es s (suc l) zero i m = absurd (omega (arith, i))
least_put_same G es s l (suc h) i m = least_held G es s l h m

least_put_all_same : (G : State → ℕ) (es J : Pairs State) → InOrder J → IsOnce es → held G (at_least (put_pairs es J)) ≡ held G (at_least es) + held G (at_least J)
least_put_all_same G es [] h m = omega arith
least_put_all_same G es (e ∷ J) h m =
    let i = least_put_all_same G (put_pair es e.0 e.1.0 e.1.1) J h.1 (put_once es e.0 e.1.0 e.1.1 m) in
    let a = least_put_same G es e.0 e.1.0 e.1.1 h.0 m in
    omega arith

pub least_merged_same : (J : Pairs State) → InOrder J → (G : State → ℕ) → held G (at_least (merged_pairs J)) ≡ held G (at_least J)
least_merged_same J h G = let i = least_put_all_same G [] J h (merged_once []) in omega arith

-- ---- one merged table

abbrev front : {A : Type 0} → A → List A → A
front d [] = d
front d (x ∷ xs) = x

abbrev behind : {A : Type 0} → List A → List A
behind [] = []
behind (x ∷ xs) = xs

abbrev Sorted : Pairs State → Type 0
Sorted es = IsStrictlySortedBy order (keys_of (at_least es))

same_entry : (d f : State × Pair) → d.0 ≡ f.0 → d.1.0 ≡ f.1.0 → d.1.1 ≡ f.1.1 → d ≡ f
same_entry d f q l m =
    let first : d ≡ (f.0, d.1) = ap (λ s. (s, d.1)) q in
    let second : (f.0, d.1) ≡ (f.0, (f.1.0, d.1.1)) = ap (λ w. (f.0, (w, d.1.1))) l in
    first ∙ (second ∙ ap (λ w. (f.0, (f.1.0, w))) m)

one_table : (es fs : Pairs State) → Sorted es → Sorted fs → at_most es ≡ at_most fs → ((G : State → ℕ) → held G (at_least es) ≡ held G (at_least fs)) → es ≡ fs
one_table [] [] s t e h = refl
one_table [] (f ∷ fs) s t e h = absurd (let x = ap length e in omega arith)
one_table (d ∷ es) [] s t e h = absurd (let x = ap length e in omega arith)
one_table (d ∷ es) (f ∷ fs) s t e h =
    let q : d.0 ≡ f.0 = ap (λ (t : Units State). (front (d.0, d.1.1) t).0) e in
    let m : d.1.1 ≡ f.1.1 = ap (λ (t : Units State). (front (d.0, d.1.1) t).1) e in
    let a = h (at d.0) in
    let b = first_held (d.0, d.1.0) (at_least es) s in
    let c = first_held (f.0, f.1.0) (at_least fs) t in
    let g : held (at d.0) (at_least (f ∷ fs)) ≡ held (at f.0) (at_least (f ∷ fs)) = ap (λ s. held (at s) (at_least (f ∷ fs))) q in
    let l : d.1.0 ≡ f.1.0 = omega (arith, a, b, c, g) in
    let same = same_entry d f q l m in
    let rest : (G : State → ℕ) → held G (at_least es) ≡ held G (at_least fs) = λ G. let x = h G in let y = ap (λ t. t.1.0 * G t.0) same in omega (arith, x, y) in
    ap (λ t. t ∷ es) same ∙ ap (λ t. f ∷ t) (one_table es fs (sorted_tail order d.0 (keys_of (at_least es)) s) (sorted_tail order f.0 (keys_of (at_least fs)) t) (ap behind e) rest)

once_sorted : (es : Pairs State) → IsOnce es → Sorted es
once_sorted es m = subst (IsStrictlySortedBy order) (same_keys (λ w. w.1) es ∙ sym (same_keys (λ w. w.0) es)) m.sorted

merged_pairs_once : (J : Pairs State) → IsOnce (merged_pairs J)
merged_pairs_once J = subst IsMerged (sym (most_merged J)) (merged_once (at_most J))

pub pairs_merged_same : (J K : Pairs State) → InOrder J → InOrder K → ((G : State → ℕ) → held G (at_least J) ≡ held G (at_least K)) → ((G : State → ℕ) → held G (at_most J) ≡ held G (at_most K)) → merged_pairs J ≡ merged_pairs K
pairs_merged_same J K i j l m =
    one_table (merged_pairs J) (merged_pairs K) (once_sorted (merged_pairs J) (merged_pairs_once J)) (once_sorted (merged_pairs K) (merged_pairs_once K)) (most_merged J ∙ merged_same (at_most J) (at_most K) m ∙ sym (most_merged K))
    (λ G. least_merged_same J i G ∙ l G ∙ sym (least_merged_same K j G))

pub pairs_merged_again : (J : Pairs State) → IsMerged (at_most J) → InOrder J → merged_pairs J ≡ J
pairs_merged_again J m i =
    one_table (merged_pairs J) J (once_sorted (merged_pairs J) (merged_pairs_once J)) (once_sorted J m) (most_merged J ∙ merged_again (at_most J) m) (least_merged_same J i)

pub pairs_merged_further : (J K : Pairs State) → merged_pairs (J ++ K) ≡ put_pairs (merged_pairs J) K
pairs_merged_further J K = put_further [] J K
  where
    put_further : (es J K : Pairs State) → put_pairs es (J ++ K) ≡ put_pairs (put_pairs es J) K
    put_further es [] K = refl
    put_further es (e ∷ J) K = put_further (put_pair es e.0 e.1.0 e.1.1) J K
