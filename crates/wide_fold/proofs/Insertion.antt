-- One more weight in a table whose keys are in order, each once.
use Rattle.std.proofs.Common.{◌≡◌, ℕ, ◌+◌, ◌*◌, ◌<◌, Bool, true, false, cond, Option, Some, None, MatchOption, Ordering, Result, Ok, Err, OnOk, OnErr, All, List, [], ◌∷◌, length, refl, sym, ap, ◌∙◌, subst, arith}
use Rattle.std.specs.declared.cmp.Ordering.TheVariants.{Less, Equal, Greater}
use Rattle.std.specs.Cmp.{IsTotalOrder}
use Rattle.std.specs.BTreeMap.{insert_entry, is_at}
use Rattle.std.specs.Map.{keys_of, lookup}
use Rattle.std.specs.List.Sorted.{IsStrictlySortedBy}
use Rattle.std.proofs.lemmas.Map.{lookup-none}
use Rattle.std.proofs.lemmas.Map.Entries.{none_below_head}
use Rattle.std.proofs.lemmas.Map.Keys.{sorted_tail}
use Rattle.gcl_core.specs.meaning.Value.{State}
use Rattle.gcl_core.specs.weighing.Fractions.{Fraction, plus}
use Rattle.numbers.specs.Fraction.{lowest}
use Rattle.numbers.proofs.Divisors.{product_pos}
use Rattle.table_flow.specs.Scale.{whole, Whole}
use Rattle.table_flow.proofs.Wholes.{whole_from, whole_lowest}
use Rattle.mass_fold.specs.Amounts.{held, AreHeld}
use Rattle.mass_fold.specs.inner.Amounts.{Entries, PutGives, found, order}
use Rattle.mass_fold.proofs.Insertion.{whole_pos, numerator_pos}
use Rattle.mass_fold.proofs.Entries.{order_total, equal_is}
use Rattle.mass_fold.proofs.Sizes.{sized_after}
use Rattle.wide_fold.specs.inner.Adding.{SumsAt, IsAdded}

-- a sum at a scale
pub plus_whole : (N : ℕ) (p q : Fraction) → Whole N p → Whole N q → (whole N (plus p q) ≡ whole N p + whole N q) × Whole N (plus p q)
plus_whole N p q a b =
    whole_from N (plus p q) (whole N p + whole N q) (product_pos p.1 q.1 a.positive b.positive)
    (let x = ap (λ z. q.1 * z) a.exact in let y = ap (λ z. p.1 * z) b.exact in omega arith)

pub lowest_whole : (N : ℕ) (p q v : Fraction) → Whole N p → Whole N q → v ≡ lowest (plus p q) → (whole N v ≡ whole N p + whole N q) × Whole N v
lowest_whole N p q v a b e =
    let s = plus_whole N p q a b in
    let l = whole_lowest N (plus p q).0 (plus p q).1 s.1 in
    subst (λ v. (whole N v ≡ whole N p + whole N q) × Whole N v) (sym e) (l.0 ∙ s.0, l.1)

-- what a weight counts at its key; 0, where there is none
abbrev part : {K : Type 0} → ℕ → (K → ℕ) → K → Option Fraction → ℕ
part N G k None = 0
part N G k (Some g) = whole N g * G k

found_whole : {K : Type 0} (at : K → Bool) (N : ℕ) (g : Fraction) (es : List (K × Fraction)) → AreHeld N es → lookup at es ≡ Some g → Whole N g
found_whole at N g [] h e = cc
found_whole at N g (d ∷ es) h e = at_head (at d.0) e (λ p. found_whole at N g es h.2 p)
  where
    at_head : (b : Bool) → cond b (Some d.1) (lookup at es) ≡ Some g → (lookup at es ≡ Some g → Whole N g) → Whole N g
    at_head true p i = let q : d.1 ≡ g = cc in subst (Whole N) q h.1
    at_head false p i = i p

module _ {K : Type 0} (order : K → K → Ordering) (total : IsTotalOrder order) (equal_is : (x y : K) → order x y ≡ Equal → x ≡ y) where
  held_insert : (N : ℕ) (G : K → ℕ) (k : K) (v : Fraction) (es : List (K × Fraction)) → IsStrictlySortedBy order (keys_of es) →
      held N G (insert_entry order es k v) + part N G k (found order k es) ≡ held N G es + whole N v * G k
  held_insert N G k v [] h = omega arith
  held_insert N G k v (e ∷ es) h = at_head (order k e.0) refl (held_insert N G k v es (sorted_tail order e.0 (keys_of es) h))
    where
      at_head : (o : Ordering) → order k e.0 ≡ o → held N G (insert_entry order es k v) + part N G k (found order k es) ≡ held N G es + whole N v * G k →
          held N G (insert_entry order (e ∷ es) k v) + part N G k (found order k (e ∷ es)) ≡ held N G (e ∷ es) + whole N v * G k
      at_head Less p i = rw p (rw (lookup-none (is_at (order k)) es (none_below_head total k e es h p).1) (omega arith))
      at_head Equal p i = rw p (rw (ap G (equal_is k e.0 p)) (omega arith))
      at_head Greater p i = rw p (omega arith)

  kept_insert : (N : ℕ) (k : K) (v : Fraction) (es : List (K × Fraction)) → 0 < v.0 → Whole N v → AreHeld N es → AreHeld N (insert_entry order es k v)
  kept_insert N k v [] p w h = (p, w, tt)
  kept_insert N k v (e ∷ es) p w h = at_head (order k e.0) refl (kept_insert N k v es p w h.2)
    where
      at_head : (o : Ordering) → order k e.0 ≡ o → AreHeld N (insert_entry order es k v) → AreHeld N (insert_entry order (e ∷ es) k v)
      at_head Less q i = rw q (p, w, h)
      at_head Equal q i = rw q (p, w, h.2)
      at_head Greater q i = rw q (h.0, h.1, i)

  put_new : (k : K) (f : Fraction) (es : List (K × Fraction)) → IsStrictlySortedBy order (keys_of es) → found order k es ≡ None → PutGives es (insert_entry order es k f) k f
  put_new k f es h e N pos r p w =
      (kept_insert N k f es p w r, λ G. let i = held_insert N G k f es h in let z = ap (part N G k) e in omega arith)

  put_old : (k : K) (f g v : Fraction) (es : List (K × Fraction)) → IsStrictlySortedBy order (keys_of es) → found order k es ≡ Some g → v ≡ lowest (plus g f) → PutGives es (insert_entry order es k v) k f
  put_old k f g v es h e q N pos r p w =
      let u = lowest_whole N g f v (found_whole (is_at (order k)) N g es r e) w q in
      let above : 0 < v.0 = numerator_pos N v u.1 (let m = whole_pos N f pos p w in omega (arith, u.0)) in (
        kept_insert N k v es above u.1 r,
        λ G. let i = held_insert N G k v es h in let z = ap (part N G k) e in let y = ap (λ x. x * G k) u.0 in omega arith,
      )

  pub put_gives : (k : K) (f v : Fraction) (es : List (K × Fraction)) → IsStrictlySortedBy order (keys_of es) → SumsAt order es k f v → PutGives es (insert_entry order es k v) k f
  put_gives k f v es h s = by_found (found order k es) refl s
    where
      by_found : (o : Option Fraction) → found order k es ≡ o → MatchOption o (v ≡ f) (λ g. v ≡ lowest (plus g f)) → PutGives es (insert_entry order es k v) k f
      by_found None e s = subst (λ v. PutGives es (insert_entry order es k v) k f) (sym s) (put_new k f es h e)
      by_found (Some g) e s = put_old k f g v es h e s

-- a table in which the weight of a state was put holds it
pub each_put : {A E : Type 0} (r : Result A E) (es fs : Entries) (s : State) (f : Fraction) → OnOk r (IsAdded order es fs s f) → OnOk r (PutGives es fs s f)
each_put (Ok x) es fs s f put = subst (λ fs. PutGives es fs s f) (sym put.1.2) (put_gives order order_total equal_is s f put.1.0 es put.0 put.1.1)
each_put (Err e) es fs s f put = tt

pub sized_put : {A E : Type 0} (m : ℕ) (es : Entries) (sized : All (λ s. length s ≡ m) (keys_of es)) (r : Result A E) (s : State) (f : Fraction) (fs : Entries) → OnOk r (IsAdded order es fs s f) → OnErr r (fs ≡ es) → length s ≡ m →
    All (λ s. length s ≡ m) (keys_of fs)
sized_put {A = A} {E = E} m es sized (Ok x) s f fs put kept l = sized_after m es sized {A = A} {E = E} (Ok x) s put.1.0 fs put.1.2 tt l
sized_put {A = A} {E = E} m es sized (Err e) s f fs put kept l = sized_after m es sized {A = A} {E = E} (Err e) s f fs tt kept l
