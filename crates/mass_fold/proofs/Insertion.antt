-- One more weight in a table whose keys are in order, each once.
use Rattle.std.proofs.Common.{◌≡◌, ℕ, zero, suc, ◌+◌, ◌*◌, ◌≤◌, ◌<◌, ◌^◌, Bool, true, false, cond, Option, Some, None, MatchOption, Ordering, List, [], ◌∷◌, refl, sym, ap, subst, arith}
use Rattle.std.specs.declared.cmp.Ordering.TheVariants.{Less, Equal, Greater}
use Rattle.std.specs.Cmp.{IsTotalOrder}
use Rattle.std.specs.BTreeMap.{insert_entry, is_at}
use Rattle.std.specs.Map.{keys_of, lookup}
use Rattle.std.specs.List.Sorted.{IsStrictlySortedBy}
use Rattle.std.proofs.lemmas.Map.{lookup-none}
use Rattle.std.proofs.lemmas.Map.Entries.{none_below_head}
use Rattle.std.proofs.lemmas.Map.Keys.{sorted_tail}
use Rattle.gcl_core.specs.weighing.Fractions.{Fraction}
use Rattle.numbers.specs.Arithmetic.{InLowest, sum_of}
use Rattle.numbers.proofs.Divisors.{product_pos, factor_pos}
use Rattle.table_flow.specs.Scale.{whole, Whole}
use Rattle.table_flow.proofs.Wholes.{sum_whole, sum_refused}
use Rattle.mass_fold.specs.Amounts.{held, AreHeld}
use Rattle.mass_fold.specs.inner.Amounts.{PutGives, found, SumAt}

pub product_below : (a b : ℕ) → 0 < a * b → 0 < a
product_below zero b h = absurd (omega arith)
product_below (suc a) b h = omega arith

pub whole_pos : (N : ℕ) (p : Fraction) → 0 < N → 0 < p.0 → Whole N p → 0 < whole N p
whole_pos N p pos q w = factor_pos p.1 (whole N p) (p.0 * N) (product_pos p.0 N q pos) w.exact

pub numerator_pos : (N : ℕ) (p : Fraction) → Whole N p → 0 < whole N p → 0 < p.0
numerator_pos N p w h = product_below p.0 N (let m = product_pos p.1 (whole N p) w.positive h in omega (arith, w.exact))

-- what a weight counts at its key; 0, where there is none
abbrev part : {K : Type 0} → ℕ → (K → ℕ) → K → Option Fraction → ℕ
part N G k None = 0
part N G k (Some g) = whole N g * G k

pub record Found {K : Type 0} (N : ℕ) (es : List (K × Fraction)) (g : Fraction) : Type 0 where
  pub positive : 0 < g.0
  pub is_whole : Whole N g
  pub within : whole N g ≤ held N (λ k. 1) es

module _ {K : Type 0} (at : K → Bool) where
  found_held : (N : ℕ) (g : Fraction) (es : List (K × Fraction)) → AreHeld N es → lookup at es ≡ Some g → Found N es g
  found_held N g [] h e = cc
  found_held N g (d ∷ es) h e = at_head (at d.0) e (λ p. found_held N g es h.2 p)
    where
      at_head : (b : Bool) → cond b (Some d.1) (lookup at es) ≡ Some g → (lookup at es ≡ Some g → Found N es g) → Found N (d ∷ es) g
      at_head true p i =
          let q : d.1 ≡ g = cc in
          record { positive = subst (λ f. 0 < f.0) q h.0; is_whole = subst (Whole N) q h.1; within = let z : whole N d.1 ≡ whole N g = ap (whole N) q in omega arith }
      at_head false p i = let r = i p in record { positive = r.positive; is_whole = r.is_whole; within = omega (arith, r.within) }

  -- a sum is refused for its width only
  pub put_wide : (f g : Fraction) (es : List (K × Fraction)) (N : ℕ) → lookup at es ≡ Some g → InLowest g → InLowest f → sum_of g f ≡ None →
      0 < N → AreHeld N es → Whole N f → held N (λ k. 1) es + whole N f ≤ N → 2 ^ 128 ≤ N
  put_wide f g es N e lg lf q pos r w most =
      let d = found_held N g es r e in
      sum_refused N g f pos d.is_whole w lg lf (omega (arith, d.within)) q

module _ {K : Type 0} (order : K → K → Ordering) (total : IsTotalOrder order) (equal_is : (x y : K) → order x y ≡ Equal → x ≡ y) where
  held_insert : (N : ℕ) (G : K → ℕ) (k : K) (v : Fraction) (es : List (K × Fraction)) → IsStrictlySortedBy order (keys_of es) →
      held N G (insert_entry order es k v) + part N G k (found order k es) ≡ held N G es + whole N v * G k
  held_insert N G k v [] h = omega arith
  held_insert N G k v (e ∷ es) h = at_head (order k e.0) refl (held_insert N G k v es (sorted_tail order e.0 (keys_of es) h))
    where
      at_head : (o : Ordering) → order k e.0 ≡ o → held N G (insert_entry order es k v) + part N G k (found order k es) ≡ held N G es + whole N v * G k →
          held N G (insert_entry order (e ∷ es) k v) + part N G k (found order k (e ∷ es)) ≡ held N G (e ∷ es) + whole N v * G k
      at_head Less p i = rw p (rw (lookup-none (is_at (order k)) es (none_below_head total k e es h p).1) (omega arith))
      at_head Equal p i = rw p (rw (ap G (equal_is k e.0 p)) (omega arith))
      at_head Greater p i = rw p (omega arith)

  kept_insert : (N : ℕ) (k : K) (v : Fraction) (es : List (K × Fraction)) → 0 < v.0 → Whole N v → AreHeld N es → AreHeld N (insert_entry order es k v)
  kept_insert N k v [] p w h = (p, w, tt)
  kept_insert N k v (e ∷ es) p w h = at_head (order k e.0) refl (kept_insert N k v es p w h.2)
    where
      at_head : (o : Ordering) → order k e.0 ≡ o → AreHeld N (insert_entry order es k v) → AreHeld N (insert_entry order (e ∷ es) k v)
      at_head Less q i = rw q (p, w, h)
      at_head Equal q i = rw q (p, w, h.2)
      at_head Greater q i = rw q (h.0, h.1, i)

  put_new : (k : K) (f : Fraction) (es : List (K × Fraction)) → IsStrictlySortedBy order (keys_of es) → found order k es ≡ None → PutGives es (insert_entry order es k f) k f
  put_new k f es h e N pos r p w =
      (kept_insert N k f es p w r, λ G. let i = held_insert N G k f es h in let z = ap (part N G k) e in omega arith)

  put_old : (k : K) (f g v : Fraction) (es : List (K × Fraction)) → IsStrictlySortedBy order (keys_of es) → found order k es ≡ Some g → sum_of g f ≡ Some v → PutGives es (insert_entry order es k v) k f
  put_old k f g v es h e q N pos r p w =
      let d = found_held (is_at (order k)) N g es r e in
      let u = sum_whole N g f v d.is_whole w q in
      let above : 0 < v.0 = numerator_pos N v u.1 (let m = whole_pos N f pos p w in omega (arith, u.0)) in (
        kept_insert N k v es above u.1 r,
        λ G. let i = held_insert N G k v es h in let z = ap (part N G k) e in let y = ap (λ x. x * G k) u.0 in omega arith,
      )

  pub put_gives : (k : K) (f v : Fraction) (es : List (K × Fraction)) → IsStrictlySortedBy order (keys_of es) → SumAt order es k f v → PutGives es (insert_entry order es k v) k f
  put_gives k f v es h s = by_found (found order k es) refl s
    where
      by_found : (o : Option Fraction) → found order k es ≡ o → MatchOption o (v ≡ f) (λ g. sum_of g f ≡ Some v) → PutGives es (insert_entry order es k v) k f
      by_found None e s = subst (λ v. PutGives es (insert_entry order es k v) k f) (sym s) (put_new k f es h e)
      by_found (Some g) e s = put_old k f g v es h e s
