-- What stands in lists, and among states.
use Rattle.std.proofs.Common.{◌≡◌, ◌⊎◌, inl, inr, ℕ, zero, suc, ◌+◌, ◌<◌, Bool, true, false, cond, ◌&&◌, ◌||◌, Some, is_some, List, [], ◌∷◌, map, drop, get_or, Ordering, refl, sym, ap, ◌∙◌, subst, arith}
use Rattle.std.specs.Prelude.{◌==◌, Contains, slice_index_or, length}
use Rattle.std.specs.declared.cmp.Ordering.TheVariants.{Less, Equal, Greater}
use Rattle.std.specs.Ordering.{nat_cmp, is_eq, ordering_reverse}
use Rattle.std.specs.Cmp.{Equal-is}
use Rattle.std.specs.BTreeMap.{is_at}
use Rattle.std.specs.Map.{lookup}
use Rattle.std.proofs.lemmas.Cmp.{nat_cmp_total}
use Rattle.std.proofs.lemmas.Map.Lookups.{exact_unsigned}
use Rattle.std.proofs.lemmas.Bool.{eqb-true, eq-eqb, false≢true}
use Rattle.std.proofs.lemmas.List.{at_drop_more}
use Rattle.std.proofs.lemmas.List.Elements.{Contains-append_right}
use Rattle.visit_finder.specs.Exact.{is_in}

module _ {X : Type 0} where
  pub first_in : (x : X) (xs : List X) → Contains (x ∷ xs) x
  first_in x xs = (0, omega arith, refl)

  pub behind : (x : X) (xs : List X) (y : X) → Contains xs y → Contains (x ∷ xs) y
  behind x xs y c = Contains-append_right (x ∷ []) xs y c

  pub none_in : (y : X) → Contains [] y → ⊥
  none_in y c = absurd (omega (arith, c.1))

  pub first_or_behind : (x : X) (xs : List X) (y : X) → Contains (x ∷ xs) y → (x ≡ y) ⊎ Contains xs y
  first_or_behind x xs y c = by c.0 c.1 c.2
    where
      by : (k : ℕ) → k < length (x ∷ xs) → slice_index_or (x ∷ xs) k y ≡ y → (x ≡ y) ⊎ Contains xs y
      by zero l e = inl e
      by (suc k) l e = inr (k, omega arith, e)

pub among : (states : List ℕ) (t : ℕ) → is_in states t ≡ true → Contains states t
among [] t e = absurd (false≢true e)
among (s ∷ ss) t e = by (s == t) refl e (λ q. among ss t q)
  where
    by : (b : Bool) → (s == t) ≡ b → (b || is_in ss t) ≡ true → (is_in ss t ≡ true → Contains ss t) → Contains (s ∷ ss) t
    by true p q more = (0, omega arith, eqb-true s t p)
    by false p q more = behind s ss t (more q)

pub is_among : (states : List ℕ) (t : ℕ) → Contains states t → is_in states t ≡ true
is_among [] t c = absurd (none_in t c)
is_among (s ∷ ss) t c = by (first_or_behind s ss t c) (λ c. is_among ss t c)
  where
    either : (b c : Bool) → c ≡ true → (b || c) ≡ true
    either true c e = refl
    either false c e = e

    by : (s ≡ t) ⊎ Contains ss t → (Contains ss t → is_in ss t ≡ true) → ((s == t) || is_in ss t) ≡ true
    by (inl e) more = rw (eq-eqb s t e) refl
    by (inr c) more = either (s == t) (is_in ss t) (more c)

-- lists with the same members
pub same_among : (xs ys : List ℕ) → ((t : ℕ) → Contains xs t → Contains ys t) → ((t : ℕ) → Contains ys t → Contains xs t) → (t : ℕ) → is_in xs t ≡ is_in ys t
same_among xs ys into onto t = by (is_in xs t) (is_in ys t) refl refl
  where
    by : (b c : Bool) → is_in xs t ≡ b → is_in ys t ≡ c → b ≡ c
    by true true p q = refl
    by false false p q = refl
    by true false p q = sym (is_among ys t (into t (among xs t p))) ∙ q
    by false true p q = sym p ∙ is_among xs t (onto t (among ys t q))

equal_to_itself : (o : Ordering) → o ≡ ordering_reverse o → o ≡ Equal
equal_to_itself Less e = cc
equal_to_itself Equal e = refl
equal_to_itself Greater e = cc

same_test : (q k : ℕ) → is_eq (nat_cmp q k) ≡ (k == q)
same_test q k = by (is_eq (nat_cmp q k)) (k == q) refl refl
  where
    by : (b c : Bool) → is_eq (nat_cmp q k) ≡ b → (k == q) ≡ c → b ≡ c
    by true true p r = refl
    by false false p r = refl
    by true false p r = sym (eq-eqb k q (sym (exact_unsigned q k ((Equal-is (nat_cmp q k)).0 p)))) ∙ r
    by false true p r = sym p ∙ (Equal-is (nat_cmp q k)).1 (subst (λ k. nat_cmp q k ≡ Equal) (sym (eqb-true k q r)) (equal_to_itself (nat_cmp q q) (nat_cmp_total.antisymm q q)))

-- the keys of a map
pub found_among : {X : Type 0} (q : ℕ) (es : List (ℕ × X)) → is_some (lookup (is_at (nat_cmp q)) es) ≡ is_in (map (λ e. e.0) es) q
found_among q [] = refl
found_among q (e ∷ es) = by (is_eq (nat_cmp q e.0)) (e.0 == q) (same_test q e.0) (found_among q es)
  where
    by : (b c : Bool) → b ≡ c → is_some (lookup (is_at (nat_cmp q)) es) ≡ is_in (map (λ e. e.0) es) q → is_some (cond b (Some e.1) (lookup (is_at (nat_cmp q)) es)) ≡ (c || is_in (map (λ e. e.0) es) q)
    by true true p i = refl
    by false false p i = i
    by true false p i = absurd (false≢true (sym p))
    by false true p i = absurd (false≢true p)

-- the next of those that are left
pub next_of : {X : Type 0} (xs : List X) (i : ℕ) (x : X) → i < length xs → x ≡ get_or xs i x → drop i xs ≡ x ∷ drop (i + 1) xs
next_of xs i x within is = at_drop_more (λ l. l) xs i x within ∙ ap (λ y. y ∷ drop (i + 1) xs) (sym is)

pub first_out : (b c : Bool) → b ≡ false → (b && c) ≡ false
first_out b c e = rw e refl

pub second_out : (b c : Bool) → c ≡ false → (b && c) ≡ false
second_out true c e = e
second_out false c e = refl

pub not_among : (states : List ℕ) (t : ℕ) → is_in states t ≡ false → Contains states t → ⊥
not_among states t out c = false≢true (sym out ∙ is_among states t c)

pub key_of : {X : Type 0} (es : List (ℕ × X)) (s : ℕ) (x : X) → Contains es (s, x) → Contains (map (λ e. e.0) es) s
key_of [] s x c = absurd (none_in (s, x) c)
key_of {X = X} (e ∷ es) s x c = by (first_or_behind e es (s, x) c) (λ c. key_of es s x c)
  where
    by : (e ≡ (s, x)) ⊎ Contains es (s, x) → (Contains es (s, x) → Contains (map (λ e. e.0) es) s) → Contains (map (λ e. e.0) (e ∷ es)) s
    by (inl p) more = subst (λ q. Contains (e.0 ∷ map (λ e. e.0) es) q) (ap (λ e. e.0) p) (first_in e.0 (map (λ e. e.0) es))
    by (inr c) more = behind e.0 (map (λ e. e.0) es) s (more c)
