-- Residues that are added to those of a key of a map.
use Rattle.std.proofs.Common.{◌≡◌, ◌⊎◌, inl, inr, ℕ, ◌+◌, ◌*◌, ◌/◌, ◌^◌, ◌<◌, Bool, true, false, if◌then◌else◌, Option, Some, None, MatchOption, Ordering, List, [], ◌∷◌, length, refl, sym, ap, ◌∙◌, subst, arith}
use Rattle.std.specs.Prelude.{◌==◌, Contains}
use Rattle.std.specs.declared.cmp.Ordering.TheVariants.{Less, Equal, Greater}
use Rattle.std.specs.Ordering.{nat_cmp}
use Rattle.std.specs.Cmp.{IsTotalOrder}
use Rattle.std.specs.BTreeMap.{insert_entry, is_at}
use Rattle.std.specs.Map.{keys_of, lookup}
use Rattle.std.specs.List.Sorted.{IsStrictlySortedBy}
use Rattle.std.proofs.lemmas.Cmp.{nat_cmp_total, on_total, then_total}
use Rattle.std.proofs.lemmas.Map.{lookup-none}
use Rattle.std.proofs.lemmas.Map.Lookups.{exact_pairs, exact_unsigned}
use Rattle.std.proofs.lemmas.Map.Entries.{none_below_head}
use Rattle.std.proofs.lemmas.Map.Keys.{sorted_tail}
use Rattle.narrow_fractions.specs.Remainders.{Same}
use Rattle.narrow_fractions.proofs.Congruence.{equal, turned, chained, added}
use Rattle.visit_finder.specs.declared.residues.Moduli.{Moduli}
use Rattle.visit_finder.specs.declared.residues.Residues.{Residues}
use Rattle.visit_finder.specs.Places.{modulus, form_at, AreAt, AreForms}
use Rattle.visit_finder.specs.Equations.{entered_at, led_at}
use Rattle.visit_finder.specs.inner.Adding.{ends_order, AreSum, AreAdded}
use Rattle.visit_finder.proofs.Forms.{divided}
use Rattle.visit_finder.proofs.Places.{prime_at, number_of_form}
use Rattle.visit_finder.proofs.Members.{first_in, behind, none_in, first_or_behind}

-- 2 ^ 64 has an inverse
pub word_inverse : (moduli : Moduli) (place : ℕ) → length moduli.primes ≡ 5 → place < 5 → (u : ℕ) × Same (modulus moduli place) (u * 2 ^ 64) 1
word_inverse moduli place count within =
    let p = prime_at moduli.primes place (omega (arith, count, within)) in
    let q = p.0 in
    ((q.p * q.inverse + 1) / 2 ^ 64, subst (λ m. Same m ((q.p * q.inverse + 1) / 2 ^ 64 * 2 ^ 64) 1) (sym p.1) (0, q.inverse, let d = divided (2 ^ 64) (q.p * q.inverse + 1) q.inverted in omega (arith, d)))

-- what a form below a modulus is of
pub number_at : (moduli : Moduli) (place : ℕ) (r : Residues) → length moduli.primes ≡ 5 → place < 5 → form_at place r < modulus moduli place → (v : ℕ) × AreAt moduli place r v
number_at moduli place r count within below = number_of_form moduli place (form_at place r) count within below

-- the forms of a sum
pub sum_at : (moduli : Moduli) (one other sum : Residues) (place : ℕ) → length moduli.primes ≡ 5 → place < 5 → AreForms moduli one → AreForms moduli other → AreSum moduli one other sum →
    (form_at place sum < modulus moduli place) × Same (modulus moduli place) (form_at place sum) (form_at place one + form_at place other)
sum_at moduli one other sum place count within first second is =
    let m = modulus moduli place in
    let a = number_at moduli place one count within (first place within) in
    let b = number_at moduli place other count within (second place within) in
    let s = is place within a.0 b.0 a.1 b.1 in
    (s.0, chained m _ _ _ s.1 (chained m _ _ _ (equal m _ (2 ^ 64 * a.0 + 2 ^ 64 * b.0) (omega arith)) (turned m _ _ (added m _ _ _ _ a.1.1 b.1.1))))

-- the forms of a map's values, each so often as a function of its key says
abbrev pub summed : {K : Type 0} → ℕ → (K → ℕ) → List (K × Residues) → ℕ
summed place G [] = 0
summed place G (e ∷ es) = form_at place e.1 * G e.0 + summed place G es

pub entered_summed : (place s : ℕ) (es : List (ℕ × Residues)) → entered_at place es s ≡ summed place (λ k. if k == s then 1 else 0) es
entered_summed place s [] = refl
entered_summed place s (e ∷ es) = by (e.0 == s) (form_at place e.1) _ _ (entered_summed place s es)
  where
    by : (b : Bool) (f x y : ℕ) → x ≡ y → (if b then f else 0) + x ≡ f * (if b then 1 else 0) + y
    by true f x y e = omega (arith, e)
    by false f x y e = omega (arith, e)

pub led_summed : (place : ℕ) (v : ℕ → ℕ) (s : ℕ) (es : List ((ℕ × ℕ) × Residues)) → led_at place es v s ≡ summed place (λ k. if k.1 == s then v k.0 else 0) es
led_summed place v s [] = refl
led_summed place v s (e ∷ es) = by (e.0.1 == s) (form_at place e.1) (v e.0.0) _ _ (led_summed place v s es)
  where
    by : (b : Bool) (f n x y : ℕ) → x ≡ y → (if b then f * n else 0) + x ≡ f * (if b then n else 0) + y
    by true f n x y e = omega (arith, e)
    by false f n x y e = omega (arith, e)

abbrev old_part : ℕ → ℕ → Option Residues → ℕ
old_part place n None = 0
old_part place n (Some r) = form_at place r * n

-- each entry has something
abbrev pub Each : {K X : Type 0} → (K → X → Type 0) → List (K × X) → Type 0
Each {K} {X} P es = (k : K) (x : X) → Contains es (k, x) → P k x

either : {K X : Type 0} (P : K → X → Type 0) (d : K × X) (ds : List (K × X)) → P d.0 d.1 → Each P ds → Each P (d ∷ ds)
either P d ds one more q x c = by (first_or_behind d ds (q, x) c)
  where
    by : (d ≡ (q, x)) ⊎ Contains ds (q, x) → P q x
    by (inl e) = subst (λ e. P e.0 e.1) e one
    by (inr c) = more q x c

module _ {K : Type 0} (order : K → K → Ordering) (total : IsTotalOrder order) (equal_is : (x y : K) → order x y ≡ Equal → x ≡ y) where
  summed_insert : (place : ℕ) (G : K → ℕ) (k : K) (r : Residues) (es : List (K × Residues)) → IsStrictlySortedBy order (keys_of es) →
      summed place G (insert_entry order es k r) + old_part place (G k) (lookup (is_at (order k)) es) ≡ summed place G es + form_at place r * G k
  summed_insert place G k r [] h = omega arith
  summed_insert place G k r (e ∷ es) h = at_head (order k e.0) refl (summed_insert place G k r es (sorted_tail order e.0 (keys_of es) h))
    where
      at_head : (o : Ordering) → order k e.0 ≡ o → summed place G (insert_entry order es k r) + old_part place (G k) (lookup (is_at (order k)) es) ≡ summed place G es + form_at place r * G k →
          summed place G (insert_entry order (e ∷ es) k r) + old_part place (G k) (lookup (is_at (order k)) (e ∷ es)) ≡ summed place G (e ∷ es) + form_at place r * G k
      at_head Less p i = rw p (rw (lookup-none (is_at (order k)) es (none_below_head total k e es h p).1) (omega arith))
      at_head Equal p i = rw p (rw (ap G (equal_is k e.0 p)) (omega arith))
      at_head Greater p i = rw p (omega arith)

  pub each_insert : {X : Type 0} (P : K → X → Type 0) (k : K) (r : X) (es : List (K × X)) → P k r → Each P es → Each P (insert_entry order es k r)
  each_insert P k r [] new old = either P (k, r) [] new old
  each_insert P k r (e ∷ es) new old = at_head (order k e.0) refl (each_insert P k r es new (λ q x c. old q x (behind e es (q, x) c)))
    where
      at_head : (o : Ordering) → order k e.0 ≡ o → Each P (insert_entry order es k r) → Each P (insert_entry order (e ∷ es) k r)
      at_head Less p i = rw p (either P (k, r) (e ∷ es) new old)
      at_head Equal p i = rw p (either P (e.0, r) es (subst (λ k. P k r) (equal_is k e.0 p) new) (λ q x c. old q x (behind e es (q, x) c)))
      at_head Greater p i = rw p (either P e (insert_entry order es k r) (old e.0 e.1 (first_in e es)) i)

  -- the keys that were there, and the new one
  pub still_among : {X : Type 0} (k : K) (x : X) (es : List (K × X)) (q : K) → (k ≡ q) ⊎ Contains (keys_of es) q → Contains (keys_of (insert_entry order es k x)) q
  still_among k x [] q c = subst (λ q. Contains (k ∷ []) q) (here c) (first_in k [])
    where
      here : (k ≡ q) ⊎ Contains [] q → k ≡ q
      here (inl e) = e
      here (inr c) = absurd (none_in q c)
  still_among k x (e ∷ es) q c = at_head (order k e.0) refl c (λ c. still_among k x es q c)
    where
      at_front : (h : K) (hs : List K) → (h ≡ q) ⊎ Contains hs q → Contains (h ∷ hs) q
      at_front h hs (inl e) = subst (λ q. Contains (h ∷ hs) q) e (first_in h hs)
      at_front h hs (inr c) = behind h hs q c

      equal : k ≡ e.0 → (k ≡ q) ⊎ Contains (e.0 ∷ keys_of es) q → Contains (e.0 ∷ keys_of es) q
      equal p (inl f) = at_front e.0 (keys_of es) (inl (sym p ∙ f))
      equal p (inr c) = c

      greater : (k ≡ q) ⊎ Contains (e.0 ∷ keys_of es) q → ((k ≡ q) ⊎ Contains (keys_of es) q → Contains (keys_of (insert_entry order es k x)) q) → Contains (e.0 ∷ keys_of (insert_entry order es k x)) q
      greater (inl f) more = behind e.0 (keys_of (insert_entry order es k x)) q (more (inl f))
      greater (inr c) more = by (first_or_behind e.0 (keys_of es) q c)
        where
          by : (e.0 ≡ q) ⊎ Contains (keys_of es) q → Contains (e.0 ∷ keys_of (insert_entry order es k x)) q
          by (inl f) = at_front e.0 (keys_of (insert_entry order es k x)) (inl f)
          by (inr c) = at_front e.0 (keys_of (insert_entry order es k x)) (inr (more (inr c)))

      at_head : (o : Ordering) → order k e.0 ≡ o → (k ≡ q) ⊎ Contains (e.0 ∷ keys_of es) q → ((k ≡ q) ⊎ Contains (keys_of es) q → Contains (keys_of (insert_entry order es k x)) q) →
          Contains (keys_of (insert_entry order (e ∷ es) k x)) q
      at_head Less p c more = rw p (at_front k (e.0 ∷ keys_of es) c)
      at_head Equal p c more = rw p (equal (equal_is k e.0 p) c)
      at_head Greater p c more = rw p (greater c more)

  found_in : (P : K → Residues → Type 0) (k : K) (old : Residues) (es : List (K × Residues)) → lookup (is_at (order k)) es ≡ Some old → Each P es → P k old
  found_in P k old [] e h = cc
  found_in P k old (d ∷ ds) e h = at_head (order k d.0) refl e (λ e. found_in P k old ds e (λ q x c. h q x (behind d ds (q, x) c)))
    where
      at_head : (o : Ordering) → order k d.0 ≡ o → lookup (is_at (order k)) (d ∷ ds) ≡ Some old → (lookup (is_at (order k)) ds ≡ Some old → P k old) → P k old
      at_head Less p e more = more (rw p at e)
      at_head Equal p e more =
          let f : d.1 ≡ old = let g = rw p at e in cc in
          subst (λ k. P k old) (sym (equal_is k d.0 p)) (subst (λ x. P d.0 x) f (h d.0 d.1 (first_in d ds)))
      at_head Greater p e more = more (rw p at e)

  -- the forms of all keys, once residues were added to those of one
  pub record Added (moduli : Moduli) (P : K → Type 0) (es fs : List (K × Residues)) (k : K) (r : Residues) : Type 0 where
    pub each : Each (λ k r. P k × AreForms moduli r) fs
    pub sums : (place : ℕ) → place < 5 → (G : K → ℕ) → Same (modulus moduli place) (summed place G fs) (form_at place r * G k + summed place G es)

  pub added_at : (moduli : Moduli) (P : K → Type 0) (es fs : List (K × Residues)) (k : K) (r : Residues) → length moduli.primes ≡ 5 → P k → AreForms moduli r →
      Each (λ k r. P k × AreForms moduli r) es → AreAdded order moduli es fs k r → Added moduli P es fs k r
  added_at moduli P es fs k r count key form old add = subst (λ fs. Added moduli P es fs k r) (sym add.1.2) (by add.1.0 (lookup (is_at (order k)) es) refl add.1.1)
    where
      by : (sum : Residues) (o : Option Residues) → lookup (is_at (order k)) es ≡ o → MatchOption o (sum ≡ r) (λ old. AreSum moduli old r sum) → Added moduli P es (insert_entry order es k sum) k r
      by sum None e is = record {
        each = each_insert (λ k r. P k × AreForms moduli r) k sum es (key, subst (AreForms moduli) (sym is) form) old;
        sums = λ place within G. equal (modulus moduli place) _ _ (
            let i = summed_insert place G k sum es add.0 in
            let z = ap (old_part place (G k)) e in
            let y = ap (λ x. form_at place x * G k) is in
            omega (arith, i, z, y)
            );
      }
      by sum (Some x) e is =
          let before = (found_in (λ k r. P k × AreForms moduli r) k x es e old).1 in
          let at : (place : ℕ) → place < 5 → (form_at place sum < modulus moduli place) × Same (modulus moduli place) (form_at place sum) (form_at place x + form_at place r) =
          λ place within. sum_at moduli x r sum place count within before form is
          in
          record {
            each = each_insert (λ k r. P k × AreForms moduli r) k sum es (key, λ place within. (at place within).0) old;
            sums = λ place within G.
                joined (modulus moduli place) (form_at place sum) (form_at place x) (form_at place r) (G k) (summed place G (insert_entry order es k sum)) (summed place G es) (at place within).1 (
                let i = summed_insert place G k sum es add.0 in
                let z = ap (old_part place (G k)) e in
                omega (arith, i, z)
                );
          }
        where
          joined : (m s x r n a b : ℕ) → Same m s (x + r) → a + x * n ≡ b + s * n → Same m a (r * n + b)
          joined m s x r n a b h e = (n * h.0, n * h.1, whole m s x r n a b h.0 h.1 e h.2)
            where
              whole : (m s x r n a b i j : ℕ) → a + x * n ≡ b + s * n → s + m * i ≡ x + r + m * j → a + m * (n * i) ≡ r * n + b + m * (n * j)
              whole m s x r n a b i j e h = let q = ap (λ k. n * k) h in omega (arith, e, q)

pub ends_exact : (x y : ℕ × ℕ) → ends_order x y ≡ Equal → x ≡ y
ends_exact = exact_pairs nat_cmp nat_cmp exact_unsigned exact_unsigned

pub ends_total : IsTotalOrder ends_order
ends_total = then_total (on_total (λ ends. ends.0) nat_cmp_total) (on_total (λ ends. ends.1) nat_cmp_total)
