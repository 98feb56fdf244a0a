-- What was found at five moduli of which none is lost is the only fraction that the visits can be, whatever visits balance.
use Rattle.std.proofs.Common.{◌≡◌, ◌⊎◌, inl, inr, ℕ, zero, suc, ◌+◌, ◌*◌, ◌/◌, ◌^◌, ◌≤◌, ◌<◌, ◌&&◌, cond, List, [], ◌∷◌, ◌++◌, map, length, refl, sym, ap, ◌∙◌, subst, subst₂, arith}
use Rattle.std.specs.Prelude.{Contains}
use Rattle.std.specs.Ordering.{nat_cmp}
use Rattle.std.specs.List.Sorted.{IsStrictlySortedBy}
use Rattle.std.specs.Map.{keys_of}
use Rattle.std.proofs.Math.Nat.{mul-div_right}
use Rattle.std.proofs.lemmas.Cmp.{nat_cmp_total, eq_by_cmp_equiv}
use Rattle.std.proofs.lemmas.Map.Keys.{IsDistinct-from_sorted}
use Rattle.std.proofs.lemmas.Map.Views.{lookup-from_Contains}
use Rattle.std.proofs.lemmas.List.Elements.{Contains-append_left, Contains-append_right, Contains-append_cases}
use Rattle.numbers.specs.Fraction.{Fraction}
use Rattle.narrow_fractions.specs.Remainders.{Same}
use Rattle.narrow_fractions.proofs.Congruence.{equal, turned, chained, added, times, cancelled}
use Rattle.visit_finder.specs.declared.residues.Moduli.{Moduli}
use Rattle.visit_finder.specs.declared.residues.Residues.{Residues}
use Rattle.visit_finder.specs.Places.{modulus, form_at, AreForms, AreOfFraction}
use Rattle.visit_finder.specs.Equations.{entered_at}
use Rattle.visit_finder.specs.Exact.{Turn, Entry, is_in, turns_within, entries_within, common, common_of, entered, led, BalanceExactly, AreClosed, AreOnly, HaveNone}
use Rattle.visit_finder.specs.Multiples.{HasInverse, HaveInverses, IsMultiple, turn_weights, entry_weights, AreOfEntries, AreVisits}
use Rattle.visit_finder.specs.inner.Fractions.{AreFractions, SomeHasNone}
use Rattle.visit_finder.proofs.Members.{none_in, first_or_behind, behind, first_in, same_among, key_of}
use Rattle.visit_finder.proofs.Places.{modulus_some}
use Rattle.visit_finder.proofs.Adding.{word_inverse}
use Rattle.visit_finder.proofs.Fractions.{entry_of}
use Rattle.visit_finder.proofs.Balance.{remainder_of, led_times}

-- ---- common multiples
divides : (fs : List Fraction) (f : Fraction) → Contains fs f → (k : ℕ) × (common fs ≡ f.1 * k)
divides [] f c = absurd (none_in f c)
divides (g ∷ gs) f c = by (first_or_behind g gs f c) (λ c. divides gs f c)
  where
    by : (g ≡ f) ⊎ Contains gs f → (Contains gs f → (k : ℕ) × (common gs ≡ f.1 * k)) → (k : ℕ) × (g.1 * common gs ≡ f.1 * k)
    by (inl e) more = (common gs, ap (λ h. h.1 * common gs) e)
    by (inr c) more = let d = more c in (g.1 * d.0, let e = ap (λ n. g.1 * n) d.1 in omega (arith, e))

multiple_of : (n d k : ℕ) → n ≡ d * k → d * (n / d) ≡ n
multiple_of n zero k e = omega (arith, e)
multiple_of n (suc d) k e = ap (λ x. suc d * (x / suc d)) e ∙ ap (λ x. suc d * x) (mul-div_right k (omega arith)) ∙ sym e

common_multiple : (fs : List Fraction) → IsMultiple (common fs) fs
common_multiple fs f c = let d = divides fs f c in multiple_of (common fs) f.1 d.0 d.1

common_inverse : (m : ℕ) (fs : List Fraction) → HaveInverses m fs → HasInverse m (common fs)
common_inverse m [] h = (1, equal m _ _ refl)
common_inverse m (f ∷ fs) h =
    let a = h f (first_in f fs) in
    let b = common_inverse m fs (λ g c. h g (behind f fs g c)) in
    (a.0 * b.0, chained m _ _ _ (equal m _ (a.0 * f.1 * (b.0 * common fs)) (omega arith)) (chained m _ _ _ (times m (a.0 * f.1) _ _ b.1) (chained m _ _ _ (equal m _ (a.0 * f.1) (omega arith)) a.1)))

-- ---- the same states in another order
same_turns : (xs ys : List ℕ) (turns : List Turn) → ((t : ℕ) → is_in xs t ≡ is_in ys t) → turns_within xs turns ≡ turns_within ys turns
same_turns xs ys [] same = refl
same_turns xs ys (e ∷ es) same =
    ap (λ b. cond (b && is_in xs e.1) (e ∷ turns_within xs es) (turns_within xs es)) (same e.0) ∙ ap (λ b. cond (is_in ys e.0 && b) (e ∷ turns_within xs es) (turns_within xs es)) (same e.1)
    ∙ ap (λ l. cond (is_in ys e.0 && is_in ys e.1) (e ∷ l) l) (same_turns xs ys es same)

same_entries : (xs ys : List ℕ) (entries : List Entry) → ((t : ℕ) → is_in xs t ≡ is_in ys t) → entries_within xs entries ≡ entries_within ys entries
same_entries xs ys [] same = refl
same_entries xs ys (e ∷ es) same = ap (λ b. cond b (e ∷ entries_within xs es) (entries_within xs es)) (same e.0) ∙ ap (λ l. cond (is_in ys e.0) (e ∷ l) l) (same_entries xs ys es same)

same_balance : (xs ys : List ℕ) (turns : List Turn) (entries : List Entry) (once : ℕ) (v : ℕ → ℕ) → ((t : ℕ) → Contains xs t → Contains ys t) → ((t : ℕ) → Contains ys t → Contains xs t) →
    BalanceExactly xs turns entries once v → BalanceExactly ys turns entries once v
same_balance xs ys turns entries once v into onto h =
    let same = same_among xs ys into onto in
    subst₂ (λ inner begun. (s : ℕ) → Contains ys s → common_of inner begun * v s ≡ entered (common_of inner begun) begun s * once + led (common_of inner begun) inner v s)
    (same_turns xs ys turns same) (same_entries xs ys entries same) (λ s c. h s (onto s c))

-- ---- a map has one value at each key
one_value : {X : Type 0} (es : List (ℕ × X)) (s : ℕ) (x y : X) → IsStrictlySortedBy nat_cmp (keys_of es) → Contains es (s, x) → Contains es (s, y) → x ≡ y
one_value es s x y ordered a b =
    let distinct = IsDistinct-from_sorted nat_cmp (keys_of es) ordered in
    let equiv = eq_by_cmp_equiv nat_cmp_total in
    let e = sym (lookup-from_Contains equiv s x es distinct a) ∙ lookup-from_Contains equiv s y es distinct b in
    cc

-- ---- what balances exactly, at a place
module _ (m place : ℕ) (states : List ℕ) (turns : List Turn) (entries : List Entry) (begun found : List (ℕ × Residues)) (pos : 1 ≤ m) (word : HasInverse m (2 ^ 64))
    (ordered : IsStrictlySortedBy nat_cmp (keys_of found)) (enter : AreOfEntries m place (entries_within states entries) begun) (visits : AreVisits m place states turns begun found) where
  -- one number of what is found
  abbrev number : Residues → ℕ
  number r = word.0 * form_at place r

  pub found_of : (once : ℕ) (v : ℕ → ℕ) → BalanceExactly states turns entries once v → (s : ℕ) → Contains states s → (r : Residues) × Contains found (s, r) × Same m (2 ^ 64 * v s) (once * form_at place r)
  found_of once v balance s c =
      let inner = turns_within states turns in
      let within = entries_within states entries in
      let fs = turn_weights inner in
      let gs = entry_weights within in
      let whole = common_of inner within in
      let inverse = common_inverse m (fs ++ gs) (λ f c. either f (Contains-append_cases fs gs f c)) in
      visits.known whole (λ f c. common_multiple (fs ++ gs) f (Contains-append_left fs gs f c)) inverse once v (λ s c.
      by (2 ^ 64) whole (v s) (entered whole within s) once (led whole inner v s) (entered_at place begun s)
      (enter.enters whole (λ f c. common_multiple (fs ++ gs) f (Contains-append_right fs gs f c)) s) (balance s c)) s c
    where
      either : (f : Fraction) → Contains (turn_weights (turns_within states turns)) f ⊎ Contains (entry_weights (entries_within states entries)) f → HasInverse m f.1
      either f (inl c) = visits.inverses f c
      either f (inr c) = enter.inverses f c

      by : (w whole x a once l b : ℕ) → Same m (w * a) (whole * b) → whole * x ≡ a * once + l → Same m (w * (whole * x)) (whole * (b * once) + w * l)
      by w whole x a once l b h e =
          chained m _ _ _ (equal m _ (once * (w * a) + w * l) (let f = ap (λ n. w * n) e in omega (arith, f)))
          (chained m _ _ _ (added m (once * (w * a)) (once * (whole * b)) (w * l) (w * l) (times m once _ _ h) (equal m _ _ refl)) (equal m _ _ (omega arith)))

  without_word : (x once form : ℕ) → Same m (2 ^ 64 * x) (once * form) → Same m x (once * (word.0 * form))
  without_word x once form h =
      cancelled m (2 ^ 64) word.0 x (once * (word.0 * form)) word.1 (chained m _ _ _ h (chained m _ _ _ (equal m _ (once * form * 1) (omega arith))
      (chained m _ _ _ (times m (once * form) _ _ (turned m _ _ word.1)) (equal m _ _ (omega arith)))))

  known : (once : ℕ) (v : ℕ → ℕ) → BalanceExactly states turns entries once v → (t : ℕ) → Contains states t → (r : ℕ) × Same m (v t) (once * r)
  known once v balance t c = let f = found_of once v balance t c in (number f.0, without_word (v t) once (form_at place f.0) f.2)

  -- each state has something
  pub each_found : (s : ℕ) → Contains states s → (r : Residues) × Contains found (s, r)
  each_found s c = let f = found_of 0 (λ t. 0) (λ s c. nothing s) s c in (f.0, f.1)
    where
      nothing : (s : ℕ) → common_of (turns_within states turns) (entries_within states entries) * 0
          ≡ entered (common_of (turns_within states turns) (entries_within states entries)) (entries_within states entries) s * 0 + led (common_of (turns_within states turns) (entries_within states entries)) (turns_within states turns) (λ t. 0) s
      nothing s =
          let l = led_times (common_of (turns_within states turns) (entries_within states entries)) 0 states turns (λ t. 0) (λ t. 0) (λ t c. omega arith) s in
          omega (arith, l)

  pub fraction_at : (s : ℕ) (r : Residues) → Contains states s → Contains found (s, r) → (once : ℕ) (v : ℕ → ℕ) → 1 ≤ once → BalanceExactly states turns entries once v →
      (num den : ℕ) → den * v s ≡ once * num → Same m (den * form_at place r) (2 ^ 64 * num)
  fraction_at s r here there once v positive balance num den e =
      let is = remainder_of m states turns entries pos known s (number r) here (λ once v balance. one once v (found_of once v balance s here)) once v positive balance num den e in
      chained m _ _ _ (equal m _ (den * form_at place r * 1) (omega arith)) (chained m _ _ _ (times m (den * form_at place r) _ _ (turned m _ _ word.1))
      (chained m _ _ _ (equal m _ (2 ^ 64 * (den * (word.0 * form_at place r))) (omega arith)) (times m (2 ^ 64) _ _ is)))
    where
      one : (once : ℕ) (v : ℕ → ℕ) → (x : Residues) × Contains found (s, x) × Same m (2 ^ 64 * v s) (once * form_at place x) → Same m (v s) (once * number r)
      one once v f = without_word (v s) once (form_at place r) (subst (λ x. Same m (2 ^ 64 * v s) (once * form_at place x)) (one_value found s f.0 r ordered f.1 there) f.2)

-- ---- at all places
pub record AllFound (moduli : Moduli) (states : List ℕ) (turns : List Turn) (entries : List Entry) (begun visits : List (ℕ × Residues)) : Type 0 where
  pub count : length moduli.primes ≡ 5
  pub closed : AreClosed states turns
  pub entered : (place : ℕ) → place < 5 → AreOfEntries (modulus moduli place) place (entries_within states entries) begun
  pub visited : (place : ℕ) → place < 5 → AreVisits (modulus moduli place) place states turns begun visits

module _ (moduli : Moduli) (states : List ℕ) (turns : List Turn) (entries : List Entry) (begun visits : List (ℕ × Residues)) (all : AllFound moduli states turns entries begun visits) where
  of_fraction : IsStrictlySortedBy nat_cmp (keys_of visits) → (s : ℕ) (r : Residues) → Contains states s → Contains visits (s, r) → (once : ℕ) (v : ℕ → ℕ) → 1 ≤ once → BalanceExactly states turns entries once v →
      (num den : ℕ) → den * v s ≡ once * num → AreOfFraction moduli r num den
  of_fraction ordered s r here there once v positive balance num den e place within =
      fraction_at (modulus moduli place) place states turns entries begun visits (modulus_some moduli place all.count within) (word_inverse moduli place all.count within) ordered
      (all.entered place within) (all.visited place within) s r here there once v positive balance num den e

  forms : (s : ℕ) (r : Residues) → Contains visits (s, r) → AreForms moduli r
  forms s r there place within = (all.visited place within).below s r there

  pub are_only : (found : List (ℕ × Fraction)) → AreFractions moduli states visits found → AreOnly turns entries found
  are_only found h = record {
    closed = λ t s f turn c. onto t (all.closed t s f turn (into s c));
    only = λ s f c once v positive balance num den some low high e.
        let was = h.each s f c in
        was.1.2 (forms s was.1.0 was.1.1) num den some low high
        (of_fraction h.ordered s was.1.0 was.0 was.1.1 once v positive (same_balance (map (λ e. e.0) found) states turns entries once v into onto balance) num den e);
  }
    where
      into : (s : ℕ) → Contains (map (λ e. e.0) found) s → Contains states s
      into s c = let f = entry_of found s c in (h.each s f.0 f.1).0

      first : 0 < 5
      first = omega arith

      onto : (s : ℕ) → Contains states s → Contains (map (λ e. e.0) found) s
      onto s c =
          let r = each_found (modulus moduli 0) 0 states turns entries begun visits (modulus_some moduli 0 all.count first) (word_inverse moduli 0 all.count first) h.ordered
          (all.entered 0 first) (all.visited 0 first) s c in
          h.all s c (key_of visits s r.0 r.1)

  pub have_none : SomeHasNone moduli states visits → HaveNone turns entries
  have_none h = record {
    states = states;
    closed = all.closed;
    state = h.state;
    among = h.among;
    none = λ once v positive balance num den some low high e.
        h.none (forms h.state h.residues h.there) num den some low high (of_fraction h.ordered h.state h.residues h.among h.there once v positive balance num den e);
  }
