-- What a draw gives of a table with each state once, beside what it gives of the list that the table stands for.
use Rattle.std.proofs.Common.{◌≡◌, ℕ, zero, suc, ◌+◌, ◌*◌, ◌/◌, ◌≤◌, ◌<◌, Bool, true, false, cond, [], ◌∷◌, Option, Ok, Err, ℤ, pos, negsuc, refl, sym, ap, ◌∙◌, subst, arith}
use Prim.Native.Nat.{◌∣◌}
use native.Mathlib.Nat.{mul-div_cancel', dvd-mul_right}
use Rattle.std.specs.Map.{keys_of}
use Rattle.std.specs.List.{IsDistinct, AllByRecursion}
use Rattle.std.specs.List.Sorted.{IsStrictlySortedBy}
use Rattle.std.proofs.lemmas.Map.Keys.{IsDistinct-from_sorted, IsDistinct-head, IsDistinct-tail}
use Rattle.gcl_core.specs.meaning.Value.{State, Value}
use Rattle.gcl_core.specs.meaning.Blocks.{by_value, by_bound}
use Rattle.gcl_core.specs.weighing.Fractions.{Fraction, times, one}
use Rattle.gcl_core.specs.weighing.WeightedEnds.{scaled, class_weight, no_class_weight}
use Rattle.numbers.specs.Fraction.{IsEqual}
use Rattle.numbers.proofs.Divisors.{product_pos, along_to, cancel}
use Rattle.table_flow.specs.Tables.{Table, draw_weights}
use Rattle.table_flow.specs.Scale.{whole, Whole, Wholes, AllWhole, amount}
use Rattle.table_flow.specs.Counts.{part_at, rest_at}
use Rattle.table_flow.proofs.FlowWords.{bound_draws, multiplied}
use Rattle.table_flow.proofs.Amounts.{all_first, all_second}
use Rattle.table_flow.proofs.Wholes.{whole_from}
use Rattle.table_flow.proofs.Draws.{share, class_pos, no_class_pos}
use Rattle.table_flow.proofs.EqualFractions.{equal_times}
use Rattle.table_flow.proofs.Spreads.{times_swap}
use Rattle.mass_fold.specs.Amounts.{held, AreHeld}
use Rattle.mass_fold.specs.inner.Amounts.{Entries, order}
use Rattle.mass_fold.specs.inner.Steps.{Shares, shared, EachState, BothWhole}
use Rattle.mass_fold.specs.inner.Fold.{Stands}
use Rattle.mass_fold.proofs.Entries.{same, same_is, same_is_eq, at}
use Rattle.mass_fold.proofs.Insertion.{whole_pos}
use Rattle.mass_fold.proofs.Powers.{equal_whole}

-- ---- a fact of each state
abbrev pub EachIn : (State → Type 0) → Table → Type 0
EachIn Fact [] = Unit {0}
EachIn Fact (e ∷ I) = Fact e.1 × EachIn Fact I

found_in : (Fact : State → Type 0) (N : ℕ) (q : State) (I : Table) → 0 < amount N (at q) I → EachIn Fact I → Fact q
found_in Fact N q [] h k = absurd (omega arith)
found_in Fact N q (e ∷ I) h k = at_head (same q e.1) refl (λ p. found_in Fact N q I p k.1)
  where
    at_head : (b : Bool) → same q e.1 ≡ b → (0 < amount N (at q) I → Fact q) → Fact q
    at_head true p i = subst Fact (sym ((same_is q e.1).0 p)) k.0
    at_head false p i = i (let z = ap (λ b. whole N e.0 * cond b 1 0) p in omega arith)

each_from : (Fact : State → Type 0) (N : ℕ) (all es : Entries) (I : Table) → 0 < N → AreHeld N es → ((q : State) → held N (at q) es ≤ held N (at q) all) → ((q : State) → held N (at q) all ≡ amount N (at q) I) → EachIn Fact I → EachState Fact es
each_from Fact N all [] I Np h k e f = tt
each_from Fact N all (d ∷ es) I Np h k e f =
    let self : same d.0 d.0 ≡ true = (same_is d.0 d.0).1 refl in
    let here : 0 < amount N (at d.0) I = let x = k d.0 in let y = e d.0 in let w = whole_pos N d.1 Np h.0 h.1 in let z = ap (λ b. whole N d.1 * cond b 1 0) self in omega arith in
    (found_in Fact N d.0 I here f, each_from Fact N all es I Np h.2 (λ q. let x = k q in omega arith) e f)

pub each_state : (Fact : State → Type 0) (N : ℕ) (es : Entries) (I : Table) → 0 < N → Stands N es I → EachIn Fact I → EachState Fact es
each_state Fact N es I Np s f = each_from Fact N es es I Np s.kept (λ q. omega arith) (λ q. s.same (at q)) f

-- ---- each product is whole
none_at : (N : ℕ) (s : State) (es : Entries) → AllByRecursion (λ y. same s y ≡ false) (keys_of es) → held N (at s) es ≡ 0
none_at N s [] h = refl
none_at N s (e ∷ es) h = let i = none_at N s es h.1 in let z = ap (λ b. whole N e.1 * cond b 1 0) h.0 in omega arith

module _ (p : State → Fraction) (above : (s : State) → 0 < (p s).1) where
  shares_from : (N : ℕ) (V : State → ℕ) (es : Entries) → AreHeld N es → IsDistinct same (keys_of es) → ((s : State) → (p s).1 * V s ≡ (p s).0 * held N (at s) es) → Shares N p es
  shares_from N V [] k d h = tt
  shares_from N V (e ∷ es) k d h =
      let none = none_at N e.0 es (IsDistinct-head same e.0 (keys_of es) d) in
      let self : same e.0 e.0 ≡ true = (same_is e.0 e.0).1 refl in
      let w = p e.0 in
      let here : w.1 * V e.0 ≡ w.0 * whole N e.1 = let x = h e.0 in let z = ap (λ b. whole N e.1 * cond b 1 0) self in along w.1 w.0 (V e.0) (whole N e.1) (held N (at e.0) (e ∷ es)) x (let y : held N (at e.0) (e ∷ es) ≡ whole N e.1 = omega arith in y) in (
        (whole_from N (times e.1 w) (V e.0) (product_pos e.1.1 w.1 k.1.positive (above e.0)) (exact e.1.0 e.1.1 w.0 w.1 (whole N e.1) (V e.0) N k.1.exact here)).1,
        shares_from N (λ s. cond (same s e.0) 0 (V s)) es k.2 (IsDistinct-tail same e.0 (keys_of es) d) (λ s. rest s (same s e.0) refl none (h s)),
      )
    where
      along : (a b x y z : ℕ) → a * x ≡ b * z → z ≡ y → a * x ≡ b * y
      along a b x y z p q = p ∙ ap (λ u. b * u) q

      exact : (f0 f1 w0 w1 U V N : ℕ) → f1 * U ≡ f0 * N → w1 * V ≡ w0 * U → f1 * w1 * V ≡ f0 * w0 * N
      exact f0 f1 w0 w1 U V N p q = let a = ap (λ x. w0 * x) p in let b = ap (λ x. f1 * x) q in omega arith

      rest : (s : State) (b : Bool) → same s e.0 ≡ b → held N (at e.0) es ≡ 0 → (p s).1 * V s ≡ (p s).0 * held N (at s) (e ∷ es) → (p s).1 * cond (same s e.0) 0 (V s) ≡ (p s).0 * held N (at s) es
      rest s true q none x =
          let r : s ≡ e.0 = (same_is s e.0).0 q in
          let z : held N (at s) es ≡ 0 = ap (λ y. held N (at y) es) r ∙ none in
          rw q (rw z (omega arith))
      rest s false q none x = rw q (x ∙ ap (λ b. (p s).0 * (whole N e.1 * cond b 1 0 + held N (at s) es)) q ∙ omega arith)

  at_multiplied : (N : ℕ) (s : State) (I : Table) → Wholes N I → Wholes N (multiplied p I) → (p s).1 * amount N (at s) (multiplied p I) ≡ (p s).0 * amount N (at s) I
  at_multiplied N s [] a b = omega arith
  at_multiplied N s (e ∷ I) a b = at_head (same s e.1) refl (at_multiplied N s I a.1 b.1)
    where
      at_head : (t : Bool) → same s e.1 ≡ t → (p s).1 * amount N (at s) (multiplied p I) ≡ (p s).0 * amount N (at s) I → (p s).1 * amount N (at s) (multiplied p (e ∷ I)) ≡ (p s).0 * amount N (at s) (e ∷ I)
      at_head true q i =
          let r : e.1 ≡ s = sym ((same_is s e.1).0 q) in
          let x : (p s).1 * whole N (times e.0 (p e.1)) ≡ (p s).0 * whole N e.0 = subst (λ s. (p s).1 * whole N (times e.0 (p e.1)) ≡ (p s).0 * whole N e.0) r (share N e.0 (p e.1) a.0 b.0) in
          rw q (added (p s).1 (p s).0 _ _ _ _ x i)
        where
          added : (d n V U A B : ℕ) → d * V ≡ n * U → d * A ≡ n * B → d * (V * 1 + A) ≡ n * (U * 1 + B)
          added d n V U A B x i = omega arith
      at_head false q i = rw q (added (p s).1 (p s).0 (whole N (times e.0 (p e.1))) (whole N e.0) _ _ i)
        where
          added : (d n V U A B : ℕ) → d * A ≡ n * B → d * (V * 0 + A) ≡ n * (U * 0 + B)
          added d n V U A B i = let a : V * 0 + A ≡ A = omega arith in let b : U * 0 + B ≡ B = omega arith in rw (a, b) i

  -- ---- a number that all denominators divide
  abbrev dens : Table → ℕ
  dens [] = 1
  dens (e ∷ I) = (p e.1).1 * dens I

  dens_pos : (I : Table) → 0 < dens I
  dens_pos [] = omega arith
  dens_pos (e ∷ I) = product_pos (p e.1).1 (dens I) (above e.1) (dens_pos I)

  dens_divide : (I : Table) (M K : ℕ) → dens I * M ≡ K → EachIn (λ s. (p s).1 ∣ K) I
  dens_divide [] M K e = tt
  dens_divide (d ∷ I) M K e =
      let a : (p d.1).1 * (dens I * M) ≡ K = assoc (p d.1).1 (dens I) M K e in
      let b : dens I * ((p d.1).1 * M) ≡ K = turn (p d.1).1 (dens I) M K e in
      (along_to (p d.1).1 ((p d.1).1 * (dens I * M)) K a (dvd-mul_right (p d.1).1 (dens I * M)), dens_divide I ((p d.1).1 * M) K b)
    where
      assoc : (x y z k : ℕ) → x * y * z ≡ k → x * (y * z) ≡ k
      assoc x y z k e = omega arith

      turn : (x y z k : ℕ) → x * y * z ≡ k → y * (x * z) ≡ k
      turn x y z k e = omega arith

  abbrev cleared : ℕ → (State → ℕ) → State → ℕ
  cleared K G s = K / (p s).1 * (p s).0 * G s

  one_cleared : (d n k K V U g : ℕ) → d * k ≡ K → d * V ≡ n * U → K * (V * g) ≡ U * (k * n * g)
  one_cleared d n k K V U g e x = let a = ap (λ z. z * (V * g)) e in let b = ap (λ z. k * (z * g)) x in omega arith

  amount_cleared : (N K : ℕ) (G : State → ℕ) (I : Table) → Wholes N I → Wholes N (multiplied p I) → EachIn (λ s. (p s).1 ∣ K) I → K * amount N G (multiplied p I) ≡ amount N (cleared K G) I
  amount_cleared N K G [] a b c = omega arith
  amount_cleared N K G (e ∷ I) a b c =
      let i = amount_cleared N K G I a.1 b.1 c.1 in
      let x = one_cleared (p e.1).1 (p e.1).0 (K / (p e.1).1) K (whole N (times e.0 (p e.1))) (whole N e.0) (G e.1) (mul-div_cancel' (p e.1).1 c.0) (share N e.0 (p e.1) a.0 b.0) in
      omega arith

  shared_cleared : (N K : ℕ) (G : State → ℕ) (es : Entries) → AreHeld N es → Shares N p es → EachState (λ s. (p s).1 ∣ K) es → K * shared N p G es ≡ held N (cleared K G) es
  shared_cleared N K G [] a b c = omega arith
  shared_cleared N K G (e ∷ es) a b c =
      let i = shared_cleared N K G es a.2 b.1 c.1 in
      let x = one_cleared (p e.0).1 (p e.0).0 (K / (p e.0).1) K (whole N (times e.1 (p e.0))) (whole N e.1) (G e.0) (mul-div_cancel' (p e.0).1 c.0) (share N e.1 (p e.0) a.1 b.0) in
      omega arith

  pub shares_stand : (N : ℕ) (es : Entries) (I : Table) → 0 < N → IsStrictlySortedBy order (keys_of es) → Wholes N I → Wholes N (multiplied p I) → Stands N es I →
      Shares N p es × ((G : State → ℕ) → shared N p G es ≡ amount N G (multiplied p I))
  shares_stand N es I Np o w m s =
      let ks = keys_of es in
      let d : IsDistinct same ks = subst (λ E. IsDistinct E ks) (sym same_is_eq) (IsDistinct-from_sorted order ks o) in
      let sh = shares_from N (λ q. amount N (at q) (multiplied p I)) es s.kept d (λ q. at_multiplied N q I w m ∙ ap (λ x. (p q).0 * x) (sym (s.same (at q)))) in
      let K = dens I in
      let c = dens_divide I 1 K (let e : dens I * 1 ≡ dens I = omega arith in e) in
      let c' = each_state (λ q. (p q).1 ∣ K) N es I Np s c in
      (sh, λ G. cancel K _ _ (dens_pos I) (shared_cleared N K G es s.kept sh c' ∙ s.same (cleared K G) ∙ sym (amount_cleared N K G I w m c)))

-- ---- other terms of the same fractions
pub shares_equal : (N : ℕ) (p q : State → Fraction) (es : Entries) → ((s : State) → 0 < (q s).1) → ((s : State) → IsEqual (q s) (p s)) → AreHeld N es → Shares N p es → Shares N q es × ((G : State → ℕ) → shared N q G es ≡ shared N p G es)
shares_equal N p q [] h e k s = (tt, λ G. refl)
shares_equal N p q (d ∷ es) h e k s =
    let i = shares_equal N p q es h e k.2 s.1 in
    let x = equal_whole N (times d.1 (q d.0)) (times d.1 (p d.0)) (product_pos d.1.1 (q d.0).1 k.1.positive (h d.0)) (equal_times d.1 d.1 (q d.0) (p d.0) refl (e d.0)) s.0 in
    ((x.1, i.0), λ G. let y = i.1 G in let z = ap (λ u. u * G d.0) x.0 in omega arith)

-- ---- one weight for all states
zero_product : (N : ℕ) (f : Fraction) (d : ℕ) → 0 < f.1 → 0 < d → (whole N (times f (0, d)) ≡ 0) × Whole N (times f (0, d))
zero_product N f d h k = whole_from N (times f (0, d)) 0 (product_pos f.1 d h k) (let z : f.0 * 0 ≡ 0 = omega arith in rw z (omega arith))

pub multiplied_scaled : (N : ℕ) (u : Fraction) (I : Table) → 0 < u.1 → Wholes N I → Wholes N (scaled u I) → Wholes N (multiplied (λ s. u) I) × ((G : State → ℕ) → amount N G (multiplied (λ s. u) I) ≡ amount N G (scaled u I))
multiplied_scaled N (zero, d) [] h w s = (tt, λ G. refl)
multiplied_scaled N (zero, d) (e ∷ I) h w s =
    let i = multiplied_scaled N (zero, d) I h w.1 tt in
    let z = zero_product N e.0 d w.0.positive h in
    ((z.1, i.0), λ G. let y = i.1 G in let x = ap (λ u. u * G e.1) z.0 in omega arith)
multiplied_scaled N (suc n, d) [] h w s = (tt, λ G. refl)
multiplied_scaled N (suc n, d) (e ∷ I) h w s =
    let i = multiplied_scaled N (suc n, d) I h w.1 s.1 in
    let t = times_swap (suc n, d) e.0 in
    ((subst (Whole N) t s.0, i.0), λ G. let y = i.1 G in let x = ap (λ v. whole N v * G e.1) t in omega arith)

pub scaled_stands : (N : ℕ) (u w : Fraction) (es : Entries) (I : Table) → 0 < N → 0 < u.1 → 0 < w.1 → IsEqual w u → IsStrictlySortedBy order (keys_of es) → Wholes N I → Wholes N (scaled u I) → Stands N es I →
    Shares N (λ s. w) es × ((G : State → ℕ) → shared N (λ s. w) G es ≡ amount N G (scaled u I))
scaled_stands N u w es I Np up wp e o a b s =
    let m = multiplied_scaled N u I up a b in
    let x = shares_stand (λ s. u) (λ s. up) N es I Np o a m.0 s in
    let y = shares_equal N (λ s. u) (λ s. w) es (λ s. wp) (λ s. e) s.kept x.0 in
    (y.0, λ G. y.1 G ∙ x.1 G ∙ m.1 G)

-- ---- uniform draws
whole_one : (N : ℕ) → Whole N one
whole_one N = (whole_from N one N (omega arith) (omega arith)).1

pub part_above : (v : State → Value) (r : Option ℕ) (s : State) → 0 < (part_at v r s).1
part_above v r s = by_state (v s)
  where
    by_sign : (z : ℤ) → 0 < (by_bound z one (λ m. class_weight m r 1)).1
    by_sign (pos zero) = omega arith
    by_sign (pos (suc m)) = class_pos (suc m) r 1 (omega arith)
    by_sign (negsuc m) = omega arith

    by_state : (o : Value) → 0 < (by_value o (λ f. one) (λ z. by_bound z one (λ m. class_weight m r 1))).1
    by_state (Ok z) = by_sign z
    by_state (Err f) = omega arith

pub rest_above : (v : State → Value) (r : Option ℕ) (s : State) → 0 < (rest_at v r s).1
rest_above v r s = by_state (v s)
  where
    by_sign : (z : ℤ) → 0 < (by_bound z one (λ m. no_class_weight m r)).1
    by_sign (pos zero) = omega arith
    by_sign (pos (suc m)) = no_class_pos (suc m) r
    by_sign (negsuc m) = omega arith

    by_state : (o : Value) → 0 < (by_value o (λ f. one) (λ z. by_bound z one (λ m. no_class_weight m r))).1
    by_state (Ok z) = by_sign z
    by_state (Err f) = omega arith

pub draws_in : (N : ℕ) (v : State → Value) (r : Option ℕ) (I : Table) → AllWhole N (bound_draws v r I) → EachIn (BothWhole N (part_at v r) (rest_at v r)) I
draws_in N v r [] h = tt
draws_in N v r (e ∷ I) h = (by_state (v e.1) (all_first N _ (bound_draws v r I) h), draws_in N v r I (all_second N (by_value (v e.1) (λ f. []) (λ v. by_bound v [] (λ m. draw_weights m r))) (bound_draws v r I) h))
  where
    by_sign : (z : ℤ) → AllWhole N (by_bound z [] (λ m. draw_weights m r)) → Whole N (by_bound z one (λ m. class_weight m r 1)) × Whole N (by_bound z one (λ m. no_class_weight m r))
    by_sign (pos zero) k = (whole_one N, whole_one N)
    by_sign (pos (suc m)) k = (k.0, k.1.0)
    by_sign (negsuc m) k = (whole_one N, whole_one N)

    by_state : (o : Value) → AllWhole N (by_value o (λ f. []) (λ v. by_bound v [] (λ m. draw_weights m r))) →
        Whole N (by_value o (λ f. one) (λ z. by_bound z one (λ m. class_weight m r 1))) × Whole N (by_value o (λ f. one) (λ z. by_bound z one (λ m. no_class_weight m r)))
    by_state (Ok z) k = by_sign z k
    by_state (Err f) k = (whole_one N, whole_one N)
