-- Weights in lowest terms, as rational numbers.
use Rattle.std.proofs.Common.{◌≡◌, ℕ, zero, suc, ◌+◌, ◌*◌, ◌≤◌, ◌<◌, Bool, true, false, cond, Ordering, [], ◌∷◌, ◌++◌, refl, sym, ap, ◌∙◌, subst, arith}
use Rattle.std.specs.Prelude.{◌==◌, nat_lt}
use Rattle.std.specs.Ordering.{nat_cmp}
use Rattle.std.specs.declared.cmp.Ordering.TheVariants.{Less, Equal, Greater}
use Rattle.std.proofs.lemmas.Bool.{eqb-true}
use Rattle.gcl_core.specs.meaning.Blocks.{End}
use Rattle.gcl_core.specs.meaning.Value.{State}
use Rattle.gcl_core.specs.weighing.Fractions.{Fraction, plus, times}
use Rattle.gcl_core.specs.weighing.WeightedEnds.{Weighted, scaled}
use Rattle.numbers.specs.Fraction.{lowest}
use Rattle.numbers.proofs.Divisors.{product_pos, lowest_in_lowest, lowest_equal, lowest_from}
use Rattle.numbers.specs.Arithmetic.{InLowest}
use Rattle.std.proofs.lemmas.Nat.Gcd.{dvd_refl, IsGcd-swap, IsGcd-from_zero}
use Rattle.table_flow.proofs.Denominators.{weights_whole}
use Rattle.table_flow.proofs.Positive.{weights_positive}
use Rattle.table_flow.specs.Width.{weights}
use Rattle.mass_fold.specs.declared.ended.Ended.{Ended}
use Rattle.mass_fold.specs.inner.Amounts.{Entries, PutGives}
use Rattle.mass_fold.specs.inner.Ended.{rows_of, IsNoWeight}
use Rattle.mass_fold.specs.inner.Fold.{Stands}
use Rattle.mass_fold.proofs.Insertion.{product_below}
use Rattle.unlimited_law.specs.Alike.{AreFractions, Alike}
use Rattle.unlimited_law.proofs.Numbers.{Rational, ◌⊕◌, ◌⊗◌, ◌≃◌, nought, same_refl, same_sym, same_trans, add_same, times_same, factor_same, times_assoc, times_sum, sum_times, times_nought, nought_add, add_nought, add_assoc, add_turned}
use Rattle.unlimited_law.proofs.FractionNumbers.{of, of_plus, of_times, of_equal}
use Rattle.unlimited_law.proofs.Integrals.{integral, regroup4, integral_append, integral_scaled}
use Rattle.unlimited_law.proofs.SameWeights.{alike_integral}
use Rattle.unlimited_law.proofs.ByState.{append_fractions}
use Rattle.exact_fold.specs.inner.Settled.{as_table, AreAbove}
use Rattle.exact_fold.proofs.SameLists.{alike_of, fractions_scaled}
use Rattle.exact_fold.proofs.Steps.{at_scale, above_positive, above_fractions, are_held, held_above, held_amount, stands_alike}
use Rattle.wide_fold.specs.inner.Adding.{with_times, AddsTimes, AddsLed}

-- ---- lowest terms
pub lowest_some : (p : Fraction) → 1 ≤ p.1 → 1 ≤ (lowest p).1
lowest_some p h = (lowest_in_lowest p.0 p.1 h).positive

pub lowest_of : (p : Fraction) → 1 ≤ p.1 → of (lowest p) ≃ of p
lowest_of p h = let z = lowest_some p h in of_equal (lowest p) p (omega arith) (omega arith) (lowest_equal p.0 p.1)

pub lowest_above : (p : Fraction) → 0 < p.0 → 0 < p.1 → 0 < (lowest p).0
lowest_above p a b =
    let z = lowest_some p (omega arith) in
    let q = product_pos p.0 (lowest p).1 a (omega arith) in
    product_below (lowest p).0 p.1 (let e = lowest_equal p.0 p.1 in omega arith)

pub no_weight : (f : Fraction) (n d : ℕ) → f ≡ lowest (n, d) → n ≡ 0 → d ≡ 1 → IsNoWeight f
no_weight f n d e p q =
    let some : 1 ≤ d = omega arith in
    let z = lowest_some (n, d) some in
    subst IsNoWeight (sym e) (nothing (lowest (n, d)).0 (lowest (n, d)).1 n d (lowest_equal n d) p q, omega arith)
  where
    nothing : (a b n d : ℕ) → a * d ≡ n * b → n ≡ 0 → d ≡ 1 → a ≡ 0
    nothing a b zero (suc zero) e p q = omega arith
    nothing a b (suc n) d e p q = absurd (omega arith)
    nothing a b zero zero e p q = absurd (omega arith)
    nothing a b zero (suc (suc d)) e p q = absurd (omega arith)

-- ---- a weight, and another times w
no_lowest : (n d : ℕ) → 0 < d → n ≡ 0 → lowest (n, d) ≡ (0, 1)
no_lowest n d some none =
    let zero_one = IsGcd-swap 1 0 1 (IsGcd-from_zero 1 0 refl) in
    ap (λ k. lowest (k, d)) (let e : n ≡ d * 0 = omega (arith, none) in e) ∙ ap (λ k. lowest (d * 0, k)) (let e : d ≡ d * 1 = omega arith in e) ∙ lowest_from d 0 1 some (omega arith) zero_one

-- 0 times w changes nothing
pub no_times : (w f g : Fraction) → InLowest w → InLowest f → InLowest g → g.0 ≡ 0 → f ≡ with_times w f g
no_times w f g lw lf lg none =
    let pw = lw.positive in
    let pf = lf.positive in
    let pg = lg.positive in
    let first = no_lowest g.0 g.1 (omega arith) none in
    let second : lowest (times w (lowest g)) ≡ (0, 1) =
    ap (λ q. lowest (times w q)) first ∙ no_lowest (w.0 * 0) (w.1 * 1) (omega arith) (omega arith) in
    let third : lowest (plus f (0, 1)) ≡ f =
    ap (λ n. lowest (n, f.1 * 1)) (let e : f.0 * 1 + 0 * f.1 ≡ 1 * f.0 = omega arith in e)
    ∙ ap (λ d. lowest (1 * f.0, d)) (let e : f.1 * 1 ≡ 1 * f.1 = omega arith in e)
    ∙ lowest_from 1 f.0 f.1 (omega arith) (omega arith) lf.coprime in
    sym (ap (λ q. lowest (plus f q)) second ∙ third)

module _ (w : Fraction) (some : 1 ≤ w.1) where
  pub times_some : (g : Fraction) → 1 ≤ g.1 → 1 ≤ (times w g).1
  times_some g h = let z = product_pos w.1 g.1 (omega arith) (omega arith) in omega arith

  pub led_some : (g : Fraction) → 1 ≤ g.1 → 1 ≤ (lowest (times w (lowest g))).1
  led_some g h = lowest_some (times w (lowest g)) (times_some (lowest g) (lowest_some g h))

  pub led_of : (g : Fraction) → 1 ≤ g.1 → of (lowest (times w (lowest g))) ≃ of w ⊗ of g
  led_of g h =
      same_trans (lowest_of (times w (lowest g)) (times_some (lowest g) (lowest_some g h)))
      (same_trans (of_times w (lowest g)) (times_same (of w) (lowest_of g h)))

  plus_some : (f g : Fraction) → 1 ≤ f.1 → 1 ≤ g.1 → 1 ≤ (plus f g).1
  plus_some f g h k = let z = product_pos f.1 g.1 (omega arith) (omega arith) in omega arith

  with_some : (f g : Fraction) → 1 ≤ f.1 → 1 ≤ g.1 → 1 ≤ (with_times w f g).1
  with_some f g h k = lowest_some (plus f (lowest (times w (lowest g)))) (plus_some f (lowest (times w (lowest g))) h (led_some g k))

  with_of : (f g : Fraction) → 1 ≤ f.1 → 1 ≤ g.1 → of (with_times w f g) ≃ of f ⊕ of w ⊗ of g
  with_of f g h k =
      let l = led_some g k in
      same_trans (lowest_of (plus f (lowest (times w (lowest g)))) (plus_some f (lowest (times w (lowest g))) h l))
      (same_trans (of_plus f (lowest (times w (lowest g))) (omega arith) (omega arith)) (add_same (same_refl (of f)) (led_of g k)))

  -- ---- what has ended
  record Sums (gs es fs : Weighted End) : Type 0 where
    fractions : AreFractions fs
    each : (F : End → Rational) → integral F fs ≃ integral F es ⊕ of w ⊗ integral F gs

  sums_none : Sums [] [] []
  sums_none = record { fractions = tt; each = λ F. same_sym (same_trans (nought_add (of w ⊗ nought)) (times_nought (of w))) }

  sums_next : (f g v : Fraction) (x : End) (gs es fs : Weighted End) → v ≡ with_times w f g → 1 ≤ f.1 → 1 ≤ g.1 → Sums gs es fs → Sums ((g, x) ∷ gs) ((f, x) ∷ es) ((v, x) ∷ fs)
  sums_next f g v x gs es fs e h k i = subst (λ v. Sums ((g, x) ∷ gs) ((f, x) ∷ es) ((v, x) ∷ fs)) (sym e) (record { fractions = (with_some f g h k, i.fractions); each = whole })
    where
      whole : (F : End → Rational) → of (with_times w f g) ⊗ F x ⊕ integral F fs ≃ of f ⊗ F x ⊕ integral F es ⊕ of w ⊗ (of g ⊗ F x ⊕ integral F gs)
      whole F =
          same_trans (add_same (same_trans (factor_same (F x) (with_of f g h k)) (sum_times (of f) (of w ⊗ of g) (F x))) (i.each F))
          (same_trans (regroup4 (of f ⊗ F x) (of w ⊗ of g ⊗ F x) (integral F es) (of w ⊗ integral F gs))
          (add_same (same_refl (of f ⊗ F x ⊕ integral F es))
          (same_trans (add_same (times_assoc (of w) (of g) (F x)) (same_refl (of w ⊗ integral F gs))) (same_sym (times_sum (of w) (of g ⊗ F x) (integral F gs))))))

  pub ended_alike : (G E F : Ended) → AreFractions (rows_of G) → AreFractions (rows_of E) → AddsTimes w G E F → Alike (rows_of F) (rows_of E ++ scaled w (rows_of G))
  ended_alike G E F g e a =
      let s : Sums (rows_of G) (rows_of E) (rows_of F) = sums_next _ _ _ _ _ _ _ a.failed e.0 g.0 (sums_next _ _ _ _ _ _ _ a.overflow e.1.0 g.1.0 (sums_next _ _ _ _ _ _ _ a.divisor e.1.1.0 g.1.1.0
      (sums_next _ _ _ _ _ _ _ a.bound e.1.1.1.0 g.1.1.1.0 (sums_next _ _ _ _ _ _ _ a.turns e.1.1.1.1.0 g.1.1.1.1.0 (sums_next _ _ _ _ _ _ _ a.attempts e.1.1.1.1.1.0 g.1.1.1.1.1.0 sums_none))))) in
      alike_of (rows_of F) (rows_of E ++ scaled w (rows_of G)) s.fractions (append_fractions (rows_of E) (scaled w (rows_of G)) e (fractions_scaled w (rows_of G) some g))
      (λ H. same_trans (s.each H) (same_sym (same_trans (integral_append H (rows_of E) (scaled w (rows_of G))) (add_same (same_refl (integral H (rows_of E))) (integral_scaled w H (rows_of G))))))

pub adds_from : (w : Fraction) (G E E' F : Ended) → E' ≡ E → AddsTimes w G E' F → AddsTimes w G E F
adds_from w G E E' F p a = subst (λ E. AddsTimes w G E F) p a

pub one_is : (f : Fraction) (n d : ℕ) → f ≡ lowest (n, d) → n ≡ 1 → d ≡ 1 → f ≡ (1, 1)
one_is f n d e p q = e ∙ ap (λ n. lowest (n, d)) p ∙ ap (λ d. lowest (1, d)) q ∙ lowest_from 1 1 1 (omega arith) (omega arith) (dvd_refl 1, dvd_refl 1, λ d p q. p)

-- ---- one state more
pub put_alike : (es fs : Entries) (s : State) (f : Fraction) → PutGives es fs s f → AreAbove es → 0 < f.0 → 0 < f.1 → AreAbove fs × Alike (as_table fs) ((f, s) ∷ as_table es)
put_alike es fs s f g h p q =
    let I = (f, s) ∷ as_table es in
    let t = at_scale (weights I) (weights_positive I (q, above_positive es h)) in
    let N = t.scale in
    let w = weights_whole N I t.whole in
    let a = g N t.some (are_held N es h w.1) p w.0 in
    let o : Stands N fs I = record { kept = a.0; same = λ G. let z = a.1 G in let y = held_amount N G es in omega arith } in
    (held_above N fs a.0, stands_alike N fs I t.some w o)

-- ---- a table times w
pub record Led (w : Fraction) (ts es fs rest : Entries) : Type 0 where
  pub above : AreAbove fs
  pub left : AreAbove rest
  pub each : (F : State → Rational) → integral F (as_table fs) ⊕ of w ⊗ integral F (as_table rest) ≃ integral F (as_table es) ⊕ of w ⊗ integral F (as_table ts)

abbrev pub LedOn : Fraction → Entries → Entries → Entries → Entries → Type 0
LedOn w ts es fs rest = AreAbove es → AreAbove ts → 0 < w.0 → 0 < w.1 → Led w ts es fs rest

pub led_start : (w : Fraction) (ts es rest : Entries) → rest ≡ ts → LedOn w ts es es rest
led_start w ts es rest p = subst (LedOn w ts es es) (sym p) (λ h k a b. record { above = h; left = k; each = λ F. same_refl _ })

pub led_next : (w : Fraction) (ts es fs fs' rest rest' : Entries) (s t : State) (f v u : Fraction) → rest ≡ (s, f) ∷ rest' → v ≡ lowest f → u ≡ lowest (times w v) → t ≡ s → PutGives fs fs' t u → LedOn w ts es fs rest → LedOn w ts es fs' rest'
led_next w ts es fs fs' rest rest' s t f v u p q r e g on h k a b =
    let o = subst (Led w ts es fs) p (on h k a b) in
    let fa = (o.left).0 in
    let fb : 1 ≤ f.1 = let z = (o.left).1 in omega arith in
    let some : 1 ≤ w.1 = omega arith in
    let same : u ≡ lowest (times w (lowest f)) = subst (λ v. u ≡ lowest (times w v)) q r in
    let ub : 0 < u.1 = subst (λ u. 0 < u.1) (sym same) (let z = led_some w some f fb in omega arith) in
    let l0 = lowest_above f fa (omega arith) in
    let l1 = lowest_some f fb in
    let ua : 0 < u.0 = subst (λ u. 0 < u.0) (sym same) (lowest_above (times w (lowest f)) (product_pos w.0 (lowest f).0 a l0) (product_pos w.1 (lowest f).1 b (omega arith))) in
    let n = put_alike fs fs' s u (subst (λ t. PutGives fs fs' t u) e g) o.above ua ub in
    let is : of u ≃ of w ⊗ of f = subst (λ u. of u ≃ of w ⊗ of f) (sym same) (led_of w some f fb) in
    record {
      above = n.0;
      left = (o.left).2;
      each = λ F.
          let x = integral F (as_table fs) in
          let y = integral F (as_table rest') in
          same_trans (add_same (same_trans (alike_integral (as_table fs') ((u, s) ∷ as_table fs) n.1 F) (add_same (factor_same (F s) is) (same_refl x))) (same_refl (of w ⊗ y)))
          (same_trans (moved (of w) (of f) (F s) x y) (o.each F));
    }
  where
    moved : (w f c x y : Rational) → w ⊗ f ⊗ c ⊕ x ⊕ w ⊗ y ≃ x ⊕ w ⊗ (f ⊗ c ⊕ y)
    moved w f c x y =
        same_trans (add_same (add_turned (w ⊗ f ⊗ c) x) (same_refl (w ⊗ y)))
        (same_trans (add_assoc x (w ⊗ f ⊗ c) (w ⊗ y))
        (add_same (same_refl x) (same_trans (add_same (times_assoc w f c) (same_refl (w ⊗ y))) (same_sym (times_sum w (f ⊗ c) y)))))

pub led_end : (w : Fraction) (ts es fs rest : Entries) → rest ≡ [] → LedOn w ts es fs rest → AddsLed w ts es fs
led_end w ts es fs rest p on h k a b =
    let o = subst (Led w ts es fs) p (on h k a b) in
    let M = scaled w (as_table ts) in
    let some : 1 ≤ w.1 = omega arith in (
      o.above,
      alike_of (as_table fs) (M ++ as_table es) (above_fractions fs o.above) (append_fractions M (as_table es) (fractions_scaled w (as_table ts) some (above_fractions ts k)) (above_fractions es h))
          (λ F. same_trans (same_sym (same_trans (add_same (same_refl _) (times_nought (of w))) (add_nought _)))
          (same_trans (o.each F)
          (same_trans (add_turned (integral F (as_table es)) (of w ⊗ integral F (as_table ts)))
          (same_sym (same_trans (integral_append F M (as_table es)) (add_same (integral_scaled w F (as_table ts)) (same_refl _))))))),
    )

-- ---- tests
pub some_of_zero : (b : Bool) (n m : ℕ) → (n ≡ 0 → b ≡ true) → b ≡ false → n ≡ m → 0 < m
some_of_zero b n zero i f e = absurd (let z : b ≡ true = i e in cc)
some_of_zero b n (suc m) i f e = omega arith

pub equal_is : (o : Ordering) (n m : ℕ) → o ≡ nat_cmp n m → o ≡ Equal → n ≡ m
equal_is o n m p e = by (nat_lt n m) (n == m) refl (sym p ∙ e)
  where
    by : (b c : Bool) → (n == m) ≡ c → cond b Less (cond c Equal Greater) ≡ Equal → n ≡ m
    by true c q r = absurd (cc)
    by false true q r = eqb-true n m q
    by false false q r = absurd (cc)

pub same_pair : (p q : Fraction) (a b c d : ℕ) → a ≡ p.0 → b ≡ q.0 → c ≡ p.1 → d ≡ q.1 → a ≡ b → c ≡ d → p ≡ q
same_pair p q a b c d e f g h i j = by p q (sym e ∙ i ∙ f) (sym g ∙ j ∙ h)
  where
    by : (p q : Fraction) → p.0 ≡ q.0 → p.1 ≡ q.1 → p ≡ q
    by (a, b) (c, d) e f = ap (λ z. (z, b)) e ∙ ap (λ z. (c, z)) f
