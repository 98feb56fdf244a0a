-- The draw of one state, and of each entry, on a meter.
use Rattle.std.proofs.Common.{◌≡◌, ℕ, suc, ◌*◌, ◌≤◌, pos, List, [], ◌∷◌, Option, Ok, length, sym, ap, ◌∙◌, subst, arith}
use Rattle.gcl_core.specs.meaning.Value.{State, Value}
use Rattle.gcl_core.specs.meaning.Blocks.{by_value, by_bound}
use Rattle.gcl_core.specs.meaning.Draw.{last_end, uniform_ends}
use Rattle.gcl_core.specs.weighing.Fractions.{Fraction}
use Rattle.gcl_core.specs.weighing.WeightedEnds.{class_weight}
use Rattle.gcl_core.proofs.EqualClasses.{last_of_equal}
use Rattle.cost_law.specs.ExpectedBits.{attempt_bits}
use Rattle.table_flow.specs.Scale.{whole, Whole}
use Rattle.mass_fold.specs.declared.meter.Meter.{Meter}
use Rattle.mass_fold.specs.declared.meter.Meter.TheVariants.{Bits, TooWide}
use Rattle.mass_fold.specs.inner.Amounts.{Entries}
use Rattle.mass_fold.specs.Metering.{IsPriced, price}
use Rattle.mass_fold.specs.inner.Metering.{AddsBits, IsPrice, PriceBlames, bound_price, IsValuePriced, IsBoundPriced, CountsAll, CountsDraws}
use Rattle.mass_fold.proofs.Meters.{counted_as, counts_as, wide_here}

-- ---- a draw with the same ends for each entry
module _ (ends : List ℕ) (b : ℕ) (l : last_end ends ≡ b) (r : Option ℕ) (u : ℕ) (e : u ≡ (attempt_bits ends).0) where
  bits_same : (M : ℕ) → price r M ends ≡ u * whole M (class_weight b r 1)
  bits_same M = ap (λ u. u * whole M (class_weight (last_end ends) r 1)) (sym e) ∙ ap (λ b. u * whole M (class_weight b r 1)) l

  pub draw_wide : (m : Meter) (sum : Fraction) (es : Entries) → 1 ≤ length es → m ≡ Bits sum → PriceBlames u b r → CountsDraws r b ends es m TooWide
  draw_wide m sum [] some q x = absurd (omega arith)
  draw_wide m sum (d ∷ es) some q x =
      subst (λ m. CountsDraws r b ends (d ∷ es) m TooWide) (sym q)
      (wide_here u b r (λ M s. IsPriced r M b) (λ M s. price r M ends) d.0 d.1 sum es x (λ M k. (k, bits_same M)))

  pub draw_adds : (bits : Fraction) (es : Entries) (m m' : Meter) → IsPrice u b r bits → CountsAll (λ M s. Whole M bits) (λ M s. whole M bits) es m m' → CountsDraws r b ends es m m'
  draw_adds bits es m m' i x =
      counts_as (λ M s. IsPriced r M b) (λ M s. Whole M bits) (λ M s. price r M ends) (λ M s. whole M bits) es m m' (λ M s Mp k. let w = i M Mp k in (w.0, w.1 ∙ sym (bits_same M))) x

-- ---- uniform draws
module _ (v : State → Value) (r : Option ℕ) (s : State) where
  at_bound : (M m : ℕ) → v s ≡ Ok (pos (suc m)) → IsBoundPriced v r M s → IsPriced r M (suc m) × (bound_price v r M s ≡ (attempt_bits (uniform_ends (suc m))).0 * whole M (class_weight (suc m) r 1))
  at_bound M m e k =
      (subst (IsValuePriced r M) e k, ap (λ o. by_value o (λ f. 0) (λ z. by_bound z 0 (λ m. price r M (uniform_ends m)))) e ∙ ap (λ b. (attempt_bits (uniform_ends (suc m))).0 * whole M (class_weight b r 1)) (last_of_equal (suc m)))

  module _ (m k u : ℕ) (e : v s ≡ Ok (pos (suc m))) (c : k ≡ suc m) (d : u ≡ (attempt_bits (uniform_ends k)).0) where
    here : u ≡ (attempt_bits (uniform_ends (suc m))).0
    here = d ∙ ap (λ k. (attempt_bits (uniform_ends k)).0) c

    pub bound_wide : (f sum : Fraction) (now : Meter) → now ≡ Bits sum → PriceBlames u k r → CountsAll (IsBoundPriced v r) (bound_price v r) ((s, f) ∷ []) now TooWide
    bound_wide f sum now q x =
        subst (λ now. CountsAll (IsBoundPriced v r) (bound_price v r) ((s, f) ∷ []) now TooWide) (sym q)
        (wide_here u (suc m) r (IsBoundPriced v r) (bound_price v r) s f sum [] (subst (λ k. PriceBlames u k r) c x)
        (λ M k. let a = at_bound M m e k in (a.0, a.1 ∙ ap (λ u. u * whole M (class_weight (suc m) r 1)) (sym here))))

    pub bound_adds : (bits f : Fraction) (now now' : Meter) → IsPrice u k r bits → AddsBits bits f now now' → CountsAll (IsBoundPriced v r) (bound_price v r) ((s, f) ∷ []) now now'
    bound_adds bits f now now' i x N M Np Mp h p =
        let a = at_bound M m e p.0 in
        let w = i M Mp (subst (IsPriced r M) (sym c) a.0) in
        let same : whole M bits ≡ bound_price v r M s = w.1 ∙ ap (λ k. u * whole M (class_weight k r 1)) c ∙ ap (λ u. u * whole M (class_weight (suc m) r 1)) here ∙ sym a.1 in
        counted_as (N * M) (whole N f * whole M bits) _ now now' (let z = ap (λ x. whole N f * x) same in omega arith) (x N M Np Mp w.0 h.1)
