-- One turn of a loop, as the code checks it.
use Rattle.std.proofs.Common.{◌≡◌, ℕ, ◌+◌, ◌-◌, ◌*◌, ◌≤◌, ◌<◌, Bool, true, false, not, cond, Option, Some, None, [], ◌∷◌, ◌++◌, inl, inr, refl, sym, ap, ◌∙◌, subst, arith}
use Rattle.std.specs.Ordering.{is_eq}
use Rattle.std.specs.Option.{is_some}
use Rattle.std.specs.Prelude.{MatchOption}
use Rattle.gcl_core.specs.declared.syntax.Weight.{Weight}
use Rattle.gcl_core.specs.meaning.Bounds.{BlockIsWeighed, IsWeight}
use Rattle.gcl_core.specs.meaning.Blocks.{End}
use Rattle.gcl_core.specs.meaning.Syntax.{Statements, Choice}
use Rattle.gcl_core.specs.meaning.Value.{State, Value}
use Rattle.gcl_core.specs.weighing.Fractions.{Fraction, plus}
use Rattle.gcl_core.specs.weighing.WeightedEnds.{Weighted, sure, scaled, class_weight}
use Rattle.table_flow.specs.Tables.{Table, states, holds, fails, only, faults}
use Rattle.table_flow.specs.Width.{weights}
use Rattle.table_flow.specs.Counts.{kept_if, stopped, all_kept, none_stopped}
use Rattle.table_flow.proofs.Amounts.{amount_only, all_first, all_second}
use Rattle.table_flow.proofs.Denominators.{weights_whole}
use Rattle.table_flow.proofs.Wholes.{whole_from}
use Rattle.table_flow.proofs.Positive.{p_scaled, a_append, weights_positive}
use Rattle.mass_fold.specs.declared.ended.Ended.{Ended}
use Rattle.mass_fold.specs.inner.Amounts.{Entries, order, found, PutGives}
use Rattle.mass_fold.specs.inner.Ended.{rows_of, IsNone}
use Rattle.mass_fold.specs.inner.Steps.{StepsTo}
use Rattle.mass_fold.specs.inner.Fold.{Stands, SidesTo}
use Rattle.mass_fold.proofs.Entries.{same, same_is, same_order}
use Rattle.unlimited_law.specs.Alike.{AreFractions, Alike}
use Rattle.unlimited_law.specs.Settling.{Outflow, EachState, StandsIn, Within, total, LoopSettles, StatementSettles, BlockSettles}
use Rattle.unlimited_law.proofs.Numbers.{Rational, ◌⊕◌, ◌≃◌, nought, same_refl, same_sym, same_trans, add_same, add_below, add_turned, factor_same, nought_times, nought_add, add_nought, nought_below, below_refl, below_trans}
use Rattle.unlimited_law.proofs.FractionNumbers.{of, of_zero}
use Rattle.unlimited_law.proofs.Integrals.{integral, integral_append, integral_same, integral_sum}
use Rattle.unlimited_law.proofs.SameWeights.{sum_some, alike_integral}
use Rattle.unlimited_law.proofs.Likeness.{alike_trans}
use Rattle.exact_fold.specs.inner.Settled.{as_table, AreAbove, SettlesFrom}
use Rattle.exact_fold.specs.inner.Turning.{there, inside, outside, keys_in, StaysIn, IsClosed, TurnsTo, Alone, NothingIn, AllInside}
use Rattle.unlimited_law.proofs.Covers.{integral_kept}
use Rattle.unlimited_law.proofs.BlockLimits.{behind_fractions, all_positive}
use Rattle.unlimited_law.proofs.ByState.{kept_fractions, append_fractions}
use Rattle.exact_fold.proofs.SameLists.{alike_of, alike_refl, alike_append, alike_chain, product_some}
use Rattle.exact_fold.proofs.SameInputs.{block_from}
use Rattle.exact_fold.proofs.FreeFlows.{unlimited_append, unlimited_faults}
use Rattle.exact_fold.proofs.Steps.{at_scale, together_at, above_positive, above_fractions, stands_itself, stands_alike, end_itself, end_alike, held_above, only_whole, wholes_append, guarded, merged_alike}

-- ---- a list in two orders, and in two parts
swapped : {A : Type 0} (m o : Weighted A) → AreFractions m → AreFractions o → Alike (m ++ o) (o ++ m)
swapped m o h k =
    alike_of (m ++ o) (o ++ m) (append_fractions m o h k) (append_fractions o m k h)
    (λ F. same_trans (integral_append F m o) (same_trans (add_turned (integral F m) (integral F o)) (same_sym (integral_append F o m))))

pub only_parts : (test : State → Bool) (M : Table) → AreFractions M → Alike (only (λ s. not (test s)) M ++ only test M) M
only_parts test M h =
    alike_of (only (λ s. not (test s)) M ++ only test M) M (append_fractions (only (λ s. not (test s)) M) (only test M) (kept_fractions (λ s. not (test s)) M h) (kept_fractions test M h)) h
    (λ F. same_trans (integral_append F (only (λ s. not (test s)) M) (only test M))
    (same_trans (add_same (integral_kept F (λ s. not (test s)) M) (integral_kept F test M))
    (same_trans (same_sym (integral_sum (λ s. cond (not (test s)) (F s) nought) (λ s. cond (test s) (F s) nought) M))
    (integral_same (λ s. cond (not (test s)) (F s) nought ⊕ cond (test s) (F s) nought) F M (λ s. by (test s) (F s))))))
  where
    by : (b : Bool) (x : Rational) → cond (not b) x nought ⊕ cond b x nought ≃ x
    by true x = nought_add x
    by false x = add_nought x

-- ---- states of a table
stands_inside : (s : State) (D : Entries) → inside D s ≡ true → StandsIn (keys_in D) s
stands_inside s [] e = absurd (cc)
stands_inside s (d ∷ D) e = at_head (is_eq (order s d.0)) (same_order s d.0) e (λ k. stands_inside s D k)
  where
    at_head : (b : Bool) → same s d.0 ≡ b → there (cond b (Some d.1) (found order s D)) ≡ true → (inside D s ≡ true → StandsIn (keys_in D) s) → StandsIn (keys_in (d ∷ D)) s
    at_head true p q i = inl ((same_is s d.0).0 p)
    at_head false p q i = inr (i q)

pub within_inside : (D : Entries) (M : Table) → Within (keys_in D) (only (inside D) M)
within_inside D [] = tt
within_inside D (e ∷ M) = at_head (inside D e.1) refl (within_inside D M)
  where
    at_head : (b : Bool) → inside D e.1 ≡ b → Within (keys_in D) (only (inside D) M) → Within (keys_in D) (cond b (e ∷ only (inside D) M) (only (inside D) M))
    at_head true p i = (stands_inside e.1 D p, i)
    at_head false p i = i

pub all_within : (D es : Entries) → AllInside D es → Within (keys_in D) (as_table es)
all_within D [] h = tt
all_within D (e ∷ es) h = (stands_inside e.0 D h.0, all_within D es h.1)

pub record Left (test : State → Bool) (es fs : Entries) : Type 0 where
  pub above : AreAbove fs
  pub alike : Alike (as_table fs) (only test (as_table es))

pub left : (test : State → Bool) (es fs : Entries) (E : Ended) → ((E : Ended) → StepsTo (kept_if test) none_stopped [] es E fs E) → AreAbove es → AreFractions (rows_of E) → Left test es fs
left test es fs E d h k =
    let t = together_at es [] E h tt k in
    let N = t.scale in
    let s = stands_itself N es h t.first in
    let r = d E N t.some tt s.kept t.ends in
    let M = as_table es in
    let o : Stands N fs (only test M) = record { kept = r.kept; same = λ G. let a = r.going G in let b = s.same (kept_if test G) in let c = amount_only N G test M in omega arith } in
    record { above = held_above N fs r.kept; alike = stands_alike N fs (only test M) t.some (only_whole N test M t.first) o }

-- ---- one turn
pub turn_settles : (v : State → Value) (a : Statements) (D es vs ns all seen on exits copy : Entries) (E E1 F : Ended) → BlockIsWeighed a → AreAbove vs → vs ≡ copy → on ≡ copy →
    SettlesFrom (BlockSettles Alike Alike a) vs E ns E1 → ((E : Ended) → StepsTo all_kept none_stopped es ns E all E) → ((E : Ended) → StepsTo (kept_if (outside D)) none_stopped [] all E seen E) →
    StepsTo (kept_if (holds v)) (stopped v) [] seen E1 on F → StepsTo (kept_if (fails v)) (stopped v) [] seen E1 exits F → TurnsTo v (BlockSettles Alike Alike a) D es E exits F
turn_settles v a D es vs ns all seen on exits copy E E1 F wa av ec eo body merge leave d c closed h u =
    let p = body av u in
    let m = merged_alike es ns all E1 merge h p.above p.adds.first in
    let l = left (outside D) all seen E1 leave m.above p.adds.first in
    let g = guarded v seen on exits E1 F d c l.above p.adds.first in
    let M = as_table all in
    let V = as_table seen in
    let X = only (inside D) M in
    let n = as_table ns in
    let t = total n in
    let same_visits : Alike (as_table vs) (only (holds v) V) = subst (λ z. Alike (as_table z) (only (holds v) V)) (eo ∙ sym ec) g.first_alike in
    let fm = m.alike.first in
    let x = alike_append l.alike (alike_refl X (kept_fractions (inside D) M fm)) in
    let more = alike_chain (rows_of E) p.ended (faults v V) p.adds g.adds in
    let fe = behind_fractions (rows_of E) p.ended p.adds.second in
    let ff = behind_fractions (rows_of E1) (faults v V) g.adds.second in
    let some = product_some t.1 p.turns.1 (let z = sum_some (λ s. true) n (above_fractions ns p.above) in omega arith) p.some in
    record {
      above = g.second_above;
      ended = p.ended ++ faults v V;
      turns = plus t p.turns;
      some = some;
      settles = (
        V,
        X,
        keys_in D,
        record { next = n; ended = p.ended; turns = p.turns },
        block_from a wa (as_table vs) (only (holds v) V) (record { next = n; ended = p.ended; turns = p.turns }) same_visits p.settles,
        alike_trans (V ++ X) M (as_table es ++ n) (alike_trans (V ++ X) (only (outside D) M ++ X) M x (only_parts (inside D) M fm)) m.alike,
        closed,
        within_inside D M,
        record { next = g.second_alike; ended = swapped p.ended (faults v V) fe ff; turns = refl; fraction = some },
      );
      adds = more;
      unlimited = unlimited_append p.ended (faults v V) p.unlimited (unlimited_faults v V);
    }

pub closed_turns : (v : State → Value) (Body : Table → Outflow → Type 0) (D es exits : Entries) (E F : Ended) → IsClosed v Body (keys_in D) → TurnsTo v Body D es E exits F → SettlesFrom (LoopSettles Alike Alike v Body) es E exits F
closed_turns v Body D es exits E F closed t = t closed

-- ---- one state that stays
below_nought : (p q : Rational) → p ⊕ q ≃ nought → q ≃ nought
below_nought p q e = record { below = below_trans (below_trans (nought_add q).above (add_below (nought_below p) (below_refl q))) e.below; above = nought_below q }

pub nothing_counts : (F : End → Rational) (m : Weighted End) → NothingIn m → integral F m ≃ nought
nothing_counts F [] h = same_refl nought
nothing_counts F (((n, d), x) ∷ m) h =
    let z : of (n, d) ≃ nought = subst (λ k. of (k, d) ≃ nought) (sym h.0) (of_zero d) in
    same_trans (add_same (same_trans (factor_same (F x) z) (nought_times (F x))) (nothing_counts F m h.1)) (nought_add nought)

pub none_fractions : (E : Ended) → IsNone E → AreFractions (rows_of E)
none_fractions E h =
    (some (h.failed).1, (some (h.overflow).1, (some (h.divisor).1, (some (h.bound).1, (some (h.turns).1, (some (h.attempts).1, tt))))))
  where
    some : {n : ℕ} → 0 < n → 1 ≤ n
    some p = omega arith

pub state_stays : (v : State → Value) (a : Statements) (D one ns : Entries) (s : State) (E F : Ended) → BlockIsWeighed a → holds v s ≡ true → Alone s one → IsNone E → SettlesFrom (BlockSettles Alike Alike a) one E ns F →
    NothingIn (rows_of F) → AllInside D ns → StaysIn v (BlockSettles Alike Alike a) (keys_in D) s
state_stays v a D one ns s E F wa h alone none body nothing all =
    let p = body alone.0 (none_fractions E none) in
    let f : Outflow = record { next = as_table ns; ended = p.ended; turns = p.turns } in (
      h,
      f,
      block_from a wa (as_table one) (sure s) f alone.1 p.settles,
      alike_of p.ended [] (behind_fractions (rows_of E) p.ended p.adds.second) tt
          (λ G. below_nought (integral G (rows_of E)) (integral G p.ended)
          (same_trans (same_sym (integral_append G (rows_of E) p.ended)) (same_trans (same_sym (alike_integral (rows_of F) (rows_of E ++ p.ended) p.adds G)) (nothing_counts G (rows_of F) nothing)))),
      all_within D ns all,
    )

-- the states after this one stay
pub stays_next : (Fact : State → Type 0) (D rest rest' : Entries) (s : State) (f : Fraction) → rest ≡ (s, f) ∷ rest' → Fact s → (EachState Fact (keys_in rest) → EachState Fact (keys_in D)) → EachState Fact (keys_in rest') → EachState Fact (keys_in D)
stays_next Fact D rest rest' s f p here all h = all (subst (λ z. EachState Fact (keys_in z)) (sym p) (here, h))

-- ---- one state with all weight
pub put_alone : (s t : State) (f : Fraction) (bs es : Entries) → bs ≡ [] → t ≡ s → f.0 * 1 ≡ 1 * f.1 → 1 ≤ f.1 → PutGives bs es t f → Alone s es
put_alone s t f bs es p q r some g = by (subst (λ z. PutGives [] es z f) q (subst (λ z. PutGives z es t f) p g))
  where
    by : PutGives [] es s f → Alone s es
    by g =
        let w = whole_from 1 f 1 (omega arith) (omega arith) in
        let a = g 1 (omega arith) tt (omega arith) w.1 in
        let e = w.0 in
        let o : Stands 1 es (sure s) = record { kept = a.0; same = λ G. let z = a.1 G in let y = ap (λ k. k * G s) e in omega arith } in
        (held_above 1 es a.0, stands_alike 1 es (sure s) (omega arith) (record { positive = omega arith; exact = refl }, tt) o)

-- ---- a choice
pub record SidesAlike (p : Weight) (es : Entries) (E : Ended) (first second : Entries) (F : Ended) : Type 0 where
  pub first_above : AreAbove first
  pub second_above : AreAbove second
  pub first_alike : Alike (as_table first) (scaled (class_weight p.den None p.num) (as_table es))
  pub second_alike : Alike (as_table second) (scaled (class_weight p.den None (p.den - p.num)) (as_table es))
  pub adds : Alike (rows_of F) (rows_of E ++ [])

pub sides_alike : (p : Weight) (es first second : Entries) (E F : Ended) → IsWeight p → SidesTo p None es E first second F → AreAbove es → AreFractions (rows_of E) → SidesAlike p es E first second F
sides_alike p es first second E F w d h u =
    let I = as_table es in
    let A = scaled (class_weight p.den None p.num) I in
    let C = scaled (class_weight p.den None (p.den - p.num)) I in
    let J = rows_of E in
    let some : 0 < p.den = let z = w.positive in omega arith in
    let ip = above_positive es h in
    let ap = p_scaled (class_weight p.den None p.num) I some ip in
    let cp = p_scaled (class_weight p.den None (p.den - p.num)) I some ip in
    let t = at_scale (weights I ++ (weights A ++ (weights C ++ weights J)))
    (a_append (weights I) _ (weights_positive I ip) (a_append (weights A) _ (weights_positive A ap) (a_append (weights C) _ (weights_positive C cp) (weights_positive J (all_positive J u))))) in
    let N = t.scale in
    let w1 = weights_whole N I (all_first N (weights I) _ t.whole) in
    let r1 = all_second N (weights I) (weights A ++ (weights C ++ weights J)) t.whole in
    let w2 = weights_whole N A (all_first N (weights A) _ r1) in
    let r2 = all_second N (weights A) (weights C ++ weights J) r1 in
    let w3 = weights_whole N C (all_first N (weights C) _ r2) in
    let w4 = weights_whole N J (all_second N (weights C) (weights J) r2) in
    let L = states A + states C in
    let o = d N L I J t.some (stands_itself N es h w1) (end_itself N E w4) (record { before = w1; first = w2; second = w3; third = tt; few_first = omega arith; few_second = omega arith }) in
    record {
      first_above = held_above N first (o.0).kept;
      second_above = held_above N second (o.1).kept;
      first_alike = stands_alike N first A t.some w2 o.0;
      second_alike = stands_alike N second C t.some w3 o.1;
      adds = end_alike N F (J ++ []) t.some (wholes_append N J [] w4 tt) o.2;
    }

pub choice_settles : (p : Weight) (a c : Statements) (es first second ls cs rs : Entries) (E F G H : Ended) → IsWeight p → BlockIsWeighed a → BlockIsWeighed c →
    SidesTo p None es E first second F → SettlesFrom (BlockSettles Alike Alike a) first F ls G → SettlesFrom (BlockSettles Alike Alike c) second G cs H → ((E : Ended) → StepsTo all_kept none_stopped ls cs E rs E) →
    SettlesFrom (StatementSettles Alike Alike (Choice p a c)) es E rs H
choice_settles p a c es first second ls cs rs E F G H w wa wc d x y m h u =
    let s = sides_alike p es first second E F w d h u in
    let J = rows_of E in
    let q = x s.first_above s.adds.first in
    let r = y s.second_above q.adds.first in
    let g = merged_alike ls cs rs H m q.above r.above r.adds.first in
    let more = alike_chain J [] (q.ended ++ r.ended) s.adds (alike_chain (rows_of F) q.ended r.ended q.adds r.adds) in
    let ts = product_some q.turns.1 r.turns.1 q.some r.some in
    record {
      above = g.above;
      ended = q.ended ++ r.ended;
      turns = plus q.turns r.turns;
      some = ts;
      settles = (
        record { next = as_table ls; ended = q.ended; turns = q.turns },
        record { next = as_table cs; ended = r.ended; turns = r.turns },
        block_from a wa _ _ _ s.first_alike q.settles,
        block_from c wc _ _ _ s.second_alike r.settles,
        record { next = g.alike; ended = alike_refl _ (behind_fractions J (q.ended ++ r.ended) more.second); turns = refl; fraction = ts },
      );
      adds = more;
      unlimited = unlimited_append q.ended r.ended q.unlimited r.unlimited;
    }

-- ---- tables that are read side by side
pub none_there : {A : Type 0} (o : Option A) (b : Bool) (P : Type 0) (R : A → Type 0) → is_some o ≡ not b → b ≡ true → MatchOption o P R → P
none_there None b P R e f h = h
none_there (Some x) b P R e f h = absurd (cc)

pub side_by_side : (ts bs xs xs' ys ys' : Entries) (s t : State) (f g : Fraction) → xs ≡ (s, f) ∷ xs' → ys ≡ (t, g) ∷ ys' → s ≡ t → f ≡ g → (xs ≡ ys → ts ≡ bs) → xs' ≡ ys' → ts ≡ bs
side_by_side ts bs xs xs' ys ys' s t f g p q e d all h = all (p ∙ ap (λ z. (z, f) ∷ xs') e ∙ ap (λ z. (t, z) ∷ xs') d ∙ ap (λ z. (t, g) ∷ z) h ∙ sym q)

pub same_pair : (p q : Fraction) → p.0 ≡ q.0 → p.1 ≡ q.1 → p ≡ q
same_pair (a, b) (c, d) e f = ap (λ z. (z, b)) e ∙ ap (λ z. (c, z)) f
