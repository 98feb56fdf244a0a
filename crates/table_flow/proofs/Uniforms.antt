-- A uniform draw of each state of a table.
use Rattle.std.proofs.Common.{◌≡◌, ℕ, zero, suc, ◌+◌, ◌*◌, ◌<◌, ℤ, pos, negsuc, [], ◌∷◌, map, Ok, Err, Option, slice_set, refl, sym, ap, ◌∙◌, subst, arith}
use Rattle.gcl_core.specs.declared.answers.Fault.TheVariants.{BadBound}
use Rattle.gcl_core.specs.declared.answers.Limit.TheVariants.{Attempts}
use Rattle.gcl_core.specs.meaning.Value.{State, Value}
use Rattle.gcl_core.specs.meaning.Blocks.{End, fault, limit, by_value, by_bound}
use Rattle.gcl_core.specs.weighing.Fractions.{Fraction, one, times}
use Rattle.gcl_core.specs.weighing.WeightedEnds.{Weighted, scaled, class_weight, no_class_weight}
use Rattle.table_flow.specs.Tables.{Table, all_end}
use Rattle.table_flow.specs.Scale.{whole, Whole, Wholes, amount}
use Rattle.table_flow.specs.Counts.{sum_below, part_at, rest_at, drawn, undrawn}
use Rattle.table_flow.proofs.FlowWords.{set_below, set_drawn, not_drawn, multiplied}
use Rattle.numbers.proofs.Divisors.{product_pos}
use Rattle.table_flow.proofs.Wholes.{whole_from}
use Rattle.table_flow.proofs.Amounts.{amount_append, amount_none, amount_sum, whole_zero, ends_first, ends_second}
use Rattle.table_flow.proofs.Spreads.{times_one, times_swap}
use Rattle.table_flow.proofs.Draws.{class_pos, no_class_pos}

pub counts_scaled : {A : Type 0} (N : ℕ) (H : A → ℕ) (u : Fraction) (e : Fraction × A) → amount N H (scaled u (e ∷ [])) ≡ whole N (times e.0 u) * H e.1
counts_scaled N H (zero, d) e = let p : e.0.0 * 0 ≡ 0 = omega arith in rw p (let z = ap (λ n. n * H e.1) (whole_zero N (e.0.1 * d)) in omega arith)
counts_scaled N H (suc n, d) e = let a = ap (λ w. whole N w * H e.1) (times_swap (suc n, d) e.0) in omega arith

counts_moved : (N : ℕ) (G : State → ℕ) (x : ℕ) (z : ℤ) (J : Table) → amount N G (map (λ e. (e.0, slice_set e.1 x z)) J) ≡ amount N (λ s. G (slice_set s x z)) J
counts_moved N G x z [] = refl
counts_moved N G x z (e ∷ J) = let i = counts_moved N G x z J in omega arith

counts_below : (N : ℕ) (G : State → ℕ) (x m : ℕ) (J : Table) → amount N G (set_below x m J) ≡ amount N (λ s. sum_below m (λ i. G (slice_set s x (pos i)))) J
counts_below N G x zero J = sym (amount_none N J)
counts_below N G x (suc m) J =
    let a = amount_append N G (set_below x m J) (map (λ e. (e.0, slice_set e.1 x (pos m))) J) in
    let b = counts_moved N G x (pos m) J in
    let i = counts_below N G x m J in
    let c = amount_sum N (λ s. sum_below m (λ i. G (slice_set s x (pos i)))) (λ s. G (slice_set s x (pos m))) J in
    omega arith

counts_end : (N : ℕ) (G : End → ℕ) (x : End) (I : Table) → amount N G (all_end x I) ≡ amount N (λ s. G x) I
counts_end N G x [] = refl
counts_end N G x (e ∷ I) = let i = counts_end N G x I in omega arith

moved_whole : (N x : ℕ) (z : ℤ) (J : Table) → Wholes N (map (λ e. (e.0, slice_set e.1 x z)) J) → Wholes N J
moved_whole N x z [] h = tt
moved_whole N x z (e ∷ J) h = (h.0, moved_whole N x z J h.1)

end_whole : (N : ℕ) (x : End) (J : Table) → Wholes N (all_end x J) → Wholes N J
end_whole N x [] h = tt
end_whole N x (e ∷ J) h = (h.0, end_whole N x J h.1)

-- a part of one entry
part_whole : (N : ℕ) (u w : Fraction) (s : State) → 0 < w.1 → 0 < u.1 → Wholes N (scaled u ((w, s) ∷ [])) → Whole N (times w u)
part_whole N (zero, d) (n, c) s pw pu h =
    let z : n * 0 ≡ 0 = omega arith in
    rw z (whole_from N (0, c * d) 0 (product_pos c d pw pu) (omega arith)).1
part_whole N (suc m, d) w s pw pu h = subst (Whole N) (times_swap (suc m, d) w) h.0

-- what a uniform draw makes of a table
module _ (x : ℕ) (v : State → Value) (r : Option ℕ) where
  pub drawn_next : (N : ℕ) (G : State → ℕ) (I : Table) → amount N G (set_drawn x v r I) ≡ amount N (drawn x v G) (multiplied (part_at v r) I)
  drawn_next N G [] = refl
  drawn_next N G (e ∷ I) =
      let i = drawn_next N G I in
      let a = amount_append N G (by_value (v e.1) (λ f. []) goes) (set_drawn x v r I) in
      let b = by_state (v e.1) in
      omega arith
    where
      goes : ℤ → Table
      goes z = by_bound z [] (λ m. set_below x m (scaled (class_weight m r 1) (e ∷ [])))

      by_sign : (z : ℤ) → amount N G (goes z) ≡ whole N (times e.0 (by_bound z one (λ m. class_weight m r 1))) * by_bound z 0 (λ m. sum_below m (λ i. G (slice_set e.1 x (pos i))))
      by_sign (pos zero) = omega arith
      by_sign (pos (suc m)) = counts_below N G x (suc m) (scaled (class_weight (suc m) r 1) (e ∷ [])) ∙ counts_scaled N (λ s. sum_below (suc m) (λ i. G (slice_set s x (pos i)))) (class_weight (suc m) r 1) e
      by_sign (negsuc m) = omega arith

      by_state : (o : Value) → amount N G (by_value o (λ f. []) goes) ≡ whole N (times e.0 (by_value o (λ f. one) (λ z. by_bound z one (λ m. class_weight m r 1)))) * by_value o (λ f. 0) (λ z. by_bound z 0 (λ m. sum_below m (λ i. G (slice_set e.1 x (pos i)))))
      by_state (Ok z) = by_sign z
      by_state (Err f) = omega arith

  pub drawn_ended : (N : ℕ) (G : End → ℕ) (I : Table) → amount N G (not_drawn v r I) ≡ amount N (undrawn v G) (multiplied (rest_at v r) I)
  drawn_ended N G [] = refl
  drawn_ended N G (e ∷ I) =
      let i = drawn_ended N G I in
      let a = amount_append N G (by_value (v e.1) (λ f. (e.0, fault f) ∷ []) stops) (not_drawn v r I) in
      let b = by_state (v e.1) in
      omega arith
    where
      stops : ℤ → Weighted End
      stops z = by_bound z ((e.0, fault BadBound) ∷ []) (λ m. all_end (limit Attempts) (scaled (no_class_weight m r) (e ∷ [])))

      alone : (y : End) → whole N e.0 * G y + 0 ≡ whole N (times e.0 one) * G y
      alone y = let q = ap (λ w. whole N w * G y) (times_one e.0) in omega arith

      by_sign : (z : ℤ) → amount N G (stops z) ≡ whole N (times e.0 (by_bound z one (λ m. no_class_weight m r))) * by_bound z (G (fault BadBound)) (λ m. G (limit Attempts))
      by_sign (pos zero) = alone (fault BadBound)
      by_sign (pos (suc m)) = counts_end N G (limit Attempts) (scaled (no_class_weight (suc m) r) (e ∷ [])) ∙ counts_scaled N (λ s. G (limit Attempts)) (no_class_weight (suc m) r) e
      by_sign (negsuc m) = alone (fault BadBound)

      by_state : (o : Value) → amount N G (by_value o (λ f. (e.0, fault f) ∷ []) stops) ≡ whole N (times e.0 (by_value o (λ f. one) (λ z. by_bound z one (λ m. no_class_weight m r)))) * by_value o (λ f. G (fault f)) (λ z. by_bound z (G (fault BadBound)) (λ m. G (limit Attempts)))
      by_state (Ok z) = by_sign z
      by_state (Err f) = alone (fault f)

  -- ---- what is whole
  state_whole : (N : ℕ) (w : Fraction) (s : State) → Whole N w →
      Wholes N (by_value (v s) (λ f. []) (λ z. by_bound z [] (λ m. set_below x m (scaled (class_weight m r 1) ((w, s) ∷ []))))) →
      Wholes N (by_value (v s) (λ f. (w, fault f) ∷ []) (λ z. by_bound z ((w, fault BadBound) ∷ []) (λ m. all_end (limit Attempts) (scaled (no_class_weight m r) ((w, s) ∷ []))))) →
      Whole N (times w (part_at v r s)) × Whole N (times w (rest_at v r s))
  state_whole N w s h = by_state (v s)
    where
      alone : Whole N (times w one) × Whole N (times w one)
      alone = let z = subst (Whole N) (sym (times_one w)) h in (z, z)

      by_sign : (z : ℤ) → Wholes N (by_bound z [] (λ m. set_below x m (scaled (class_weight m r 1) ((w, s) ∷ [])))) → Wholes N (by_bound z ((w, fault BadBound) ∷ []) (λ m. all_end (limit Attempts) (scaled (no_class_weight m r) ((w, s) ∷ [])))) →
          Whole N (times w (by_bound z one (λ m. class_weight m r 1))) × Whole N (times w (by_bound z one (λ m. no_class_weight m r)))
      by_sign (pos zero) g e = alone
      by_sign (pos (suc m)) g e =
          let J = scaled (class_weight (suc m) r 1) ((w, s) ∷ []) in
          let last = moved_whole N x (pos m) J (ends_second N (set_below x m J) (map (λ e. (e.0, slice_set e.1 x (pos m))) J) g) in (
            part_whole N (class_weight (suc m) r 1) w s h.positive (class_pos (suc m) r 1 (omega arith)) last,
            part_whole N (no_class_weight (suc m) r) w s h.positive (no_class_pos (suc m) r) (end_whole N (limit Attempts) (scaled (no_class_weight (suc m) r) ((w, s) ∷ [])) e),
          )
      by_sign (negsuc m) g e = alone

      by_state : (o : Value) → Wholes N (by_value o (λ f. []) (λ z. by_bound z [] (λ m. set_below x m (scaled (class_weight m r 1) ((w, s) ∷ []))))) →
          Wholes N (by_value o (λ f. (w, fault f) ∷ []) (λ z. by_bound z ((w, fault BadBound) ∷ []) (λ m. all_end (limit Attempts) (scaled (no_class_weight m r) ((w, s) ∷ []))))) →
          Whole N (times w (by_value o (λ f. one) (λ z. by_bound z one (λ m. class_weight m r 1)))) × Whole N (times w (by_value o (λ f. one) (λ z. by_bound z one (λ m. no_class_weight m r))))
      by_state (Ok z) g e = by_sign z g e
      by_state (Err f) g e = alone

  pub drawn_whole : (N : ℕ) (I : Table) → Wholes N I → Wholes N (set_drawn x v r I) → Wholes N (not_drawn v r I) → Wholes N (multiplied (part_at v r) I) × Wholes N (multiplied (rest_at v r) I)
  drawn_whole N [] w g e = (tt, tt)
  drawn_whole N (d ∷ I) w g e =
      let goes : ℤ → Table = λ z. by_bound z [] (λ m. set_below x m (scaled (class_weight m r 1) (d ∷ []))) in
      let stops : ℤ → Weighted End = λ z. by_bound z ((d.0, fault BadBound) ∷ []) (λ m. all_end (limit Attempts) (scaled (no_class_weight m r) (d ∷ []))) in
      let i = drawn_whole N I w.1 (ends_second N (by_value (v d.1) (λ f. []) goes) (set_drawn x v r I) g) (ends_second N (by_value (v d.1) (λ f. (d.0, fault f) ∷ []) stops) (not_drawn v r I) e) in
      let a = state_whole N d.0 d.1 w.0 (ends_first N (by_value (v d.1) (λ f. []) goes) (set_drawn x v r I) g) (ends_first N (by_value (v d.1) (λ f. (d.0, fault f) ∷ []) stops) (not_drawn v r I) e) in
      ((a.0, i.0), (a.1, i.1))
