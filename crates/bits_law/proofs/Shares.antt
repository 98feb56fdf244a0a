-- A draw by at most r attempts gives each class a share of what it has by as many as it takes, and costs the same share.
use Rattle.std.proofs.Common.{◌≡◌, ℕ, zero, suc, ◌+◌, ◌-◌, ◌*◌, ◌^◌, ◌≤◌, ◌<◌, List, [], ◌∷◌, Option, Some, None, sym, ap, ◌∙◌, subst, arith}
use Rattle.std.proofs.lemmas.Nat.{pow-add, pow_pos}
use Rattle.std.proofs.Math.Nat.{mul-le-mul_left, pow-suc, pow-zero}
use Rattle.gcl_core.specs.meaning.Draw.{bits_for, last_end, rejected_numbers, strings_to_a_number}
use Rattle.gcl_core.specs.weighing.Fractions.{Fraction, power, power_sum}
use Rattle.gcl_core.specs.weighing.WeightedEnds.{class_weight, no_class_weight, classes_from, weighted_classes}
use Rattle.gcl_core.proofs.Classes.{bits_enough}
use Rattle.gcl_core.proofs.DrawTrees.{parts_all}
use Rattle.weighing_law.proofs.Fractions.{power_below}
use Rattle.weighing_law.proofs.Shares.{product_pos, power_sum_pos}
use Rattle.unlimited_law.proofs.Numbers.{Rational, ◌⊕◌, ◌⊗◌, ◌⊑◌, ◌≃◌, nought, unit, below_refl, same_refl, below_trans, same_sym, same_trans, add_same, times_same, factor_same, times_assoc, times_sum, times_nought, add_nought}
use Rattle.unlimited_law.proofs.FractionNumbers.{of, of_times, of_plus, of_equal, of_pos}
use Rattle.unlimited_law.proofs.Integrals.{integral, integral_append}
use Rattle.bits_law.specs.Price.{Price, price_of_draw}
use Rattle.bits_law.proofs.TableReads.{draw_some}

-- ---- numbers
power_up : (k r : ℕ) → 2 ^ (k * suc r) ≡ 2 ^ k * 2 ^ (k * r)
power_up k r = let e : k * suc r ≡ k + k * r = omega arith in ap (λ x. 2 ^ x) e ∙ pow-add 2 k (k * r)

again_power : (k q r : ℕ) → ((power (q, 2 ^ k) r).0 ≡ q ^ r) × ((power (q, 2 ^ k) r).1 ≡ 2 ^ (k * r))
again_power k q zero = (sym (pow-zero q), let e : k * 0 ≡ 0 = omega arith in sym (ap (λ x. 2 ^ x) e))
again_power k q (suc r) =
    let h = again_power k q r in
    (ap (λ x. q * x) h.0 ∙ turned q (q ^ r) ∙ sym (pow-suc q r), ap (λ x. 2 ^ k * x) h.1 ∙ sym (power_up k r))
  where
    turned : (q x : ℕ) → q * x ≡ x * q
    turned q x = omega arith

series_is : (k q r : ℕ) → (power_sum (q, 2 ^ k) r).0 * 2 ^ (k * r) ≡ strings_to_a_number k q r * 2 ^ k * (power_sum (q, 2 ^ k) r).1
series_is k q zero = omega arith
series_is k q (suc r) =
    let P = power_sum (q, 2 ^ k) r in
    more P.0 P.1 (strings_to_a_number k q r) (2 ^ (k * r)) (2 ^ k) q (2 ^ (k * suc r)) (power_up k r) (series_is k q r)
  where
    more : (a c S D C q E : ℕ) → E ≡ C * D → a * D ≡ S * C * c → (1 * (C * c) + q * a * 1) * E ≡ (D + q * S) * C * (1 * (C * c))
    more a c S D C q E e h = let x = ap (λ x. q * C * x) h in rw e (omega arith)

module _ (cs : List ℕ) (some : 0 < last_end cs) where
  abbrev b : ℕ
  b = last_end cs

  abbrev k : ℕ
  k = bits_for b

  abbrev pub q : ℕ
  q = rejected_numbers b

  abbrev S : ℕ → ℕ
  S r = strings_to_a_number k q r

  -- the share, by at most r attempts
  abbrev pub share : ℕ → Rational
  share r = of (b * S r, 2 ^ (k * r))

  parts : b + q ≡ 2 ^ k
  parts = let h = bits_enough b in omega arith

  all : (r : ℕ) → b * S r + q ^ r ≡ 2 ^ (k * r)
  all r = parts_all b k q r parts

  less : q < 2 ^ k
  less = let h = some in let e = parts in omega arith

  -- ---- the share rises to 1
  pub share_small : (r : ℕ) → share r ⊑ unit
  unfolding unit
  share_small r = below_trans (of_pos (b * S r, 2 ^ (k * r)) (pow_pos (k * r))).below (record { le = let e = all r in omega arith })

  share_step : (r : ℕ) → share r ⊑ share (suc r)
  share_step r =
      below_trans (of_pos (b * S r, 2 ^ (k * r)) (pow_pos (k * r))).below
      (below_trans (record { le = step b q (S r) (2 ^ (k * r)) (2 ^ k) (2 ^ (k * suc r)) (power_up k r) parts (let e = all r in omega arith) })
      (of_pos (b * S (suc r), 2 ^ (k * suc r)) (pow_pos (k * suc r))).above)
    where
      step : (b q S D C E : ℕ) → E ≡ C * D → b + q ≡ C → b * S ≤ D → b * S * E ≤ b * (D + q * S) * D
      step b q S D C E e p h =
          let x = mul-le-mul_left (b * D) h in
          let y = ap (λ x. b * S * D * x) p in
          rw e (omega arith)

  pub share_rises : (r t : ℕ) → share r ⊑ share (r + t)
  share_rises r zero = let e : r + 0 ≡ r = omega arith in subst (λ x. share r ⊑ share x) (sym e) (below_refl (share r))
  share_rises r (suc t) = let e : r + suc t ≡ suc (r + t) = omega arith in subst (λ x. share r ⊑ share x) (sym e) (below_trans (share_rises r t) (share_step (r + t)))

  pub share_near : (M r : ℕ) → 0 < M → M * q + 1 ≤ r → unit ⊑ share r ⊕ of (1, M)
  unfolding unit
  share_near M r h le =
      let D = 2 ^ (k * r) in
      let pos = pow_pos (k * r) in
      let f = power_below (q, 2 ^ k) M r less le in
      let g = again_power k q r in
      below_trans
      (record {
        le = near (b * S r) (q ^ r) D M (all r) (few (power (q, 2 ^ k) r).0 (power (q, 2 ^ k) r).1 (q ^ r) D M g.0 g.1 f);
      })
      (below_trans (of_pos (b * S r * M + 1 * D, D * M) (product_pos D M pos h)).above (of_plus (b * S r, D) (1, M) pos h).below)
    where
      few : (a c Q D M : ℕ) → a ≡ Q → c ≡ D → a * M ≤ 1 * c → Q * M ≤ D
      few a c Q D M e f h = subst (λ x. x * M ≤ D) e (subst (λ x. a * M ≤ x) f (omega arith))

      near : (B Q D M : ℕ) → B + Q ≡ D → Q * M ≤ D → 1 * (D * M) ≤ (B * M + 1 * D) * 1
      near B Q D M e h = let x = ap (λ x. x * M) e in omega arith

  -- ---- what has the share
  weight_share : (r size : ℕ) → of (class_weight b (Some r) size) ≃ share r ⊗ of (class_weight b None size)
  weight_share r size =
      same_trans (of_equal (size * S r, 2 ^ (k * r)) (b * S r * size, 2 ^ (k * r) * b) (pow_pos (k * r)) (product_pos (2 ^ (k * r)) b (pow_pos (k * r)) some) (omega arith))
      (of_times (b * S r, 2 ^ (k * r)) (size, b))

  classes_share : (r : ℕ) (G : Option ℕ → Rational) (i c : ℕ) (ends : List ℕ) → integral G (classes_from (class_weight b (Some r)) i c ends) ≃ share r ⊗ integral G (classes_from (class_weight b None) i c ends)
  classes_share r G i c [] = same_sym (times_nought (share r))
  classes_share r G i c (d ∷ ends) =
      same_trans (add_same (same_trans (factor_same (G (Some i)) (weight_share r (d - c))) (times_assoc (share r) (of (class_weight b None (d - c))) (G (Some i)))) (classes_share r G (i + 1) d ends))
      (same_sym (times_sum (share r) (of (class_weight b None (d - c)) ⊗ G (Some i)) (integral G (classes_from (class_weight b None) (i + 1) d ends))))

  no_last : (w : Fraction) (G : Option ℕ → Rational) → G None ≃ nought → integral G ((w, None) ∷ []) ≃ nought
  no_last w G h = same_trans (add_nought _) (same_trans (times_same (of w) h) (times_nought (of w)))

  pub weighted_share : (r : ℕ) (G : Option ℕ → Rational) → G None ≃ nought → integral G (weighted_classes cs (Some r)) ≃ share r ⊗ integral G (weighted_classes cs None)
  weighted_share r G h =
      let few = classes_from (class_weight b (Some r)) 0 0 cs in
      let free = classes_from (class_weight b None) 0 0 cs in
      same_trans (integral_append G few ((no_class_weight b (Some r), None) ∷ []))
      (same_trans (add_same (classes_share r G 0 0 cs) (no_last (no_class_weight b (Some r)) G h))
      (same_trans (add_nought _)
      (times_same (share r) (same_sym (same_trans (integral_append G free ((no_class_weight b None, None) ∷ [])) (same_trans (add_same (same_refl (integral G free)) (no_last (no_class_weight b None) G h)) (add_nought _)))))))

  pub price_share : (price : Price) (r : ℕ) → of (price_of_draw price (Some r) cs) ≃ share r ⊗ of (price_of_draw price None cs)
  price_share price r =
      let U = price.attempt cs in
      let P = power_sum (q, 2 ^ k) r in
      let D = 2 ^ (k * r) in
      let C = 2 ^ k in
      let left : C - q ≡ b = let e = parts in omega arith in
      same_trans
      (of_equal (price_of_draw price (Some r) cs) (b * S r * (U * C), D * (C * (C - q))) (product_pos C P.1 (pow_pos k) (power_sum_pos (q, 2 ^ k) (pow_pos k) r))
      (product_pos D (C * (C - q)) (pow_pos (k * r)) (draw_some price cs some)) (same U P.0 P.1 (S r) D C b (C - q) left (series_is k q r)))
      (of_times (b * S r, D) (U * C, C * (C - q)))
    where
      same : (U a c S D C b l : ℕ) → l ≡ b → a * D ≡ S * C * c → U * a * (D * (C * l)) ≡ b * S * (U * C) * (C * c)
      same U a c S D C b l e h = let x = ap (λ x. U * C * b * x) h in rw e (omega arith)
