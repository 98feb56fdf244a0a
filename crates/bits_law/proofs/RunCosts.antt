-- The law of what a run costs, whatever a round costs: under limits it rises with them, to what a round costs in the limit over what it does
-- not fail with. Where it fails with all weight in the limit there is no bound, unless a round costs nothing.
use Rattle.std.proofs.Common.{◌≡◌, ℕ, zero, suc, ◌+◌, ◌-◌, ◌*◌, ◌≤◌, ◌<◌, max, Some, sym, subst, arith}
use Rattle.std.proofs.Math.Nat.{mul-le-mul_left}
use Rattle.gcl_core.specs.declared.answers.Limits.{Limits}
use Rattle.gcl_core.specs.meaning.Checked.{IsChecked}
use Rattle.gcl_core.specs.meaning.Syntax.{SourceProgram}
use Rattle.gcl_core.specs.weighing.Fractions.{Fraction, zero_share, plus, power_sum, divided_by_rest, AtMost, IsBelowOne, IsOne}
use Rattle.gcl_core.specs.weighing.Mass.{failed_mass}
use Rattle.weighing_law.proofs.Shares.{product_pos, power_sum_pos}
use Rattle.unlimited_law.specs.Settling.{Outflow}
use Rattle.unlimited_law.specs.SettledMasses.{ProgramSettles, settled_failed}
use Rattle.unlimited_law.proofs.Numbers.{◌⊗◌, ◌⊑◌, ◌≃◌, nought, unit, below_refl, below_trans, add_below, factor_below, times_nought, unit_times, nought_add}
use Rattle.unlimited_law.proofs.FractionNumbers.{of, of_plus, of_pos, of_zero, of_join, of_equal, below_of}
use Rattle.bits_law.specs.Rounds.{RoundCost, expected_cost}
use Rattle.bits_law.specs.InTheLimit.{AtLeast, NoLess, ComesTo, HasNoBound}
use Rattle.bits_law.proofs.Rounds.{series, series_is, series_rises, series_most, all_rounds, all_rounds_near, rounds_near, IsClose}
use Rattle.bits_law.proofs.LimitedReads.{Approached, fails_at, fails_rise, failed_some, failed_is, failed_approached, limit_some}
use Rattle.bits_law.proofs.Unbounded.{whole, less_one, left_below}

module _ (p : SourceProgram) (ok : IsChecked p) (cost : RoundCost) (some : (n r : ℕ) → 0 < (cost n r).1) where
  pub cost_some : (l : Limits) → 0 < (expected_cost p cost l).1
  cost_some l =
      product_pos (cost l.turns l.attempts).1 (power_sum (failed_mass p l.turns (Some l.attempts)) l.rounds).1 (some l.turns l.attempts)
      (power_sum_pos (failed_mass p l.turns (Some l.attempts)) (failed_some p ok l.turns l.attempts) l.rounds)

  pub cost_is : (l : Limits) → of (expected_cost p cost l) ≃ series l.rounds (of (cost l.turns l.attempts)) (of (failed_mass p l.turns (Some l.attempts)))
  cost_is l = series_is (cost l.turns l.attempts) (failed_mass p l.turns (Some l.attempts)) (failed_some p ok l.turns l.attempts) l.rounds

  abbrev failing : ℕ → ℕ → Fraction
  failing n r = failed_mass p n (Some r)

  failing_rises : (n m r t : ℕ) → n ≤ m → r ≤ t → of (failing n r) ⊑ of (failing m t)
  failing_rises n m r t a b = below_trans (failed_is p ok n r).below (below_trans (fails_rise p ok n m r t a b) (failed_is p ok m t).above)

  module _ (rises : (n m r t : ℕ) → n ≤ m → r ≤ t → of (cost n r) ⊑ of (cost m t)) where
    -- it rises
    pub cost_rises : (l m : Limits) → NoLess l m → AtMost (expected_cost p cost l) (expected_cost p cost m)
    cost_rises l m h =
        let a = h.turns in
        let b = h.attempts in
        below_of (expected_cost p cost l) (expected_cost p cost m) (cost_some l) (cost_some m)
        (below_trans (cost_is l).below
        (below_trans
        (series_rises l.rounds m.rounds h.rounds (of (cost l.turns l.attempts)) (of (cost m.turns m.attempts)) (of (failing l.turns l.attempts)) (of (failing m.turns m.attempts))
        (rises l.turns m.turns l.attempts m.attempts a b) (failing_rises l.turns m.turns l.attempts m.attempts a b)) (cost_is m).above))

  whole_of : (k : ℕ) (l : Limits) → whole k ⊑ of (expected_cost p cost l) → AtMost (k, 1) (expected_cost p cost l)
  whole_of k l h = below_of (k, 1) (expected_cost p cost l) (omega arith) (cost_some l) h

  -- one round already costs so much
  first_round : (l : Limits) → 1 ≤ l.rounds → of (cost l.turns l.attempts) ⊑ of (expected_cost p cost l)
  first_round l h =
      let b = of (cost l.turns l.attempts) in
      let f = of (failing l.turns l.attempts) in
      below_trans (left_below b (f ⊗ nought)) (below_trans (series_rises 1 l.rounds h b b f f (below_refl b) (below_refl f)) (cost_is l).above)

  -- where a round costs more than any number
  pub grows_with_round : ((k : ℕ) → (least : ℕ) × ((n r : ℕ) → least ≤ n → least ≤ r → whole k ⊑ of (cost n r))) → HasNoBound (expected_cost p cost)
  grows_with_round great k =
      let x = great k in (
        max x.0 1,
        λ l a.
            let an = a.turns in
            let ar = a.attempts in
            let aR = a.rounds in
            whole_of k l (below_trans (x.1 l.turns l.attempts (omega arith) (omega arith)) (first_round l (omega arith))),
      )

  module _ (each : Fraction) (each_some : 0 < each.1) (tends : Approached (λ n r. of (cost n r)) (of each)) (f : Outflow) (s : ProgramSettles p f) where
    abbrev lost : Fraction
    lost = settled_failed p f

    abbrev fails : Approached (fails_at p ok) (of lost)
    fails = failed_approached p ok f s

    lost_some : 0 < lost.1
    lost_some = limit_some p ok f s

    fails_below : (n r : ℕ) → of (failing n r) ⊑ of lost
    fails_below n r = below_trans (failed_is p ok n r).below (fails.most n r)

    -- limits at which a round is as near as is wanted
    is_close : of lost ⊑ unit → (M : ℕ) → 0 < M → (least : ℕ) × ((n r : ℕ) → least ≤ n → least ≤ r → IsClose M (of each) (of lost) (of (cost n r)) (of (failing n r)))
    is_close small M pos =
        let y = tends.near M pos in
        let z = fails.near M pos in (
          max y.0 z.0,
          λ n r a b. record {
            reads = y.1 n r (omega arith) (omega arith);
            fails = below_trans (z.1 n r (omega arith) (omega arith)) (add_below (failed_is p ok n r).above (below_refl (of (1, M))));
            less = below_trans (fails_below n r) small;
          },
        )

    module _ (passes : IsBelowOne lost) where
      abbrev all : Fraction
      all = divided_by_rest each lost

      all_some : 0 < all.1
      all_some = product_pos each.1 (lost.1 - lost.0) each_some (omega arith)

      fails_less : of lost ⊑ unit
      unfolding unit
      fails_less = below_trans (of_pos lost lost_some).below (record { le = let h = passes in omega arith })

      within : (l : Limits) → AtMost (expected_cost p cost l) all
      within l =
          below_of (expected_cost p cost l) all (cost_some l) all_some
          (below_trans (cost_is l).below
          (series_most (of (cost l.turns l.attempts)) (of each) (of (failing l.turns l.attempts)) (of lost) (of all) (tends.most l.turns l.attempts)
          (fails_below l.turns l.attempts) (all_rounds each lost each_some passes).below l.rounds))

      near : (k : ℕ) → 1 ≤ k → (least : ℕ) × ((l : Limits) → AtLeast least l → AtMost all (plus (expected_cost p cost l) (1, k)))
      near k h =
          let pos : 0 < k = omega arith in
          let x = all_rounds_near each lost each_some passes k pos in
          let y = is_close fails_less x.1 x.2 in (
            max x.0 y.0,
            λ l a.
                let an = a.turns in
                let ar = a.attempts in
                let aR = a.rounds in
                let n = l.turns in
                let r = l.attempts in
                below_of all (plus (expected_cost p cost l) (1, k)) all_some (product_pos (expected_cost p cost l).1 k (cost_some l) pos)
                (below_trans (x.3 l.rounds (omega arith) (of (cost n r)) (of (failing n r)) (y.1 n r (omega arith) (omega arith)))
                (below_trans (add_below (cost_is l).above (below_refl (of (1, k)))) (of_plus (expected_cost p cost l) (1, k) (cost_some l) pos).above)),
          )

      pub comes_to : ComesTo (expected_cost p cost) all
      comes_to = record { within = within; near = near; fraction = let h = all_some in omega arith }

    module _ (always : IsOne lost) where
      great : unit ⊑ of lost
      unfolding unit
      great = below_trans (record { le = let h = always in omega arith }) (of_pos lost lost_some).above

      small : of lost ⊑ unit
      unfolding unit
      small = below_trans (of_pos lost lost_some).below (record { le = let h = always in omega arith })

      -- where a round costs nothing
      pub costs_nothing : each.0 ≡ 0 → ComesTo (expected_cost p cost) zero_share
      costs_nothing none =
          let zero_each : of each ⊑ nought = below_trans (of_equal each (each.0, each.1) each_some each_some (let e : each.0 * each.1 ≡ each.0 * each.1 = omega arith in e)).below (subst (λ x. of (x, each.1) ⊑ nought) (sym none) (of_zero each.1).below) in
          record {
            within = λ l.
                below_of (expected_cost p cost l) zero_share (cost_some l) (omega arith)
                (below_trans (cost_is l).below
                (below_trans
                (series_most (of (cost l.turns l.attempts)) nought (of (failing l.turns l.attempts)) (of lost) nought (below_trans (tends.most l.turns l.attempts) zero_each)
                (fails_below l.turns l.attempts) (below_trans (add_below (below_refl nought) (times_nought (of lost)).below) (nought_add nought).below) l.rounds) (of_zero 1).above));
            near = λ k h. (0, λ l a. omega arith);
            fraction = omega arith;
          }

      -- so many rounds that fail always
      rounds_add : (R : ℕ) → of (R * each.0, each.1) ⊑ series R (of each) (of lost)
      rounds_add zero = below_trans (let e : 0 * each.0 ≡ 0 = omega arith in subst (λ x. of (x, each.1) ⊑ nought) (sym e) (of_zero each.1).below) (below_refl nought)
      rounds_add (suc R) =
          let e : suc R * each.0 ≡ each.0 + R * each.0 = omega arith in
          subst (λ x. of (x, each.1) ⊑ series (suc R) (of each) (of lost)) (sym e)
          (below_trans (of_join each.0 (R * each.0) each.1 each_some).above
          (add_below (below_refl (of each)) (below_trans (rounds_add R) (below_trans (unit_times _).above (factor_below (series R (of each) (of lost)) great)))))

      -- where it costs something
      pub grows_with_rounds : 0 < each.0 → HasNoBound (expected_cost p cost)
      grows_with_rounds any k =
          let R = (k + 1) * each.1 in
          let pos : 0 < 1 = omega arith in
          let x = rounds_near (of each) (of lost) R 1 pos in
          let y = is_close small x.0 x.1 in
          let enough : whole (k + 1) ⊑ series R (of each) (of lost) =
          below_trans (below_trans (of_pos (k + 1, 1) pos).below (below_trans (record { le = many (k + 1) each.0 each.1 any }) (of_pos (R * each.0, each.1) each_some).above)) (rounds_add R) in (
            max y.0 R,
            λ l a.
                let an = a.turns in
                let ar = a.attempts in
                let aR = a.rounds in
                let b = of (cost l.turns l.attempts) in
                let g = of (failing l.turns l.attempts) in
                whole_of k l
                (below_trans (less_one k (series R (of each) (of lost)) (series R b g) nought enough (below_trans (nought_add _).below (x.2 b g (y.1 l.turns l.attempts (omega arith) (omega arith)))))
                (below_trans (series_rises R l.rounds (omega arith) b b g g (below_refl b) (below_refl g)) (cost_is l).above)),
          )
        where
          many : (k a b : ℕ) → 0 < a → k * b ≤ k * b * a * 1
          many k a b h = let x = mul-le-mul_left (k * b) (let le : 1 ≤ a = omega arith in le) in omega arith
