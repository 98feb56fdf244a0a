-- The law of whatever is counted of a run: under limits it rises with the limits, to what a round costs in the limit over what it does not fail
-- with. It has no bound where a round costs something for ever with some weight, or it costs something and fails with all weight in the limit.
use Rattle.std.proofs.Common.{◌≡◌, ℕ, ◌+◌, ◌≤◌, ◌<◌, max, Some, None, arith}
use Rattle.gcl_core.specs.declared.answers.Limits.{Limits}
use Rattle.gcl_core.specs.meaning.Checked.{IsChecked}
use Rattle.gcl_core.specs.meaning.Syntax.{SourceProgram}
use Rattle.gcl_core.specs.weighing.Fractions.{Fraction, zero_share, AtMost, IsBelowOne, IsOne}
use Rattle.gcl_core.specs.weighing.WeightedEnds.{sure}
use Rattle.table_flow.specs.Tables.{Table}
use Rattle.table_flow.proofs.Positive.{p_sure}
use Rattle.unlimited_law.specs.Settling.{Outflow}
use Rattle.unlimited_law.specs.SettledMasses.{ProgramSettles, settled_failed}
use Rattle.unlimited_law.proofs.Numbers.{Rational, ◌⊕◌, ◌⊑◌, ◌≃◌, nought, below_refl, below_trans, same_refl, same_trans, add_below, add_same, nought_add, add_nought}
use Rattle.unlimited_law.proofs.FractionNumbers.{of, of_zero}
use Rattle.unlimited_law.proofs.Integrals.{integral, integral_sure, integral_nought}
use Rattle.bits_law.specs.Price.{Price}
use Rattle.bits_law.specs.RunPrice.{round_price, expected_price}
use Rattle.bits_law.specs.InTheLimit.{NoLess, ComesTo, HasNoBound, RoundCosts, price_in_the_limit}
use Rattle.bits_law.specs.Forever.{CostsForever}
use Rattle.bits_law.proofs.Readers.{quiet, cost_of, block_costs, block_rises}
use Rattle.bits_law.proofs.Shares.{price_share}
use Rattle.bits_law.proofs.BlockTends.{block_some, block_tends}
use Rattle.bits_law.proofs.PricedReads.{stands_block}
use Rattle.bits_law.proofs.LimitedReads.{Approached, start, weights, after, limits_rise, enough_attempts, approached}
use Rattle.bits_law.proofs.Unbounded.{whole, less_one, block_grows}
use Rattle.bits_law.proofs.RunCosts.{cost_some, cost_rises, grows_with_round, comes_to, costs_nothing, grows_with_rounds}

module _ (price : Price) (p : SourceProgram) (ok : IsChecked p) where
  -- what a round counts
  abbrev at : ℕ → ℕ → Rational
  at n r = block_costs price (Some r) n p.body (start p ok) (after p ok)

  round_some : (n r : ℕ) → 0 < (round_price price p n r).1
  round_some n r = (stands_block price r n p.body (start p ok)).some (λ s. zero_share) (λ s. omega arith)

  -- what follows is nothing
  round_is : (n r : ℕ) → of (round_price price p n r) ≃ at n r
  round_is n r =
      same_trans ((stands_block price r n p.body (start p ok)).is (λ s. zero_share) (λ s. omega arith))
      (record {
        below = block_rises price (Some r) n n (omega arith) p.body (start p ok) (λ s. of zero_share) (after p ok) (λ s. (of_zero 1).below);
        above = block_rises price (Some r) n n (omega arith) p.body (start p ok) (after p ok) (λ s. of zero_share) (λ s. (of_zero 1).above);
      })

  at_rises : (n m r t : ℕ) → n ≤ m → r ≤ t → at n r ⊑ at m t
  at_rises = limits_rise p ok quiet (below_refl nought) (cost_of price) (λ cs some r. price_share cs some price r) price.turns

  rises : (n m r t : ℕ) → n ≤ m → r ≤ t → of (round_price price p n r) ⊑ of (round_price price p m t)
  rises n m r t a b = below_trans (round_is n r).below (below_trans (at_rises n m r t a b) (round_is m t).above)

  pub price_some : (l : Limits) → 0 < (expected_price price p l).1
  price_some = cost_some p ok (round_price price p) round_some

  pub price_rises : (l m : Limits) → NoLess l m → AtMost (expected_price price p l) (expected_price price p m)
  price_rises = cost_rises p ok (round_price price p) round_some rises

  -- ---- a round that costs something for ever
  forever_grows : CostsForever price p → (k : ℕ) → (least : ℕ) × ((n r : ℕ) → least ≤ n → least ≤ r → whole k ⊑ of (round_price price p n r))
  forever_grows o k =
      let x = block_grows price p.body (weights p ok) (sure (start p ok)) (p_sure (start p ok)) o (k + 1) in
      let pos : 0 < 1 = omega arith in
      let y = enough_attempts p ok quiet (below_refl nought) (cost_of price) (λ cs some r. price_share cs some price r) price.turns x.0 1 pos in
      let free = block_costs price None x.0 p.body (start p ok) (after p ok) in
      let alone = integral_sure (λ s. block_costs price None x.0 p.body s (after p ok)) (start p ok) in
      let enough : whole k ⊑ at x.0 y.0 = less_one k free (at x.0 y.0) nought (below_trans x.1 alone.below) (below_trans (nought_add _).below y.1) in
      (max x.0 y.0, λ n r a b. below_trans enough (below_trans (at_rises x.0 n y.0 r (omega arith) (omega arith)) (round_is n r).above))

  pub forever_unbounded : CostsForever price p → HasNoBound (expected_price price p)
  forever_unbounded o = grows_with_round p ok (round_price price p) round_some (forever_grows o)

  module _ (J : Table) (cost : Fraction) (o : RoundCosts price p J cost) (f : Outflow) (s : ProgramSettles p f) where
    some : 0 < cost.1
    some = block_some price p.body _ J cost o

    tends : Approached (λ n r. of (round_price price p n r)) (of cost)
    tends =
        let t = block_tends price p.body (weights p ok) (sure (start p ok)) J cost (p_sure (start p ok)) o in
        let none = after p ok in
        let whole : of cost ⊕ integral none J ≃ of cost = same_trans (add_same (same_refl (of cost)) (integral_nought J)) (add_nought (of cost)) in
        let alone = λ (n : ℕ). integral_sure (λ s. block_costs price None n p.body s none) (start p ok) in
        let h = approached p ok quiet (below_refl nought) (cost_of price) (λ cs some r. price_share cs some price r) price.turns (of cost)
        (λ n. below_trans (alone n).above (below_trans (t.most n none) whole.below))
        (λ j pos. let x = t.near none j pos in (x.0, below_trans whole.above (below_trans x.1 (add_below (alone x.0).below (below_refl (of (1, j))))))) in
        record {
          rises = rises;
          most = λ n r. below_trans (round_is n r).below (h.most n r);
          near = λ j pos. let x = h.near j pos in (x.0, λ n r a b. below_trans (x.1 n r a b) (add_below (round_is n r).above (below_refl (of (1, j)))));
        }

    pub price_comes : IsBelowOne (settled_failed p f) → ComesTo (expected_price price p) (price_in_the_limit p f cost)
    price_comes = comes_to p ok (round_price price p) round_some cost some tends f s

    pub price_nothing : IsOne (settled_failed p f) → cost.0 ≡ 0 → ComesTo (expected_price price p) zero_share
    price_nothing = costs_nothing p ok (round_price price p) round_some cost some tends f s

    pub price_unbounded : IsOne (settled_failed p f) → 0 < cost.0 → HasNoBound (expected_price price p)
    price_unbounded = grows_with_rounds p ok (round_price price p) round_some cost some tends f s
