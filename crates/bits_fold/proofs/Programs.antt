-- Programs: what a round reads, and the answer.
use Rattle.std.proofs.Common.{⊎_elim, ◌≡◌, ℕ, ◌+◌, ◌-◌, ◌*◌, ◌≤◌, ◌<◌, [], ◌∷◌, Some, None, length, refl, ap, subst, arith}
use Rattle.std.proofs.Math.Nat.{le_of_mul-le-mul_right, lt_of_mul-lt-mul_left, mul-le-mul_right, mul-lt-mul_of_pos_right}
use Rattle.std.proofs.lemmas.Bool.{cases_lt}
use Rattle.numbers.specs.Arithmetic.{product_of}
use Rattle.numbers.specs.Fraction.{IsEqual}
use Rattle.numbers.proofs.Divisors.{product_pos, cancel}
use Rattle.gcl_core.specs.declared.answers.Limits.{Limits}
use Rattle.gcl_core.specs.meaning.Checked.{IsChecked}
use Rattle.gcl_core.specs.meaning.Outcomes.{zeros}
use Rattle.gcl_core.specs.meaning.Syntax.{SourceProgram}
use Rattle.gcl_core.specs.weighing.Fractions.{Fraction, zero_share, one, plus, times, AtMost, IsBelowOne, IsOne}
use Rattle.gcl_core.specs.weighing.Mass.{is_failed}
use Rattle.gcl_core.specs.weighing.WeightedEnds.{sure, weighted_ends}
use Rattle.gcl_core.proofs.Accepted.{checked_weights}
use Rattle.mass_fold.specs.inner.Amounts.{Entries}
use Rattle.weighing_law.proofs.Fractions.{at_most_then}
use Rattle.unlimited_law.specs.Settling.{Outflow}
use Rattle.unlimited_law.specs.SettledMasses.{ProgramSettles, settled_failed}
use Rattle.unlimited_law.proofs.Numbers.{below_trans, add_below}
use Rattle.unlimited_law.proofs.FractionNumbers.{of_one, of_plus, of_times, below_of}
use Rattle.unlimited_law.proofs.Integrals.{integral, integral_sure}
use Rattle.unlimited_law.proofs.Covers.{sign}
use Rattle.unlimited_law.proofs.Bounded.{block_small}
use Rattle.unlimited_law.proofs.BlockLimits.{event_test, settled_some, settled_is, test_near}
use Rattle.unlimited_law.proofs.OneLimit.{parts_vanish}
use Rattle.exact_fold.specs.Exact.{FailsWith}
use Rattle.exact_fold.specs.inner.Settled.{as_table}
use Rattle.bits_law.specs.Price.{Price}
use Rattle.bits_law.specs.InTheLimit.{ComesTo, HasNoBound, price_in_the_limit}
use Rattle.bits_law.specs.Forever.{BlockEndless}
use Rattle.bits_law.specs.Reading.{BlockCosts}
use Rattle.bits_fold.specs.declared.counts.Count.{Count}
use Rattle.bits_fold.specs.declared.counts.Count.TheVariants.{Expected, Unbounded}
use Rattle.bits_law.proofs.BlockTends.{block_some}
use Rattle.bits_fold.specs.declared.stop.Stop.{Stop}
use Rattle.bits_fold.specs.Expected.{IsCount}
use Rattle.bits_fold.specs.inner.Forever.{StopsFrom, RoundStops}
use Rattle.bits_fold.specs.inner.Reading.{ReadsFrom, CostsInRound}
use Rattle.bits_fold.proofs.Sums.{product_is}

module _ (price : Price) (p : SourceProgram) where
  pub program_costs : (es fs : Entries) (cost : Fraction) → es ≡ (zeros (length p.names), (1, 1)) ∷ [] → ReadsFrom (BlockCosts price p.body) es fs cost → CostsInRound price p cost
  program_costs es fs cost e x = by (subst (λ z. ReadsFrom (BlockCosts price p.body) z fs cost) e x)
    where
      by : ReadsFrom (BlockCosts price p.body) ((zeros (length p.names), (1, 1)) ∷ []) fs cost → CostsInRound price p cost
      by x = (as_table fs, (x (omega arith, omega arith, tt)).reads)

  pub program_stops : (es : Entries) (s : Stop) → es ≡ (zeros (length p.names), (1, 1)) ∷ [] → StopsFrom (BlockEndless price p.body) es s → RoundStops price p s
  program_stops es s e x = by (subst (λ z. StopsFrom (BlockEndless price p.body) z s) e x)
    where
      by : StopsFrom (BlockEndless price p.body) ((zeros (length p.names), (1, 1)) ∷ []) s → RoundStops price p s
      by x = record { forever = λ h. x.forever h (omega arith, omega arith, tt) }

-- ---- what is come to, said of an equal fraction
pub comes_as : (under : Limits → Fraction) (number other : Fraction) → IsEqual other number → 1 ≤ other.1 → ComesTo under number → ComesTo under other
comes_as under number other e some h =
    let pos : 0 < number.1 = let z = h.fraction in omega arith in
    record {
      within = λ l. at_most_then (under l) number other pos (h.within l) (omega arith);
      near = λ k any. let x = h.near k any in (x.0, λ l g. at_most_then other number (plus (under l) (1, k)) pos (omega arith) (x.1 l g));
      fraction = some;
    }

-- ---- and of what is the same under all limits
module _ (under other : Limits → Fraction) (same : (l : Limits) → other l ≡ under l) where
  comes_alike : (number : Fraction) → ComesTo other number → ComesTo under number
  comes_alike number h = record {
    within = λ l. subst (λ z. AtMost z number) (same l) (h.within l);
    near = λ k some. let x = h.near k some in (x.0, λ l g. subst (λ z. AtMost number (plus z (1, k))) (same l) (x.1 l g));
    fraction = h.fraction;
  }

  grows_alike : HasNoBound other → HasNoBound under
  grows_alike h = λ k. let x = h k in (x.0, λ l g. subst (λ z. AtMost (k, 1) z) (same l) (x.1 l g))

  pub counts_alike : (a : Count) → IsCount other a → IsCount under a
  counts_alike (Expected f) h = (comes_alike f h.0, h.1)
  counts_alike Unbounded h = grows_alike h

-- ---- what fails
module _ (p : SourceProgram) (ok : IsChecked p) (f : Outflow) (s : ProgramSettles p f) where
  abbrev lost : Fraction
  lost = settled_failed p f

  failed_most : AtMost lost one
  failed_most =
      let w = checked_weights p ok in
      let start = sure (zeros (length p.names)) in
      let all_some = settled_some p.body start f w s is_failed in
      let c = (test_near p.body start f w s 1 (omega arith) (sign is_failed) (event_test is_failed refl)).some in
      parts_vanish lost.0 lost.1 1 1 f.turns.0 f.turns.1 c
      (λ n any.
      let near = test_near p.body start f w s n (omega arith) (sign is_failed) (event_test is_failed refl) in
      let part : 0 < (times (1, n) f.turns).1 = product_pos n f.turns.1 (omega arith) c in
      let small = below_trans (integral_sure (λ s. integral (sign is_failed) (weighted_ends n None p.body s)) (zeros (length p.names))).below (block_small n p.body w (zeros (length p.names)) (sign is_failed) (event_test is_failed refl).small) in
      let all : AtMost lost (plus one (times (1, n) f.turns)) =
      below_of lost (plus one (times (1, n) f.turns)) all_some (product_pos 1 _ (omega arith) part)
      (below_trans (settled_is p.body start f w s is_failed).below
      (below_trans near.high (below_trans (add_below (below_trans small of_one.above) (of_times (1, n) f.turns).above) (of_plus one (times (1, n) f.turns) (omega arith) part).above))) in
      omega arith)

  module _ (failed : Fraction) (some : 1 ≤ failed.1) (pos : 1 ≤ lost.1) (e : IsEqual failed lost) where
    pub all_fail : failed.1 ≤ failed.0 → IsOne lost
    all_fail le =
        let x = le_of_mul-le-mul_right {m = lost.1} {n = lost.0} {k = failed.1} (let z = mul-le-mul_right lost.1 le in omega arith) (omega arith) in
        let y = failed_most in
        omega arith

    pub some_pass : failed.0 < failed.1 → IsBelowOne lost
    some_pass less = lt_of_mul-lt-mul_left failed.1 (let z = mul-lt-mul_of_pos_right less (let y : 0 < lost.1 = omega arith in y) in omega arith)

-- ---- answers
-- what a round reads, over what does not fail, where what fails is a fraction of equal value
pub over_passes : (read rounds bits failed lost : Fraction) → 0 < read.1 → 0 < rounds.1 → failed.0 < failed.1 → lost.0 < lost.1 → IsEqual failed lost → IsEqual rounds (failed.1, failed.1 - failed.0) → IsEqual bits (times read rounds) → IsEqual bits (read.0 * lost.1, read.1 * (lost.1 - lost.0))
over_passes read rounds bits failed lost rs ns f l e n b = by read.0 read.1 rounds.0 rounds.1 bits.0 bits.1 failed.0 failed.1 (failed.1 - failed.0) lost.0 lost.1 (lost.1 - lost.0) ns (omega arith) (omega arith) (omega arith) e n b
  where
    by : (x y r0 r1 b0 b1 f0 f1 u l0 l1 w : ℕ) → 0 < r1 → 0 < u → f1 ≡ f0 + u → l1 ≡ l0 + w → f0 * l1 ≡ l0 * f1 → r0 * u ≡ f1 * r1 → b0 * (y * r1) ≡ x * r0 * b1 → b0 * (y * w) ≡ x * l1 * b1
    by x y r0 r1 b0 b1 f0 f1 u l0 l1 w rs us p q e n b =
        let same : l1 * u ≡ w * f1 = let a = ap (λ z. l1 * z) p in let c = ap (λ z. z * f1) q in omega arith in
        cancel (r1 * u) _ _ (product_pos r1 u rs us)
        (let a = ap (λ z. z * (w * u)) b in let c = ap (λ z. x * b1 * w * z) n in let d = ap (λ z. x * b1 * r1 * z) same in omega arith)

-- what a run comes to, by the law of whatever is counted of it
module _ (under : Limits → Fraction) (p : SourceProgram) (ok : IsChecked p) (cost : Fraction) (cost_some : 0 < cost.1) (failed : Fraction) (some : 1 ≤ failed.1) (f : FailsWith p failed)
    (tends : IsBelowOne (settled_failed p f.settled) → ComesTo under (price_in_the_limit p f.settled cost)) where
  lost_some : 1 ≤ (settled_failed p f.settled).1
  lost_some = f.fraction

  -- a round costs nothing
  pub nothing_costs : (IsOne (settled_failed p f.settled) → cost.0 ≡ 0 → ComesTo under zero_share) → cost.0 ≡ 0 → (none : Fraction) → IsEqual none (0, 1) → 1 ≤ none.1 → ComesTo under none
  nothing_costs nothing z none e ns =
      let L = settled_failed p f.settled in
      ⊎_elim
      (λ (less : failed.0 < failed.1).
      let o = tends (some_pass p ok f.settled f.settles failed some lost_some f.fails less) in
      comes_as under (price_in_the_limit p f.settled cost) none (zero none.0 none.1 cost.0 L.1 (cost.1 * (L.1 - L.0)) e z) ns o)
      (λ (le : failed.1 ≤ failed.0).
      let o = nothing (all_fail p ok f.settled f.settles failed some lost_some f.fails le) z in
      comes_as under zero_share none e ns o)
      (cases_lt failed.0 failed.1)
    where
      zero : (a b x l m : ℕ) → a * 1 ≡ 0 * b → x ≡ 0 → a * m ≡ x * l * b
      zero a b x l m e z = let i : a ≡ 0 = omega arith in let j = ap (λ v. v * m) i in let k = ap (λ v. v * l * b) z in omega arith

  -- a round costs something, and may pass
  pub all_cost : failed.0 < failed.1 → (rounds all : Fraction) → IsEqual rounds (failed.1, failed.1 - failed.0) → 1 ≤ rounds.1 → product_of cost rounds ≡ Some all → 1 ≤ all.1 → ComesTo under all
  all_cost less rounds all n ns e bs =
      let L = settled_failed p f.settled in
      let below = some_pass p ok f.settled f.settles failed some lost_some f.fails less in
      let g = product_is cost rounds all cost_some (omega arith) e in
      comes_as under (price_in_the_limit p f.settled cost) all (over_passes cost rounds all failed L cost_some (omega arith) less below f.fails n g.equal) bs (tends below)

pub round_some : (price : Price) (p : SourceProgram) (cost : Fraction) → CostsInRound price p cost → 0 < cost.1
round_some price p cost r = block_some price p.body (sure (zeros (length p.names))) r.0 cost r.1
