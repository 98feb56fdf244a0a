-- What a round gives at n turns and at more, in whole numbers at one scale.
use Rattle.std.proofs.Common.{◌≡◌, ℕ, ◌+◌, ◌^◌, ◌≤◌, ◌<◌, ◌-◌, Bool, true, false, cond, Option, Some, None, length, refl, subst, arith, le_refl}
use Rattle.std.proofs.lemmas.Nat.{pow_pos}
use Rattle.gcl_core.specs.declared.answers.Limit.TheVariants.{Turns, Attempts, Rounds}
use Rattle.gcl_core.specs.declared.answers.Outcome.{Outcome}
use Rattle.gcl_core.specs.declared.answers.Outcome.TheVariants as outcome
use Rattle.gcl_core.specs.meaning.Blocks.{End, on, failed, fault, limit}
use Rattle.gcl_core.specs.meaning.Checked.{IsChecked}
use Rattle.gcl_core.specs.weighing.Mass.{ends_in, is_failed}
use Rattle.gcl_core.specs.meaning.Outcomes.{same_outcome, zeros, outcome_of}
use Rattle.gcl_core.specs.meaning.Syntax.{Expression, SourceProgram}
use Rattle.gcl_core.specs.meaning.Value.{value_of}
use Rattle.gcl_core.specs.weighing.LongestReading.{longest}
use Rattle.gcl_core.specs.weighing.WeightedEnds.{weighted_ends}
use Rattle.gcl_core.proofs.Accepted.{checked_weights}
use Rattle.gcl_core.proofs.FittingValues.{zeros_fit}
use Rattle.gcl_core.proofs.TreeWeights.{chi}
use Rattle.weighing_law.proofs.BlockMatching.{block_matches}
use Rattle.weighing_law.proofs.Costs.{whole}
use Rattle.weighing_law.proofs.EveryLength.{worth-all}
use Rattle.weighing_law.proofs.WeightedLists.{Counts}
use Rattle.weighing_law.proofs.WholeWeights.{Whole}
use Rattle.weighing_law.proofs.PlayWeights.{AtSomeScale}
use Rattle.bounds_law.proofs.EntrySums.{counts_join, whole_at}
use Rattle.bounds_law.proofs.MoreTurns.{RanOut, Grows, grows_block}

-- ---- ends that are meant, that failed, and that ran out of turns
module _ (result : Expression) (meant : Outcome → Bool) where
  abbrev meant_end : End → ℕ
  meant_end e = chi (ends_in result meant) e

  abbrev turns_end : End → ℕ
  turns_end e = chi (ends_in result (same_outcome (outcome.Limit Turns))) e

  abbrev meant_or_failed : End → ℕ
  meant_or_failed e = meant_end e + chi is_failed e

  abbrev all_three : End → ℕ
  all_three e = meant_or_failed e + turns_end e

  abbrev no_other : End → ℕ
  no_other e = 1 - all_three e

  at_most_one : (b : Bool) → cond b 1 0 ≤ 1
  at_most_one true = omega arith
  at_most_one false = omega arith

  module _ (spared : meant (outcome.Limit Turns) ≡ false) where
    outcome_apart : (x : Outcome) → cond (meant x) 1 0 + 0 + cond (same_outcome (outcome.Limit Turns) x) 1 0 ≤ 1
    outcome_apart (outcome.Value v) = omega (arith, at_most_one (meant (outcome.Value v)))
    outcome_apart (outcome.Fault f) = omega (arith, at_most_one (meant (outcome.Fault f)))
    outcome_apart (outcome.Limit Turns) = rw spared (omega arith)
    outcome_apart (outcome.Limit Attempts) = omega (arith, at_most_one (meant (outcome.Limit Attempts)))
    outcome_apart (outcome.Limit Rounds) = omega (arith, at_most_one (meant (outcome.Limit Rounds)))

    -- no end is two of these
    apart : (e : End) → all_three e ≤ 1
    apart (on s) = outcome_apart (outcome_of (value_of result s))
    apart failed = omega arith
    apart (fault f) = outcome_apart (outcome.Fault f)
    apart (limit l) = outcome_apart (outcome.Limit l)

    pub spared_meant : (e : End) → RanOut e → meant_end e ≡ 0
    spared_meant (on s) b = absurd b
    spared_meant failed b = absurd b
    spared_meant (fault f) b = absurd b
    spared_meant (limit Turns) b = rw spared refl
    spared_meant (limit Attempts) b = absurd b
    spared_meant (limit Rounds) b = absurd b

  spared_others : (e : End) → RanOut e → no_other e ≡ 0
  spared_others (on s) b = absurd b
  spared_others failed b = absurd b
  spared_others (fault f) b = absurd b
  spared_others (limit Turns) b = omega arith
  spared_others (limit Attempts) b = absurd b
  spared_others (limit Rounds) b = absurd b

pub spared_failed : (e : End) → RanOut e → chi is_failed e ≡ 0
spared_failed (on s) b = refl
spared_failed failed b = absurd b
spared_failed (fault f) b = refl
spared_failed (limit l) b = refl

-- What is meant and what fails gain, and no more than the limit of turns loses. Each is the sum at n turns, and at n'.
pub record Gains (N meant failed turns meant' failed' turns' : ℕ) : Type 0 where
  pub meant_more : meant ≤ meant'
  pub failed_more : failed ≤ failed'
  pub three_less : meant' + failed' + turns' ≤ meant + failed + turns
  pub all : meant + failed + turns ≤ N
  pub all' : meant' + failed' + turns' ≤ N

-- ---- a round
-- all ends together weigh 1
whole_round : (p : SourceProgram) → IsChecked p → (n : ℕ) (r : Option ℕ) → AtSomeScale (λ N. Whole N (weighted_ends n r p.body (zeros (length p.names))))
whole_round p ok n None = whole p ok n 0
whole_round p ok n (Some r) =
    let m = block_matches n r p.body (checked_weights p ok) ok.numbers.body (zeros (length p.names)) (zeros_fit (length p.names)) in
    let d = longest n r p.body in
    record {
      scale = 2 ^ d;
      positive = pow_pos d;
      holds = subst (Counts (2 ^ d) (λ a. 1) (weighted_ends n (Some r) p.body (zeros (length p.names)))) (worth-all m.tree d m.within) (m.counts (λ a. 1));
    }

module _ (p : SourceProgram) (ok : IsChecked p) (n n' : ℕ) (more : n ≤ n') (r : Option ℕ) where
  pub grows : AtSomeScale (λ N. Grows N (weighted_ends n r p.body (zeros (length p.names))) (weighted_ends n' r p.body (zeros (length p.names))))
  grows = grows_block n n' more r p.body (checked_weights p ok) ok.numbers.body (zeros (length p.names)) (zeros_fit (length p.names))

  abbrev pub scale : ℕ
  scale = grows.scale

  pub scale_pos : 0 < scale
  scale_pos = grows.positive

  abbrev pub growth : Grows scale (weighted_ends n r p.body (zeros (length p.names))) (weighted_ends n' r p.body (zeros (length p.names)))
  growth = grows.holds

  low_all : growth.low (λ e. 1) ≡ scale
  low_all = let w = whole_round p ok n r in whole_at w.scale scale _ (growth.low (λ e. 1)) w.positive scale_pos w.holds (growth.low_counts (λ e. 1))

  pub high_all : growth.high (λ e. 1) ≡ scale
  high_all = let w = whole_round p ok n' r in whole_at w.scale scale _ (growth.high (λ e. 1)) w.positive scale_pos w.holds (growth.high_counts (λ e. 1))

  low_join : (G H J : End → ℕ) → ((e : End) → G e + H e ≡ J e) → growth.low G + growth.low H ≡ growth.low J
  low_join G H J e = counts_join scale G H J _ _ _ _ scale_pos e (growth.low_counts G) (growth.low_counts H) (growth.low_counts J)

  pub high_join : (G H J : End → ℕ) → ((e : End) → G e + H e ≡ J e) → growth.high G + growth.high H ≡ growth.high J
  high_join G H J e = counts_join scale G H J _ _ _ _ scale_pos e (growth.high_counts G) (growth.high_counts H) (growth.high_counts J)

  grown : (G : End → ℕ) → ((e : End) → RanOut e → G e ≡ 0) → growth.low G ≤ growth.high G
  grown G z = growth.below G G z (λ e. le_refl (G e))

  -- what is not meant, did not fail and did not run out gains too; and all add up to the same
  pub gains : (meant : Outcome → Bool) → meant (outcome.Limit Turns) ≡ false →
      Gains scale (growth.low (chi (ends_in p.result meant))) (growth.low (chi is_failed)) (growth.low (chi (ends_in p.result (same_outcome (outcome.Limit Turns)))))
      (growth.high (chi (ends_in p.result meant))) (growth.high (chi is_failed)) (growth.high (chi (ends_in p.result (same_outcome (outcome.Limit Turns)))))
  gains meant spared =
      let A = meant_end p.result meant in
      let F = chi is_failed in
      let T = turns_end p.result meant in
      let AF = meant_or_failed p.result meant in
      let S = all_three p.result meant in
      let R = no_other p.result meant in
      let filled = λ (e : End). fill (S e) (apart p.result meant spared e) in
      let low1 = low_join A F AF (λ e. refl) in
      let low2 = low_join AF T S (λ e. refl) in
      let low3 = low_join S R (λ e. 1) filled in
      let high1 = high_join A F AF (λ e. refl) in
      let high2 = high_join AF T S (λ e. refl) in
      let high3 = high_join S R (λ e. 1) filled in
      let others = grown R (spared_others p.result meant) in
      record {
        meant_more = grown A (spared_meant p.result meant spared);
        failed_more = grown F spared_failed;
        three_less = rw (high1, high2, low1, low2) (omega (arith, low3, high3, low_all, high_all, others));
        all = rw (low1, low2) (omega (arith, low3, low_all));
        all' = rw (high1, high2) (omega (arith, high3, high_all));
      }
    where
      fill : (s : ℕ) → s ≤ 1 → s + (1 - s) ≡ 1
      fill s h = omega arith
