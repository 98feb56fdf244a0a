-- The bounds at one limit of turns, as shares of what does not fail.
use Rattle.std.proofs.Common.{◌≡◌, ℕ, ◌+◌, ◌*◌, ◌<◌, ◌-◌, Bool, None, length, arith}
use Rattle.gcl_core.specs.declared.answers.Limit.TheVariants.{Turns}
use Rattle.gcl_core.specs.declared.answers.Outcome.{Outcome}
use Rattle.gcl_core.specs.declared.answers.Outcome.TheVariants as outcome
use Rattle.gcl_core.specs.weighing.Fractions.{IsBelowOne}
use Rattle.gcl_core.specs.meaning.Blocks.{End}
use Rattle.gcl_core.specs.weighing.Mass.{ends_in, is_failed}
use Rattle.gcl_core.specs.meaning.Outcomes.{same_outcome, zeros}
use Rattle.gcl_core.specs.meaning.Syntax.{SourceProgram}
use Rattle.gcl_core.specs.weighing.WeightedEnds.{weighted_ends}
use Rattle.gcl_core.proofs.TreeWeights.{chi}
use Rattle.weighing_law.proofs.Shares.{Share, share-plus, counts_sum, sum_pos, product_pos}
use Rattle.weighing_law.proofs.StatedMasses.{rest_share}
use Rattle.weighing_law.proofs.WeightedLists.{Counts}
use Rattle.bounds_law.specs.PosteriorBounds.{fails, given, ran_out, lower_of_those, upper_of_those, upper_of_others}
use Rattle.bounds_law.specs.Holding.{AreBounds}

-- what the ends of a round add up to at the scale N, of which `passed` did not fail
pub record Sums (p : SourceProgram) (n N : ℕ) : Type 0 where
  pub sum : (End → ℕ) → ℕ
  pub counts : (G : End → ℕ) → Counts N G (weighted_ends n None p.body (zeros (length p.names))) (sum G)
  pub some : 0 < N
  pub passed : ℕ
  pub rest : passed + sum (chi is_failed) ≡ N
  pub passes : IsBelowOne (fails p n)

module _ (p : SourceProgram) (n N : ℕ) (s : Sums p n N) where
  abbrev pub sum_of_those : (Outcome → Bool) → ℕ
  sum_of_those meant = s.sum (chi (ends_in p.result meant))

  abbrev turns : Outcome → Bool
  turns = same_outcome (outcome.Limit Turns)

  abbrev pub sum_of_turns : ℕ
  sum_of_turns = sum_of_those turns

  given_share : (meant : Outcome → Bool) → Share N (sum_of_those meant) (given p n meant)
  given_share meant = counts_sum N (ends_in p.result meant) _ _ (s.counts (chi (ends_in p.result meant)))

  fails_share : Share N (s.sum (chi is_failed)) (fails p n)
  fails_share = counts_sum N is_failed _ _ (s.counts (chi is_failed))

  pub lower_share : (meant : Outcome → Bool) → Share s.passed (sum_of_those meant) (lower_of_those p n meant)
  lower_share meant = rest_share N s.passed (sum_of_those meant) (s.sum (chi is_failed)) (given p n meant) (fails p n) (given_share meant) fails_share s.passes s.rest

  pub upper_share : (meant : Outcome → Bool) → Share s.passed (sum_of_those meant + sum_of_turns) (upper_of_those p n meant)
  upper_share meant =
      rest_share N s.passed (sum_of_those meant + sum_of_turns) (s.sum (chi is_failed)) _ (fails p n)
      (share-plus N (sum_of_those meant) sum_of_turns (given p n meant) (ran_out p n) (given_share meant) (given_share turns)) fails_share s.passes s.rest

  pub others_share : Share s.passed sum_of_turns (upper_of_others p n)
  others_share = lower_share turns

  -- ---- no second number is 0
  pub given_pos : (meant : Outcome → Bool) → 0 < (given p n meant).1
  given_pos meant = sum_pos N (ends_in p.result meant) (λ e. 1) _ _ s.some (s.counts (λ e. 1))

  pub lower_pos : (meant : Outcome → Bool) → 0 < (lower_of_those p n meant).1
  lower_pos meant = product_pos (given p n meant).1 ((fails p n).1 - (fails p n).0) (given_pos meant) (omega (arith, s.passes))

  upper_pos : (meant : Outcome → Bool) → 0 < (upper_of_those p n meant).1
  upper_pos meant =
      product_pos ((given p n meant).1 * (ran_out p n).1) ((fails p n).1 - (fails p n).0) (product_pos (given p n meant).1 (ran_out p n).1 (given_pos meant) (given_pos turns)) (omega (arith, s.passes))

  -- ---- as far apart for all that may be meant
  same_width : (g0 g1 u0 u1 f1 d : ℕ) → (g0 * f1 * (u1 * d) + u0 * f1 * (g1 * d)) * (g1 * u1 * d) ≡ (g0 * u1 + u0 * g1) * f1 * (g1 * d * (u1 * d))
  same_width g0 g1 u0 u1 f1 d = omega arith

  pub are_bounds : (meant : Outcome → Bool) → AreBounds p n meant
  are_bounds meant =
      let g = given p n meant in
      let u = ran_out p n in
      let f = fails p n in
      record {
        lower_fraction = lower_pos meant;
        upper_fraction = upper_pos meant;
        width = same_width g.0 g.1 u.0 u.1 f.1 (f.1 - f.0);
      }
