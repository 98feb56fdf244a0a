-- What a round gives: all of it is 1, and values, faults and failing gain with the limit of turns.
use Rattle.std.proofs.Common.{◌≡◌, ℕ, ◌+◌, ◌*◌, ◌≤◌, ◌<◌, Bool, true, false, cond, Option, length, refl, sym, ap, arith, true≢false}
use Rattle.std.specs.Prelude.{not}
use Rattle.std.proofs.Math.Nat.{mul-le-mul_left, le_of_mul-le-mul_right}
use Rattle.gcl_core.specs.declared.answers.Limit.TheVariants.{Turns}
use Rattle.gcl_core.specs.declared.answers.Outcome.{Outcome}
use Rattle.gcl_core.specs.declared.answers.Outcome.TheVariants as outcome
use Rattle.gcl_core.specs.meaning.Blocks.{End, on, failed, fault, limit}
use Rattle.gcl_core.specs.meaning.Checked.{IsChecked}
use Rattle.gcl_core.specs.meaning.Outcomes.{zeros, outcome_of}
use Rattle.gcl_core.specs.meaning.Syntax.{Expression, SourceProgram}
use Rattle.gcl_core.specs.meaning.Value.{value_of}
use Rattle.gcl_core.specs.weighing.Fractions.{Fraction, AtMost}
use Rattle.gcl_core.specs.weighing.Mass.{sum_of, ends_in, is_failed, round_mass, failed_mass}
use Rattle.gcl_core.specs.weighing.WeightedEnds.{weighted_ends}
use Rattle.gcl_core.proofs.TreeWeights.{chi}
use Rattle.weighing_law.proofs.Shares.{Share, counts_sum, sum_pos}
use Rattle.bounds_law.proofs.Growth.{scale, scale_pos, growth, high_all, high_join, spared_meant, spared_failed}

share_rises : (N v v' : ℕ) (p q : Fraction) → 0 < N → Share N v p → Share N v' q → v ≤ v' → AtMost p q
share_rises N v v' p q some e f h =
    le_of_mul-le-mul_right {k = N} (let x = ap (λ t. q.1 * t) e in let y = ap (λ t. p.1 * t) f in let z = mul-le-mul_left (p.1 * q.1) h in omega arith) some

implied : (a b : Bool) → (a ≡ true → b ≡ true) → cond a 1 0 ≤ cond b 1 0
implied false b h = omega arith
implied true true h = omega arith
implied true false h = absurd (true≢false (sym (h refl)))

either : (b : Bool) → cond b 1 0 + cond (not b) 1 0 + 0 ≡ 1
either true = refl
either false = refl

pub one_kind : (result : Expression) (meant : Outcome → Bool) (e : End) → chi (ends_in result meant) e + chi (ends_in result (λ x. not (meant x))) e + chi is_failed e ≡ 1
one_kind result meant (on s) = either (meant (outcome_of (value_of result s)))
one_kind result meant failed = refl
one_kind result meant (fault f) = either (meant (outcome.Fault f))
one_kind result meant (limit l) = either (meant (outcome.Limit l))

pub counts_less : (result : Expression) (some meant : Outcome → Bool) → ((x : Outcome) → some x ≡ true → meant x ≡ true) → (e : End) → chi (ends_in result some) e ≤ chi (ends_in result meant) e
counts_less result some meant h (on s) = let x = outcome_of (value_of result s) in implied (some x) (meant x) (h x)
counts_less result some meant h failed = omega arith
counts_less result some meant h (fault f) = implied (some (outcome.Fault f)) (meant (outcome.Fault f)) (h (outcome.Fault f))
counts_less result some meant h (limit l) = implied (some (outcome.Limit l)) (meant (outcome.Limit l)) (h (outcome.Limit l))

-- what is meant, what is not and what fails are all, at a scale
pub record Parted (p : SourceProgram) (n : ℕ) (r : Option ℕ) (meant : Outcome → Bool) : Type 0 where
  pub scale : ℕ
  pub given : ℕ
  pub others : ℕ
  pub failing : ℕ
  pub positive : 0 < scale
  pub all : given + others + failing ≡ scale
  pub given_share : Share scale given (round_mass p n r meant)
  pub others_share : Share scale others (round_mass p n r (λ x. not (meant x)))
  pub failing_share : Share scale failing (failed_mass p n r)
  pub given_fraction : 0 < (round_mass p n r meant).1
  pub others_fraction : 0 < (round_mass p n r (λ x. not (meant x))).1
  pub failing_fraction : 0 < (failed_mass p n r).1

module _ (p : SourceProgram) (ok : IsChecked p) (n n' : ℕ) (more : n ≤ n') (r : Option ℕ) where
  abbrev N : ℕ
  N = scale p ok n n' more r

  abbrev low : (End → ℕ) → ℕ
  low = (growth p ok n n' more r).low

  abbrev high : (End → ℕ) → ℕ
  high = (growth p ok n n' more r).high

  low_share : (meant : End → Bool) → Share N (low (chi meant)) (sum_of meant (weighted_ends n r p.body (zeros (length p.names))))
  low_share meant = counts_sum N meant _ _ ((growth p ok n n' more r).low_counts (chi meant))

  high_share : (meant : End → Bool) → Share N (high (chi meant)) (sum_of meant (weighted_ends n' r p.body (zeros (length p.names))))
  high_share meant = counts_sum N meant _ _ ((growth p ok n n' more r).high_counts (chi meant))

  pub mass_rises : (some meant : Outcome → Bool) → ((x : Outcome) → some x ≡ true → meant x ≡ true) → some (outcome.Limit Turns) ≡ false → AtMost (round_mass p n r some) (round_mass p n' r meant)
  mass_rises some meant h spared =
      share_rises N (low (chi (ends_in p.result some))) (high (chi (ends_in p.result meant))) (round_mass p n r some) (round_mass p n' r meant) (scale_pos p ok n n' more r)
      (low_share (ends_in p.result some)) (high_share (ends_in p.result meant))
      ((growth p ok n n' more r).below (chi (ends_in p.result some)) (chi (ends_in p.result meant)) (spared_meant p.result some spared) (counts_less p.result some meant h))

  pub fails_rise : AtMost (failed_mass p n r) (failed_mass p n' r)
  fails_rise =
      share_rises N (low (chi is_failed)) (high (chi is_failed)) (failed_mass p n r) (failed_mass p n' r) (scale_pos p ok n n' more r) (low_share is_failed) (high_share is_failed)
      ((growth p ok n n' more r).below (chi is_failed) (chi is_failed) spared_failed (λ e. omega arith))

  pub parted : (meant : Outcome → Bool) → Parted p n' r meant
  parted meant =
      let A = chi (ends_in p.result meant) in
      let B = chi (ends_in p.result (λ x. not (meant x))) in
      let F = chi is_failed in
      let passed = λ (e : End). A e + B e in
      let x = high_join p ok n n' more r A B passed (λ e. refl) in
      let y = high_join p ok n n' more r passed F (λ e. 1) (one_kind p.result meant) in
      let z = high_all p ok n n' more r in
      let one = (growth p ok n n' more r).high_counts (λ e. 1) in
      let some = scale_pos p ok n n' more r in
      record {
        scale = N;
        given = high A;
        others = high B;
        failing = high F;
        positive = some;
        all = omega (arith, x, y, z);
        given_share = high_share (ends_in p.result meant);
        others_share = high_share (ends_in p.result (λ x. not (meant x)));
        failing_share = high_share is_failed;
        given_fraction = sum_pos N (ends_in p.result meant) (λ e. 1) _ _ some one;
        others_fraction = sum_pos N (ends_in p.result (λ x. not (meant x))) (λ e. 1) _ _ some one;
        failing_fraction = sum_pos N is_failed (λ e. 1) _ _ some one;
      }
