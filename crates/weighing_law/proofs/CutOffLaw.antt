-- What the limits of attempts and of rounds cut off, from what a round gives them.
use Rattle.std.proofs.Common.{◌≡◌, ℕ, zero, suc, ◌+◌, ◌*◌, ◌^◌, ◌-◌, ◌≤◌, ◌<◌, Some, None, sym, subst, arith}
use Rattle.std.proofs.lemmas.Nat.{pow_pos}
use Rattle.std.proofs.Math.Nat.{mul-le-mul_left}
use Rattle.gcl_core.specs.declared.answers.Limit.TheVariants.{Attempts, Rounds}
use Rattle.gcl_core.specs.declared.answers.Limits.{Limits}
use Rattle.gcl_core.specs.declared.answers.Outcome.TheVariants as outcome
use Rattle.gcl_core.specs.meaning.Checked.{IsChecked}
use Rattle.gcl_core.specs.meaning.Outcomes.{same_outcome}
use Rattle.gcl_core.specs.meaning.Syntax.{SourceProgram}
use Rattle.gcl_core.specs.weighing.Fractions.{Fraction, plus, times, power, power_sum, divided_by_rest, AtMost}
use Rattle.gcl_core.specs.weighing.LongestReading.{longest}
use Rattle.gcl_core.specs.weighing.Mass.{round_mass, failed_mass}
use Rattle.weighing_law.specs.LimitsCost.{MayPass, cut_off}
use Rattle.weighing_law.specs.Weighing.{limited_mass}
use Rattle.weighing_law.proofs.Shares.{product_pos, power_pos}
use Rattle.weighing_law.specs.CutOff.{most_cut_off, enough_attempts, enough_rounds}
use Rattle.weighing_law.proofs.Fractions.{at_most_then, at_most_plus, at_most_times, at_most_power, plus_nothing, series_at_most, power_below}
use Rattle.weighing_law.proofs.RoundCutOff.{attempts_rare, no_rounds, fails_no_more}

module _ (p : SourceProgram) (l : Limits) (ok : IsChecked p) (passes : MayPass p l) (some : 1 ≤ l.attempts) where
  abbrev f : Fraction
  f = failed_mass p l.turns (Some l.attempts)

  abbrev F : Fraction
  F = failed_mass p l.turns None

  -- all rounds together are at most 1 over what does not fail
  series : AtMost (power_sum f l.rounds) (F.1, F.1 - F.0)
  series =
      let d = F.1 - F.0 in
      let e : F.1 ≡ F.0 + d = omega (arith, passes) in
      let h = series_at_most f F.0 d (subst (λ x. f.0 * x ≤ F.0 * f.1) e (fails_no_more p ok l.turns l.attempts some)) l.rounds in
      subst (λ x. (power_sum f l.rounds).0 * d ≤ x * (power_sum f l.rounds).1) (sym e) h

  of_attempts : AtMost (limited_mass p l (outcome.Limit Attempts)) (divided_by_rest (longest l.turns 1 p.body, 2 ^ l.attempts) F)
  of_attempts =
      let S = round_mass p l.turns (Some l.attempts) (same_outcome (outcome.Limit Attempts)) in
      plus_nothing (times S (power_sum f l.rounds)) (divided_by_rest (longest l.turns 1 p.body, 2 ^ l.attempts) F)
      (at_most_times S (longest l.turns 1 p.body, 2 ^ l.attempts) (power_sum f l.rounds) (F.1, F.1 - F.0) (attempts_rare p ok l.turns l.attempts some) series)

  of_rounds : AtMost (limited_mass p l (outcome.Limit Rounds)) (power F l.rounds)
  of_rounds =
      let S = round_mass p l.turns (Some l.attempts) (same_outcome (outcome.Limit Rounds)) in
      let g = power_sum f l.rounds in
      alone S.0 S.1 g.0 g.1 (power f l.rounds).0 (power f l.rounds).1 (power F l.rounds).0 (power F l.rounds).1 (no_rounds p ok l.turns l.attempts some)
      (at_most_power f F (fails_no_more p ok l.turns l.attempts some) l.rounds)
    where
      alone : (s0 s1 g0 g1 a b c d : ℕ) → s0 ≡ 0 → a * d ≤ c * b → (s0 * g0 * b + a * (s1 * g1)) * d ≤ c * (s1 * g1 * b)
      alone s0 s1 g0 g1 a b c d e h = rw e (let x = mul-le-mul_left (s1 * g1) h in omega arith)

  pub cut_off_at_most : AtMost (cut_off p l) (most_cut_off p l)
  cut_off_at_most = at_most_plus _ _ _ _ of_attempts of_rounds

-- ---- as little as is wanted
below_power : (n : ℕ) → n < 2 ^ n
below_power zero = omega arith
below_power (suc n) = let a = below_power n in omega arith

attempts_enough : (D f0 f1 m r : ℕ) → f0 < f1 → m * (D * f1) ≤ r → D * f1 * m ≤ 1 * (2 ^ r * (f1 - f0))
attempts_enough D f0 f1 m r lt h =
    let a = below_power r in
    let x = mul-le-mul_left (2 ^ r) (let le : 1 ≤ f1 - f0 = omega (arith, lt) in le) in omega arith

pub cut_off_vanishes : (p : SourceProgram) (l : Limits) (k : ℕ) → IsChecked p → MayPass p l → enough_attempts p l.turns k ≤ l.attempts → enough_rounds p l.turns k ≤ l.rounds →
    AtMost (cut_off p l) (1, k)
cut_off_vanishes p l zero ok passes a b = omega arith
cut_off_vanishes p l (suc k) ok passes a b =
    let F = failed_mass p l.turns None in
    let D = longest l.turns 1 p.body in
    let m = 2 * suc k in
    at_most_then (cut_off p l) (most_cut_off p l) (1, suc k)
    (product_pos _ _ (product_pos _ _ (pow_pos l.attempts) (omega (arith, passes))) (power_pos F (omega (arith, passes)) l.rounds))
    (cut_off_at_most p l ok passes (omega (arith, a)))
    (at_most_then (most_cut_off p l) (plus (1, m) (1, m)) (1, suc k) (omega arith)
    (at_most_plus (divided_by_rest (D, 2 ^ l.attempts) F) (1, m) (power F l.rounds) (1, m) (attempts_enough D F.0 F.1 m l.attempts passes (omega (arith, a))) (power_below F m l.rounds passes b))
    (omega arith))
