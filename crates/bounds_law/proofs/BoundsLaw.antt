-- The law of the bounds, from what a round gives at both limits of turns.
use Rattle.std.proofs.Common.{◌≡◌, ◌⊎◌, inl, inr, ℕ, zero, suc, ◌+◌, ◌*◌, ◌≤◌, ◌<◌, ◌-◌, Bool, true, false, None, refl, sym, ap, arith, true≢false}
use Rattle.std.proofs.lemmas.Bool.{cases_lt}
use Rattle.std.proofs.Math.Nat.{mul-le-mul_left, mul-le-mul_right, le_of_mul-le-mul_left, le_of_mul-le-mul_right}
use Rattle.gcl_core.specs.declared.answers.Limit.TheVariants.{Turns}
use Rattle.gcl_core.specs.declared.answers.Outcome.{Outcome}
use Rattle.gcl_core.specs.declared.answers.Outcome.TheVariants as outcome
use Rattle.gcl_core.specs.meaning.Blocks.{End}
use Rattle.gcl_core.specs.weighing.Fractions.{Fraction, AtMost, IsBelowOne}
use Rattle.gcl_core.specs.meaning.Checked.{IsChecked}
use Rattle.gcl_core.specs.weighing.Mass.{is_failed}
use Rattle.gcl_core.specs.meaning.Outcomes.{same_outcome, is_settled}
use Rattle.gcl_core.specs.meaning.Syntax.{SourceProgram}
use Rattle.gcl_core.proofs.TreeWeights.{chi}
use Rattle.weighing_law.proofs.Shares.{Share, counts_sum, sum_pos, product_pos}
use Rattle.weighing_law.proofs.StatedMasses.{fails_in_part}
use Rattle.bounds_law.specs.PosteriorBounds.{fails, given, ran_out, lower_of_those, upper_of_those, upper_of_others}
use Rattle.bounds_law.specs.Holding.{IsBounded, BoundsHold}
use Rattle.bounds_law.proofs.Growth.{Gains, scale, scale_pos, growth, gains}
use Rattle.bounds_law.proofs.OneLimit.{Sums, sum_of_those, sum_of_turns, lower_share, upper_share, others_share, given_pos, lower_pos, are_bounds}

-- ---- shares of two wholes
shares_at_most : (M v M' v' : ℕ) (p q : Fraction) → Share M v p → Share M' v' q → 0 < M → 0 < M' → v * M' ≤ v' * M → AtMost p q
shares_at_most M v M' v' p q e f some some' le =
    le_of_mul-le-mul_right {k = M * M'}
    (let x = ap (λ x. q.1 * M' * x) e in let y = ap (λ x. p.1 * M * x) f in let z = mul-le-mul_left (p.1 * q.1) le in omega arith)
    (product_pos M M' some some')

-- the part grows while the whole shrinks
risen : (v v' M M' : ℕ) → v ≤ v' → M' ≤ M → v * M' ≤ v' * M
risen v v' M M' p q = let x = mul-le-mul_right M' p in let y = mul-le-mul_left v' q in omega arith

-- the whole shrinks, and the part by no less
fallen : (v v' M M' d : ℕ) → v' + d ≤ v → v' ≤ M' → M ≡ M' + d → v' * M ≤ v * M'
fallen v v' M M' d p q e = let x = mul-le-mul_right M' p in let y = mul-le-mul_left d q in rw e (omega arith)

-- ---- fractions
pub share_below_one : (N F f0 f1 : ℕ) → f1 * F ≡ f0 * N → F < N → 0 < f1 → f0 < f1
share_below_one N F f0 f1 e lt some = by_order (cases_lt f0 f1)
  where
    by_order : (f0 < f1) ⊎ (f1 ≤ f0) → f0 < f1
    by_order (inl h) = h
    by_order (inr h) = let x = mul-le-mul_right N h in let y = mul-le-mul_left f1 lt in absurd (omega arith)

-- where the outcomes had nothing, their upper bound is that of all others
had_nothing : (m0 m1 g0 g1 u0 u1 f1 d : ℕ) → 0 < g1 → g0 ≡ 0 → m0 * (g1 * u1 * d) ≤ (g0 * u1 + u0 * g1) * f1 * m1 → m0 * (u1 * d) ≤ u0 * f1 * m1
had_nothing m0 m1 zero g1 u0 u1 f1 d some z le = le_of_mul-le-mul_left {k = g1} (omega (arith, le)) some
had_nothing m0 m1 (suc g0) g1 u0 u1 f1 d some z le = absurd (omega arith)

-- ---- the two limits of turns
module _ (p : SourceProgram) (ok : IsChecked p) (n n' : ℕ) (more : n ≤ n') (passing : IsBelowOne (fails p n')) where
  abbrev N : ℕ
  N = scale p ok n n' more None

  abbrev low : (End → ℕ) → ℕ
  low = (growth p ok n n' more None).low

  abbrev high : (End → ℕ) → ℕ
  high = (growth p ok n n' more None).high

  abbrev passed : ℕ
  passed = N - low (chi is_failed)

  abbrev passed' : ℕ
  passed' = N - high (chi is_failed)

  rest : passed + low (chi is_failed) ≡ N
  rest = omega (arith, (gains p ok n n' more None (λ x. false) refl).all)

  rest' : passed' + high (chi is_failed) ≡ N
  rest' = omega (arith, (gains p ok n n' more None (λ x. false) refl).all')

  shrinks : passed' ≤ passed
  shrinks = omega (arith, rest, rest', (gains p ok n n' more None (λ x. false) refl).failed_more)

  some_passed' : 0 < passed'
  some_passed' =
      fails_in_part N (high (chi is_failed)) passed' (fails p n').0 (fails p n').1 (counts_sum N is_failed _ _ ((growth p ok n n' more None).high_counts (chi is_failed))) passing (scale_pos p ok n n' more None)
      (omega (arith, rest'))

  some_passed : 0 < passed
  some_passed = omega (arith, shrinks, some_passed')

  passes : IsBelowOne (fails p n)
  passes =
      share_below_one N (low (chi is_failed)) (fails p n).0 (fails p n).1 (counts_sum N is_failed _ _ ((growth p ok n n' more None).low_counts (chi is_failed))) (omega (arith, rest, some_passed))
      (sum_pos N is_failed (λ e. 1) _ _ (scale_pos p ok n n' more None) ((growth p ok n n' more None).low_counts (λ e. 1)))

  abbrev before : Sums p n N
  before = record { sum = low; counts = (growth p ok n n' more None).low_counts; some = scale_pos p ok n n' more None; passed = passed; rest = rest; passes = passes }

  abbrev after : Sums p n' N
  after = record { sum = high; counts = (growth p ok n n' more None).high_counts; some = scale_pos p ok n n' more None; passed = passed'; rest = rest'; passes = passing }

  -- ---- what is meant, without the limit of turns
  module _ (meant : Outcome → Bool) (spared : meant (outcome.Limit Turns) ≡ false) where
    abbrev v : ℕ
    v = sum_of_those p n N before meant

    abbrev v' : ℕ
    v' = sum_of_those p n' N after meant

    abbrev u : ℕ
    u = sum_of_turns p n N before

    abbrev u' : ℕ
    u' = sum_of_turns p n' N after

    abbrev more_failed : ℕ
    more_failed = high (chi is_failed) - low (chi is_failed)

    gained : Gains N v (low (chi is_failed)) u v' (high (chi is_failed)) u'
    gained = gains p ok n n' more None meant spared

    wholes : passed ≡ passed' + more_failed
    wholes = omega (arith, rest, rest', gained.failed_more)

    lower_rises : AtMost (lower_of_those p n meant) (lower_of_those p n' meant)
    lower_rises = shares_at_most passed v passed' v' _ _ (lower_share p n N before meant) (lower_share p n' N after meant) some_passed some_passed' (risen v v' passed passed' gained.meant_more shrinks)

    mass_below : AtMost (lower_of_those p n' meant) (upper_of_those p n meant)
    mass_below =
        shares_at_most passed' v' passed (v + u) _ _ (lower_share p n' N after meant) (upper_share p n N before meant) some_passed' some_passed
        (fallen (v + u) v' passed passed' more_failed (omega (arith, gained.three_less, gained.failed_more)) (omega (arith, gained.all', rest')) wholes)

    upper_falls : AtMost (upper_of_those p n' meant) (upper_of_those p n meant)
    upper_falls =
        shares_at_most passed' (v' + u') passed (v + u) _ _ (upper_share p n' N after meant) (upper_share p n N before meant) some_passed' some_passed
        (fallen (v + u) (v' + u') passed passed' more_failed (omega (arith, gained.three_less, gained.failed_more)) (omega (arith, gained.all', rest')) wholes)

    others_fall : AtMost (upper_of_others p n') (upper_of_others p n)
    others_fall =
        shares_at_most passed' u' passed u _ _ (others_share p n' N after) (others_share p n N before) some_passed' some_passed
        (fallen u u' passed passed' more_failed (omega (arith, gained.three_less, gained.meant_more, gained.failed_more)) (omega (arith, gained.all', rest')) wholes)

    bounded : IsBounded p n n' meant
    bounded =
        let m = lower_of_those p n' meant in
        let h = upper_of_those p n' meant in
        let g = given p n meant in
        let r = ran_out p n in
        let f = fails p n in
        record {
          fraction = lower_pos p n' N after meant;
          from_below = lower_rises;
          from_above = mass_below;
          among_others = λ none. had_nothing m.0 m.1 g.0 g.1 r.0 r.1 f.1 (f.1 - f.0) (given_pos p n N before meant) none mass_below;
          upper_falls = upper_falls;
          new_falls = λ none. had_nothing h.0 h.1 g.0 g.1 r.0 r.1 f.1 (f.1 - f.0) (given_pos p n N before meant) none upper_falls;
          before = are_bounds p n N before meant;
          after = are_bounds p n' N after meant;
        }

spares : (x : Outcome) → is_settled x ≡ true → same_outcome x (outcome.Limit Turns) ≡ false
spares (outcome.Value v) e = refl
spares (outcome.Fault f) e = refl
spares (outcome.Limit k) e = absurd (true≢false (sym e))

pub bounds_hold : (p : SourceProgram) (n n' : ℕ) → IsChecked p → n ≤ n' → IsBelowOne (fails p n') → BoundsHold p n n'
bounds_hold p n n' ok more passing =
    let turns = same_outcome (outcome.Limit Turns) in
    record {
      outcomes = λ x e. bounded p ok n n' more passing (same_outcome x) (spares x e);
      events = bounded p ok n n' more passing;
      others_fall = others_fall p ok n n' more passing (λ x. false) refl;
      others_before = lower_pos p n (scale p ok n n' more None) (before p ok n n' more passing) turns;
      others_after = lower_pos p n' (scale p ok n n' more None) (after p ok n n' more passing) turns;
      passes = passes p ok n n' more passing;
    }
