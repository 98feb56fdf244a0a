-- What the limits cost, said of events: a limit of attempts and one of rounds raise no mass but their own, and what they take away they weigh.
use Rattle.std.proofs.Common.{◌≡◌, ℕ, zero, suc, ◌+◌, ◌*◌, ◌^◌, ◌≤◌, ◌<◌, ◌-◌, Bool, true, false, cond, Some, None, length, refl, sym, ap, ◌∙◌, subst, arith, le_refl}
use Rattle.std.specs.Prelude.{not, ◌||◌}
use Rattle.std.proofs.Math.Nat.{mul-le-mul_left, mul-le-mul_right, le_of_mul-le-mul_right}
use Rattle.gcl_core.specs.declared.answers.Limit.TheVariants.{Turns, Attempts, Rounds}
use Rattle.gcl_core.specs.declared.answers.Limits.{Limits}
use Rattle.gcl_core.specs.declared.answers.Outcome.{Outcome}
use Rattle.gcl_core.specs.declared.answers.Outcome.TheVariants as outcome
use Rattle.gcl_core.specs.meaning.Blocks.{End, on, failed, fault, limit}
use Rattle.gcl_core.specs.weighing.Fractions.{Fraction, zero_share, plus, times, power, power_sum, AtMost}
use Rattle.gcl_core.specs.meaning.Checked.{IsChecked}
use Rattle.gcl_core.specs.weighing.Mass.{sum_of, ends_in, is_failed, round_mass, failed_mass, mass_of_those}
use Rattle.gcl_core.specs.meaning.Outcomes.{zeros, outcome_of}
use Rattle.gcl_core.specs.meaning.Syntax.{Expression, SourceProgram}
use Rattle.gcl_core.specs.meaning.Value.{value_of}
use Rattle.gcl_core.specs.weighing.WeightedEnds.{weighted_ends}
use Rattle.gcl_core.proofs.Accepted.{checked_weights}
use Rattle.gcl_core.proofs.Trees.{worth, spread-add, spread-ext}
use Rattle.gcl_core.proofs.TreeWeights.{chi}
use Rattle.gcl_core.proofs.FittingValues.{zeros_fit}
use Rattle.weighing_law.specs.LimitsCost.{is_cut_off, MayPass}
use Rattle.gcl_core.proofs.CutPlays.{block_sound}
use Rattle.weighing_law.proofs.WeighedPlays.{weighed_block}
use Rattle.weighing_law.proofs.PlayWeights.{AtSomeScale, Pair}
use Rattle.weighing_law.proofs.EveryLength.{worth-all}
use Rattle.weighing_law.proofs.LimitedBlocks.{OfAttempts, CutOff, limited_block}
use Rattle.weighing_law.proofs.Shares.{counts_sum, sum_pos, product_pos, cancel}
use Rattle.weighing_law.proofs.WholeRuns.{all_bits, run_tree, run_within, event_mass, tree_share, mass_pos}
use Rattle.weighing_law.proofs.WholeWeights.{Whole, play_whole, three_parts}

-- ---- fractions
open_sums : (N v u : ℕ) (p q : Fraction) → 0 < N → p.1 * v ≡ p.0 * N → q.1 * u ≡ q.0 * N → v ≤ u → AtMost p q
open_sums N v u p q some e f le =
    le_of_mul-le-mul_right {k = N} (let x = ap (λ x. q.1 * x) e in let y = ap (λ x. p.1 * x) f in let z = mul-le-mul_left (p.1 * q.1) le in omega arith) some

series_most : (f : Fraction) (u d : ℕ) → f.0 * (u + d) ≤ u * f.1 → (R : ℕ) → (power_sum f R).0 * d ≤ (u + d) * (power_sum f R).1
series_most f u d h zero = omega arith
series_most f u d h (suc R) =
    more f.0 f.1 (power_sum f R).0 (power_sum f R).1 u d h (series_most f u d h R)
  where
    more : (f0 f1 g0 g1 u d : ℕ) → f0 * (u + d) ≤ u * f1 → g0 * d ≤ (u + d) * g1 → (1 * (f1 * g1) + f0 * g0 * 1) * d ≤ (u + d) * (1 * (f1 * g1))
    more f0 f1 g0 g1 u d a b = let x = mul-le-mul_left f0 b in let y = mul-le-mul_right g1 a in omega arith

two_open : (N u w F s0 s1 t0 t1 f0 f1 d : ℕ) → s1 * u ≡ s0 * N → t1 * w ≡ t0 * N → f1 * F ≡ f0 * N → u + w + F ≤ N → f1 ≡ f0 + d → 0 < N →
    s0 * f1 * (t1 * d) + t0 * f1 * (s1 * d) ≤ s1 * d * (t1 * d)
two_open N u w F s0 s1 t0 t1 f0 f1 d a b c le e n =
    let k0 = mul-le-mul_left f1 le in
    let e' = ap (λ x. x * N) e in
    let k1 : f1 * u + f1 * w ≤ d * N = omega arith in
    let k2 = mul-le-mul_left (s1 * t1 * d) k1 in
    let x = ap (λ x. f1 * d * t1 * x) a in
    let y = ap (λ x. f1 * d * s1 * x) b in
    le_of_mul-le-mul_right {k = N} (omega arith) n

last_step : (s0 s1 t0 t1 p0 p1 q0 q1 : ℕ) → s0 * t1 + t0 * s1 ≤ s1 * t1 → q0 * t1 ≤ t0 * q1 → p0 * q1 + q0 * p1 ≡ p1 * q1 → 0 < t1 → 0 < q1 → s0 * p1 ≤ p0 * s1
last_step s0 s1 t0 t1 p0 p1 q0 q1 a b c t q =
    le_of_mul-le-mul_right {k = t1 * q1}
    (let x = mul-le-mul_right (p1 * q1) a in let y = mul-le-mul_right (s1 * p1) b in let z = ap (λ x. x * (s1 * t1)) c in omega arith)
    (product_pos t1 q1 t q)

-- ---- one round
module _ (p : SourceProgram) (ok : IsChecked p) (n r : ℕ) where
  abbrev pair : AtSomeScale (λ N. Pair OfAttempts N (weighted_ends n (Some r) p.body (zeros (length p.names))) (weighted_ends n None p.body (zeros (length p.names))))
  pair = limited_block n r p.body (checked_weights p ok) ok.numbers.body (zeros (length p.names)) (zeros_fit (length p.names))

  pub whole : AtSomeScale (λ N. Whole N (weighted_ends n None p.body (zeros (length p.names))))
  whole =
      subst (λ m. AtSomeScale (λ N. Whole N m)) (weighed_block None n p.body (zeros (length p.names)))
      (play_whole r ⊥ _ _ _ (block_sound n r p.body (checked_weights p ok) ok.numbers.body (zeros (length p.names)) (zeros_fit (length p.names))))

  -- what is not cut off weighs no more under the limit
  round_below : (meant : End → Bool) → ((e : End) → CutOff e → meant e ≡ false) →
      AtMost (sum_of meant (weighted_ends n (Some r) p.body (zeros (length p.names)))) (sum_of meant (weighted_ends n None p.body (zeros (length p.names))))
  round_below meant cut =
      let h = pair.holds in
      open_sums pair.scale (h.low (chi meant)) (h.high (chi meant)) (sum_of meant (weighted_ends n (Some r) p.body (zeros (length p.names)))) (sum_of meant (weighted_ends n None p.body (zeros (length p.names)))) pair.positive
      (counts_sum pair.scale meant (weighted_ends n (Some r) p.body (zeros (length p.names))) _ (h.low_counts (chi meant)))
      (counts_sum pair.scale meant (weighted_ends n None p.body (zeros (length p.names))) _ (h.high_counts (chi meant)))
      (h.below (chi meant) (chi meant) (λ e bad. ap (λ t. cond t 1 0) (cut e bad)) (λ e. le_refl (chi meant e)))

  outcome_below : (meant : Outcome → Bool) → meant (outcome.Limit Attempts) ≡ false → AtMost (round_mass p n (Some r) meant) (round_mass p n None meant)
  outcome_below meant spared =
      round_below (ends_in p.result meant)
      (elim [ on s ↦ λ b. absurd b | failed ↦ λ b. absurd b | fault g ↦ λ b. absurd b | limit Turns ↦ λ b. absurd b | limit Attempts ↦ λ b. spared | limit Rounds ↦ λ b. absurd b ])

  fails_below : AtMost (failed_mass p n (Some r)) (failed_mass p n None)
  fails_below =
      round_below is_failed (elim [ on s ↦ λ b. refl | failed ↦ λ b. absurd b | fault g ↦ λ b. refl | limit l ↦ λ b. refl ])

-- ---- all rounds
spared_rounds : (b : Bool) → b ≡ false → (p q : Fraction) (u0 u1 : ℕ) → p.0 * u1 ≤ u0 * p.1 → (plus p (cond b q zero_share)).0 * u1 ≤ u0 * (plus p (cond b q zero_share)).1
spared_rounds b e p q u0 u1 h = subst (λ b. (plus p (cond b q zero_share)).0 * u1 ≤ u0 * (plus p (cond b q zero_share)).1) (sym e) (omega arith)

joined_rounds : (s0 s1 t0 t1 g0 g1 u d : ℕ) → s0 * t1 ≤ t0 * s1 → g0 * d ≤ u * g1 → s0 * g0 * (t1 * d) ≤ t0 * u * (s1 * g1)
joined_rounds s0 s1 t0 t1 g0 g1 u d a b = let x = mul-le-mul_right (g0 * d) a in let y = mul-le-mul_left (t0 * s1) b in omega arith

module _ (p : SourceProgram) (l : Limits) (ok : IsChecked p) (passes : MayPass p l) where
  abbrev stated : (Outcome → Bool) → Fraction
  stated meant = mass_of_those p l.turns None None meant

  -- the limits raise no mass but their own
  pub mass_below : (meant : Outcome → Bool) → meant (outcome.Limit Attempts) ≡ false → meant (outcome.Limit Rounds) ≡ false → AtMost (event_mass p l ok meant) (stated meant)
  mass_below meant no_attempts no_rounds =
      let S = round_mass p l.turns (Some l.attempts) meant in
      let S' = round_mass p l.turns None meant in
      let f = failed_mass p l.turns (Some l.attempts) in
      let f' = failed_mass p l.turns None in
      let d = f'.1 - f'.0 in
      let e : f'.1 ≡ f'.0 + d = omega (arith, passes) in
      let g = series_most f f'.0 d (subst (λ x. f.0 * x ≤ f'.0 * f.1) e (fails_below p ok l.turns l.attempts)) l.rounds in
      spared_rounds (meant (outcome.Limit Rounds)) no_rounds (times S (power_sum f l.rounds)) (power f l.rounds) (S'.0 * f'.1) (S'.1 * d)
      (joined_rounds S.0 S.1 S'.0 S'.1 (power_sum f l.rounds).0 (power_sum f l.rounds).1 f'.1 d (outcome_below p ok l.turns l.attempts meant no_attempts)
      (subst (λ x. (power_sum f l.rounds).0 * d ≤ x * (power_sum f l.rounds).1) (sym e) g))

-- ---- the other side

-- the outcomes that are meant, or cut off
abbrev pub or_cut : (Outcome → Bool) → Outcome → Bool
or_cut meant x = meant x || is_cut_off x

abbrev neither : (Outcome → Bool) → Outcome → Bool
neither meant x = not (or_cut meant x)

apart_two : (a b : Bool) → cond a 1 0 + cond (not (a || b)) 1 0 + 0 ≤ 1
apart_two true b = omega arith
apart_two false true = omega arith
apart_two false false = omega arith

apart : (result : Expression) (meant : Outcome → Bool) (e : End) → chi (ends_in result meant) e + chi (ends_in result (neither meant)) e + chi is_failed e ≤ 1
apart result meant (on s) = let x = outcome_of (value_of result s) in apart_two (meant x) (is_cut_off x)
apart result meant failed = omega arith
apart result meant (fault f) = apart_two (meant (outcome.Fault f)) (is_cut_off (outcome.Fault f))
apart result meant (limit l) = apart_two (meant (outcome.Limit l)) (is_cut_off (outcome.Limit l))

never : (b : Bool) → not (b || true) ≡ false
never true = refl
never false = refl

one_of_two : (b : Bool) → cond b 1 0 + cond (not b) 1 0 ≡ 1
one_of_two true = refl
one_of_two false = refl

module _ (p : SourceProgram) (l : Limits) (ok : IsChecked p) where
  -- the masses of an event and of its complement are 1 together
  complement : (meant : Outcome → Bool) →
      (let m = event_mass p l ok meant in let m' = event_mass p l ok (λ x. not (meant x)) in m.0 * m'.1 + m'.0 * m.1 ≡ m.1 * m'.1)
  complement meant =
      let L = all_bits p l ok in
      let t = run_tree p l ok in
      let m = event_mass p l ok meant in
      let m' = event_mass p l ok (λ x. not (meant x)) in
      let both = sym (spread-add t L (λ a h. 2 ^ h * chi meant a) (λ a h. 2 ^ h * chi (λ x. not (meant x)) a))
      ∙ spread-ext t L (λ a h. 2 ^ h * chi meant a + 2 ^ h * chi (λ x. not (meant x)) a) (λ a h. 2 ^ h * 1) (λ a h. regroup (2 ^ h) (chi meant a) (chi (λ x. not (meant x)) a) (one_of_two (meant a)))
      ∙ worth-all t L (run_within p l ok) in
      cancel L _ _ (joined m.0 m.1 m'.0 m'.1 (worth (chi meant) t L) (worth (chi (λ x. not (meant x))) t L) (2 ^ L) (tree_share p l ok meant) (tree_share p l ok (λ x. not (meant x))) both)
    where
      regroup : (h a b : ℕ) → a + b ≡ 1 → h * a + h * b ≡ h * 1
      regroup h a b e = let x = ap (λ x. h * x) e in omega arith

      joined : (p0 p1 q0 q1 V U N : ℕ) → p1 * V ≡ p0 * N → q1 * U ≡ q0 * N → V + U ≡ N → (p0 * q1 + q0 * p1) * N ≡ p1 * q1 * N
      joined p0 p1 q0 q1 V U N a b e = let x = ap (λ x. q1 * x) a in let y = ap (λ x. p1 * x) b in let z = ap (λ x. p1 * q1 * x) e in omega arith

  -- what is stated is at most what the limits leave and what they weigh
  pub mass_above : MayPass p l → (meant : Outcome → Bool) → AtMost (mass_of_those p l.turns None None meant) (event_mass p l ok (or_cut meant))
  mass_above passes meant =
      let n = l.turns in
      let r = l.attempts in
      let w = whole p ok n r in
      let N = w.scale in
      let some = w.positive in
      let m' = weighted_ends n None p.body (zeros (length p.names)) in
      let t1 = ends_in p.result meant in
      let t2 = ends_in p.result (neither meant) in
      let parts = three_parts N t1 t2 is_failed m' N (apart p.result meant) w.holds in
      let S = round_mass p n None meant in
      let T = round_mass p n None (neither meant) in
      let f = failed_mass p n None in
      let d = f.1 - f.0 in
      let e : f.1 ≡ f.0 + d = omega (arith, passes) in
      let left : 0 < d = omega (arith, passes) in
      let sum = two_open N parts.0 parts.1 parts.2 S.0 S.1 T.0 T.1 f.0 f.1 d (counts_sum N t1 m' parts.0 parts.3) (counts_sum N t2 m' parts.1 parts.4) (counts_sum N is_failed m' parts.2 parts.5) parts.6 e some in
      let low = mass_below p l ok passes (neither meant) (never (meant (outcome.Limit Attempts))) (never (meant (outcome.Limit Rounds))) in
      let m = event_mass p l ok (or_cut meant) in
      let q = event_mass p l ok (neither meant) in
      last_step (S.0 * f.1) (S.1 * d) (T.0 * f.1) (T.1 * d) m.0 m.1 q.0 q.1 sum low (complement (or_cut meant))
      (product_pos T.1 d (sum_pos N t2 (chi t2) m' parts.1 some parts.4) left) (mass_pos p l ok (neither meant))

  -- what is stated is a fraction
  pub stated_pos : MayPass p l → (meant : Outcome → Bool) → 0 < (mass_of_those p l.turns None None meant).1
  stated_pos passes meant =
      let n = l.turns in
      let r = l.attempts in
      let t = ends_in p.result meant in
      let m = weighted_ends n None p.body (zeros (length p.names)) in
      let f = failed_mass p n None in
      let left : 0 < f.1 - f.0 = omega (arith, passes) in
      let w = whole p ok n r in
      product_pos (sum_of t m).1 (f.1 - f.0) (sum_pos w.scale t (λ e. 1) m _ w.positive w.holds) left
