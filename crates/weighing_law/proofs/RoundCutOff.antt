-- What a round gives the limits of attempts and of rounds, and that it fails no more often under a limit of attempts.
use Rattle.std.proofs.Common.{◌≡◌, ℕ, zero, suc, ◌*◌, ◌^◌, ◌≤◌, ◌<◌, Bool, true, false, Some, None, Ok, Err, length, refl, sym, ap, subst, arith, le_refl, true≢false}
use Rattle.std.proofs.lemmas.Nat.{pow_pos}
use Rattle.std.proofs.Math.Nat.{mul-le-mul_left, le_of_mul-le-mul_left, le_of_mul-le-mul_right}
use Rattle.gcl_core.specs.declared.answers.Limit.{Limit}
use Rattle.gcl_core.specs.declared.answers.Limit.TheVariants.{Turns, Attempts, Rounds}
use Rattle.gcl_core.specs.declared.answers.Outcome.TheVariants as outcome
use Rattle.gcl_core.specs.meaning.Blocks.{End, on, failed, fault, limit}
use Rattle.gcl_core.specs.meaning.Checked.{IsChecked}
use Rattle.gcl_core.specs.meaning.Outcomes.{same_outcome, same_limit, outcome_of, zeros}
use Rattle.gcl_core.specs.meaning.Syntax.{Expression, SourceProgram}
use Rattle.gcl_core.specs.meaning.Value.{Value, value_of}
use Rattle.gcl_core.specs.weighing.Fractions.{AtMost}
use Rattle.gcl_core.specs.weighing.LongestReading.{longest}
use Rattle.gcl_core.specs.weighing.Mass.{ends_in, is_failed, round_mass, failed_mass}
use Rattle.gcl_core.specs.weighing.WeightedEnds.{weighted_ends}
use Rattle.gcl_core.proofs.Accepted.{checked_weights}
use Rattle.gcl_core.proofs.CutPlays.{block_sound}
use Rattle.gcl_core.proofs.FittingValues.{zeros_fit}
use Rattle.gcl_core.proofs.TreeWeights.{chi}
use Rattle.weighing_law.proofs.LimitedBlocks.{CutOff, limited_block}
use Rattle.weighing_law.proofs.PlayWeights.{AtSomeScale}
use Rattle.weighing_law.proofs.Shares.{counts_sum, product_pos}
use Rattle.weighing_law.proofs.WeighedPlays.{weighed_block}
use Rattle.weighing_law.proofs.OneAttempt.{reading}
use Rattle.weighing_law.proofs.RareEnds.{Rare, rare_play}
use Rattle.weighing_law.proofs.Spared.{is_own, block_spares}

-- ---- an end of its own is not at the limit of attempts or of rounds
no_limit : (l : Limit) (v : Value) → same_outcome (outcome.Limit l) (outcome_of v) ≡ false
no_limit l (Ok z) = refl
no_limit l (Err f) = refl

own_ends : (result : Expression) (l : Limit) → same_limit l Turns ≡ false → (e : End) → is_own e ≡ true → ends_in result (same_outcome (outcome.Limit l)) e ≡ false
own_ends result l other (on s) h = no_limit l (value_of result s)
own_ends result l other failed h = refl
own_ends result l other (fault f) h = refl
own_ends result l other (limit Turns) h = other
own_ends result l other (limit Attempts) h = absurd (true≢false (sym h))
own_ends result l other (limit Rounds) h = absurd (true≢false (sym h))

part_below : (r T v D N s0 s1 : ℕ) → 1 ≤ r → 0 < N → s1 * v ≡ s0 * N → r * T * v ≤ r * D * N * 1 → s0 * T ≤ D * s1
part_below r T v D N s0 s1 some pos e h =
    le_of_mul-le-mul_right {k = N}
    (let less : T * v ≤ D * N = le_of_mul-le-mul_left {k = r} (omega (arith, h)) some in let x = mul-le-mul_left s1 less in let y = ap (λ x. T * x) e in omega arith)
    pos

nothing_of : (v N s0 s1 x : ℕ) → 0 < N → 0 < x → s1 * v ≡ s0 * N → x * v ≤ 0 → s0 ≡ 0
nothing_of v N zero s1 x pos some e h = refl
nothing_of zero N (suc c) s1 x pos some e h = absurd (let y = mul-le-mul_left N (let le : 1 ≤ suc c = omega arith in le) in omega arith)
nothing_of (suc v) N (suc c) s1 x pos some e h = absurd (let y = mul-le-mul_left x (let le : 1 ≤ suc v = omega arith in le) in omega arith)

open_sums : (N v u p0 p1 q0 q1 : ℕ) → 0 < N → p1 * v ≡ p0 * N → q1 * u ≡ q0 * N → v ≤ u → p0 * q1 ≤ q0 * p1
open_sums N v u p0 p1 q0 q1 some e f le =
    le_of_mul-le-mul_right {k = N} (let x = ap (λ x. q1 * x) e in let y = ap (λ x. p1 * x) f in let z = mul-le-mul_left (p1 * q1) le in omega arith) some

module _ (p : SourceProgram) (ok : IsChecked p) (n r : ℕ) (some : 1 ≤ r) where
  module _ (l : Limit) (other : same_limit l Turns ≡ false) where
    abbrev meant : End → Bool
    meant = ends_in p.result (same_outcome (outcome.Limit l))

    rare_round : AtSomeScale (λ N. Rare meant (own_ends p.result l other) r some (r * longest n 1 p.body) N (weighted_ends n (Some r) p.body (zeros (length p.names))))
    rare_round =
        subst (λ d. AtSomeScale (λ N. Rare meant (own_ends p.result l other) r some d N (weighted_ends n (Some r) p.body (zeros (length p.names))))) (reading n r p.body)
        (subst (λ m. AtSomeScale (λ N. Rare meant (own_ends p.result l other) r some (longest n r p.body) N m)) (weighed_block (Some r) n p.body (zeros (length p.names)))
        (rare_play meant (own_ends p.result l other) r some ⊥ _ _ _ (block_sound n r p.body (checked_weights p ok) ok.numbers.body (zeros (length p.names)) (zeros_fit (length p.names)))
        (block_spares n p.body (zeros (length p.names)))))

  -- that no attempt of a draw gives a class
  pub attempts_rare : AtMost (round_mass p n (Some r) (same_outcome (outcome.Limit Attempts))) (longest n 1 p.body, 2 ^ r)
  attempts_rare =
      let h = rare_round Attempts refl in
      let m = weighted_ends n (Some r) p.body (zeros (length p.names)) in
      part_below r (2 ^ r) h.holds.part (longest n 1 p.body) h.scale _ _ some h.positive (counts_sum h.scale (meant Attempts refl) m h.holds.part h.holds.counts) h.holds.few

  -- no round is at the limit of rounds
  pub no_rounds : (round_mass p n (Some r) (same_outcome (outcome.Limit Rounds))).0 ≡ 0
  no_rounds =
      let h = rare_round Rounds refl in
      let m = weighted_ends n (Some r) p.body (zeros (length p.names)) in
      nothing_of h.holds.part h.scale _ _ (r * 2 ^ r) h.positive (product_pos r (2 ^ r) some (pow_pos r)) (counts_sum h.scale (meant Rounds refl) m h.holds.part h.holds.counts)
      (let few = h.holds.few in omega (arith, few))

  pub fails_no_more : AtMost (failed_mass p n (Some r)) (failed_mass p n None)
  fails_no_more =
      let s = zeros (length p.names) in
      let h = limited_block n r p.body (checked_weights p ok) ok.numbers.body s (zeros_fit (length p.names)) in
      let k = h.holds in
      open_sums h.scale (k.low (chi is_failed)) (k.high (chi is_failed)) _ _ _ _ h.positive (counts_sum h.scale is_failed (weighted_ends n (Some r) p.body s) _ (k.low_counts (chi is_failed)))
      (counts_sum h.scale is_failed (weighted_ends n None p.body s) _ (k.high_counts (chi is_failed)))
      (k.below (chi is_failed) (chi is_failed) no_attempts (λ e. le_refl (chi is_failed e)))
    where
      no_attempts : (e : End) → CutOff e → chi is_failed e ≡ 0
      no_attempts (on s) h = refl
      no_attempts failed h = absurd h
      no_attempts (fault f) h = refl
      no_attempts (limit l) h = refl
