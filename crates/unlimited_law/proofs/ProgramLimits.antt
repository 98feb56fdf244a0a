-- The masses of a program whose body settles tend to what it settles to.
use Rattle.std.proofs.Common.{◌≡◌, ℕ, ◌+◌, ◌*◌, ◌-◌, ◌≤◌, ◌<◌, Bool, true, false, cond, ⊎_elim, [], ◌∷◌, None, length, refl, sym, ap, subst, arith}
use Rattle.std.proofs.Math.Nat.{mul-le-mul, mul-le-mul_left, mul-le-mul_right, le_of_mul-le-mul_right}
use Rattle.std.proofs.lemmas.Bool.{cases_lt}
use Rattle.gcl_core.specs.declared.answers.Limit.TheVariants.{Turns}
use Rattle.gcl_core.specs.declared.answers.Outcome.{Outcome}
use Rattle.gcl_core.specs.declared.answers.Outcome.TheVariants as outcome
use Rattle.gcl_core.specs.meaning.Bounds.{BlockIsWeighed}
use Rattle.gcl_core.specs.meaning.Outcomes.{zeros, outcome_of}
use Rattle.gcl_core.specs.meaning.Syntax.{SourceProgram}
use Rattle.gcl_core.specs.meaning.Value.{State, value_of}
use Rattle.gcl_core.specs.meaning.Blocks.{End, on, failed, fault, limit}
use Rattle.gcl_core.specs.weighing.Fractions.{Fraction, plus, AtMost, IsBelowOne}
use Rattle.gcl_core.specs.weighing.Mass.{sum_of, ends_in, is_failed, round_mass, failed_mass, mass_of_those}
use Rattle.gcl_core.specs.weighing.WeightedEnds.{Weighted, sure, weighted_ends}
use Rattle.table_flow.proofs.Paths.{ends_positive}
use Rattle.weighing_law.proofs.Shares.{product_pos, Share, share-plus}
use Rattle.weighing_law.proofs.StatedMasses.{rest_share}
use Rattle.unlimited_law.specs.Alike.{AreFractions}
use Rattle.unlimited_law.specs.Settling.{Outflow}
use Rattle.unlimited_law.specs.SettledMasses.{ProgramSettles, settled_weight, settled_failed, settled_mass, gap, nth_part, MassTends}
use Rattle.unlimited_law.proofs.Numbers.{Rational, ◌⊕◌, ◌⊑◌, ◌≃◌, nought, unit, below_refl, same_refl, below_trans, same_sym, same_trans, add_below, add_same, nought_add, add_nought, nought_below}
use Rattle.unlimited_law.proofs.OneScale.{at_unit, at_sum, Each, none, next, together, le_to}
use Rattle.unlimited_law.proofs.FractionNumbers.{of, of_times, at_number}
use Rattle.unlimited_law.proofs.Integrals.{integral, integral_same, integral_sum, integral_sure, stop, regroup4}
use Rattle.unlimited_law.proofs.Bounded.{block_small}
use Rattle.unlimited_law.proofs.Rising.{IsTest}
use Rattle.unlimited_law.proofs.Near.{Near, near_same}
use Rattle.unlimited_law.proofs.Covers.{sign}
use Rattle.unlimited_law.proofs.SameWeights.{sum_some, sum_is}
use Rattle.unlimited_law.proofs.SettledBlocks.{worth}
use Rattle.unlimited_law.proofs.BlockLimits.{all_fractions, event_test, settled_some, settled_is, test_near}

-- ---- numbers at one scale
crossed : (an a gn g k R P : ℕ) → an ≤ a → gn ≤ g → a + g ≤ an + gn + k → an ≤ P → R + g ≡ P + gn → (an * R ≤ a * P) × (a * P ≤ an * R + k * P)
crossed an a gn g k R P le leg all top e =
    let d = P - R in
    let p : P ≡ R + d = omega arith in
    let more : a + d ≤ an + k = omega arith in
    let x = mul-le-mul_right P more in
    let y = mul-le-mul_right d top in
    let z = ap (λ x. an * x) p in
    (mul-le-mul le (omega arith), omega arith)

-- shares of one number
shares_below : (N v u : ℕ) (p q : Fraction) → 0 < N → Share N v p → Share N u q → v ≤ u → AtMost p q
shares_below N v u p q some e f le =
    le_of_mul-le-mul_right {k = N} (let x = ap (λ x. q.1 * x) e in let y = ap (λ x. p.1 * x) f in let z = mul-le-mul_left (p.1 * q.1) le in omega arith) some

share_more : (N v k : ℕ) (p : Fraction) → Share N v p → Share (N * k) (v * k) p
share_more N v k p e = let x = ap (λ x. x * k) e in omega arith

share_turned : (N k v : ℕ) (p : Fraction) → Share N v p → Share (k * N) (v * k) p
share_turned N k v p e = let x = ap (λ x. x * k) e in omega arith

below_one : (N v : ℕ) (p : Fraction) → 0 < p.1 → p.1 * v ≡ p.0 * N → v < N → p.0 < p.1
below_one N v p some e lt =
    ⊎_elim (λ (h : p.0 < p.1). h)
    (λ (h : p.1 ≤ p.0). let x = mul-le-mul_right N h in let y = le_of_mul-le-mul_right {m = N} {n = v} {k = p.1} (omega arith) some in absurd (omega arith))
    (cases_lt p.0 p.1)

pub above_one : (N v : ℕ) (p : Fraction) → 0 < N → p.1 * v ≡ p.0 * N → p.0 < p.1 → v < N
above_one N v p some e lt =
    ⊎_elim (λ (h : v < N). h)
    (λ (h : N ≤ v). let x = mul-le-mul_left p.1 h in let y = le_of_mul-le-mul_right {m = p.1} {n = p.0} {k = N} (omega arith) some in absurd (omega arith))
    (cases_lt v N)

module _ (p : SourceProgram) (f : Outflow) (w : BlockIsWeighed p.body) (o : ProgramSettles p f) (passes : IsBelowOne (settled_failed p f)) (n : ℕ) (some : 0 < n) (meant : Outcome → Bool)
    (spared : meant (outcome.Limit Turns) ≡ false) where
  abbrev start : State
  start = zeros (length p.names)

  abbrev ends : Weighted End
  ends = weighted_ends n None p.body start

  abbrev asked : End → Bool
  asked = ends_in p.result meant

  ends_fractions : AreFractions ends
  ends_fractions = all_fractions ends (ends_positive n None p.body start w)

  -- what is meant, and what failed
  abbrev both : End → Rational
  both e = sign asked e ⊕ sign is_failed e

  one_at_most : (b : Bool) → cond b unit nought ⊕ nought ⊑ unit
  one_at_most true = (add_nought unit).below
  one_at_most false = below_trans (add_nought nought).below (nought_below unit)

  both_test : IsTest both
  both_test = record {
    small = small;
    spared = subst (λ b. cond b unit nought ⊕ nought ⊑ nought) (sym spared) (add_nought nought).below;
  }
    where
      small : (e : End) → both e ⊑ unit
      small (on s) = one_at_most (meant (outcome_of (value_of p.result s)))
      small failed = (nought_add unit).below
      small (fault g) = one_at_most (meant (outcome.Fault g))
      small (limit l) = one_at_most (meant (outcome.Limit l))

  abbrev Given : Fraction
  Given = round_mass p n None meant

  abbrev Failed : Fraction
  Failed = failed_mass p n None

  abbrev Settled : Fraction
  Settled = settled_weight asked f

  abbrev Lost : Fraction
  Lost = settled_failed p f

  abbrev Short : Fraction
  Short = nth_part n f.turns

  near_of : (event : End → Bool) → IsTest (sign event) → Near n (of (sum_of event ends)) (of (settled_weight event f)) f.turns
  near_of event t =
      near_same n (same_trans (sum_is event ends ends_fractions) (same_sym (integral_sure (λ s. integral (sign event) (weighted_ends n None p.body s)) start)))
      (settled_is p.body (sure start) f w o event) (test_near p.body (sure start) f w o n some (sign event) t)

  asked_near : Near n (of Given) (of Settled) f.turns
  asked_near = near_of asked (event_test asked spared)

  failed_near : Near n (of Failed) (of Lost) f.turns
  failed_near = near_of is_failed (event_test is_failed refl)

  both_ends : integral both ends ≃ of Given ⊕ of Failed
  both_ends = same_trans (integral_sum (sign asked) (sign is_failed) ends) (same_sym (add_same (sum_is asked ends ends_fractions) (sum_is is_failed ends ends_fractions)))

  both_worth : worth both f ≃ of Settled ⊕ of Lost
  both_worth =
      same_trans (add_same (integral_sum (λ s. sign asked (on s)) (λ s. sign is_failed (on s)) f.next)
      (same_trans (integral_same (stop both) (λ e. stop (sign asked) e ⊕ stop (sign is_failed) e) f.ended apart) (integral_sum (stop (sign asked)) (stop (sign is_failed)) f.ended)))
      (same_trans (regroup4 _ _ _ _) (same_sym (add_same (settled_is p.body (sure start) f w o asked) (settled_is p.body (sure start) f w o is_failed))))
    where
      apart : (e : End) → stop both e ≃ stop (sign asked) e ⊕ stop (sign is_failed) e
      apart (on s) = same_sym (nought_add nought)
      apart failed = same_refl _
      apart (fault g) = same_refl _
      apart (limit l) = same_refl _

  both_near : Near n (of Given ⊕ of Failed) (of Settled ⊕ of Lost) f.turns
  both_near =
      near_same n (same_trans (same_sym both_ends) (same_sym (integral_sure (λ s. integral both (weighted_ends n None p.body s)) start)))
      (same_sym both_worth) (test_near p.body (sure start) f w o n some both both_test)

  all_small : of Given ⊕ of Failed ⊑ unit
  all_small = below_trans both_ends.above (block_small n p.body w start both both_test.small)

  pub mass_tends : MassTends p f n meant
  mass_tends = by (together (of Given ∷ of Settled ∷ of Failed ∷ of Lost ∷ of Short ∷ unit ∷ [])).some (together (of Given ∷ of Settled ∷ of Failed ∷ of Lost ∷ of Short ∷ unit ∷ [])).each
    where
      given_some : 0 < Given.1
      given_some = sum_some asked ends ends_fractions

      failed_some : 0 < Failed.1
      failed_some = sum_some is_failed ends ends_fractions

      by : {N : ℕ} → 0 < N → Each N (of Given ∷ of Settled ∷ of Failed ∷ of Lost ∷ of Short ∷ unit ∷ []) → MassTends p f n meant
      by {N} s (next an a1 (next a a2 (next gn a3 (next g a4 (next k a5 (next u a6 none)))))) =
          let settled_pos = settled_some p.body (sure start) f w o asked in
          let lost_pos = settled_some p.body (sure start) f w o is_failed in
          let short_pos = product_pos n f.turns.1 some asked_near.some in
          let c1 = le_to s a1 a2 asked_near.low in
          let c2 = le_to s a3 a4 failed_near.low in
          let c3 = le_to s (at_sum a2 a4) (at_sum (at_sum a1 a3) a5) (below_trans both_near.high (add_below (below_refl _) (of_times (1, n) f.turns).above)) in
          let c4 = le_to s (at_sum a1 a3) a6 all_small in
          let full : u ≡ N = at_unit a6 in
          let e1 = at_number N an Given given_some a1 in
          let e2 = at_number N a Settled settled_pos a2 in
          let e3 = at_number N gn Failed failed_some a3 in
          let e4 = at_number N g Lost lost_pos a4 in
          let e5 = at_number N k Short short_pos a5 in
          let less : g < N = above_one N g Lost s e4 passes in
          let R = N - g in
          let P = N - gn in
          let r : R + g ≡ N = omega arith in
          let q : P + gn ≡ N = omega arith in
          let lt : Failed.0 < Failed.1 = below_one N gn Failed failed_some e3 (omega arith) in
          let m1 = rest_share N P an gn Given Failed e1 e3 lt q in
          let m2 = rest_share N R a g Settled Lost e2 e4 passes r in
          let m3 = rest_share N R k g Short Lost e5 e4 passes r in
          let c = crossed an a gn g k R P c1 c2 c3 (omega arith) (omega arith) in
          let scale = product_pos P R (omega arith) (omega arith) in
          let h1 = share_more P an R (mass_of_those p n None None meant) m1 in
          let h2 = share_turned R P a (settled_mass p f meant) m2 in
          let h3 = share_turned R P k (gap p f n) m3 in
          record {
            from_below = shares_below (P * R) (an * R) (a * P) (mass_of_those p n None None meant) (settled_mass p f meant) scale h1 h2 c.0;
            from_above = shares_below (P * R) (a * P) (an * R + k * P) (settled_mass p f meant) (plus (mass_of_those p n None None meant) (gap p f n)) scale h2
                (share-plus (P * R) (an * R) (k * P) (mass_of_those p n None None meant) (gap p f n) h1 h3) c.1;
            mass_fraction = product_pos Given.1 (Failed.1 - Failed.0) given_some (omega arith);
            settled_fraction = product_pos Settled.1 (Lost.1 - Lost.0) settled_pos (omega (arith, passes));
            gap_fraction = product_pos Short.1 (Lost.1 - Lost.0) short_pos (omega (arith, passes));
          }
