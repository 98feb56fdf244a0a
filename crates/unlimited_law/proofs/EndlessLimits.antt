-- What runs out of turns tends to what runs for ever.
use Rattle.std.proofs.Common.{◌≡◌, ℕ, zero, suc, ◌+◌, ◌*◌, ◌-◌, ◌≤◌, ◌<◌, Bool, true, false, not, cond, ⊎_elim, [], ◌∷◌, None, length, refl, ap, arith}
use Rattle.std.proofs.Math.Nat.{mul-le-mul_right, le_of_mul-le-mul_right}
use Rattle.std.proofs.lemmas.Bool.{cases_lt}
use Rattle.gcl_core.specs.declared.answers.Outcome.{Outcome}
use Rattle.gcl_core.specs.declared.answers.Outcome.TheVariants as outcome
use Rattle.gcl_core.specs.meaning.Checked.{IsChecked}
use Rattle.gcl_core.specs.meaning.Outcomes.{zeros, outcome_of}
use Rattle.gcl_core.specs.meaning.Syntax.{SourceProgram}
use Rattle.gcl_core.specs.meaning.Value.{value_of}
use Rattle.gcl_core.specs.meaning.Blocks.{End, on, failed, fault, limit}
use Rattle.gcl_core.specs.weighing.Fractions.{Fraction, IsBelowOne}
use Rattle.gcl_core.specs.weighing.Mass.{sum_of, ends_in, is_failed, round_mass, failed_mass, mass_of_those}
use Rattle.gcl_core.specs.weighing.WeightedEnds.{Weighted, weighted_ends}
use Rattle.gcl_core.proofs.Accepted.{checked_weights}
use Rattle.table_flow.proofs.Paths.{ends_positive}
use Rattle.weighing_law.proofs.Costs.{whole}
use Rattle.weighing_law.proofs.Shares.{product_pos, Share, counts_sum}
use Rattle.weighing_law.proofs.StatedMasses.{rest_share}
use Rattle.unlimited_law.specs.Alike.{AreFractions}
use Rattle.unlimited_law.specs.Settling.{Outflow}
use Rattle.unlimited_law.specs.SettledMasses.{ProgramSettles, settled_failed, settled_mass, gap, MassTends, runs_out, EndlessTends}
use Rattle.unlimited_law.proofs.Numbers.{◌⊕◌, ◌≃◌, nought, unit, same_refl, same_sym, same_trans, add_same, nought_add, add_nought}
use Rattle.unlimited_law.proofs.OneScale.{at_unit, at_sum, Each, none, next, together, eq_to}
use Rattle.unlimited_law.proofs.FractionNumbers.{of, of_equal, of_full, at_number}
use Rattle.unlimited_law.proofs.Integrals.{integral, integral_same, integral_sum}
use Rattle.unlimited_law.proofs.Covers.{sign}
use Rattle.unlimited_law.proofs.SameWeights.{sum_some, sum_is}
use Rattle.unlimited_law.proofs.BlockLimits.{all_fractions}
use Rattle.unlimited_law.proofs.ProgramLimits.{mass_tends, above_one}

-- ---- numbers
rest_below : (s0 s1 m0 m1 t0 t1 : ℕ) → 0 < m1 → m0 * s1 ≤ s0 * m1 → m0 * t1 + t0 * m1 ≡ m1 * t1 → (s1 - s0) * t1 ≤ t0 * s1
rest_below s0 s1 m0 m1 t0 t1 some h e =
    ⊎_elim
    (λ (lt : s0 < s1).
    let d = s1 - s0 in
    let p : s1 ≡ s0 + d = omega arith in
    le_of_mul-le-mul_right {k = m1} (by s0 s1 m0 m1 t0 t1 d p h e) some)
    (λ (le : s1 ≤ s0). let z : s1 - s0 ≡ 0 = omega arith in rw z (omega arith))
    (cases_lt s0 s1)
  where
    by : (s0 s1 m0 m1 t0 t1 d : ℕ) → s1 ≡ s0 + d → m0 * s1 ≤ s0 * m1 → m0 * t1 + t0 * m1 ≡ m1 * t1 → d * t1 * m1 ≤ t0 * s1 * m1
    by s0 s1 m0 m1 t0 t1 d p h e =
        let x = mul-le-mul_right t1 h in
        let y = ap (λ x. x * s1) e in
        let z = ap (λ x. x * (t1 * m1)) p in
        omega arith

rest_above : (s0 s1 m0 m1 t0 t1 g0 g1 : ℕ) → 0 < m1 → s0 * (m1 * g1) ≤ (m0 * g1 + g0 * m1) * s1 → m0 * t1 + t0 * m1 ≡ m1 * t1 → t0 * (s1 * g1) ≤ ((s1 - s0) * g1 + g0 * s1) * t1
rest_above s0 s1 m0 m1 t0 t1 g0 g1 some h e =
    let d = s1 - s0 in
    let p : s1 ≤ s0 + d = omega arith in
    le_of_mul-le-mul_right {k = m1} (by s0 s1 m0 m1 t0 t1 g0 g1 d p h e) some
  where
    by : (s0 s1 m0 m1 t0 t1 g0 g1 d : ℕ) → s1 ≤ s0 + d → s0 * (m1 * g1) ≤ (m0 * g1 + g0 * m1) * s1 → m0 * t1 + t0 * m1 ≡ m1 * t1 → t0 * (s1 * g1) * m1 ≤ (d * g1 + g0 * s1) * t1 * m1
    by s0 s1 m0 m1 t0 t1 g0 g1 d p h e =
        let x = mul-le-mul_right t1 h in
        let y = ap (λ x. x * (s1 * g1)) e in
        let z = mul-le-mul_right (t1 * m1 * g1) p in
        omega arith

two_parts : (P a t : ℕ) (m q : Fraction) → 0 < P → Share P a m → Share P t q → a + t ≡ P → m.0 * q.1 + q.0 * m.1 ≡ m.1 * q.1
two_parts P a t m q some h k e =
    let x = ap (λ x. q.1 * x) h in
    let y = ap (λ x. m.1 * x) k in
    let z = ap (λ x. m.1 * q.1 * x) e in
    let up = le_of_mul-le-mul_right {m = m.0 * q.1 + q.0 * m.1} {n = m.1 * q.1} {k = P} (omega arith) some in
    let down = le_of_mul-le-mul_right {m = m.1 * q.1} {n = m.0 * q.1 + q.0 * m.1} {k = P} (omega arith) some in
    omega arith

module _ (p : SourceProgram) (ok : IsChecked p) (f : Outflow) (o : ProgramSettles p f) (passes : IsBelowOne (settled_failed p f)) (n : ℕ) (some : 0 < n) where
  abbrev others : Outcome → Bool
  others x = not (runs_out x)

  abbrev ends : Weighted End
  ends = weighted_ends n None p.body (zeros (length p.names))

  abbrev ended : End → Bool
  ended = ends_in p.result others

  abbrev cut : End → Bool
  cut = ends_in p.result runs_out

  ends_fractions : AreFractions ends
  ends_fractions = all_fractions ends (ends_positive n None p.body (zeros (length p.names)) (checked_weights p ok))

  all_ends : of (sum_of (λ e. true) ends) ≃ unit
  all_ends =
      let all = whole p ok n 0 in
      let N = all.scale in
      let s = sum_of (λ e. true) ends in
      let e = counts_sum N (λ e. true) ends N all.holds in
      let up = le_of_mul-le-mul_right {m = s.1} {n = s.0} {k = N} (omega arith) all.positive in
      let down = le_of_mul-le-mul_right {m = s.0} {n = s.1} {k = N} (omega arith) all.positive in
      same_trans (of_equal s (1, 1) (sum_some (λ e. true) ends ends_fractions) (omega arith) (omega arith)) (of_full 1 (omega arith))

  three : integral (sign (λ (e : End). true)) ends ≃ integral (sign ended) ends ⊕ integral (sign cut) ends ⊕ integral (sign is_failed) ends
  three =
      same_trans (integral_same (sign (λ (e : End). true)) (λ e. sign ended e ⊕ sign cut e ⊕ sign is_failed e) ends apart)
      (same_trans (integral_sum (λ e. sign ended e ⊕ sign cut e) (sign is_failed) ends) (add_same (integral_sum (sign ended) (sign cut) ends) (same_refl (integral (sign is_failed) ends))))
    where
      one_of : (b : Bool) → unit ≃ cond (not b) unit nought ⊕ cond b unit nought ⊕ nought
      one_of true = same_sym (same_trans (add_nought (nought ⊕ unit)) (nought_add unit))
      one_of false = same_sym (same_trans (add_nought (unit ⊕ nought)) (add_nought unit))

      apart : (e : End) → unit ≃ sign ended e ⊕ sign cut e ⊕ sign is_failed e
      apart (on s) = one_of (runs_out (outcome_of (value_of p.result s)))
      apart failed = same_sym (same_trans (add_same (nought_add nought) (same_refl unit)) (nought_add unit))
      apart (fault g) = one_of (runs_out (outcome.Fault g))
      apart (limit l) = one_of (runs_out (outcome.Limit l))

  abbrev Given : Fraction
  Given = round_mass p n None others

  abbrev Cut : Fraction
  Cut = round_mass p n None runs_out

  abbrev Failed : Fraction
  Failed = failed_mass p n None

  whole_round : unit ≃ of Given ⊕ of Cut ⊕ of Failed
  whole_round =
      same_trans (same_sym all_ends)
      (same_trans (sum_is (λ e. true) ends ends_fractions)
      (same_trans three (same_sym (add_same (add_same (sum_is ended ends ends_fractions) (sum_is cut ends ends_fractions)) (sum_is is_failed ends ends_fractions)))))

  tends : MassTends p f n others
  tends = mass_tends p f (checked_weights p ok) o passes n some others refl

  left_over : (x y : ℕ) → 1 ≤ x * y → 0 < y
  left_over x zero h = absurd (omega arith)
  left_over x (suc y) h = omega arith

  one_in_all : (mass_of_those p n None None others).0 * (mass_of_those p n None None runs_out).1 + (mass_of_those p n None None runs_out).0 * (mass_of_those p n None None others).1
      ≡ (mass_of_those p n None None others).1 * (mass_of_those p n None None runs_out).1
  one_in_all = by (together (of Given ∷ of Cut ∷ of Failed ∷ unit ∷ [])).some (together (of Given ∷ of Cut ∷ of Failed ∷ unit ∷ [])).each
    where
      by : {N : ℕ} → 0 < N → Each N (of Given ∷ of Cut ∷ of Failed ∷ unit ∷ []) →
          (mass_of_those p n None None others).0 * (mass_of_those p n None None runs_out).1 + (mass_of_those p n None None runs_out).0 * (mass_of_those p n None None others).1
          ≡ (mass_of_those p n None None others).1 * (mass_of_those p n None None runs_out).1
      by {N} s (next a a1 (next t a2 (next g a3 (next u a4 none)))) =
          let all = eq_to s a4 (at_sum (at_sum a1 a2) a3) whole_round in
          let full : u ≡ N = at_unit a4 in
          let e1 = at_number N a Given (sum_some ended ends ends_fractions) a1 in
          let e2 = at_number N t Cut (sum_some cut ends ends_fractions) a2 in
          let e3 = at_number N g Failed (sum_some is_failed ends ends_fractions) a3 in
          let d = left_over Given.1 (Failed.1 - Failed.0) tends.mass_fraction in
          let lt : Failed.0 < Failed.1 = omega arith in
          let r : a + t + g ≡ N = omega arith in
          let m1 = rest_share N (a + t) a g Given Failed e1 e3 lt r in
          let m2 = rest_share N (a + t) t g Cut Failed e2 e3 lt r in
          let less : g < N = above_one N g Failed s e3 lt in
          two_parts (a + t) a t (mass_of_those p n None None others) (mass_of_those p n None None runs_out) (omega arith) m1 m2 refl

  pub endless_tends : EndlessTends p f n
  endless_tends =
      let s = settled_mass p f others in
      let m = mass_of_those p n None None others in
      let t = mass_of_those p n None None runs_out in
      let g = gap p f n in
      let pos = tends.mass_fraction in
      record {
        from_above = rest_below s.0 s.1 m.0 m.1 t.0 t.1 (omega arith) tends.from_below one_in_all;
        from_below = rest_above s.0 s.1 m.0 m.1 t.0 t.1 g.0 g.1 (omega arith) tends.from_above one_in_all;
        mass_fraction = product_pos Cut.1 (Failed.1 - Failed.0) (sum_some cut ends ends_fractions) (left_over Given.1 (Failed.1 - Failed.0) pos);
        endless_fraction = tends.settled_fraction;
        gap_fraction = tends.gap_fraction;
      }
