-- Exact masses are what masses tend to as turns grow, and there are no others.
use Rattle.std.proofs.Common.{◌≡◌, ◌⊎◌, inl, inr, ⊎_elim, ℕ, zero, suc, ◌+◌, ◌-◌, ◌*◌, ◌≤◌, ◌<◌, Bool, true, false, not, true≢false, [], ◌∷◌, None, length, refl, sym, ap, ◌∙◌, subst, arith}
use Rattle.std.specs.Prelude.{Contains}
use Rattle.std.proofs.lemmas.Bool.{cases_lt}
use Rattle.std.proofs.Math.Nat.{mul-le-mul_left, mul-le-mul_right, le_of_mul-le-mul_right}
use Rattle.numbers.specs.Arithmetic.{InLowest}
use Rattle.numbers.specs.Fraction.{IsEqual, lowest}
use Rattle.numbers.proofs.Divisors.{lowest_in_lowest, lowest_equal}
use Rattle.gcl_core.specs.declared.answers.Limit.TheVariants.{Turns}
use Rattle.gcl_core.specs.declared.answers.Outcome.{Outcome}
use Rattle.gcl_core.specs.declared.answers.Outcome.TheVariants as outcome
use Rattle.gcl_core.specs.meaning.Blocks.{End}
use Rattle.gcl_core.specs.meaning.Bounds.{BlockIsWeighed}
use Rattle.gcl_core.specs.meaning.Checked.{IsChecked}
use Rattle.gcl_core.specs.meaning.Outcomes.{zeros, same_outcome}
use Rattle.gcl_core.specs.meaning.Syntax.{SourceProgram}
use Rattle.gcl_core.specs.meaning.Value.{State}
use Rattle.gcl_core.specs.weighing.Fractions.{Fraction, zero_share, one, plus, AtMost}
use Rattle.gcl_core.specs.weighing.Mass.{ends_in, is_failed, round_mass, failed_mass, mass_of}
use Rattle.gcl_core.specs.weighing.WeightedEnds.{Weighted, sure, weighted_ends}
use Rattle.gcl_core.proofs.Accepted.{checked_weights}
use Rattle.gcl_core.proofs.SameOutcomes.{same_outcomes, outcome_itself}
use Rattle.table_flow.proofs.Paths.{ends_positive}
use Rattle.weighing_law.proofs.Shares.{product_pos}
use Rattle.weighing_law.proofs.Fractions.{at_most_then, at_most_plus}
use Rattle.mass_fold.specs.Rows.{Rows}
use Rattle.mass_fold.proofs.OneList.{one_list}
use Rattle.mass_fold.proofs.OutcomeRows.{lowest_is}
use Rattle.unlimited_law.specs.Alike.{AreFractions}
use Rattle.unlimited_law.specs.Settling.{Outflow}
use Rattle.unlimited_law.specs.SettledMasses.{ProgramSettles, settled_weight, settled_failed, settled_mass, endless_mass, runs_out, nth_part, IsNear}
use Rattle.unlimited_law.proofs.Numbers.{below_refl, same_sym, same_trans, below_trans, add_below}
use Rattle.unlimited_law.proofs.FractionNumbers.{of, of_times, of_plus, of_one, below_of}
use Rattle.unlimited_law.proofs.Integrals.{integral, integral_sure}
use Rattle.unlimited_law.proofs.Bounded.{block_small}
use Rattle.unlimited_law.proofs.Near.{near_same}
use Rattle.unlimited_law.proofs.Covers.{sign}
use Rattle.unlimited_law.proofs.SameWeights.{sum_some, sum_is}
use Rattle.unlimited_law.proofs.OneLimit.{parts_vanish}
use Rattle.unlimited_law.proofs.BlockLimits.{all_fractions, event_test, settled_some, settled_is, test_near}
use Rattle.exact_fold.specs.Exact.{IsExact, FailsAlways}
use Rattle.exact_fold.specs.InTheLimit.{TendsTo, RisesTo, IsExactInTheLimit, FailsInTheLimit}
use Rattle.exact_fold.specs.Limits.{AreLimits, rate_of}
use Rattle.exact_fold.proofs.MassLimits.{are_limits, settled, factors_pos}

-- ---- numbers
small_part : (r s n k : ℕ) → 1 ≤ s → k * r + 1 ≤ n → 1 * r * k ≤ 1 * (n * s)
small_part r s n k some h = let x = mul-le-mul_left n some in omega arith

more : (m q : Fraction) (k : ℕ) → AtMost m q → AtMost m (plus q (1, k))
more m q k h = let x = mul-le-mul_right k h in omega arith

same : (m : Fraction) → AtMost m m
same m = omega arith

-- what is short of q by at most an n-th of a rate
module _ (q rate : Fraction) (m : ℕ → Fraction) where
  shrinks : (w : Fraction) (n k : ℕ) → 1 ≤ rate.1 → 0 < w.1 → 1 ≤ n → k * rate.0 + 1 ≤ n → (u : Fraction) → AtMost u (plus w (nth_part n rate)) → AtMost u (plus w (1, k))
  shrinks w n k some pos any great u h =
      at_most_then u (plus w (nth_part n rate)) (plus w (1, k)) (product_pos w.1 (n * rate.1) pos (product_pos n rate.1 (omega (arith, any)) (omega (arith, some)))) h
      (at_most_plus w w (nth_part n rate) (1, k) (same w) (small_part rate.0 rate.1 n k some great))

  rises : ((n : ℕ) → 1 ≤ n → IsNear n rate (m n) q) → RisesTo q m
  rises near = (
    λ n some. (near n some).from_below,
    λ k any. (
      k * rate.0 + 1,
      λ n great.
          let some : 1 ≤ n = omega (arith, great) in
          let h = near n some in
          (shrinks (m n) n k h.cost_fraction (omega (arith, h.weight_fraction)) some great q h.from_above, more (m n) q k h.from_below),
    ),
  )

  falls : ((n : ℕ) → 1 ≤ n → IsNear n rate q (m n)) → TendsTo q m
  falls near k any = (
    k * rate.0 + 1,
    λ n great.
        let some : 1 ≤ n = omega (arith, great) in
        let h = near n some in
        (more q (m n) k h.from_below, shrinks q n k h.cost_fraction (omega (arith, h.weight_fraction)) some great (m n) h.from_above),
  )

-- ---- what fails
module _ (p : SourceProgram) (w : BlockIsWeighed p.body) (n : ℕ) where
  abbrev start : State
  start = zeros (length p.names)

  abbrev ends : Weighted End
  ends = weighted_ends n None p.body start

  ends_fractions : AreFractions ends
  ends_fractions = all_fractions ends (ends_positive n None p.body start w)

  pub failed_some : 0 < (failed_mass p n None).1
  failed_some = sum_some is_failed ends ends_fractions

  failed_small : AtMost (failed_mass p n None) one
  failed_small =
      below_of (failed_mass p n None) one failed_some (omega arith)
      (below_trans (sum_is is_failed ends ends_fractions).below (below_trans (block_small n p.body w start (sign is_failed) (event_test is_failed refl).small) of_one.above))

  module _ (f : Outflow) (o : ProgramSettles p f) (some : 0 < n) where
    failed_near : IsNear n f.turns (failed_mass p n None) (settled_failed p f)
    failed_near =
        let F = failed_mass p n None in
        let L = settled_failed p f in
        let near = near_same n (same_trans (sum_is is_failed ends ends_fractions) (same_sym (integral_sure (λ s. integral (sign is_failed) (weighted_ends n None p.body s)) start)))
        (settled_is p.body (sure start) f w o is_failed) (test_near p.body (sure start) f w o n some (sign is_failed) (event_test is_failed refl)) in
        let part_some : 0 < (nth_part n f.turns).1 = product_pos n f.turns.1 some near.some in
        let all_some = settled_some p.body (sure start) f w o is_failed in
        record {
          from_below = below_of F L failed_some all_some near.low;
          from_above = below_of L (plus F (nth_part n f.turns)) all_some (product_pos _ _ failed_some part_some)
              (below_trans near.high (below_trans (add_below (below_refl (of F)) (of_times (1, n) f.turns).above) (of_plus F (nth_part n f.turns) failed_some part_some).above));
          weight_fraction = omega (arith, failed_some);
          settled_fraction = omega (arith, all_some);
          cost_fraction = let z = near.some in omega arith;
        }

-- ---- exact masses
module _ (p : SourceProgram) (ok : IsChecked p) where
  pub fails_in_the_limit : FailsAlways p → FailsInTheLimit p
  fails_in_the_limit a k any = (
    k * a.settled.turns.0 + 1,
    λ n great.
        let some : 1 ≤ n = omega (arith, great) in
        let w = checked_weights p ok in
        let F = failed_mass p n None in
        let h = failed_near p w n a.settled a.settles (omega (arith, some)) in
        let L = settled_failed p a.settled in (
          shrinks one a.settled.turns (λ n. F) F n k h.cost_fraction (failed_some p w n) some great one
              (at_most_then one L (plus F (nth_part n a.settled.turns)) (omega (arith, h.settled_fraction)) a.fails h.from_above),
          more F one k (failed_small p w n),
        ),
  )

  module _ (rows : Rows) (endless : Fraction) (e : IsExact p rows endless) where
    abbrev rate : Fraction
    rate = rate_of p e.settled

    limits : AreLimits p rows endless rate
    limits = are_limits p rows endless ok e

    lost_less : (f0 f1 l0 l1 : ℕ) → f0 * l1 ≤ l0 * f1 → l0 < l1 → (f0 * l1 + 1 * f1) * 1 ≤ 1 * (f1 * l1)
    lost_less f0 f1 l0 l1 h less = let x = mul-le-mul_left f1 (let z : l0 + 1 ≤ l1 = omega arith in z) in omega arith

    -- what no round fails with is some part
    mass_some : (meant : Outcome → Bool) → 1 ≤ (settled_mass p e.settled meant).1
    mass_some meant =
        let L = settled_failed p e.settled in
        let some = settled_some p.body (sure (zeros (length p.names))) e.settled (checked_weights p ok) e.settles (ends_in p.result meant) in
        let z = product_pos (settled_weight (ends_in p.result meant) e.settled).1 (L.1 - L.0) some (omega (arith, e.passes)) in
        omega arith

    above : (a b : ℕ) → 0 < a → 1 ≤ (lowest (a, b)).1 → 1 ≤ (lowest (a, b)).0
    above a b some h =
        let g = lowest (a, b) in
        let x : g.0 * b ≡ a * g.1 = lowest_equal a b in
        let y = product_pos a g.1 some (omega (arith, h)) in
        (factors_pos g.0 b (omega arith)).0

    pub is_exact_in_the_limit : IsExactInTheLimit p rows endless
    is_exact_in_the_limit = record {
      ascending = e.masses.ascending;
      row = λ x q has.
          let r = e.masses.each x q has in
          let m = settled_mass p e.settled (same_outcome x) in
          let low = lowest_in_lowest m.0 m.1 (mass_some (same_outcome x)) in
          (settled p rows endless ok e x r.0, subst (λ z. 1 ≤ z.0) (sym r.1) (above m.0 m.1 r.0 low.positive), subst InLowest (sym r.1) low, rises q rate (λ n. mass_of p n None None x) (limits.row x q has));
      others = limits.others;
      never =
          let m = endless_mass p e.settled in
          (subst InLowest (sym e.rest) (lowest_in_lowest m.0 m.1 (mass_some (λ x. not (runs_out x)))), falls endless rate (λ n. mass_of p n None None (outcome.Limit Turns)) limits.never);
      passes = (
        (settled_failed p e.settled).1,
        omega (arith, e.passes),
        λ n some.
            let F = failed_mass p n None in
            let L = settled_failed p e.settled in
            lost_less F.0 F.1 L.0 L.1 (failed_near p (checked_weights p ok) n e.settled e.settles (omega (arith, some))).from_below e.passes,
      );
    }

-- ---- a limit is one
limit_below : (q r : Fraction) (m : ℕ → Fraction) → ((n : ℕ) → 1 ≤ n → 1 ≤ (m n).1) → TendsTo q m → TendsTo r m → AtMost q r
limit_below q r m some a b =
    parts_vanish q.0 q.1 r.0 r.1 2 1 (omega arith)
    (λ k any.
    let A = a k any in
    let B = b k any in
    let N = A.0 + B.0 + 1 in
    let low = (A.1 N (omega arith)).0 in
    let high = (B.1 N (omega arith)).1 in
    joined q.0 q.1 r.0 r.1 (m N).0 (m N).1 k (omega (arith, some N (omega arith))) low high)
  where
    joined : (q0 q1 r0 r1 m0 m1 k : ℕ) → 0 < m1 → q0 * (m1 * k) ≤ (m0 * k + 1 * m1) * q1 → m0 * (r1 * k) ≤ (r0 * k + 1 * r1) * m1 → q0 * (r1 * (k * 1)) ≤ (r0 * (k * 1) + 2 * r1) * q1
    joined q0 q1 r0 r1 m0 m1 k some h g = le_of_mul-le-mul_right {k = m1} (let x = mul-le-mul_right r1 h in let y = mul-le-mul_right q1 g in omega arith) some

one_limit : (q r : Fraction) (m : ℕ → Fraction) → ((n : ℕ) → 1 ≤ n → 1 ≤ (m n).1) → TendsTo q m → TendsTo r m → IsEqual q r
one_limit q r m some a b = let x = limit_below q r m some a b in let y = limit_below r q m some b a in omega arith

one_in_lowest : (q r : Fraction) → InLowest q → InLowest r → IsEqual q r → q ≡ r
one_in_lowest q r a b e =
    let some : 0 < r.1 = let z = b.positive in omega arith in
    lowest_is q r a some e ∙ sym (lowest_is r r b some refl)

-- ---- whether an outcome has a row
row_or_none : (x : Outcome) (rows : Rows) → ((q : Fraction) × Contains rows (x, q)) ⊎ ((q : Fraction) → Contains rows (x, q) → ⊥)
row_or_none x [] = inr (λ q c. absurd (omega (arith, c.1)))
row_or_none x (row ∷ rows) = by (same_outcome row.0 x) refl (row_or_none x rows)
  where
    by : (b : Bool) → same_outcome row.0 x ≡ b → ((q : Fraction) × Contains rows (x, q)) ⊎ ((q : Fraction) → Contains rows (x, q) → ⊥) →
        ((q : Fraction) × Contains (row ∷ rows) (x, q)) ⊎ ((q : Fraction) → Contains (row ∷ rows) (x, q) → ⊥)
    by true e r = inl (row.1, (0, omega arith, ap (λ z. (z, row.1)) (same_outcomes row.0 x e)))
    by false e (inl (q, (k, l, at))) = inl (q, (suc k, omega (arith, l), at))
    by false e (inr none) = inr no
      where
        no : (q : Fraction) → Contains (row ∷ rows) (x, q) → ⊥
        no q (zero, l, at) = true≢false (sym (outcome_itself x) ∙ ap (λ z. same_outcome z x) (sym (ap (λ r. r.0) at)) ∙ e)
        no q (suc k, l, at) = none q (k, omega (arith, l), at)

-- ---- there are no others
module _ (p : SourceProgram) (ok : IsChecked p) where
  passing : (rows : Rows) (endless : Fraction) → IsExactInTheLimit p rows endless → (n : ℕ) → 1 ≤ n → (failed_mass p n None).0 < (failed_mass p n None).1
  passing rows endless e n some = less (failed_mass p n None).0 (failed_mass p n None).1 e.passes.0 (failed_some p (checked_weights p ok) n) (e.passes.2 n some)
    where
      less : (f0 f1 k : ℕ) → 0 < f1 → (f0 * k + 1 * f1) * 1 ≤ 1 * (f1 * k) → f0 < f1
      less f0 f1 k some h =
          ⊎_elim (λ (lt : f0 < f1). lt) (λ (le : f1 ≤ f0). let x = mul-le-mul_right k le in absurd (omega arith)) (cases_lt f0 f1)

  fraction : (rows : Rows) (endless : Fraction) → IsExactInTheLimit p rows endless → (x : Outcome) (n : ℕ) → 1 ≤ n → 1 ≤ (mass_of p n None None x).1
  fraction rows endless e x n some =
      let w = checked_weights p ok in
      let F = failed_mass p n None in
      let lt = passing rows endless e n some in
      let z = product_pos (round_mass p n None (same_outcome x)).1 (F.1 - F.0) (sum_some (ends_in p.result (same_outcome x)) (ends p w n) (ends_fractions p w n)) (omega arith) in
      omega arith

  among : (a b : Rows) (s t : Fraction) → IsExactInTheLimit p a s → IsExactInTheLimit p b t → (r : Outcome × Fraction) → Contains a r → Contains b r
  among a b s t e f r c = by (row_or_none r.0 b)
    where
      mass : ℕ → Fraction
      mass n = mass_of p n None None r.0

      nothing_left : ((n : ℕ) → 1 ≤ n → (mass n).0 ≡ 0) → TendsTo zero_share mass
      nothing_left h k any = (1, λ n some. (omega arith, let z = h n some in let y = ap (λ v. v * (1 * k)) z in omega arith))

      by : ((q : Fraction) × Contains b (r.0, q)) ⊎ ((q : Fraction) → Contains b (r.0, q) → ⊥) → Contains b r
      by (inl (q, d)) =
          let h = e.row r.0 r.1 c in
          let g = f.row r.0 q d in
          subst (λ z. Contains b (r.0, z)) (sym (one_in_lowest r.1 q h.2 g.2 (one_limit r.1 q mass (fraction a s e r.0) h.3.1 g.3.1))) d
      by (inr none) =
          let h = e.row r.0 r.1 c in
          let same : IsEqual r.1 zero_share = one_limit r.1 zero_share mass (fraction a s e r.0) h.3.1 (nothing_left (f.others r.0 h.0 none)) in
          absurd (let z = h.1 in omega arith)

  pub one_answer : (a b : Rows) (s t : Fraction) → IsExactInTheLimit p a s → IsExactInTheLimit p b t → (a ≡ b) × (s ≡ t)
  one_answer a b s t e f = (
    one_list a b e.ascending f.ascending (among a b s t e f) (among b a t s f e),
    one_in_lowest s t e.never.0 f.never.0 (one_limit s t (λ n. mass_of p n None None (outcome.Limit Turns)) (fraction a s e (outcome.Limit Turns)) e.never.1 f.never.1),
  )

  pub not_both : (rows : Rows) (endless : Fraction) → IsExactInTheLimit p rows endless → FailsInTheLimit p → ⊥
  not_both rows endless e all =
      let k = e.passes.0 in
      let any = e.passes.1 in
      let A = all (2 * k) (omega arith) in
      let N = A.0 + 1 in
      let F = failed_mass p N None in
      against F.0 F.1 k (failed_some p (checked_weights p ok) N) (e.passes.2 N (omega arith)) (A.1 N (omega arith)).0
    where
      against : (f0 f1 k : ℕ) → 0 < f1 → (f0 * k + 1 * f1) * 1 ≤ 1 * (f1 * k) → 1 * (f1 * (2 * k)) ≤ (f0 * (2 * k) + 1 * f1) * 1 → ⊥
      against f0 f1 k some h g = omega arith
