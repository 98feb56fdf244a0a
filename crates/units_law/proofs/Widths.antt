-- How far apart the bounds are, and what is lost.
use Rattle.std.proofs.Common.{◌≡◌, ◌⊎◌, inl, inr, ℕ, zero, suc, ◌+◌, ◌-◌, ◌*◌, ◌/◌, ◌%◌, ◌≤◌, ◌<◌, Bool, true, false, cond, Option, Some, None, refl, sym, ap, subst, arith, le_refl}
use Rattle.std.specs.Prelude.{not}
use Rattle.std.specs.Int.{div_ceil}
use Rattle.std.proofs.lemmas.Bool.{cases_lt}
use Rattle.std.proofs.lemmas.Grind.{div_ceil_times}
use Rattle.std.proofs.lemmas.Nat.{div-add-mod', mod_below}
use Rattle.std.proofs.Math.Nat.{mul-le-mul_left, mul-le-mul_right}
use Rattle.numbers.specs.declared.units.TheConstants.{ALL}
use Rattle.numbers.specs.Fraction.{IsEqual}
use Rattle.numbers.proofs.Divisors.{lowest_equal}
use Rattle.gcl_core.specs.declared.answers.Limit.TheVariants.{Rounds}
use Rattle.gcl_core.specs.declared.answers.Outcome.{Outcome}
use Rattle.gcl_core.specs.meaning.Blocks.{End, on, failed, fault, limit}
use Rattle.gcl_core.specs.meaning.Checked.{IsChecked}
use Rattle.gcl_core.specs.declared.answers.Outcome.TheVariants as outcome
use Rattle.gcl_core.specs.meaning.Outcomes.{same_outcome}
use Rattle.gcl_core.specs.meaning.Syntax.{SourceProgram}
use Rattle.gcl_core.specs.weighing.Fractions.{Fraction, plus, AtMost, IsBelowOne}
use Rattle.gcl_core.specs.weighing.Mass.{is_failed, round_mass, failed_mass}
use Rattle.gcl_core.proofs.TreeWeights.{chi}
use Rattle.bounds_law.specs.Rows.{Rows}
use Rattle.units_law.specs.Down.{down}
use Rattle.units_law.specs.Flows.{UnitFlow, all_units}
use Rattle.units_law.specs.Rounds.{StandsBelow, round_units}
use Rattle.weighing_law.proofs.Shares.{product_pos}
use Rattle.units_law.specs.SomeRounds.{in_rounds}
use Rattle.units_law.specs.Enclosures.{fails_in, units_of, given, whole_units, least_units, most_units, lost_units, upper_of_others, AreEnclosures}
use Rattle.units_law.specs.Holding.{most_apart, AreClose}
use Rattle.units_law.proofs.Given.{given_joins}
use Rattle.units_law.proofs.KeptInRounds.{same_fails}
use Rattle.units_law.proofs.OneRound.{parted}
use Rattle.units_law.proofs.RoundsApart.{rounds_apart}
use Rattle.units_law.proofs.Units.{number, held_join}

-- ---- a unit passes
share_below_one : (N A F m0 m1 u f0 f1 : ℕ) → 0 < N → m1 * A ≡ m0 * N → f1 * F ≡ f0 * N → A + F ≤ N → 0 < m1 → 0 < f1 → 0 < u → u * m1 ≤ m0 * ALL → f0 < f1
share_below_one N A F m0 m1 u f0 f1 some a f le m f_some unit below = by (cases_lt f0 f1)
  where
    gives : 0 < m0
    gives = let x = product_pos u m1 unit m in pos m0 (omega arith)
      where
        pos : (k : ℕ) → 0 < k * ALL → 0 < k
        pos k h = omega arith

    gained : 0 < A
    gained = let x = product_pos m0 N gives some in pos A (omega arith)
      where
        pos : (k : ℕ) → 0 < m1 * k → 0 < k
        pos zero h = absurd (omega arith)
        pos (suc k) h = omega arith

    by : (f0 < f1) ⊎ (f1 ≤ f0) → f0 < f1
    by (inl h) = h
    by (inr h) =
        let x = mul-le-mul_right N h in
        let y : f1 * (F + 1) ≤ f1 * N = mul-le-mul_left f1 (omega (arith, gained)) in
        absurd (omega arith)

pub passes : (p : SourceProgram) (ok : IsChecked p) (n : ℕ) (r : Option ℕ) → StandsBelow (units_of p n r (λ x. true)) (round_mass p n r (λ x. true)) → 0 < units_of p n r (λ x. true) → IsBelowOne (failed_mass p n r)
passes p ok n r below some =
    let a = parted p ok n n (le_refl n) r (λ x. true) in
    share_below_one a.scale a.given a.failing (round_mass p n r (λ x. true)).0 (round_mass p n r (λ x. true)).1 (units_of p n r (λ x. true)) (failed_mass p n r).0 (failed_mass p n r).1
    a.positive a.given_share a.failing_share (let x = a.all in omega arith) a.given_fraction a.failing_fraction some below

-- ---- rounding out
near : (l o h A T w m : ℕ) → A ≡ l * w + m → m < w → T ≤ o * w → h * w < A + T + w → h ≤ l + o + 1
near l o h A T w m e f g k = by (cases_lt (l + o + 1) h)
  where
    by : (l + o + 1 < h) ⊎ (h ≤ l + o + 1) → h ≤ l + o + 1
    by (inl more) = let x : (l + o + 2) * w ≤ h * w = mul-le-mul_right w (omega (arith, more)) in absurd (omega arith)
    by (inr h) = h

rounded_out : (m a t e w : ℕ) → 0 < w → m ≤ a + t + e → e * ALL ≤ e * w → div_ceil (m * ALL) w ≤ a * ALL / w + div_ceil (t * ALL) w + (e + 1)
rounded_out m a t e w some h k =
    let o = div_ceil (t * ALL) w in
    let x = near (a * ALL / w) (o + e) (div_ceil (m * ALL) w) (a * ALL) (t * ALL + e * ALL) w (a * ALL % w) (let d = div-add-mod' (a * ALL) w in omega arith) (mod_below (a * ALL) w some)
    (let y = (div_ceil_times (t * ALL) w some).0 in omega arith) (let y = (div_ceil_times (m * ALL) w some).1 in let z = mul-le-mul_right ALL h in omega arith) in
    omega arith

-- over units
close : (S h l o k : ℕ) (p q t : Fraction) → IsEqual p (h, S) → IsEqual q (l, S) → IsEqual t (o, S) → h ≤ l + o + k → AtMost p (plus (plus q t) (k, S))
close S h l o k p q t e f g le =
    let x = mul-le-mul_left (p.1 * q.1 * t.1) le in
    let a = ap (λ z. q.1 * t.1 * z) e in
    let b = ap (λ z. p.1 * t.1 * z) f in
    let c = ap (λ z. p.1 * q.1 * z) g in
    omega arith

-- how many roundings there are beyond the division
abbrev further : Option ℕ → ℕ
further None = 0
further (Some R) = R

further_apart : (R : Option ℕ) → further R + 1 ≡ most_apart R
further_apart None = omega arith
further_apart (Some R) = refl

module _ (p : SourceProgram) (n : ℕ) (r : Option ℕ) (all_turns : Bool) (fails_most : fails_in p n r ≤ ALL) where
  sides_apart : (u v w f : ℕ) (b : Bool) → w ≤ u + v + f → (k : ℕ) → w + k ≤ u + cond b k 0 + (v + cond (not b) k 0) + f
  sides_apart u v w f true h k = omega arith
  sides_apart u v w f false h k = omega arith

  -- what all have at least, and what some and all others do
  least_apart : (R : Option ℕ) (meant : Outcome → Bool) →
      least_units p n r R all_turns (λ x. true) ≤ least_units p n r R all_turns meant + least_units p n r R all_turns (λ x. not (meant x)) + further R
  least_apart None meant = let e = given_joins p n r None all_turns meant in omega arith
  least_apart (Some R) meant =
      let f = fails_in p n r in
      let s = given p n r (Some R) all_turns meant in
      let t = given p n r (Some R) all_turns (λ x. not (meant x)) in
      let all = given p n r (Some R) all_turns (λ x. true) in
      let e = given_joins p n r (Some R) all_turns meant in
      let i : (in_rounds (f, all) R).1 ≤ (in_rounds (f, s) R).1 + (in_rounds (f, t) R).1 + R = subst (λ g. (in_rounds (f, g) R).1 ≤ (in_rounds (f, s) R).1 + (in_rounds (f, t) R).1 + R) e (rounds_apart f s t fails_most R) in
      let x = sides_apart (in_rounds (f, s) R).1 (in_rounds (f, t) R).1 (in_rounds (f, all) R).1 R (meant (outcome.Limit Rounds)) i (in_rounds (f, all) R).0 in
      subst (λ k. (in_rounds (f, all) R).1 + (in_rounds (f, all) R).0 ≤ (in_rounds (f, s) R).1 + cond (meant (outcome.Limit Rounds)) k 0 + least_units p n r (Some R) all_turns (λ x. not (meant x)) + R) (same_fails f all s R)
      (subst (λ k. (in_rounds (f, all) R).1 + (in_rounds (f, all) R).0 ≤ (in_rounds (f, s) R).1 + cond (meant (outcome.Limit Rounds)) (in_rounds (f, all) R).0 0 + ((in_rounds (f, t) R).1 + cond (not (meant (outcome.Limit Rounds))) k 0) + R) (same_fails f all t R) x)

  whole_units_of : (R : Option ℕ) → further R * ALL ≤ further R * whole_units p n r R all_turns
  whole_units_of None = omega arith
  whole_units_of (Some R) = omega arith

  pub rows_close : (R : Option ℕ) → 0 < whole_units p n r R all_turns → (rows : Rows) (other : Fraction) → AreEnclosures p n r R all_turns rows → other ≡ upper_of_others p n r R all_turns → AreClose (most_apart R) rows other
  rows_close R some rows other are is x low high c =
      let w = whole_units p n r R all_turns in
      let m = most_units p n r R all_turns (same_outcome x) in
      let a = least_units p n r R all_turns (same_outcome x) in
      let t = lost_units p n r R all_turns in
      let l = a * ALL / w in
      let o = div_ceil (t * ALL) w in
      let h = div_ceil (m * ALL) w in
      let i = least_apart R (same_outcome x) in
      close ALL h l o (most_apart R) high low other (subst (λ f. IsEqual f (h, ALL)) (sym (are.upper x low high c)) (lowest_equal h ALL)) (subst (λ f. IsEqual f (l, ALL)) (sym (are.lower x low high c)) (lowest_equal l ALL))
      (subst (λ f. IsEqual f (o, ALL)) (sym is) (lowest_equal o ALL)) (subst (λ k. h ≤ l + o + k) (further_apart R) (rounded_out m a t (further R) w some (omega (arith, i)) (whole_units_of R)))

-- ---- what is lost
module _ (p : SourceProgram) (n : ℕ) (r : Option ℕ) where
  abbrev flow : UnitFlow
  flow = round_units down p n r

  one_end : (e : End) → number p.result (λ x. true) (λ x. true) e + chi is_failed e ≡ 1
  one_end (on s) = refl
  one_end failed = refl
  one_end (fault f) = refl
  one_end (limit l) = refl

  -- what fails and what is given are all units
  pub all_given : given p n r None false (λ x. true) + fails_in p n r ≡ all_units flow
  all_given =
      let G = number p.result (λ x. true) (λ x. true) in
      let x = held_join (λ s. G (on s)) (λ s. chi is_failed (on s)) (λ s. 1) (λ s. one_end (on s)) flow.next in
      let y = held_join G (chi is_failed) (λ e. 1) one_end flow.ended in
      omega arith

  pub lost_is : lost_units p n r None false ≡ ALL - all_units flow
  lost_is = let e = all_given in omega arith
