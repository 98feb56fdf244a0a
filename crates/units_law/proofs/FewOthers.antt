-- How little outcomes without a row have together.
use Rattle.std.proofs.Common.{◌≡◌, ℕ, zero, suc, ◌+◌, ◌-◌, ◌*◌, ◌≤◌, ◌<◌, Bool, true, false, None, Some, Option, [], ◌∷◌, length, refl, subst, arith, le_refl}
use Rattle.std.specs.Prelude.{not, ◌&&◌}
use Rattle.std.specs.Int.{div_ceil}
use Rattle.std.proofs.lemmas.Grind.{div_ceil_times}
use Rattle.std.proofs.Math.Nat.{mul-le-mul_left, mul-le-mul_right, le_of_mul-le-mul_right}
use Rattle.std.proofs.Math.Path.{fun_ext}
use Rattle.numbers.specs.declared.units.TheConstants.{ALL}
use Rattle.numbers.proofs.Divisors.{lowest_equal}
use Rattle.gcl_core.specs.declared.answers.Limit.TheVariants.{Turns}
use Rattle.gcl_core.specs.declared.answers.Outcome.{Outcome}
use Rattle.gcl_core.specs.declared.answers.Outcome.TheVariants as outcome
use Rattle.gcl_core.specs.meaning.Checked.{IsChecked}
use Rattle.gcl_core.specs.meaning.Outcomes.{zeros, same_outcome}
use Rattle.gcl_core.specs.meaning.Syntax.{SourceProgram}
use Rattle.gcl_core.specs.weighing.Fractions.{Fraction, zero_share, plus, times, power_sum, IsBelowOne, AtMost}
use Rattle.gcl_core.specs.weighing.Mass.{round_mass, failed_mass}
use Rattle.gcl_core.proofs.Accepted.{checked_weights}
use Rattle.bounds_law.proofs.EqualFractions.{equal_below}
use Rattle.units_law.specs.Down.{down}
use Rattle.units_law.specs.Flows.{all_units}
use Rattle.units_law.specs.Rounding.{LosesFew}
use Rattle.units_law.specs.Roundings.{round_roundings}
use Rattle.units_law.specs.Rounds.{StandsBelow, round_units}
use Rattle.units_law.proofs.Downs.{rounds_down, loses_one, loses_six}
use Rattle.units_law.proofs.Spent.{block_loses}
use Rattle.weighing_law.proofs.Shares.{product_pos}
use Rattle.units_law.specs.Enclosures.{NothingPasses, fails_in, units_of, given, whole_units, lost_units, upper_of_others}
use Rattle.units_law.specs.FewOthers.{in_all_rounds, most_of_others, lost_each, lost_units_at_most, HaveLittle, NearlyFails}
use Rattle.units_law.specs.Holding.{MayEnd}
use Rattle.units_law.specs.SomeRounds.{in_rounds}
use Rattle.units_law.proofs.Given.{given_joins}
use Rattle.units_law.proofs.InARound.{units_below, fails_below}
use Rattle.units_law.proofs.OneRound.{parted}
use Rattle.units_law.proofs.Points.{round_few}
use Rattle.units_law.proofs.RoundsLose.{rounds_lose}
use Rattle.units_law.proofs.RowsHold.{some_whole}
use Rattle.units_law.proofs.SomeRoundsBelow.{rounds_below}
use Rattle.units_law.proofs.Widths.{all_given, lost_is}

-- o is t parts of w, rounded up to units S; w is at least d / f1 of S, and t at most c units and a / b of S
few : (S o t w fl f0 f1 d a b c u : ℕ) → 0 < S → w + fl ≡ S → f1 ≡ f0 + d → fl * f1 ≤ f0 * S → o * w ≤ t * S + w → t ≤ c + u → u * b ≤ a * S →
    o * (b * S * d * S) ≤ ((a * S + c * b) * f1 * S + 1 * (b * S * d)) * S
few S zero t w fl f0 f1 d a b c u some e g below up le ran = omega arith
few S (suc o) t w fl f0 f1 d a b c u some e g below up le ran =
    let left : d * S ≤ w * f1 = share e g below in
    let x : o * w ≤ t * S = omega arith in
    let y : o * (d * S) ≤ t * S * f1 = let i = mul-le-mul_left o left in let j = mul-le-mul_right f1 x in omega arith in
    let z : o * d ≤ t * f1 = le_of_mul-le-mul_right {k = S} (omega arith) some in
    let v : t * b ≤ c * b + a * S = let i = mul-le-mul_right b le in omega arith in
    let q : o * d * b ≤ (a * S + c * b) * f1 = let i = mul-le-mul_right b z in let j = mul-le-mul_right f1 v in omega arith in
    let r = mul-le-mul_right (S * S) q in
    omega arith
  where
    share : w + fl ≡ S → f1 ≡ f0 + d → fl * f1 ≤ f0 * S → d * S ≤ w * f1
    share e g below = let x : w * f1 + fl * f1 ≡ S * f1 = let i : (w + fl) * f1 ≡ S * f1 = subst (λ k. (w + fl) * f1 ≡ k * f1) e refl in omega arith in let y : S * f1 ≡ S * (f0 + d) = subst (λ k. S * f1 ≡ S * k) g refl in omega arith

and_true : (b : Bool) → (b && true) ≡ b
and_true true = refl
and_true false = refl

-- i units at most a fraction, and two more for each of R rounds, as multiples of a unit rounded up
few_in_rounds : (o t i R a b : ℕ) → o * ALL < t * ALL + ALL → t ≤ i + 2 * R → i * b ≤ a * ALL → o * (b * ALL) ≤ (a * ALL + 2 * R * b) * ALL
few_in_rounds o t i R a b up le below =
    let x : o ≤ i + 2 * R = omega (arith, up, le) in
    let y = mul-le-mul_right b x in
    omega (arith, y, below)

module _ (p : SourceProgram) (ok : IsChecked p) (n : ℕ) (r : Option ℕ) where
  abbrev runs_out : Outcome → Bool
  runs_out x = same_outcome (outcome.Limit Turns) x

  abbrev gives : Bool → ℕ
  gives all_turns = given p n r None all_turns (λ x. true)

  -- for all turns, those that ran out of turns are given nothing
  turns_join : units_of p n r runs_out + gives true ≡ gives false
  turns_join =
      let one : (λ (x : Outcome). runs_out x && true) ≡ runs_out = fun_ext (λ x. and_true (runs_out x)) in
      let rest : (λ (x : Outcome). not (runs_out x) && true) ≡ (λ x. not (runs_out x)) = fun_ext (λ x. and_true (not (runs_out x))) in
      let j : units_of p n r runs_out + units_of p n r (λ x. not (runs_out x) && true) ≡ gives false = subst (λ m. units_of p n r m + units_of p n r (λ x. not (runs_out x) && true) ≡ gives false) one (given_joins p n r None false runs_out) in
      subst (λ m. units_of p n r runs_out + units_of p n r m ≡ gives false) rest j

  -- what they have is lost
  lost_more : lost_units p n r None true ≤ lost_units p n r None false + units_of p n r runs_out
  lost_more = left (ALL - fails_in p n r) (gives false) (units_of p n r runs_out) (gives true) turns_join
    where
      left : (W g A B : ℕ) → A + B ≡ g → W - B ≤ W - g + A
      left W g A B e = omega arith

  module _ (k : ℕ) (loses : LosesFew k ALL r down) where
    pub lost_few : lost_units p n r None false ≤ k * round_roundings down p n r
    lost_few =
        let x = (block_loses down rounds_down k ALL r loses n p.body (checked_weights p ok) ((zeros (length p.names), ALL) ∷ []) (omega arith)).1 in
        let e = lost_is p n r in
        omega arith

    -- what fails, what is given and what is lost are all
    all_within : gives false + fails_in p n r ≤ ALL
    all_within =
        let x = (block_loses down rounds_down k ALL r loses n p.body (checked_weights p ok) ((zeros (length p.names), ALL) ∷ []) (omega arith)).0 in
        let e = all_given p n r in
        omega arith

    given_within : (all_turns : Bool) → gives all_turns + fails_in p n r ≤ ALL
    given_within false = all_within
    given_within true = let x = all_within in let e = turns_join in omega (arith, x, e)

    whole : (all_turns : Bool) → fails_in p n r + (gives all_turns + lost_units p n r None all_turns) ≡ ALL
    whole all_turns = let x = given_within all_turns in omega (arith, x)

    -- ---- where the roundings of a round lose c units at most
    module _ (c : ℕ) (many : k * round_roundings down p n r ≤ c) where
      abbrev f : Fraction
      f = failed_mass p n r

      abbrev fl : ℕ
      fl = fails_in p n r

      -- a / b is what ran out of turns, where that is lost
      abbrev lost : ℕ → ℕ → Fraction
      lost a b = plus (a, b) (c, ALL)

      without_limit : IsBelowOne f → (all_turns : Bool) (a b u : ℕ) → lost_units p n r None all_turns ≤ c + u → u * b ≤ a * ALL →
          (div_ceil (lost_units p n r None all_turns * ALL) (whole_units p n r None all_turns)) * (b * ALL * (f.1 - f.0) * ALL)
          ≤ ((a * ALL + c * b) * f.1 * ALL + 1 * (b * ALL * (f.1 - f.0))) * ALL
      without_limit passes all_turns a b u le ran =
          let w = whole_units p n r None all_turns in
          let t = lost_units p n r None all_turns in
          let below = fails_below p ok n r in
          let some = some_whole p n n r None all_turns below passes in
          let up = (div_ceil_times (t * ALL) w some).1 in
          few ALL (div_ceil (t * ALL) w) t w fl f.0 f.1 (f.1 - f.0) a b c u (omega arith) (omega (arith, some)) (omega (arith, passes)) below (omega (arith, up)) le ran

      in_some_rounds : (R : ℕ) (all_turns : Bool) (a b u : ℕ) → 0 < b → lost_units p n r None all_turns ≤ c + u → u * b ≤ a * ALL →
          AtMost (div_ceil (lost_units p n r (Some R) all_turns * ALL) ALL, ALL) (plus (times (lost a b) (power_sum f R)) (2 * R, ALL))
      in_some_rounds R all_turns a b u some le ran =
          let l = lost_units p n r None all_turns in
          let t = lost_units p n r (Some R) all_turns in
          let S = power_sum f R in
          let l_below : StandsBelow l (lost a b) = lose l a b c u le ran in
          let below = (rounds_below (lost a b) f (product_pos b ALL some (omega arith)) (parted p ok n n (le_refl n) r (λ x. true)).failing_fraction (fl, l) (fails_below p ok n r) l_below R).gives in
          let keep = rounds_lose fl (gives all_turns) l R (whole all_turns) in
          let up = (div_ceil_times (t * ALL) ALL (omega arith)).1 in
          few_in_rounds (div_ceil (t * ALL) ALL) t (in_rounds (fl, l) R).1 R ((lost a b).0 * S.0) ((lost a b).1 * S.1) (omega (arith, up))
          (left ALL (in_rounds (fl, gives all_turns) R).0 (in_rounds (fl, gives all_turns) R).1 (in_rounds (fl, l) R).1 R keep) below
        where
          lose : (l a b c u : ℕ) → l ≤ c + u → u * b ≤ a * ALL → l * (b * ALL) ≤ (a * ALL + c * b) * ALL
          lose l a b c u le ran = let x = mul-le-mul_right b le in omega (arith, x, ran)

          left : (A x y i R : ℕ) → A ≤ x + y + i + 2 * R → A - (y + x) ≤ i + 2 * R
          left A x y i R h = omega (arith, h)

      by_units : (R : Option ℕ) → MayEnd p n r R → (all_turns : Bool) (q : Fraction) (u : ℕ) → 0 < q.1 → lost_units p n r None all_turns ≤ c + u → u * q.1 ≤ q.0 * ALL →
          AtMost (upper_of_others p n r R all_turns) (in_all_rounds R (lost q.0 q.1) f)
      by_units None passes all_turns q u some le ran =
          let o = div_ceil (lost_units p n r None all_turns * ALL) (whole_units p n r None all_turns) in
          equal_below (upper_of_others p n r None all_turns) (o, ALL) (in_all_rounds None (lost q.0 q.1) f) (omega arith) (lowest_equal o ALL) (without_limit passes all_turns q.0 q.1 u le ran)
      by_units (Some R) passes all_turns q u some le ran =
          let o = div_ceil (lost_units p n r (Some R) all_turns * ALL) ALL in
          equal_below (upper_of_others p n r (Some R) all_turns) (o, ALL) (in_all_rounds (Some R) (lost q.0 q.1) f) (omega arith) (lowest_equal o ALL) (in_some_rounds R all_turns q.0 q.1 u some le ran)

      pub few_others : (R : Option ℕ) → MayEnd p n r R → (all_turns : Bool) → AtMost (upper_of_others p n r R all_turns) (most_of_others p n r R all_turns c)
      few_others R passes false = by_units R passes false zero_share 0 (omega arith) (let x = lost_few in omega (arith, x, many)) (omega arith)
      few_others R passes true =
          by_units R passes true (round_mass p n r runs_out) (units_of p n r runs_out) (parted p ok n n (le_refl n) r runs_out).given_fraction
          (let x = lost_few in let y = lost_more in omega (arith, x, y, many)) (units_below p ok n r runs_out)

-- ---- without a word of units
module _ (p : SourceProgram) (ok : IsChecked p) (n : ℕ) where
  loses : (r : Option ℕ) → LosesFew (lost_each r) ALL r down
  loses None = loses_one
  loses (Some r) = loses_six r

  pub have_little : (r R : Option ℕ) → MayEnd p n r R → (all_turns : Bool) → HaveLittle p n r R all_turns (upper_of_others p n r R all_turns)
  have_little r R passes all_turns m within =
      few_others p ok n r (lost_each r) (loses r) (lost_units_at_most p n r m)
      (mul-le-mul_left (lost_each r) (round_few down rounds_down p n r m (checked_weights p ok) ok.numbers.body within)) R passes all_turns

  -- where no unit passes, all that does not fail was lost by roundings
  pub nearly_fails : (r : Option ℕ) → NothingPasses p n r → NearlyFails p n r
  nearly_fails r none m within =
      let f = failed_mass p n r in
      let k = lost_each r in
      let x = (block_loses down rounds_down k ALL r (loses r) n p.body (checked_weights p ok) ((zeros (length p.names), ALL) ∷ []) (omega arith)).1 in
      let y = mul-le-mul_left k (round_few down rounds_down p n r m (checked_weights p ok) ok.numbers.body within) in
      by f.0 f.1 (fails_in p n r) (all_units (round_units down p n r)) (k * round_roundings down p n r) (lost_units_at_most p n r m) (given p n r None false (λ x. true)) (all_given p n r) none (omega arith) y (fails_below p ok n r)
    where
      by : (f0 f1 fl all lost c g : ℕ) → g + fl ≡ all → g ≡ 0 → ALL ≤ all + lost → lost ≤ c → fl * f1 ≤ f0 * ALL → 1 * (f1 * ALL) ≤ (f0 * ALL + c * f1) * 1
      by f0 f1 fl all lost c g e z h l below = let x : ALL ≤ fl + c = omega arith in let y = mul-le-mul_right f1 x in omega arith
