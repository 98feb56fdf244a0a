-- What outcomes have at least stays below their mass, and what the others leave above it.
use Rattle.std.proofs.Common.{◌≡◌, ◌⊎◌, inl, inr, ℕ, ◌+◌, ◌-◌, ◌*◌, ◌≤◌, ◌<◌, Bool, true, false, cond, Option, Some, None, refl, ap, arith}
use Rattle.std.specs.Prelude.{not}
use Rattle.std.proofs.lemmas.Bool.{cases_lt}
use Rattle.std.proofs.Math.Nat.{mul-le-mul_left, mul-le-mul_right, le_of_mul-le-mul_right}
use Rattle.numbers.specs.declared.units.TheConstants.{ALL}
use Rattle.gcl_core.specs.declared.answers.Limit.TheVariants.{Rounds}
use Rattle.gcl_core.specs.declared.answers.Outcome.{Outcome}
use Rattle.gcl_core.specs.declared.answers.Outcome.TheVariants as outcome
use Rattle.gcl_core.specs.meaning.Syntax.{SourceProgram}
use Rattle.gcl_core.specs.weighing.Fractions.{Fraction, zero_share, plus, times, power, power_sum, divided_by_rest, AtMost}
use Rattle.gcl_core.specs.weighing.Mass.{round_mass, failed_mass, mass_of_those}
use Rattle.units_law.specs.Rounds.{StandsBelow}
use Rattle.weighing_law.proofs.Shares.{product_pos, power_pos, power_sum_pos, chosen_pos}
use Rattle.units_law.specs.SomeRounds.{in_rounds}
use Rattle.units_law.specs.Between.{whole_of, least_of, whole, least, most}
use Rattle.units_law.specs.Holding.{MayEnd}
use Rattle.units_law.proofs.AddingUp.{AddUp, left_over, rest_adds_up, given_adds_up}
use Rattle.units_law.proofs.OneRound.{Parted}
use Rattle.units_law.proofs.SomeRoundsBelow.{rounds_below, added_below}

-- what stands below a fraction stands below each that is no less
pub below_more : (u : ℕ) (p q : Fraction) → 0 < p.1 → StandsBelow u p → AtMost p q → StandsBelow u q
below_more u p q some h k =
    le_of_mul-le-mul_right {k = p.1} (let x = mul-le-mul_right q.1 h in let y = mul-le-mul_right ALL k in omega arith) some

-- less than all fail
pub some_left : (fl : ℕ) (f : Fraction) → StandsBelow fl f → f.0 < f.1 → fl < ALL
some_left fl f h lt = by (cases_lt fl ALL)
  where
    by : (fl < ALL) ⊎ (ALL ≤ fl) → fl < ALL
    by (inl less) = less
    by (inr none) =
        let x = mul-le-mul_right f.1 none in
        let y = mul-le-mul_right ALL (let z : f.0 + 1 ≤ f.1 = omega (arith, lt) in z) in
        absurd (omega arith)

-- over what does not fail
rest_below : (u fl : ℕ) (m f : Fraction) → StandsBelow u m → StandsBelow fl f → f.0 < f.1 → AtMost (u, ALL - fl) (divided_by_rest m f)
rest_below u fl m f h k lt =
    let left = some_left fl f k lt in
    by m.0 m.1 f.0 f.1 (f.1 - f.0) (ALL - fl) h k (omega arith) (omega arith)
  where
    by : (m0 m1 a b d w : ℕ) → u * m1 ≤ m0 * ALL → fl * b ≤ a * ALL → b ≡ a + d → ALL ≡ fl + w → u * (m1 * d) ≤ m0 * b * w
    by m0 m1 a b d w h k e g =
        let l : ALL * d ≤ w * b = let x = ap (λ t. ALL * t) e in let y = ap (λ t. t * b) g in omega arith in
        let x = mul-le-mul_right d h in
        let y = mul-le-mul_left m0 l in
        omega arith

chosen_below : (u w : ℕ) (p q : Fraction) (b : Bool) → StandsBelow u p → StandsBelow w q → StandsBelow (u + cond b w 0) (plus p (cond b q zero_share))
chosen_below u w p q true h k = added_below u w p q h k
chosen_below u w p q false h k = omega arith

module _ (p : SourceProgram) (n : ℕ) (r : Option ℕ) (failed : ℕ) (failed_below : StandsBelow failed (failed_mass p n r)) where
  least_below : (R : Option ℕ) (u : ℕ) (meant : Outcome → Bool) → 0 < (round_mass p n r meant).1 → 0 < (failed_mass p n r).1 → StandsBelow u (round_mass p n r meant) → MayEnd p n r R →
      AtMost (least_of R failed u meant, whole_of R failed) (mass_of_those p n r R meant)
  least_below None u meant some some' h passes = rest_below u failed (round_mass p n r meant) (failed_mass p n r) h failed_below passes
  least_below (Some R) u meant some some' h passes =
      let a = rounds_below (round_mass p n r meant) (failed_mass p n r) some some' (failed, u) failed_below h R in
      chosen_below (in_rounds (failed, u) R).1 (in_rounds (failed, u) R).0 (times (round_mass p n r meant) (power_sum (failed_mass p n r) R)) (power (failed_mass p n r) R) (meant (outcome.Limit Rounds)) a.gives a.fails

  mass_fraction : (R : Option ℕ) (meant : Outcome → Bool) → 0 < (round_mass p n r meant).1 → 0 < (failed_mass p n r).1 → MayEnd p n r R → 0 < (mass_of_those p n r R meant).1
  mass_fraction None meant some some' passes = product_pos (round_mass p n r meant).1 ((failed_mass p n r).1 - (failed_mass p n r).0) some (omega (arith, passes))
  mass_fraction (Some R) meant some some' passes =
      let m = round_mass p n r meant in
      let f = failed_mass p n r in
      product_pos (m.1 * (power_sum f R).1) (cond (meant (outcome.Limit Rounds)) (power f R) zero_share).1 (product_pos m.1 (power_sum f R).1 some (power_sum_pos f some' R))
      (chosen_pos (meant (outcome.Limit Rounds)) (power f R) zero_share (power_pos f some' R) (omega arith))

  masses_add_up : (R : Option ℕ) (meant : Outcome → Bool) → Parted p n r meant → MayEnd p n r R → AddUp (mass_of_those p n r R meant) (mass_of_those p n r R (λ x. not (meant x)))
  masses_add_up None meant a passes =
      rest_adds_up a.scale (a.given + a.others) a.failing a.given a.others a.positive refl a.all (round_mass p n r meant) (round_mass p n r (λ x. not (meant x))) (failed_mass p n r) a.given_share a.others_share a.failing_share (omega (arith, passes))
  masses_add_up (Some R) meant a passes =
      given_adds_up a.scale (a.given + a.others) a.failing a.given a.others a.positive refl a.all (round_mass p n r meant) (round_mass p n r (λ x. not (meant x))) (failed_mass p n r) a.given_share a.others_share a.failing_share R (meant (outcome.Limit Rounds))

  -- what is given to each set of outcomes is below what a round gives it
  module _ (given : (Outcome → Bool) → ℕ) (given_below : (meant : Outcome → Bool) → StandsBelow (given meant) (round_mass p n r meant)) (R : Option ℕ) (passes : MayEnd p n r R) (meant : Outcome → Bool) (a : Parted p n r meant) where
    pub between_below : AtMost (least R failed given meant, whole R failed given) (mass_of_those p n r R meant)
    between_below = least_below R (given meant) meant a.given_fraction a.failing_fraction (given_below meant) passes

    pub between_above : AtMost (mass_of_those p n r R meant) (most R failed given meant, whole R failed given)
    between_above =
        let others = λ (x : Outcome). not (meant x) in
        left_over (whole R failed given) (least R failed given others) (mass_of_those p n r R meant) (mass_of_those p n r R others) (mass_fraction R meant a.given_fraction a.failing_fraction passes)
        (mass_fraction R others a.others_fraction a.failing_fraction passes) (masses_add_up R meant a passes) (least_below R (given others) others a.others_fraction a.failing_fraction (given_below others) passes)

    pub between_fraction : 1 ≤ (mass_of_those p n r R meant).1
    between_fraction = let z = mass_fraction R meant a.given_fraction a.failing_fraction passes in omega arith
