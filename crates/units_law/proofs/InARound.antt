-- The units of a round are below its masses.
use Rattle.std.proofs.Common.{◌≡◌, ℕ, ◌*◌, ◌≤◌, Bool, true, Option, subst, arith, le_refl}
use Rattle.std.proofs.Math.Nat.{mul-le-mul_left, mul-le-mul_right, le_of_mul-le-mul_right}
use Rattle.numbers.specs.declared.units.TheConstants.{ALL}
use Rattle.gcl_core.specs.declared.answers.Outcome.{Outcome}
use Rattle.gcl_core.specs.meaning.Checked.{IsChecked}
use Rattle.gcl_core.specs.meaning.Syntax.{SourceProgram}
use Rattle.gcl_core.specs.weighing.Fractions.{Fraction, IsOne}
use Rattle.gcl_core.specs.weighing.Mass.{ends_in, is_failed, round_mass, failed_mass}
use Rattle.gcl_core.proofs.Accepted.{checked_weights}
use Rattle.units_law.specs.Down.{down}
use Rattle.units_law.specs.Rounds.{StandsBelow}
use Rattle.units_law.proofs.Downs.{rounds_down}
use Rattle.units_law.proofs.Rounds.{ends_below}
use Rattle.units_law.specs.Enclosures.{fails_in, units_of}
use Rattle.units_law.proofs.OneRound.{parted}

pub units_below : (p : SourceProgram) → IsChecked p → (n : ℕ) (r : Option ℕ) (meant : Outcome → Bool) → StandsBelow (units_of p n r meant) (round_mass p n r meant)
units_below p ok n r meant = ends_below down rounds_down p n r (checked_weights p ok) (ends_in p.result meant)

pub fails_below : (p : SourceProgram) → IsChecked p → (n : ℕ) (r : Option ℕ) → StandsBelow (fails_in p n r) (failed_mass p n r)
fails_below p ok n r = ends_below down rounds_down p n r (checked_weights p ok) is_failed

-- what fails is no more than all
fails_within : (p : SourceProgram) → IsChecked p → (n : ℕ) (r : Option ℕ) → (failed_mass p n r).0 ≤ (failed_mass p n r).1
fails_within p ok n r =
    let a = parted p ok n n (le_refl n) r (λ x. true) in
    let f = failed_mass p n r in
    le_of_mul-le-mul_right {k = a.scale} (let x = a.failing_share in let y = mul-le-mul_left f.1 (let z = a.all in let w : a.failing ≤ a.scale = omega arith in w) in omega arith) a.positive

-- nor in units
pub fails_most : (p : SourceProgram) → IsChecked p → (n : ℕ) (r : Option ℕ) → fails_in p n r ≤ ALL
fails_most p ok n r =
    let a = parted p ok n n (le_refl n) r (λ x. true) in
    let f = failed_mass p n r in
    le_of_mul-le-mul_right {k = f.1} (let x = fails_below p ok n r in let y = mul-le-mul_right ALL (fails_within p ok n r) in omega arith) a.failing_fraction

-- where all units fail, so does the whole round
all_fails : (u : ℕ) (f : Fraction) → u ≡ ALL → u * f.1 ≤ f.0 * ALL → f.0 ≤ f.1 → f.0 ≡ f.1
all_fails u f all below within = let x : ALL * f.1 ≤ f.0 * ALL = subst (λ u. u * f.1 ≤ f.0 * ALL) all below in omega (arith, x, within)

pub all_fail : (p : SourceProgram) → IsChecked p → (n : ℕ) (r : Option ℕ) → fails_in p n r ≡ ALL → IsOne (failed_mass p n r)
all_fail p ok n r all = all_fails (fails_in p n r) (failed_mass p n r) all (fails_below p ok n r) (fails_within p ok n r)
