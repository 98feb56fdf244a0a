-- What a meter holds after a round.
use Rattle.std.proofs.Common.{◌≡◌, ℕ, ◌*◌, ◌<◌, Option, sym, subst, arith}
use Rattle.gcl_core.specs.weighing.Fractions.{Fraction}
use Rattle.gcl_core.specs.weighing.Mass.{is_failed, failed_mass}
use Rattle.gcl_core.specs.meaning.Bounds.{BlockIsWeighed}
use Rattle.gcl_core.specs.meaning.Syntax.{SourceProgram}
use Rattle.numbers.specs.Fraction.{IsEqual, lowest}
use Rattle.numbers.specs.Arithmetic.{InLowest}
use Rattle.table_flow.specs.Width.{round_width}
use Rattle.mass_fold.specs.declared.meter.Meter.{Meter}
use Rattle.mass_fold.specs.declared.meter.Meter.TheVariants.{Off, Bits, TooWide}
use Rattle.mass_fold.specs.Body.{RoundBits}
use Rattle.mass_fold.specs.inner.Body.{BodyMeters}
use Rattle.mass_fold.specs.inner.Ended.{IsNoWeight}
use Rattle.mass_fold.specs.inner.Metering.{bits_of}
use Rattle.mass_fold.proofs.Beginning.{no_weight}
use Rattle.mass_fold.proofs.OutcomeRows.{lowest_is}
use Rattle.mass_fold.proofs.RoundMasses.{round_positive}

module _ (p : SourceProgram) (n : ℕ) (r : Option ℕ) where
  read_of : (f : Fraction) (m : Meter) → IsNoWeight f → BodyMeters p n r (Bits f) m → RoundBits p n r (bits_of m)
  read_of f Off z d M Mp k = absurd (d M Mp k)
  read_of f (Bits g) z d M Mp k = let w = no_weight (round_width p n r * M) f z in let y = d M Mp k w.1 in (y.0, omega (arith, y.1, w.0))
  read_of f TooWide z d M Mp k = λ C one h. let w = no_weight (round_width p n r * M) f z in d M Mp k w.1 C one (omega (arith, w.0))

  pub bits_are : (f : Fraction) (m : Meter) (o : Option Fraction) → f.0 * 1 ≡ 0 * f.1 → 0 < f.1 → o ≡ bits_of m → BodyMeters p n r (Bits f) m → RoundBits p n r o
  bits_are f m o e pos q d = subst (RoundBits p n r) (sym q) (read_of f m (let z : f.0 ≡ 0 = omega arith in z, pos) d)

  pub failed_lowest : (f : Fraction) → BlockIsWeighed p.body → InLowest f → IsEqual f (failed_mass p n r) → f ≡ lowest (failed_mass p n r)
  failed_lowest f w l e = lowest_is f (failed_mass p n r) l (round_positive p n r w is_failed) e
