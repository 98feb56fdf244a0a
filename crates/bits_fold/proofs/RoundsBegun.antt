-- The expected number of rounds, from what fails.
use Rattle.std.proofs.Common.{◌≡◌, ◌-◌, ◌*◌, ◌≤◌, ◌<◌, Some, ap, arith}
use Rattle.numbers.specs.Fraction.{IsEqual}
use Rattle.gcl_core.specs.declared.answers.Limits.{Limits}
use Rattle.gcl_core.specs.meaning.Checked.{IsChecked}
use Rattle.gcl_core.specs.meaning.Syntax.{SourceProgram}
use Rattle.gcl_core.specs.weighing.Fractions.{Fraction, one, times, power_sum, IsBelowOne}
use Rattle.forgetting.specs.SameMeaning.{SameMeaning}
use Rattle.unlimited_law.specs.Settling.{Outflow}
use Rattle.unlimited_law.specs.SettledMasses.{ProgramSettles, settled_failed}
use Rattle.exact_fold.specs.Exact.{FailsWith}
use Rattle.bits_law.specs.InTheLimit.{ComesTo, rounds_in_the_limit}
use Rattle.bits_law.specs.Rounds.{expected_rounds}
use Rattle.bits_fold.proofs.Programs.{comes_as, some_pass, over_passes}

-- the law, as its call says it
abbrev pub Tends : Type 0
Tends = (p : SourceProgram) (f : Outflow) → IsChecked p → ProgramSettles p f → IsBelowOne (settled_failed p f) → ComesTo (expected_rounds p) (rounds_in_the_limit p f)

module _ (p : SourceProgram) (ok : IsChecked p) (failed : Fraction) (some : 1 ≤ failed.1) (f : FailsWith p failed) where
  pub rounds_read : Tends → failed.0 < failed.1 → (number : Fraction) → IsEqual number (failed.1, failed.1 - failed.0) → 1 ≤ number.1 → ComesTo (expected_rounds p) number
  rounds_read tends less number e n =
      let below = some_pass p ok f.settled f.settles failed some f.fraction f.fails less in
      let same : number.0 * (1 * number.1) ≡ 1 * number.0 * number.1 = omega arith in
      comes_as (expected_rounds p) (rounds_in_the_limit p f.settled) number (over_passes one number number failed (settled_failed p f.settled) (omega arith) (omega arith) less below f.fails e same) n (tends p f.settled ok f.settles below)

-- ---- a program of the same failed masses
pub same_rounds : (p q : SourceProgram) → SameMeaning p q → (l : Limits) → expected_rounds q l ≡ expected_rounds p l
same_rounds p q m l = ap (λ f. times one (power_sum f l.rounds)) (m.failed l.turns (Some l.attempts))
