-- Bounds by pairs are answers where no unit passes, or where the others have less by them than by units.
use Rattle.std.proofs.Common.{◌≡◌, ℕ, ◌+◌, ◌-◌, ◌*◌, ◌≤◌, ◌<◌, Bool, Option, None, ap, ◌∙◌, arith}
use Rattle.std.specs.Prelude.{if◌then◌else◌}
use Rattle.std.proofs.Math.Nat.{mul-le-mul_left, mul-le-mul_right, le_of_mul-le-mul_right}
use Rattle.numbers.specs.declared.units.TheConstants.{ALL}
use Rattle.gcl_core.specs.declared.answers.Limit.TheVariants.{Turns}
use Rattle.gcl_core.specs.declared.answers.Outcome.TheVariants as outcome
use Rattle.gcl_core.specs.meaning.Outcomes.{same_outcome}
use Rattle.gcl_core.specs.meaning.Syntax.{SourceProgram}
use Rattle.gcl_core.specs.weighing.Fractions.{Fraction, zero_share, one, AtMost, IsBelowOne}
use Rattle.gcl_core.specs.weighing.Mass.{round_mass, failed_mass}
use Rattle.bounds_law.specs.Rows.{Rows}
use Rattle.units_law.specs.FewOthers.{lost_units_at_most, most_of_others, HaveLittle, NearlyFails}
use Rattle.enclose_fold.specs.inner.AsWritten.{AreAnswers, ArePaired}

through : (p q m : Fraction) → 0 < q.1 → AtMost p q → AtMost q m → AtMost p m
through p q m some h k = le_of_mul-le-mul_right {k = q.1} (let x = mul-le-mul_right m.1 h in let y = mul-le-mul_right p.1 k in omega arith) some

-- where f0 / f1 and c / S together are 1 at least
nothing_more : (S f0 f1 c t0 t1 o0 o1 : ℕ) → f0 < f1 → f1 * S ≤ f0 * S + c * f1 → o0 ≤ o1 →
    o0 * (t1 * S * (f1 - f0) * S) ≤ ((t0 * S + c * t1) * f1 * S + 1 * (t1 * S * (f1 - f0))) * o1
nothing_more S f0 f1 c t0 t1 o0 o1 below nearly most = by (f1 - f0) (omega (arith, below))
  where
    by : (d : ℕ) → f1 ≡ f0 + d → o0 * (t1 * S * d * S) ≤ ((t0 * S + c * t1) * f1 * S + 1 * (t1 * S * d)) * o1
    by d e =
        let x : f1 * S ≡ f0 * S + d * S = ap (λ k. k * S) e ∙ omega arith in
        let k : d * S ≤ c * f1 = omega (arith, x, nearly) in
        let a = mul-le-mul_left (o0 * (t1 * S)) k in
        let b = mul-le-mul_left (t1 * S * (c * f1)) most in
        omega (arith, a, b)

module _ (p : SourceProgram) (n : ℕ) (r : Option ℕ) (all_turns : Bool) where
  abbrev ran_out : Fraction
  ran_out = if all_turns then round_mass p n r (same_outcome (outcome.Limit Turns)) else zero_share

  little_where_none_passes : (other : Fraction) → NearlyFails p n r → IsBelowOne (failed_mass p n r) → AtMost other one → HaveLittle p n r None all_turns other
  little_where_none_passes other nearly below most m within =
      let f = failed_mass p n r in
      let c = lost_units_at_most p n r m in
      nothing_more ALL f.0 f.1 c ran_out.0 ran_out.1 other.0 other.1 below (let x = nearly m within in omega (arith, x)) (omega (arith, most))

  little_where_less : (other more : Fraction) → 0 < more.1 → AtMost other more → HaveLittle p n r None all_turns more → HaveLittle p n r None all_turns other
  little_where_less other more some less little m within = through other more (most_of_others p n r None all_turns (lost_units_at_most p n r m)) some less (little m within)

  module _ (rows : Rows) (other : Fraction) (paired : ArePaired p n r all_turns rows other) where
    paired_answers : HaveLittle p n r None all_turns other → AreAnswers p n r None all_turns rows other
    paired_answers little = record { ordered = paired.ordered; passes = paired.passes; enclose = λ n' is may. paired.enclose n' is; close = paired.close; few = little }

    pub answers_alone : NearlyFails p n r → AreAnswers p n r None all_turns rows other
    answers_alone nearly = paired_answers (little_where_none_passes other nearly paired.passes paired.most)

    pub answers_finer : (rows' : Rows) (more : Fraction) → AreAnswers p n r None all_turns rows' more → AtMost other more → AreAnswers p n r None all_turns rows other
    answers_finer rows' more units less = paired_answers (little_where_less other more (let z = units.ordered.others.positive in omega arith) less units.few)
