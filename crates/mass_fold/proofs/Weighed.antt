-- Rows of masses under limits are those of which the weighing law speaks.
use Rattle.std.proofs.Common.{◌≡◌, ℕ, ◌*◌, ◌^◌, ◌≤◌, Bool, List, Some, inl, inr, zero, suc, refl, ap, sym, ◌∙◌, subst, arith}
use Rattle.std.proofs.lemmas.Bool.{cases_lt}
use native.Mathlib.Nat.{mul-div_cancel'}
use Rattle.std.proofs.Math.Nat.{le_of_mul-le-mul_left}
use Rattle.gcl_core.specs.declared.answers.Answer.{Answer}
use Rattle.gcl_core.specs.declared.answers.Limits.{Limits}
use Rattle.gcl_core.specs.weighing.Fractions.{Fraction, IsShare, IsWithinShare}
use Rattle.gcl_core.specs.weighing.Mass.{mass_of}
use Rattle.gcl_core.specs.weighing.StringWeight.{outcome_weight}
use Rattle.gcl_core.specs.meaning.Syntax.{SourceProgram}
use Rattle.numbers.specs.Divisor.{gcd}
use Rattle.numbers.specs.Fraction.{lowest}
use Rattle.numbers.proofs.Divisors.{gcd_is, gcd_pos, cancel}
use Rattle.weighing_law.specs.Weighing.{WeighsExactly, limited_mass}
use Rattle.mass_fold.specs.Rows.{Rows, AreMasses}
use Rattle.mass_fold.specs.Weighed.{AreWeighed}

-- ---- shares by a fraction in lowest terms

scaled : (g x y n d many all : ℕ) → g * x ≡ n → g * y ≡ d → (g * (y * many) ≡ d * many) × (g * (x * all) ≡ n * all)
scaled g x y n d many all p q = let a = ap (λ z. z * many) q in let b = ap (λ z. z * all) p in (omega arith, omega arith)

module _ (many all : ℕ) (p : Fraction) (pos : 1 ≤ p.1) where
  parts : (gcd p.0 p.1 * ((lowest p).1 * many) ≡ p.1 * many) × (gcd p.0 p.1 * ((lowest p).0 * all) ≡ p.0 * all)
  parts = scaled (gcd p.0 p.1) (lowest p).0 (lowest p).1 p.0 p.1 many all (mul-div_cancel' (gcd p.0 p.1) (gcd_is p.0 p.1).0) (mul-div_cancel' (gcd p.0 p.1) (gcd_is p.0 p.1).1)

  share_lowest : IsShare many all p → IsShare many all (lowest p)
  share_lowest e = cancel (gcd p.0 p.1) ((lowest p).1 * many) ((lowest p).0 * all) (gcd_pos p.0 p.1 pos) (parts.0 ∙ e ∙ sym parts.1)

  within_lowest : IsWithinShare many all p → IsWithinShare many all (lowest p)
  within_lowest le = le_of_mul-le-mul_left (subst (λ n. n ≤ gcd p.0 p.1 * ((lowest p).0 * all)) (sym parts.0) (subst (λ n. p.1 * many ≤ n) (sym parts.1) le)) (gcd_pos p.0 p.1 pos)

weightless : (n d many all : ℕ) → 1 ≤ d → n ≡ 0 → d * many ≤ n * all → many ≡ 0
weightless n d zero all pos none le = refl
weightless n zero (suc many) all pos none le = absurd (omega arith)
weightless n (suc d) (suc many) all pos none le = let e = ap (λ z. z * all) none in absurd (omega arith)

-- ---- the rows

module _ (p : SourceProgram) (l : Limits) (run : List Bool → Answer) (rows : Rows) (law : WeighsExactly run p l) (are : AreMasses (mass_of p l.turns (Some l.attempts) (Some l.rounds)) rows) where
  pub are_weighed : AreWeighed run rows
  are_weighed = record {
    within = λ x f in_rows L. subst (IsWithinShare (outcome_weight run x L) (2 ^ L)) (sym (are.each x f in_rows).1)
        (within_lowest (outcome_weight run x L) (2 ^ L) (limited_mass p l x) (law.fraction x) (law.within x L));
    exact = λ x f in_rows L enough. subst (IsShare (outcome_weight run x L) (2 ^ L)) (sym (are.each x f in_rows).1)
        (share_lowest (outcome_weight run x L) (2 ^ L) (limited_mass p l x) (law.fraction x) (law.exact x L enough));
    others = λ x none L. elim (cases_lt 0 (limited_mass p l x).0) [
      | inl above ↦ absurd (none (lowest (limited_mass p l x)) (are.all x above))
      | inr none_above ↦ weightless (limited_mass p l x).0 (limited_mass p l x).1 (outcome_weight run x L) (2 ^ L) (law.fraction x) (omega arith) (law.within x L)
    ];
  }
