-- What is said of the masses of the forgetful program is said of the program's.
use Rattle.std.proofs.Common.{ℕ, ◌≤◌, Option, Some, None, sym, subst}
use Rattle.gcl_core.specs.meaning.Outcomes.{same_outcome}
use Rattle.gcl_core.specs.meaning.Syntax.{SourceProgram}
use Rattle.gcl_core.specs.weighing.Fractions.{Fraction, AtMost, IsBelowOne, IsOne}
use Rattle.bounds_law.specs.Rows.{Rows}
use Rattle.units_law.specs.Holding.{MayEnd, Enclose}
use Rattle.forgetting.specs.Forgetful.{forgetful_of}
use Rattle.forgetting.specs.SameMeaning.{SameMeaning}
use Rattle.enclose_fold.specs.declared.error.EncloseError.{EncloseError}
use Rattle.enclose_fold.specs.declared.error.EncloseError.TheVariants.{TooManyStates, AllFailed, TooUnlikely, OutOfMemory}
use Rattle.enclose_fold.specs.Refused.{EncloseRefused}
use Rattle.enclose_fold.specs.inner.AsWritten.{RefusedAsWritten}

module _ (p : SourceProgram) (same : SameMeaning p (forgetful_of p)) where
  pub ends_hold : (n : ℕ) (r R : Option ℕ) → MayEnd p n r R → MayEnd (forgetful_of p) n r R
  ends_hold n r None h = subst IsBelowOne (sym (same.failed n r)) h
  ends_hold n r (Some R) h = tt

  pub bounds_hold : (n : ℕ) (r R : Option ℕ) (rows : Rows) (other : Fraction) → Enclose (forgetful_of p) n r R rows other → Enclose p n r R rows other
  bounds_hold n r R rows other e = record {
    fraction = λ x. subst (λ (m : Fraction). 1 ≤ m.1) (same.masses n r R (same_outcome x)) (e.fraction x);
    from_below = λ x low high c. subst (AtMost low) (same.masses n r R (same_outcome x)) (e.from_below x low high c);
    from_above = λ x low high c. subst (λ m. AtMost m high) (same.masses n r R (same_outcome x)) (e.from_above x low high c);
    others = λ meant none. subst (λ m. AtMost m other) (same.masses n r R meant) (e.others meant none);
  }

  pub refused_holds : (e : EncloseError) (n : ℕ) (r R : Option ℕ) → RefusedAsWritten e (forgetful_of p) n r R → EncloseRefused e p n r R
  refused_holds TooManyStates n r R h = h
  refused_holds AllFailed n r R h = (h.0, subst IsOne (same.failed n r) h.1)
  refused_holds TooUnlikely n r R h = h
  refused_holds OutOfMemory n r R h = tt
