-- Why there are no bounds where no unit of a round passes.
use Rattle.std.proofs.Common.{◌≡◌, ◌⊎◌, inl, inr, ℕ, ◌≤◌, ◌<◌, Option, None, sym, subst, arith}
use Rattle.std.proofs.lemmas.Bool.{cases_lt}
use Rattle.numbers.specs.declared.units.TheConstants.{ALL}
use Rattle.gcl_core.specs.meaning.Syntax.{SourceProgram}
use Rattle.gcl_core.specs.weighing.Fractions.{IsOne}
use Rattle.gcl_core.specs.weighing.Mass.{failed_mass}
use Rattle.units_law.specs.Enclosures.{fails_in, NothingPasses}
use Rattle.units_law.specs.FewOthers.{NearlyFails}
use Rattle.enclose_fold.specs.declared.error.EncloseError.{EncloseError}
use Rattle.enclose_fold.specs.declared.error.EncloseError.TheVariants.{AllFailed, TooUnlikely}
use Rattle.enclose_fold.specs.inner.NonePass.{NonePass}
use Rattle.enclose_fold.specs.inner.AsWritten.{RefusedAsWritten}

module _ (p : SourceProgram) (n : ℕ) (r : Option ℕ) where
  -- where so many units fail, of which all are told by one cause and fewer by the other
  module _ (failing : ℕ) (same : failing ≡ fails_in p n r) (most : failing ≤ ALL) (nothing : NothingPasses p n r) (e : EncloseError) (all : failing ≡ ALL → e ≡ AllFailed) (some : failing < ALL → e ≡ TooUnlikely) where
    pub units_told : NonePass e p n r
    units_told = by (cases_lt failing ALL)
      where
        by : (failing < ALL) ⊎ (ALL ≤ failing) → NonePass e p n r
        by (inl less) = subst (λ e. NonePass e p n r) (sym (some less)) (subst (λ f. f < ALL) same less, nothing)
        by (inr more) =
            let is : failing ≡ ALL = omega (arith, most, more) in
            subst (λ e. NonePass e p n r) (sym (all is)) (subst (λ f. f ≡ ALL) same is)

    pub cause_told : (fails_in p n r ≡ ALL → IsOne (failed_mass p n r)) → NearlyFails p n r → (R : Option ℕ) → R ≡ None → RefusedAsWritten e p n r R
    cause_told one nearly R none = by (cases_lt failing ALL)
      where
        by : (failing < ALL) ⊎ (ALL ≤ failing) → RefusedAsWritten e p n r R
        by (inl less) = subst (λ e. RefusedAsWritten e p n r R) (sym (some less)) (none, nearly)
        by (inr more) =
            let is : failing ≡ ALL = omega (arith, most, more) in
            subst (λ e. RefusedAsWritten e p n r R) (sym (all is)) (none, one (subst (λ f. f ≡ ALL) same is))
