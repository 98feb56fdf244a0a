-- What holds where rounds have no limit, and that a round may end.
use Rattle.std.proofs.Common.{◌≡◌, ℕ, Option, Some, None, true, false, refl}
use Rattle.std.specs.Prelude.{IfNone}
use Rattle.std.specs.Option.{is_some}
use Rattle.gcl_core.specs.meaning.Syntax.{SourceProgram}
use Rattle.gcl_core.specs.weighing.Fractions.{IsBelowOne}
use Rattle.gcl_core.specs.weighing.Mass.{failed_mass}
use Rattle.units_law.specs.Holding.{MayEnd}

pub unlimited : (R : Option ℕ) → is_some R ≡ false → R ≡ None
unlimited None h = refl
unlimited (Some R) h = absurd (cc)

module _ (A : Type 0) where
  pub anyway : (R : Option ℕ) → A → IfNone R A
  anyway None h = h
  anyway (Some R) h = tt

  pub limited : (R : Option ℕ) → is_some R ≡ true → IfNone R A
  limited None h = absurd (cc)
  limited (Some R) h = tt

  pub implied : (B : Type 0) → (A → B) → (R : Option ℕ) → IfNone R A → IfNone R B
  implied B f None h = f h
  implied B f (Some R) h = tt

pub may_end : (p : SourceProgram) (n : ℕ) (r R : Option ℕ) → IfNone R (IsBelowOne (failed_mass p n r)) → MayEnd p n r R
may_end p n r None h = h
may_end p n r (Some R) h = tt
