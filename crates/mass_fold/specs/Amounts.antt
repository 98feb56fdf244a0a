-- What the weights of a list hold, as whole numbers at a scale.
use Rattle.std.specs.Prelude.{ℕ, ◌+◌, ◌*◌, ◌≤◌, ◌<◌, List, [], ◌∷◌}
use Rattle.gcl_core.specs.weighing.Fractions.{Fraction}
use Rattle.table_flow.specs.Scale.{whole, Whole}
use Rattle.mass_fold.specs.Rows.{Rows}

-- the sum of the weights at scale N, each times what G gives its key
abbrev pub held : {K : Type 0} → ℕ → (K → ℕ) → List (K × Fraction) → ℕ
held N G [] = 0
held N G (e ∷ es) = whole N e.1 * G e.0 + held N G es

-- each weight is whole at scale N, and above 0
abbrev pub AreHeld : {K : Type 0} → ℕ → List (K × Fraction) → Type 0
AreHeld N [] = Unit {0}
AreHeld N (e ∷ es) = (0 < e.1.0) × Whole N e.1 × AreHeld N es

-- the weights are whole numbers of parts, of which `scale` make one whole; `scale` is at most `most`, and together they are at
-- most one whole
pub record WholeWithin (most : ℕ) (rows : Rows) : Type 0 where
  pub scale : ℕ
  pub positive : 0 < scale
  pub within : scale ≤ most
  pub kept : AreHeld scale rows
  pub sum : held scale (λ x. 1) rows ≤ scale
