-- What a draw costs on average, at a scale.
use Rattle.std.specs.Prelude.{ℕ, ◌*◌, List, [], ◌∷◌, Option}
use Rattle.gcl_core.specs.meaning.Draw.{last_end}
use Rattle.gcl_core.specs.weighing.WeightedEnds.{class_weight, no_class_weight}
use Rattle.cost_law.specs.ExpectedBits.{attempt_bits}
use Rattle.table_flow.specs.Scale.{whole, Whole}
use Rattle.table_flow.specs.Tables.{ReachedDraws}

-- the weights of one number of a draw, and of none, are whole
pub record IsPriced (r : Option ℕ) (M b : ℕ) : Type 0 where
  pub one : Whole M (class_weight b r 1)
  pub none : Whole M (no_class_weight b r)

abbrev pub Priced : Option ℕ → ℕ → ReachedDraws → Type 0
Priced r M [] = Unit {0}
Priced r M (e ∷ m) = IsPriced r M (last_end e.1) × Priced r M m

-- the bits of a draw on average, in parts of M: the bits of an attempt, times what one number weighs
abbrev pub price : Option ℕ → ℕ → List ℕ → ℕ
price r M ends = (attempt_bits ends).0 * whole M (class_weight (last_end ends) r 1)
