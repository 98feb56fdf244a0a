-- Fractions at a scale: each as a number of parts of a whole number.
use Rattle.std.specs.Prelude.{◌≡◌, ℕ, ◌+◌, ◌*◌, ◌/◌, ◌<◌, ◌≤◌, List, [], ◌∷◌, Option}
use Rattle.gcl_core.specs.weighing.Fractions.{Fraction}
use Rattle.gcl_core.specs.weighing.WeightedEnds.{Weighted}
use Rattle.gcl_core.specs.meaning.Syntax.{SourceProgram}
use Rattle.table_flow.specs.Tables.{Table, Flow, states, peak_of, tables_of}
use Rattle.table_flow.specs.Width.{round_width}

-- the fraction of N, where that is a whole number
abbrev pub whole : ℕ → Fraction → ℕ
whole N p = p.0 * N / p.1

pub record Whole (N : ℕ) (p : Fraction) : Type 0 where
  pub positive : 0 < p.1
  pub exact : p.1 * whole N p ≡ p.0 * N

-- each fraction is whole
abbrev pub AllWhole : ℕ → List Fraction → Type 0
AllWhole N [] = Unit {0}
AllWhole N (p ∷ ps) = Whole N p × AllWhole N ps

-- each weight is whole
abbrev pub Wholes : {A : Type 0} → ℕ → Weighted A → Type 0
Wholes N [] = Unit {0}
Wholes N (e ∷ m) = Whole N e.0 × Wholes N m

-- the sum of the weights at scale N, each times what G gives its member
abbrev pub amount : {A : Type 0} → ℕ → (A → ℕ) → Weighted A → ℕ
amount N G [] = 0
amount N G (e ∷ m) = whole N e.0 * G e.1 + amount N G m

abbrev pub weight : {A : Type 0} → ℕ → Weighted A → ℕ
weight N m = amount N (λ x. 1) m

-- each weight of the tables is whole, and in none there are more than L states
abbrev pub TablesWithin : ℕ → ℕ → List Table → Type 0
TablesWithin N L [] = Unit {0}
TablesWithin N L (I ∷ Is) = Wholes N I × (states I ≤ L) × TablesWithin N L Is

-- each fraction of a flow is whole at scale N, and in none of its tables there are more than L states
pub record Within (N L : ℕ) (f : Flow) : Type 0 where
  pub tables : TablesWithin N L f.tables
  pub ended : Wholes N f.ended
  pub draws : AllWhole N f.draws

-- the common denominator of a round is such a scale, and the peak such a number of states
pub record WholeAtWidth (p : SourceProgram) (n : ℕ) (r : Option ℕ) : Type 0 where
  pub positive : 0 < round_width p n r
  pub within : Within (round_width p n r) (peak_of p n r) (tables_of p n r)
