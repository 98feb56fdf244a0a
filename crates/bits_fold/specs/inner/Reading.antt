-- What the code makes of a table with each state once, where something is counted on the way through a block.
use Rattle.std.specs.Prelude.{◌≤◌, None}
use Rattle.numbers.specs.Fraction.{IsEqual}
use Rattle.gcl_core.specs.meaning.Blocks.{by_value, by_bound}
use Rattle.gcl_core.specs.meaning.Draw.{uniform_ends}
use Rattle.gcl_core.specs.meaning.Syntax.{SourceProgram}
use Rattle.gcl_core.specs.meaning.Value.{Value}
use Rattle.gcl_core.specs.weighing.Fractions.{Fraction, zero_share}
use Rattle.table_flow.specs.Tables.{Table, ReachedDraws}
use Rattle.mass_fold.specs.inner.Amounts.{Entries}
use Rattle.unlimited_law.specs.Settling.{total}
use Rattle.exact_fold.specs.inner.Settled.{as_table, AreAbove}
use Rattle.bits_law.specs.Price.{Price, bits_price, price_of_draw, price_of_draws}
use Rattle.bits_law.specs.InTheLimit.{RoundCosts}

-- the uniform draw that a value bounds, or none
abbrev pub price_of_bound : Price → Value → Fraction
price_of_bound price v = by_value v (λ f. zero_share) (λ z. by_bound z zero_share (λ m. price_of_draw price None (uniform_ends m)))

-- the sum of the weights
abbrev pub WeighsTo : Entries → Fraction → Type 0
WeighsTo es f = AreAbove es → (1 ≤ f.1) × IsEqual f (total (as_table es))

-- what the draws of all states cost
abbrev pub DrawsCost : Price → (Table → ReachedDraws) → Entries → Fraction → Type 0
DrawsCost price draws es f = AreAbove es → (1 ≤ f.1) × IsEqual f (price_of_draws price (draws (as_table es)))

-- The table es leads to the table fs, at such a cost. Read is the relation of a statement or a block.
pub record ReadsTo (Read : Table → Table → Fraction → Type 0) (es fs : Entries) (bits : Fraction) : Type 0 where
  pub above : AreAbove fs
  pub reads : Read (as_table es) (as_table fs) bits

abbrev pub ReadsFrom : (Table → Table → Fraction → Type 0) → Entries → Entries → Fraction → Type 0
ReadsFrom Read es fs bits = AreAbove es → ReadsTo Read es fs bits

-- a round of a program costs so much
abbrev pub CostsInRound : Price → SourceProgram → Fraction → Type 0
CostsInRound price p cost = (J : Table) × RoundCosts price p J cost

-- and reads so many bits
abbrev pub ReadsInRound : SourceProgram → Fraction → Type 0
ReadsInRound = CostsInRound bits_price
