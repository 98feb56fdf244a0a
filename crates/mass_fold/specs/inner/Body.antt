-- What the fold of a program's body gives.
use Rattle.std.specs.Prelude.{◌≡◌, ℕ, ◌+◌, ◌*◌, ◌<◌, Bool, cond, length, Option}
use Rattle.gcl_core.specs.meaning.Syntax.{SourceProgram}
use Rattle.gcl_core.specs.meaning.Blocks.{End, on}
use Rattle.gcl_core.specs.meaning.Outcomes.{zeros}
use Rattle.gcl_core.specs.weighing.WeightedEnds.{weighted_ends}
use Rattle.gcl_core.specs.weighing.Mass.{sum_of, failed_mass}
use Rattle.numbers.specs.Fraction.{IsEqual}
use Rattle.table_flow.specs.Scale.{amount}
use Rattle.table_flow.specs.Tables.{tables_of}
use Rattle.table_flow.specs.Width.{round_width}
use Rattle.mass_fold.specs.declared.ended.Ended.{Ended}
use Rattle.mass_fold.specs.declared.meter.Meter.{Meter}
use Rattle.mass_fold.specs.Amounts.{held}
use Rattle.mass_fold.specs.inner.Amounts.{Entries}
use Rattle.mass_fold.specs.inner.Ended.{rows_of}
use Rattle.mass_fold.specs.inner.Fold.{Stands, EndStands}
use Rattle.mass_fold.specs.Metering.{Priced, price}
use Rattle.mass_fold.specs.inner.Metering.{Counted}

-- At the common denominator of a round, the table and what ended stand for those of the definition. For every set of ends of
-- the body, they hold together as much as the weighted ends of the body give it.
pub record BodyGives (p : SourceProgram) (n : ℕ) (r : Option ℕ) (es : Entries) (E : Ended) : Type 0 where
  pub stands : Stands (round_width p n r) es (tables_of p n r).next
  pub masses : (is : End → Bool)
      → (sum_of is (weighted_ends n r p.body (zeros (length p.names)))).1
      * (held (round_width p n r) (λ s. cond (is (on s)) 1 0) es + amount (round_width p n r) (λ x. cond (is x) 1 0) (rows_of E))
      ≡ (sum_of is (weighted_ends n r p.body (zeros (length p.names)))).0 * round_width p n r
  pub failed : IsEqual E.failed (failed_mass p n r)
  pub ends : EndStands (round_width p n r) E (tables_of p n r).ended
  pub total : held (round_width p n r) (λ s. 1) es + amount (round_width p n r) (λ x. 1) (rows_of E) ≡ round_width p n r

-- At the common denominator times a scale at which the parts of each draw that is reached are whole, the meter counts their bits.
abbrev pub BodyMeters : SourceProgram → ℕ → Option ℕ → Meter → Meter → Type 0
BodyMeters p n r m m' = (M : ℕ) → 0 < M → Priced r M (tables_of p n r).reached
    → Counted (round_width p n r * M) (amount (round_width p n r) (price r M) (tables_of p n r).reached) m m'
