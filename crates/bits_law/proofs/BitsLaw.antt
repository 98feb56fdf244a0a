-- The law of bits, as that of a price.
use Rattle.std.proofs.Common.{◌≡◌, ◌<◌}
use Rattle.gcl_core.specs.declared.answers.Limits.{Limits}
use Rattle.gcl_core.specs.meaning.Checked.{IsChecked}
use Rattle.gcl_core.specs.meaning.Syntax.{SourceProgram}
use Rattle.gcl_core.specs.weighing.Fractions.{Fraction, zero_share, AtMost, IsBelowOne, IsOne}
use Rattle.cost_law.specs.ExpectedBits.{expected_bits}
use Rattle.table_flow.specs.Tables.{Table}
use Rattle.unlimited_law.specs.Settling.{Outflow}
use Rattle.unlimited_law.specs.SettledMasses.{ProgramSettles, settled_failed}
use Rattle.bits_law.specs.Price.{bits_price}
use Rattle.bits_law.specs.InTheLimit.{NoLess, AreExpected, AreUnbounded, RoundReads, bits_in_the_limit}
use Rattle.bits_law.specs.Forever.{ReadsForever}
use Rattle.bits_law.proofs.PriceLaw.{price_some, price_rises, forever_unbounded, price_comes, price_nothing, price_unbounded}

module _ (p : SourceProgram) (ok : IsChecked p) where
  pub expected_some : (l : Limits) → 0 < (expected_bits p l).1
  expected_some = price_some bits_price p ok

  pub expected_rise : (l m : Limits) → NoLess l m → AtMost (expected_bits p l) (expected_bits p m)
  expected_rise = price_rises bits_price p ok

  pub bits_forever : ReadsForever p → AreUnbounded p
  bits_forever o = forever_unbounded bits_price p ok o

  module _ (J : Table) (read : Fraction) (o : RoundReads p J read) (f : Outflow) (s : ProgramSettles p f) where
    pub are_expected : IsBelowOne (settled_failed p f) → AreExpected p (bits_in_the_limit p f read)
    are_expected h = price_comes bits_price p ok J read o f s h

    pub nothing_expected : IsOne (settled_failed p f) → read.0 ≡ 0 → AreExpected p zero_share
    nothing_expected h none = price_nothing bits_price p ok J read o f s h none

    pub some_unbounded : IsOne (settled_failed p f) → 0 < read.0 → AreUnbounded p
    some_unbounded h any = price_unbounded bits_price p ok J read o f s h any
