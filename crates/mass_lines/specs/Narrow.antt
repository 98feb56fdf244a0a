-- Fractions that are said: their two numbers have 128 bits, as in the code. A wider fraction is refused.
use Rattle.std.specs.Prelude.{◌&&◌, IsTrue}
use Rattle.numbers.specs.Fraction.{Fraction, fits}

abbrev pub IsNarrow : Fraction → Type 0
IsNarrow f = IsTrue (fits f.0 && fits f.1)
