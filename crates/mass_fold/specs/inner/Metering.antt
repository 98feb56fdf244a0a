-- What is counted of the bits of draws that are reached, at a scale.
use Rattle.std.specs.Prelude.{◌≡◌, ℕ, zero, suc, ◌+◌, ◌*◌, ◌≤◌, ◌<◌, pos, negsuc, List, Option, Some, None, Ok, Err}
use Rattle.gcl_core.specs.meaning.Value.{State, Value}
use Rattle.gcl_core.specs.meaning.Blocks.{by_value, by_bound}
use Rattle.gcl_core.specs.meaning.Draw.{uniform_ends}
use Rattle.gcl_core.specs.weighing.Fractions.{Fraction}
use Rattle.gcl_core.specs.weighing.WeightedEnds.{Weighted, class_weight}
use Rattle.gcl_core.specs.meaning.Syntax.{Expression, Statements}
use Rattle.table_flow.specs.Tables.{Table, Flow, ReachedDraws}
use Rattle.table_flow.specs.Scale.{whole, Whole, Within, amount}
use Rattle.mass_fold.specs.declared.ended.Ended.{Ended}
use Rattle.mass_fold.specs.declared.meter.Meter.{Meter}
use Rattle.mass_fold.specs.declared.meter.Meter.TheVariants.{Off, Bits, TooWide}
use Rattle.mass_fold.specs.Amounts.{held, AreHeld}
use Rattle.mass_fold.specs.inner.Amounts.{Entries}
use Rattle.mass_fold.specs.inner.Steps.{EachState}
use Rattle.mass_fold.specs.inner.Fold.{Stands, EndStands, Around, turns_flow}
use Rattle.numbers.specs.Fraction.{Overfills}
use Rattle.mass_fold.specs.Metering.{IsPriced, Priced, price}

-- ---- a meter

-- `many` / X bits more; they are too wide only where, for every bound C of the sum, 128 bits are too few for X * C
abbrev pub CountedOn : ℕ → ℕ → Fraction → Meter → Type 0
CountedOn X many f Off = ⊥
CountedOn X many f (Bits g) = Whole X f → Whole X g × (whole X g ≡ whole X f + many)
CountedOn X many f TooWide = Whole X f → (C : ℕ) → 1 ≤ C → whole X f + many ≤ X * C → Overfills (X * C)

abbrev pub Counted : ℕ → ℕ → Meter → Meter → Type 0
Counted X many Off m = m ≡ Off
Counted X many (Bits f) m = CountedOn X many f m
Counted X many TooWide m = m ≡ TooWide

-- what was counted
abbrev pub bits_of : Meter → Option Fraction
bits_of Off = None
bits_of (Bits f) = Some f
bits_of TooWide = None

-- ---- draws

-- those of the draw that a value bounds
abbrev pub bound_price : (State → Value) → Option ℕ → ℕ → State → ℕ
bound_price v r M s = by_value (v s) (λ f. 0) (λ z. by_bound z 0 (λ m. price r M (uniform_ends m)))

abbrev pub IsValuePriced : Option ℕ → ℕ → Value → Type 0
IsValuePriced r M (Ok (pos zero)) = Unit {0}
IsValuePriced r M (Ok (pos (suc m))) = IsPriced r M (suc m)
IsValuePriced r M (Ok (negsuc m)) = Unit {0}
IsValuePriced r M (Err f) = Unit {0}

abbrev pub IsBoundPriced : (State → Value) → Option ℕ → ℕ → State → Type 0
IsBoundPriced v r M s = IsValuePriced r M (v s)

-- ---- what counts

-- bits of so much weight
abbrev pub AddsBits : Fraction → Fraction → Meter → Meter → Type 0
AddsBits bits f m m' = (N M : ℕ) → 0 < N → 0 < M → Whole M bits → Whole N f → Counted (N * M) (whole N f * whole M bits) m m'

-- the bits of a draw with b numbers
abbrev pub IsPrice : ℕ → ℕ → Option ℕ → Fraction → Type 0
IsPrice undecided b r bits = (M : ℕ) → 0 < M → IsPriced r M b →
    Whole M bits × (whole M bits ≡ undecided * whole M (class_weight b r 1))

abbrev pub PriceBlames : ℕ → ℕ → Option ℕ → Type 0
PriceBlames undecided b r = (M C : ℕ) → 0 < M → 1 ≤ C → IsPriced r M b →
    undecided * whole M (class_weight b r 1) ≤ M * C → Overfills (M * C)

-- the draw of each entry, where Fact holds of its state at M
abbrev pub CountsAll : (ℕ → State → Type 0) → (ℕ → State → ℕ) → Entries → Meter → Meter → Type 0
CountsAll Fact p es m m' = (N M : ℕ) → 0 < N → 0 < M → AreHeld N es → EachState (Fact M) es →
    Counted (N * M) (held N (p M) es) m m'

-- the same draw of each entry, with b numbers
abbrev pub CountsDraws : Option ℕ → ℕ → List ℕ → Entries → Meter → Meter → Type 0
CountsDraws r b ends es m m' = CountsAll (λ M s. IsPriced r M b) (λ M s. price r M ends) es m m'

-- what the meter comes to by the rest of the entries, it comes to by all
abbrev pub CountsRest : (ℕ → State → Type 0) → (ℕ → State → ℕ) → Entries → Meter → Meter → Entries → Type 0
CountsRest Fact p es m now rest = (m' : Meter) → CountsAll Fact p rest now m' → CountsAll Fact p es m m'

-- ---- blocks and statements

abbrev pub Meters : Option ℕ → (Table → Flow) → (Table → ReachedDraws) → Entries → Ended → Meter → Meter → Type 0
Meters r flow draws es E m m' = (N M L : ℕ) (I : Table) (J : Weighted _) → 0 < N → 0 < M → Stands N es I → EndStands N E J →
    Within N L (flow I) → Priced r M (draws I) → Counted (N * M) (amount N (price r M) (draws I)) m m'

abbrev pub MetersOne : Option ℕ → (Table → Flow) → (Table → ReachedDraws) → Entries → Ended → Meter → Meter → Type 0
MetersOne r flow draws es E m m' = (N M L : ℕ) (I : Table) (J : Weighted _) → 0 < N → 0 < M → Stands N es I → EndStands N E J →
    Around N L I (flow I) → Priced r M (draws I) → Counted (N * M) (amount N (price r M) (draws I)) m m'

-- a loop of at most n turns
abbrev pub turns_draws : ℕ → Option ℕ → Expression → Statements → Table → ReachedDraws
turns_draws n r e a I = (turns_flow n r e a I).reached
