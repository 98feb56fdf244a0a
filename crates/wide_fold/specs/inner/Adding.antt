-- Tables with each state once, in wide fractions, once a weight was added.
use Rattle.std.specs.Prelude.{◌≡◌, ◌<◌, ◌++◌, List, MatchOption}
use Rattle.std.specs.declared.cmp.Ordering.{Ordering}
use Rattle.std.specs.BTreeMap.{insert_entry}
use Rattle.std.specs.List.Sorted.{IsStrictlySortedBy}
use Rattle.std.specs.Map.{keys_of}
use Rattle.gcl_core.specs.weighing.Fractions.{Fraction, plus, times}
use Rattle.gcl_core.specs.weighing.WeightedEnds.{scaled}
use Rattle.numbers.specs.Fraction.{lowest}
use Rattle.mass_fold.specs.declared.ended.Ended.{Ended}
use Rattle.mass_fold.specs.inner.Amounts.{Entries, found}
use Rattle.unlimited_law.specs.Alike.{Alike}
use Rattle.exact_fold.specs.inner.Settled.{as_table, AreAbove}

-- what a key weighs once f is added
abbrev pub SumsAt : {K : Type 0} → (K → K → Ordering) → List (K × Fraction) → K → Fraction → Fraction → Type 0
SumsAt order es k f v = MatchOption (found order k es) (v ≡ f) (λ g. v ≡ lowest (plus g f))

-- fs is es, whose keys are in order, once the weight f of a key was added
abbrev pub IsAdded : {K : Type 0} → (K → K → Ordering) → List (K × Fraction) → List (K × Fraction) → K → Fraction → Type 0
IsAdded order es fs k f = IsStrictlySortedBy order (keys_of es) × ((v : Fraction) × SumsAt order es k f v × (fs ≡ insert_entry order es k v))

-- ---- what comes of one state alone, by the weight of the state

-- a weight, and g times w
abbrev pub with_times : Fraction → Fraction → Fraction → Fraction
with_times w f g = lowest (plus f (lowest (times w (lowest g))))

pub record AddsTimes (w : Fraction) (G E F : Ended) : Type 0 where
  pub failed : F.failed ≡ with_times w E.failed G.failed
  pub overflow : F.overflow ≡ with_times w E.overflow G.overflow
  pub divisor : F.divisor ≡ with_times w E.divisor G.divisor
  pub bound : F.bound ≡ with_times w E.bound G.bound
  pub turns : F.turns ≡ with_times w E.turns G.turns
  pub attempts : F.attempts ≡ with_times w E.attempts G.attempts

-- fs is es and the table ts times w
abbrev pub AddsLed : Fraction → Entries → Entries → Entries → Type 0
AddsLed w ts es fs =
    AreAbove es → AreAbove ts → 0 < w.0 → 0 < w.1 → AreAbove fs × Alike (as_table fs) (scaled w (as_table ts) ++ as_table es)
