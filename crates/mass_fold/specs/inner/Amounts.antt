-- Tables with each state once, and why work on them is refused, at a scale.
use Rattle.std.specs.Prelude.{◌≡◌, ℕ, ◌+◌, ◌*◌, ◌≤◌, ◌<◌, List, Option, Some, MatchOption}
use Rattle.std.specs.declared.cmp.Ordering.{Ordering}
use Rattle.std.specs.Ordering.{int_cmp}
use Rattle.std.specs.Cmp.Lexicographic.{slice_cmp}
use Rattle.std.specs.BTreeMap.{insert_entry, is_at}
use Rattle.std.specs.List.Sorted.{IsStrictlySortedBy}
use Rattle.std.specs.Map.{keys_of, lookup}
use Rattle.numbers.specs.Fraction.{Overfills}
use Rattle.numbers.specs.Arithmetic.{sum_of}
use Rattle.gcl_core.specs.meaning.Value.{State}
use Rattle.gcl_core.specs.weighing.Fractions.{Fraction}
use Rattle.table_flow.specs.Tables.{Table, states}
use Rattle.table_flow.specs.Scale.{whole, Whole, amount, weight}
use Rattle.mass_fold.specs.declared.error.MassError.{MassError}
use Rattle.mass_fold.specs.declared.error.MassError.TheVariants.{TooWide, TooManyStates, AllFailed, OutOfMemory}
use Rattle.mass_fold.specs.declared.table.TheConstants.{MOST_STATES}
use Rattle.mass_fold.specs.Amounts.{held, AreHeld}

abbrev pub Entries : Type 0
Entries = List (State × Fraction)

-- why work is refused whose fractions are whole at scale N, and whose tables have at most L states
abbrev pub Blames : MassError → ℕ → ℕ → Type 0
Blames TooWide N L = Overfills N
Blames TooManyStates N L = MOST_STATES < L
Blames AllFailed N L = ⊥
Blames OutOfMemory N L = Unit {0}

abbrev pub order : State → State → Ordering
order = slice_cmp int_cmp

-- the weight of a key, where it has one
abbrev pub found : {K : Type 0} → (K → K → Ordering) → K → List (K × Fraction) → Option Fraction
found order k es = lookup (is_at (order k)) es

-- what a key weighs once f is added
abbrev pub SumAt : {K : Type 0} → (K → K → Ordering) → List (K × Fraction) → K → Fraction → Fraction → Type 0
SumAt order es k f v = MatchOption (found order k es) (v ≡ f) (λ g. sum_of g f ≡ Some v)

-- fs is es, whose keys are in order, once the weight f of a state was added
abbrev pub IsPut : Entries → Entries → State → Fraction → Type 0
IsPut es fs s f = IsStrictlySortedBy order (keys_of es) × ((v : Fraction) × SumAt order es s f v × (fs ≡ insert_entry order es s v))

-- after the weight f of a key was added
abbrev pub PutGives : {K : Type 0} → List (K × Fraction) → List (K × Fraction) → K → Fraction → Type 0
PutGives {K = K} es fs k f = (N : ℕ) → 0 < N → AreHeld N es → 0 < f.0 → Whole N f
    → AreHeld N fs × ((G : K → ℕ) → held N G fs ≡ held N G es + whole N f * G k)

-- es with the weight f of s is a part of I
abbrev pub PartOf : ℕ → Entries → State → Fraction → Table → Type 0
PartOf N es s f I = (G : State → ℕ) → held N G es + whole N f * G s ≤ amount N G I

abbrev pub PutBlames : MassError → Entries → State → Fraction → Type 0
PutBlames e es s f = (N L : ℕ) (I : Table) → 0 < N → AreHeld N es → 0 < f.0 → Whole N f → PartOf N es s f I → weight N I ≤ N
    → states I ≤ L → Blames e N L
