-- What one pass over a table makes of it.
use Rattle.std.specs.Prelude.{◌≡◌, ℕ, ◌+◌, ◌*◌, ◌≤◌, ◌<◌, [], ◌∷◌, Option, slice_set, pos}
use Rattle.gcl_core.specs.meaning.Value.{State, Value}
use Rattle.gcl_core.specs.meaning.Blocks.{End}
use Rattle.gcl_core.specs.weighing.Fractions.{Fraction, times, power}
use Rattle.gcl_core.specs.weighing.WeightedEnds.{class_weight, no_class_weight}
use Rattle.numbers.specs.Fraction.{IsEqual, Overfills}
use Rattle.table_flow.specs.Tables.{Table, states}
use Rattle.table_flow.specs.Scale.{whole, Whole, Wholes, amount, weight}
use Rattle.table_flow.specs.Counts.{sum_below, part_at, rest_at, drawn, undrawn}
use Rattle.mass_fold.specs.declared.error.MassError.{MassError}
use Rattle.mass_fold.specs.declared.ended.Ended.{Ended}
use Rattle.mass_fold.specs.Amounts.{held, AreHeld}
use Rattle.mass_fold.specs.inner.Amounts.{Entries, Blames}
use Rattle.mass_fold.specs.inner.Ended.{rows_of}

-- what each entry of es adds to the table bs, by go, and to what has ended, by stop
pub record Done (N : ℕ) (go : (State → ℕ) → State → ℕ) (stop : (End → ℕ) → State → ℕ)
    (bs es : Entries) (E : Ended) (fs : Entries) (F : Ended) : Type 0 where
  pub kept : AreHeld N fs
  pub ended : Wholes N (rows_of F)
  pub going : (G : State → ℕ) → held N G fs ≡ held N G bs + held N (go G) es
  pub stopping : (G : End → ℕ) → amount N G (rows_of F) ≡ amount N G (rows_of E) + held N (stop G) es

abbrev pub StepsTo : ((State → ℕ) → State → ℕ) → ((End → ℕ) → State → ℕ) → Entries → Entries → Ended → Entries → Ended → Type 0
StepsTo go stop bs es E fs F = (N : ℕ) → 0 < N → AreHeld N bs → AreHeld N es → Wholes N (rows_of E) → Done N go stop bs es E fs F

abbrev pub StepBlames : ((State → ℕ) → State → ℕ) → ((End → ℕ) → State → ℕ) → Entries → Entries → Ended → MassError → Type 0
StepBlames go stop bs es E e = (N L : ℕ) (I : Table) → 0 < N → AreHeld N bs → AreHeld N es → Wholes N (rows_of E)
    → ((G : State → ℕ) → held N G bs + held N (go G) es ≤ amount N G I) → weight N I ≤ N → states I ≤ L
    → amount N (λ x. 1) (rows_of E) + held N (stop (λ x. 1)) es ≤ N → Blames e N L

-- the same with some entries left
pub record Doing (N : ℕ) (go : (State → ℕ) → State → ℕ) (stop : (End → ℕ) → State → ℕ)
    (bs es : Entries) (E : Ended) (fs : Entries) (F : Ended) (rest : Entries) : Type 0 where
  pub kept : AreHeld N fs
  pub ended : Wholes N (rows_of F)
  pub left : AreHeld N rest
  pub going : (G : State → ℕ) → held N G fs + held N (go G) rest ≡ held N G bs + held N (go G) es
  pub stopping : (G : End → ℕ) → amount N G (rows_of F) + held N (stop G) rest ≡ amount N G (rows_of E) + held N (stop G) es

abbrev pub StepsOn : ((State → ℕ) → State → ℕ) → ((End → ℕ) → State → ℕ)
    → Entries → Entries → Ended → Entries → Ended → Entries → Type 0
StepsOn go stop bs es E fs F rest = (N : ℕ) → 0 < N → AreHeld N bs → AreHeld N es → Wholes N (rows_of E)
    → Doing N go stop bs es E fs F rest

-- ---- draws

-- the weights times what p gives each state, whole, and counted
abbrev pub Shares : ℕ → (State → Fraction) → Entries → Type 0
Shares N p [] = Unit {0}
Shares N p (e ∷ es) = Whole N (times e.1 (p e.0)) × Shares N p es

abbrev pub shared : ℕ → (State → Fraction) → (State → ℕ) → Entries → ℕ
shared N p G [] = 0
shared N p G (e ∷ es) = whole N (times e.1 (p e.0)) * G e.0 + shared N p G es

-- a fact of each state of a table
abbrev pub EachState : (State → Type 0) → Entries → Type 0
EachState Fact [] = Unit {0}
EachState Fact (e ∷ es) = Fact e.0 × EachState Fact es

-- both weights of a state's draw are whole
abbrev pub BothWhole : ℕ → (State → Fraction) → (State → Fraction) → State → Type 0
BothWhole N p q s = Whole N (p s) × Whole N (q s)

-- what each entry's draw adds, by its weights p and q; with some entries left
pub record DrawsSoFar (N : ℕ) (p q : State → Fraction) (go : (State → ℕ) → State → ℕ) (stop : (End → ℕ) → State → ℕ)
    (es : Entries) (E : Ended) (fs : Entries) (F : Ended) (rest : Entries) : Type 0 where
  pub kept : AreHeld N fs
  pub ended : Wholes N (rows_of F)
  pub left : AreHeld N rest
  pub parts : Shares N p rest
  pub rests : Shares N q rest
  pub draws : EachState (BothWhole N p q) es → EachState (BothWhole N p q) rest
  pub going : (G : State → ℕ) → held N G fs + shared N p (go G) rest ≡ shared N p (go G) es
  pub stopping : (G : End → ℕ)
      → amount N G (rows_of F) + shared N q (stop G) rest ≡ amount N G (rows_of E) + shared N q (stop G) es

abbrev pub DrawsOn : (State → Fraction) → (State → Fraction) → ((State → ℕ) → State → ℕ) → ((End → ℕ) → State → ℕ)
    → Entries → Ended → Entries → Ended → Entries → Type 0
DrawsOn p q go stop es E fs F rest = (N : ℕ) → 0 < N → AreHeld N es → Wholes N (rows_of E) → Shares N p es → Shares N q es
    → DrawsSoFar N p q go stop es E fs F rest

abbrev pub DrawsTo : (State → Fraction) → (State → Fraction) → ((State → ℕ) → State → ℕ) → ((End → ℕ) → State → ℕ)
    → Entries → Ended → Entries → Ended → Type 0
DrawsTo p q go stop es E fs F = DrawsOn p q go stop es E fs F []

abbrev pub DrawBlames : (State → Fraction) → (State → Fraction) → ((State → ℕ) → State → ℕ) → ((End → ℕ) → State → ℕ)
    → Entries → Ended → MassError → Type 0
DrawBlames p q go stop es E e = (N L : ℕ) (I : Table) → 0 < N → AreHeld N es → Wholes N (rows_of E)
    → Shares N p es → Shares N q es → EachState (BothWhole N p q) es
    → ((G : State → ℕ) → shared N p (go G) es ≤ amount N G I) → weight N I ≤ N → states I ≤ L
    → amount N (λ x. 1) (rows_of E) + shared N q (stop (λ x. 1)) es ≤ N → Blames e N L

-- the weights of one number of a draw with b numbers, and of none
pub record IsParts (b : ℕ) (r : Option ℕ) (part rest : Fraction) : Type 0 where
  pub part_positive : 0 < part.1
  pub rest_positive : 0 < rest.1
  pub part_is : IsEqual part (class_weight b r 1)
  pub rest_is : IsEqual rest (no_class_weight b r)

abbrev pub PartsBlame : ℕ → Option ℕ → Type 0
PartsBlame b r = (N : ℕ) → 0 < N → Whole N (class_weight b r 1) → Whole N (no_class_weight b r) → Overfills N

-- what G counts of the states with x set to each number below m
abbrev pub at_numbers : ℕ → ℕ → State → (State → ℕ) → ℕ
at_numbers x m s G = sum_below m (λ i. G (slice_set s x (pos i)))

-- one weight h for each of these
abbrev pub SpreadGives : Entries → Entries → ℕ → ℕ → State → Fraction → Type 0
SpreadGives es fs x m s h = (N : ℕ) → 0 < N → AreHeld N es → 0 < h.0 → Whole N h
    → AreHeld N fs × ((G : State → ℕ) → held N G fs ≡ held N G es + whole N h * at_numbers x m s G)

abbrev pub SpreadBlames : MassError → Entries → ℕ → ℕ → State → Fraction → Type 0
SpreadBlames e es x m s h = (N L : ℕ) (I : Table) → 0 < N → AreHeld N es → 0 < h.0 → Whole N h
    → ((G : State → ℕ) → held N G es + whole N h * at_numbers x m s G ≤ amount N G I) → weight N I ≤ N → states I ≤ L
    → Blames e N L

-- a power of a fraction, of at most 1
pub record IsPower (p : Fraction) (n : ℕ) (f : Fraction) : Type 0 where
  pub positive : 0 < f.1
  pub at_most_one : f.0 ≤ f.1
  pub is : IsEqual f (power p n)

abbrev pub PowerBlames : Fraction → ℕ → Type 0
PowerBlames p n = (N : ℕ) → 0 < N → Whole N (power p n) → Overfills N

-- ---- the draw of one state, of weight f

-- the table fs' is fs, with what counts as g gives for f times u
abbrev pub AddedBy : Fraction → Entries → Entries → Fraction → ((State → ℕ) → ℕ) → Type 0
AddedBy u fs fs' f g = (N : ℕ) → 0 < N → AreHeld N fs → 0 < f.0 → Whole N f → Whole N (times f u)
    → AreHeld N fs' × ((G : State → ℕ) → held N G fs' ≡ held N G fs + whole N (times f u) * g G)

abbrev pub StoppedBy : Fraction → Ended → Ended → Fraction → ((End → ℕ) → ℕ) → Type 0
StoppedBy u F F' f g = (N : ℕ) → 0 < N → Wholes N (rows_of F) → 0 < f.0 → Whole N f → Whole N (times f u)
    → Wholes N (rows_of F') × ((G : End → ℕ) → amount N G (rows_of F') ≡ amount N G (rows_of F) + whole N (times f u) * g G)

abbrev pub BlamedBy : Fraction → Fraction → Entries → Ended → Fraction → ((State → ℕ) → ℕ) → ((End → ℕ) → ℕ) → MassError → Type 0
BlamedBy u v fs F f g k e = (N L : ℕ) (I : Table) → 0 < N → AreHeld N fs → Wholes N (rows_of F)
    → 0 < f.0 → Whole N f → Whole N u → Whole N v → Whole N (times f u) → Whole N (times f v)
    → ((G : State → ℕ) → held N G fs + whole N (times f u) * g G ≤ amount N G I) → weight N I ≤ N → states I ≤ L
    → amount N (λ x. 1) (rows_of F) + whole N (times f v) * k (λ x. 1) ≤ N → Blames e N L

-- a uniform draw of each state, with as many numbers as v gives it
abbrev pub UniformTo : ℕ → (State → Value) → Option ℕ → Entries → Ended → Entries → Ended → Type 0
UniformTo x v r = DrawsTo (part_at v r) (rest_at v r) (drawn x v) (undrawn v)

abbrev pub UniformBlames : ℕ → (State → Value) → Option ℕ → Entries → Ended → MassError → Type 0
UniformBlames x v r = DrawBlames (part_at v r) (rest_at v r) (drawn x v) (undrawn v)
