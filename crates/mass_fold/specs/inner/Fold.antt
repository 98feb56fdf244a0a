-- What a fold makes of a table with each state once, beside what the definition makes of a table.
use Rattle.std.specs.Prelude.{◌≡◌, ℕ, ◌+◌, ◌-◌, ◌*◌, Option, ◌<◌, ◌≤◌, ◌++◌}
use Rattle.gcl_core.specs.meaning.Value.{State}
use Rattle.gcl_core.specs.declared.syntax.Weight.{Weight}
use Rattle.gcl_core.specs.declared.answers.Limit.TheVariants.{Attempts}
use Rattle.gcl_core.specs.meaning.Blocks.{End, limit}
use Rattle.gcl_core.specs.weighing.Fractions.{Fraction}
use Rattle.gcl_core.specs.weighing.WeightedEnds.{Weighted, scaled, class_weight, no_class_weight}
use Rattle.gcl_core.specs.meaning.Syntax.{Expression, While, Statements}
use Rattle.table_flow.specs.Tables.{Table, Flow, all_end, states, statement_flow}
use Rattle.table_flow.specs.Scale.{Whole, Wholes, Within, amount, weight}
use Rattle.mass_fold.specs.declared.error.MassError.{MassError}
use Rattle.mass_fold.specs.declared.ended.Ended.{Ended}
use Rattle.mass_fold.specs.Amounts.{held, AreHeld}
use Rattle.mass_fold.specs.inner.Amounts.{Entries, Blames}
use Rattle.mass_fold.specs.inner.Ended.{rows_of}

-- a table with each state once stands for a list of states, at a scale: both weigh the same, for every weighting of states
pub record Stands (N : ℕ) (es : Entries) (I : Table) : Type 0 where
  pub kept : AreHeld N es
  pub same : (G : State → ℕ) → held N G es ≡ amount N G I

pub record EndStands (N : ℕ) (E : Ended) (J : Weighted End) : Type 0 where
  pub kept : Wholes N (rows_of E)
  pub same : (G : End → ℕ) → amount N G (rows_of E) ≡ amount N G J

-- a block on a table, and why it is refused
abbrev pub FoldsTo : (Table → Flow) → Entries → Ended → Entries → Ended → Type 0
FoldsTo flow es E fs F = (N L : ℕ) (I : Table) (J : Weighted End) →
    0 < N → Stands N es I → EndStands N E J → Within N L (flow I) →
    Stands N fs (flow I).next × EndStands N F (J ++ (flow I).ended)

abbrev pub FoldBlames : (Table → Flow) → Entries → Ended → MassError → Type 0
FoldBlames flow es E e = (N L : ℕ) (I : Table) (J : Weighted End) →
    0 < N → Stands N es I → EndStands N E J → Within N L (flow I) → weight N I + weight N J ≤ N → Blames e N L

-- a statement on a table, where what stands before it and after it is whole, and of no more than L states
pub record Around (N L : ℕ) (I : Table) (f : Flow) : Type 0 where
  pub before : Wholes N I
  pub after : Wholes N f.next
  pub few_before : states I ≤ L
  pub few_after : states f.next ≤ L
  pub inside : Within N L f

abbrev pub FoldsOne : (Table → Flow) → Entries → Ended → Entries → Ended → Type 0
FoldsOne flow es E fs F = (N L : ℕ) (I : Table) (J : Weighted End) →
    0 < N → Stands N es I → EndStands N E J → Around N L I (flow I) →
    Stands N fs (flow I).next × EndStands N F (J ++ (flow I).ended)

abbrev pub OneBlames : (Table → Flow) → Entries → Ended → MassError → Type 0
OneBlames flow es E e = (N L : ℕ) (I : Table) (J : Weighted End) →
    0 < N → Stands N es I → EndStands N E J → Around N L I (flow I) → weight N I + weight N J ≤ N → Blames e N L

-- one side of a choice
abbrev pub Weighed : Fraction → Entries → Entries → Type 0
Weighed w es fs = (N : ℕ) (I : Table) → 0 < N → Wholes N I → Wholes N (scaled w I) → Stands N es I → Stands N fs (scaled w I)

abbrev pub WeighBlames : Fraction → Entries → MassError → Type 0
WeighBlames w es e = (N L : ℕ) (I : Table) → 0 < N → Whole N w → Wholes N I → Wholes N (scaled w I) → Stands N es I →
    weight N (scaled w I) ≤ N → states (scaled w I) ≤ L → Blames e N L

-- the same by `count` parts of a draw, where they are as much as u
abbrev pub WeighedBy : Fraction → ℕ → Entries → Entries → Type 0
WeighedBy part count es fs = (u : Fraction) → 0 < u.1 → part.0 * count * u.1 ≡ u.0 * part.1 → Weighed u es fs

abbrev pub WeighBlamesBy : Fraction → ℕ → Entries → MassError → Type 0
WeighBlamesBy part count es e = (u : Fraction) → 0 < u.1 → u.0 ≤ u.1 → part.0 * count * u.1 ≡ u.0 * part.1 → WeighBlames u es e

-- a loop with t turns left, begun on the table I where J had ended: what was collected and what is still to come are together
-- what the whole loop gives
pub record LoopAt (flow : ℕ → Table → Flow) (n t : ℕ) (now exits : Entries) (E : Ended) (N L : ℕ) (I : Table) (J : Weighted End)
    : Type 0 where
  pub table : Table
  pub out : Table
  pub gone : Weighted End
  pub stands : Stands N now table
  pub collected : Stands N exits out
  pub stopped : EndStands N E gone
  pub inside : Within N L (flow t table)
  pub going : (G : State → ℕ) → amount N G out + amount N G (flow t table).next ≡ amount N G (flow n I).next
  pub stopping : (G : End → ℕ) → amount N G gone + amount N G (flow t table).ended ≡ amount N G J + amount N G (flow n I).ended

abbrev pub LoopsOn : (ℕ → Table → Flow) → ℕ → ℕ → Entries → Ended → Entries → Entries → Ended → Type 0
LoopsOn flow n t es E now exits F = (N L : ℕ) (I : Table) (J : Weighted End) → 0 < N → Stands N es I → EndStands N E J →
    Within N L (flow n I) → LoopAt flow n t now exits F N L I J

-- ---- what no attempt of a draw with b numbers decides

abbrev pub UndecidedTo : ℕ → Option ℕ → Entries → Ended → Ended → Type 0
UndecidedTo b r es E F = (N : ℕ) (I : Table) (J : Weighted End) → 0 < N → Wholes N I → Wholes N (scaled (no_class_weight b r) I) →
    Stands N es I → EndStands N E J → EndStands N F (J ++ all_end (limit Attempts) (scaled (no_class_weight b r) I))

abbrev pub UndecidedBlames : ℕ → Option ℕ → Entries → Ended → MassError → Type 0
UndecidedBlames b r es E e = (N L : ℕ) (I : Table) (J : Weighted End) → 0 < N →
    Whole N (class_weight b r 1) → Whole N (no_class_weight b r) → Wholes N I → Wholes N (scaled (no_class_weight b r) I) →
    Stands N es I → EndStands N E J → weight N (scaled (no_class_weight b r) I) + weight N J ≤ N → Blames e N L

-- a fact of whatever had ended before
abbrev pub AfterUndecided : ℕ → Option ℕ → Entries → Ended → (Ended → Type 0) → Type 0
AfterUndecided b r es F Fact = (E : Ended) → UndecidedTo b r es E F → Fact E

-- ---- both sides of a choice, and what no attempt decides

pub record SidesWithin (N L : ℕ) (p : Weight) (r : Option ℕ) (I : Table) : Type 0 where
  pub before : Wholes N I
  pub first : Wholes N (scaled (class_weight p.den r p.num) I)
  pub second : Wholes N (scaled (class_weight p.den r (p.den - p.num)) I)
  pub third : Wholes N (scaled (no_class_weight p.den r) I)
  pub few_first : states (scaled (class_weight p.den r p.num) I) ≤ L
  pub few_second : states (scaled (class_weight p.den r (p.den - p.num)) I) ≤ L

pub record PartsWhole (N : ℕ) (p : Weight) (r : Option ℕ) : Type 0 where
  pub one : Whole N (class_weight p.den r 1)
  pub none : Whole N (no_class_weight p.den r)

abbrev pub SidesTo : Weight → Option ℕ → Entries → Ended → Entries → Entries → Ended → Type 0
SidesTo p r es E first second F = (N L : ℕ) (I : Table) (J : Weighted End) →
    0 < N → Stands N es I → EndStands N E J → SidesWithin N L p r I →
    Stands N first (scaled (class_weight p.den r p.num) I)
    × Stands N second (scaled (class_weight p.den r (p.den - p.num)) I)
    × EndStands N F (J ++ all_end (limit Attempts) (scaled (no_class_weight p.den r) I))

abbrev pub SidesBlame : Weight → Option ℕ → Entries → Ended → MassError → Type 0
SidesBlame p r es E e = (N L : ℕ) (I : Table) (J : Weighted End) → 0 < N → Stands N es I → EndStands N E J →
    PartsWhole N p r → SidesWithin N L p r I → weight N I + weight N J ≤ N → Blames e N L

-- ---- a loop of at most n turns

abbrev pub turns_flow : ℕ → Option ℕ → Expression → Statements → Table → Flow
turns_flow n r e a = statement_flow n r (While e a)
