-- What blocks and programs come to in the limit of turns, and how near they are to it at n turns. This project's own rule.
use Rattle.std.specs.Prelude.{ℕ, ◌-◌, ◌≤◌, Bool, false, not, length, None}
use Rattle.gcl_core.specs.declared.answers.Limit.TheVariants.{Turns}
use Rattle.gcl_core.specs.declared.answers.Outcome.{Outcome}
use Rattle.gcl_core.specs.declared.answers.Outcome.TheVariants as outcome
use Rattle.gcl_core.specs.meaning.Blocks.{End, on, failed, fault, limit}
use Rattle.gcl_core.specs.meaning.Outcomes.{same_outcome, zeros}
use Rattle.gcl_core.specs.meaning.Syntax.{Statements, SourceProgram}
use Rattle.gcl_core.specs.weighing.Fractions.{Fraction, plus, times, divided_by_rest, AtMost}
use Rattle.gcl_core.specs.weighing.Mass.{sum_of, ends_in, is_failed, mass_of_those}
use Rattle.gcl_core.specs.weighing.WeightedEnds.{sure}
use Rattle.table_flow.specs.Tables.{Table}
use Rattle.unlimited_law.specs.Alike.{Alike}
use Rattle.unlimited_law.specs.Settling.{Outflow, BlockSettles}

-- the block takes the table, in the limit, to this
abbrev pub Settles : Statements → Table → Outflow → Type 0
Settles b I f = BlockSettles Alike Alike b I f

-- an event, but for what goes on
abbrev pub over : (End → Bool) → End → Bool
over event (on s) = false
over event failed = event failed
over event (fault f) = event (fault f)
over event (limit l) = event (limit l)

-- what the limit gives an event
abbrev pub settled_weight : (End → Bool) → Outflow → Fraction
settled_weight event f = plus (sum_of (λ s. event (on s)) f.next) (sum_of (over event) f.ended)

abbrev pub nth_part : ℕ → Fraction → Fraction
nth_part n cost = times (1, n) cost

-- a weight at n turns is at most what it is in the limit, and short of it by at most an n-th of a cost
pub record IsNear (n : ℕ) (cost weight settled : Fraction) : Type 0 where
  pub from_below : AtMost weight settled
  pub from_above : AtMost settled (plus weight (nth_part n cost))
  pub weight_fraction : 1 ≤ weight.1
  pub settled_fraction : 1 ≤ settled.1
  pub cost_fraction : 1 ≤ cost.1

-- ---- programs, whose bodies settle to f
module _ (p : SourceProgram) (f : Outflow) where
  abbrev pub ProgramSettles : Type 0
  ProgramSettles = Settles p.body (sure (zeros (length p.names))) f

  abbrev pub settled_failed : Fraction
  settled_failed = settled_weight is_failed f

  -- the limit of the mass of the outcomes that are meant, without limits of attempts and of rounds
  abbrev pub settled_mass : (Outcome → Bool) → Fraction
  settled_mass meant = divided_by_rest (settled_weight (ends_in p.result meant) f) settled_failed

  -- how far n turns may be from it
  abbrev pub gap : ℕ → Fraction
  gap n = divided_by_rest (nth_part n f.turns) settled_failed

  pub record MassTends (n : ℕ) (meant : Outcome → Bool) : Type 0 where
    pub from_below : AtMost (mass_of_those p n None None meant) (settled_mass meant)
    pub from_above : AtMost (settled_mass meant) (plus (mass_of_those p n None None meant) (gap n))
    pub mass_fraction : 1 ≤ (mass_of_those p n None None meant).1
    pub settled_fraction : 1 ≤ (settled_mass meant).1
    pub gap_fraction : 1 ≤ (gap n).1

  -- At each limit of turns the mass is at most what it tends to, and from some limit on it is short of that by at most 1 / k,
  -- whatever k.
  pub record MassConverges (meant : Outcome → Bool) : Type 0 where
    pub from_below : (n : ℕ) → 1 ≤ n → AtMost (mass_of_those p n None None meant) (settled_mass meant)
    pub from_above : (k : ℕ) → 1 ≤ k →
        (least : ℕ)
        × ((n : ℕ) → 1 ≤ n → least ≤ n → AtMost (settled_mass meant) (plus (mass_of_those p n None None meant) (1, k)))
    pub mass_fraction : (n : ℕ) → 1 ≤ n → 1 ≤ (mass_of_those p n None None meant).1
    pub settled_fraction : 1 ≤ (settled_mass meant).1

-- ---- what never ends
abbrev pub rest_of_one : Fraction → Fraction
rest_of_one q = (q.1 - q.0, q.1)

abbrev pub runs_out : Outcome → Bool
runs_out x = same_outcome (outcome.Limit Turns) x

-- A program runs for ever with the mass that no outcome has in the limit; at n turns the limit of turns has at least that mass,
-- and at most the gap more.
abbrev pub endless_mass : SourceProgram → Outflow → Fraction
endless_mass p f = rest_of_one (settled_mass p f (λ x. not (runs_out x)))

pub record EndlessTends (p : SourceProgram) (f : Outflow) (n : ℕ) : Type 0 where
  pub from_above : AtMost (endless_mass p f) (mass_of_those p n None None runs_out)
  pub from_below : AtMost (mass_of_those p n None None runs_out) (plus (endless_mass p f) (gap p f n))
  pub mass_fraction : 1 ≤ (mass_of_those p n None None runs_out).1
  pub endless_fraction : 1 ≤ (endless_mass p f).1
  pub gap_fraction : 1 ≤ (gap p f n).1
