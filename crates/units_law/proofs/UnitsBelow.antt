-- What a block makes of a table of units is below what it makes of the table of fractions, and has no more states.
use Rattle.std.proofs.Common.{ℕ, ◌≤◌, ◌<◌, Bool, length, Option, refl, arith}
use Rattle.gcl_core.specs.meaning.Bounds.{StatementIsWeighed, BlockIsWeighed}
use Rattle.gcl_core.specs.meaning.Syntax.{Statement, Statements}
use Rattle.gcl_core.specs.meaning.Value.{State}
use Rattle.gcl_core.specs.weighing.WeightedEnds.{scaled, class_weight, no_class_weight}
use Rattle.numbers.specs.declared.units.TheConstants.{ALL}
use Rattle.table_flow.specs.Scale.{Wholes, Within}
use Rattle.table_flow.specs.Tables.{Table, only, statement_flow, block_flow, states}
use Rattle.units_law.specs.Below.{IsBelow, FlowIsBelow}
use Rattle.units_law.specs.Flows.{statement_units, block_units}
use Rattle.units_law.specs.Merged.{merged}
use Rattle.units_law.specs.Rounding.{Rounding, RoundsDown, class_units, units_kind}
use Rattle.units_law.specs.Units.{Units, only_units}
use Rattle.units_law.proofs.Blocks.{tidied, only_stands, class_stands, statement_stands, block_stands}
use Rattle.units_law.proofs.Counted.{StandsIn}
use Rattle.units_law.proofs.FewStates.{states_few}
use Rattle.units_law.proofs.Held.{held_cut}
use Rattle.units_law.proofs.Merging.{held_merged}
use Rattle.units_law.proofs.Orders.{NoMore, no_more}
use Rattle.units_law.proofs.Parts.{units_counted}

module _ (cut : Rounding) (c : RoundsDown cut) (r : Option ℕ) where
  cut_stands : StandsIn (units_kind cut) units_counted NoMore r
  cut_stands = record {
    tidy = λ G J. let e = held_merged J G in omega arith;
    class = λ b q p G J. held_cut NoMore no_more G (class_weight b r q) (cut.share b r q) (λ w. c.shares b r q w p) J;
    rest = λ b p G J. held_cut NoMore no_more G (no_class_weight b r) (cut.rest b r) (λ w. c.rests b r w p) J;
  }

module _ (cut : Rounding) (c : RoundsDown cut) (N L n : ℕ) (some : 0 < N) (r : Option ℕ) where
  abbrev rule : StandsIn (units_kind cut) units_counted NoMore r
  rule = cut_stands cut c r

  abbrev Few : Units State → Type 0
  Few J = length J ≤ L

  few : (J : Units State) (I : Table) → IsBelow N J I → states I ≤ L → Few (merged J)
  few = states_few N L some

  pub merged_below : (J : Units State) (I : Table) → IsBelow N J I → IsBelow N (merged J) I
  merged_below = tidied (units_kind cut) units_counted NoMore no_more n r rule N ALL N L

  pub only_below : (J : Units State) (I : Table) → IsBelow N J I → (test : State → Bool) → IsBelow N (only_units test J) (only test I)
  only_below = only_stands (units_kind cut) units_counted NoMore no_more n r rule N ALL N L

  -- a class of a draw
  pub class_below : (b q : ℕ) → 0 < b → (J : Units State) (I : Table) → Wholes N I → Wholes N (scaled (class_weight b r q) I) → IsBelow N J I →
      IsBelow N (class_units cut b r q J) (scaled (class_weight b r q) I)
  class_below = class_stands (units_kind cut) units_counted NoMore no_more n r rule N ALL N L

  pub statement_below : (st : Statement) → StatementIsWeighed st → (J : Units State) (I : Table) → Wholes N I → Wholes N (statement_flow n r st I).next → Within N L (statement_flow n r st I) → IsBelow N J I →
      FlowIsBelow N L (statement_units cut n r st J) (statement_flow n r st I)
  statement_below st p J I w y s h =
      let f = statement_stands (units_kind cut) units_counted NoMore no_more n r rule N ALL N L Few few (λ J. refl) st p J I w y s h in
      record { next = f.next; ended = f.ended; few = f.few }

  pub block_below : (b : Statements) → BlockIsWeighed b → (J : Units State) (I : Table) → Within N L (block_flow n r b I) → IsBelow N J I → FlowIsBelow N L (block_units cut n r b J) (block_flow n r b I)
  block_below b p J I s h =
      let f = block_stands (units_kind cut) units_counted NoMore no_more n r rule N ALL N L Few few (λ J. refl) b p J I s h in
      record { next = f.next; ended = f.ended; few = f.few }
