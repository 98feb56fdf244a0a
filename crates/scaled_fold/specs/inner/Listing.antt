-- The rows of bounds over the outcomes of a round, each with its units at least and at most, and the bound of all that have no row.
use Rattle.std.specs.Prelude.{◌≡◌, ℕ, zero, suc, ◌+◌, ◌-◌, ◌*◌, ◌/◌, ◌≤◌, ◌<◌, Bool, true, cond, Option, Some, None, [], ◌∷◌, map, AllPairs}
use Rattle.std.specs.Int.{div_ceil}
use Rattle.numbers.specs.declared.units.TheConstants.{ALL}
use Rattle.numbers.specs.Fraction.{lowest}
use Rattle.gcl_core.specs.declared.answers.Outcome.{Outcome}
use Rattle.gcl_core.specs.meaning.Order.{is_before}
use Rattle.gcl_core.specs.weighing.Fractions.{Fraction}
use Rattle.bounds_law.specs.Rows.{Rows}
use Rattle.units_law.specs.Between.{rounded_down, rounded_up}
use Rattle.units_law.specs.Enclosures.{counts}
use Rattle.scaled_law.specs.Pairs.{Pair, Pairs, added}

-- For every greater limit of turns, what ran out of turns counts for no outcome, and stands aside.
abbrev pub counted_at : Bool → Outcome → Pair → Pair
counted_at all_turns x w = cond (counts all_turns x) w (0, 0)

abbrev pub aside_at : Bool → Outcome → Pair → ℕ
aside_at all_turns x w = cond (counts all_turns x) 0 w.1

abbrev pub counted : Bool → Pairs Outcome → Pairs Outcome
counted all_turns [] = []
counted all_turns (e ∷ K) = (e.0, counted_at all_turns e.0 e.1) ∷ counted all_turns K

abbrev pub set_aside : Bool → Pairs Outcome → ℕ
set_aside all_turns [] = 0
set_aside all_turns (e ∷ K) = aside_at all_turns e.0 e.1 + set_aside all_turns K

-- in ascending order
abbrev pub Ascending : Pairs Outcome → Type 0
Ascending K = AllPairs (λ x y. is_before x y ≡ true) (map (λ e. e.0) K)

-- ---- rows, where the units of an outcome tell its bounds

abbrev pub with_row : Outcome → Option (Fraction × Fraction) → Rows → Rows
with_row x None rows = rows
with_row x (Some bounds) rows = (x, bounds.0, bounds.1) ∷ rows

abbrev pub rows_by : (Pair → Option (Fraction × Fraction)) → Pairs Outcome → Rows
rows_by bounds [] = []
rows_by bounds (e ∷ K) = with_row e.0 (bounds e.1) (rows_by bounds K)

-- the units of the outcomes that have a row
abbrev pub kept_at : Option (Fraction × Fraction) → Pair → Pair
kept_at None w = (0, 0)
kept_at (Some bounds) w = w

abbrev pub kept_by : (Pair → Option (Fraction × Fraction)) → Pairs Outcome → Pair
kept_by bounds [] = (0, 0)
kept_by bounds (e ∷ K) = added (kept_at (bounds e.1) e.1) (kept_by bounds K)

-- ---- bounds, where all outcomes that count have so many units at least and at most, and so many belong to none

module _ (least most rest : ℕ) where
  -- of 2^120 parts of the whole, how many it has at least
  abbrev pub part_at : Pair → ℕ
  part_at w = w.0 * ALL / (w.0 + (most - w.1 + rest))

  abbrev pub lower_at : Pair → Fraction
  lower_at w = rounded_down w.0 (w.0 + (most - w.1 + rest))

  abbrev pub upper_at : Pair → Fraction
  upper_at w = rounded_up (w.1 + rest) (w.1 + rest + (least - w.0))

  -- The lower bound is so many parts less than what the units tell, and where it would then have none there is no row.
  abbrev pub bounds_from : ℕ → Pair → Option (Fraction × Fraction)
  bounds_from zero w = None
  bounds_from (suc k) w = Some (lowest (suc k, ALL), upper_at w)

  module _ (spare : ℕ) where
    abbrev pub bounds_at : Pair → Option (Fraction × Fraction)
    bounds_at w = bounds_from (part_at w - spare) w

    -- But where they are all, so many units are enough for all outcomes that have no row, where those that have one have so many, and for how far
    -- apart two bounds may be; beside them so many are to spare.
    pub record AreEnough (kept : Pair) (units : ℕ) : Type 0 where
      pub within : units ≤ ALL
      pub unlisted : units < ALL → div_ceil ((most - kept.1 + rest) * ALL) (most - kept.1 + rest + kept.0) + spare ≤ units
      pub apart : units < ALL → div_ceil ((most + rest + rest - least) * ALL) least + 1 + spare ≤ units
