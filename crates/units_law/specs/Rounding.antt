-- Products rounded to whole units. This project's own rule.
use Rattle.std.specs.Prelude.{ℕ, ◌+◌, ◌*◌, ◌≤◌, ◌<◌, [], map, Option}
use Rattle.gcl_core.specs.meaning.Value.{State}
use Rattle.gcl_core.specs.meaning.Blocks.{End}
use Rattle.gcl_core.specs.weighing.Fractions.{one}
use Rattle.gcl_core.specs.weighing.WeightedEnds.{class_weight, no_class_weight}
use Rattle.table_flow.specs.Tables.{Kind}
use Rattle.units_law.specs.Units.{Units, counted_units}
use Rattle.units_law.specs.Merged.{merged}

-- of w units, in a draw among b numbers by at most r attempts, or by as many as it takes: what a class of c of them gets, and what
-- no attempt decides
pub record Rounding : Type 0 where
  pub share : ℕ → Option ℕ → (c w : ℕ) → ℕ
  pub rest : ℕ → Option ℕ → ℕ → ℕ

-- no part is more than its weight says
pub record RoundsDown (cut : Rounding) : Type 0 where
  pub shares : (b : ℕ) (r : Option ℕ) (c w : ℕ) → 0 < b → (class_weight b r c).1 * cut.share b r c w ≤ (class_weight b r c).0 * w
  pub rests : (b : ℕ) (r : Option ℕ) (w : ℕ) → 0 < b → (no_class_weight b r).1 * cut.rest b r w ≤ (no_class_weight b r).0 * w

-- by at most r attempts or by as many as it takes, no part of at most S units is more than k less than its weight says
pub record LosesFew (k S : ℕ) (r : Option ℕ) (cut : Rounding) : Type 0 where
  pub shares : (b c w : ℕ) → 0 < b → c ≤ b → w ≤ S → (class_weight b r c).0 * w ≤ (class_weight b r c).1 * (cut.share b r c w + k)
  pub rests : (b w : ℕ) → 0 < b → w ≤ S → (no_class_weight b r).0 * w ≤ (no_class_weight b r).1 * (cut.rest b r w + k)

-- ---- draws of a table

module _ (cut : Rounding) where
  -- a class of c of b numbers, and what no attempt decides
  abbrev pub class_units : ℕ → Option ℕ → ℕ → Units State → Units State
  class_units b r c J = map (λ e. (e.0, cut.share b r c e.1)) J

  abbrev pub rest_units : ℕ → Option ℕ → Units State → Units State
  rest_units b r J = map (λ e. (e.0, cut.rest b r e.1)) J

  -- merged before each statement and at the end
  abbrev pub units_kind : Kind (State × ℕ) (End × ℕ)
  units_kind = record {
    entries = counted_units;
    tidy = merged;
    at_loop = λ J. [];
    class = class_units;
    rest = rest_units;
    shown = λ b r J. [];
    reached = λ ends J. map (λ e. (one, ends)) J;
  }
