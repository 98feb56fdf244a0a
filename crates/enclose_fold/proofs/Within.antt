-- No draw makes units.
use Rattle.std.proofs.Common.{◌≡◌, ℕ, ◌+◌, ◌*◌, ◌≤◌, ◌<◌, Option, Some, None, arith}
use Rattle.std.proofs.Math.Nat.{mul-le-mul_left}
use Rattle.numbers.specs.declared.units.TheConstants.{ALL}
use Rattle.gcl_core.specs.declared.answers.Limit.TheVariants.{Attempts}
use Rattle.gcl_core.specs.meaning.Blocks.{limit}
use Rattle.gcl_core.specs.meaning.Value.{State, Value}
use Rattle.table_flow.proofs.Draws.{each_part, no_part, all_parts, parts_add_up, all_parts_pos}
use Rattle.units_law.specs.Down.{down}
use Rattle.units_law.specs.Rounding.{LosesFew, class_units, rest_units}
use Rattle.units_law.specs.Units.{Units, total, end_units}
use Rattle.units_law.proofs.UnitWords.{drawn_units, undrawn_units}
use Rattle.units_law.proofs.Downs.{rounds_down, loses_one, loses_six}
use Rattle.units_law.proofs.Orders.{from_left}
use Rattle.units_law.proofs.Losses.{class_total, rest_total, drawn_total, end_total}

pub loses : (r : Option ℕ) → (k : ℕ) × LosesFew k ALL r down
loses None = (1, loses_one)
loses (Some r) = (6, loses_six r)

shared_within : (n D T R : ℕ) → 0 < D → n ≤ D → D * R ≤ n * T → R ≤ T
shared_within n D T R p l h = let x = mul-le-mul_left T l in from_left D R T p (omega arith)

module _ (r : Option ℕ) (J : Units State) (most : total J ≤ ALL) where
  pub drawn_within : (x : ℕ) (v : State → Value) → total (drawn_units down x v r J) + total (undrawn_units down x v r J) ≤ total J
  drawn_within x v = let l = loses r in (drawn_total down rounds_down l.0 ALL r l.1 x v J most).0

  module _ (b : ℕ) (some : 0 < b) where
    pub class_within : (count : ℕ) → count ≤ b → total (class_units down b r count J) ≤ total J
    class_within count h =
        let l = loses r in
        let x = (class_total down rounds_down l.0 ALL r l.1 b count some h J most).0 in
        shared_within (count * each_part b r) (all_parts b r) (total J) _ (all_parts_pos b r some) (part count b (each_part b r) (no_part b r) (all_parts b r) h (parts_add_up b r)) x
      where
        part : (c b e z D : ℕ) → c ≤ b → b * e + z ≡ D → c * e ≤ D
        part c b e z D l h = let x = mul-le-mul_left e l in omega arith

    pub rest_within : total (end_units (limit Attempts) (rest_units down b r J)) ≤ total J
    rest_within =
        let l = loses r in
        let x = (rest_total down rounds_down l.0 ALL r l.1 b some J most).0 in
        let e = end_total (limit Attempts) (rest_units down b r J) in
        let p = parts_add_up b r in
        let y = shared_within (no_part b r) (all_parts b r) (total J) (total (rest_units down b r J)) (all_parts_pos b r some) (omega arith) x in
        omega arith
