-- What the arms of a choice among several have: their parts, and their blocks by place.
use Rattle.std.specs.Prelude.{ℕ, zero, suc, List, [], ◌∷◌, Option, Some, None}
use Rattle.gcl_core.specs.meaning.Syntax.{Statements, ArmList, no_arm, arm}

abbrev pub parts_of : ArmList → List ℕ
parts_of no_arm = []
parts_of (arm p b arms) = p ∷ parts_of arms

abbrev pub block_at : ArmList → ℕ → Option Statements
block_at no_arm i = None
block_at (arm p b arms) zero = Some b
block_at (arm p b arms) (suc i) = block_at arms i
