-- The classes of few ends are numbers of 32 bits.
use Rattle.std.proofs.Common.{◌≡◌, ℕ, ◌≤◌, ◌<◌, ◌^◌, Option, Some, None, List, length, arith}
use Rattle.std.specs.Prelude.{IfSome}
use Rattle.gcl_core.specs.declared.rules.TheConstants.{MOST_ARMS}
use Rattle.gcl_core.specs.meaning.Draw.{class_of}
use Rattle.gcl_core.proofs.Classes.{class_within}

pub small_class : (ends : List ℕ) (j : ℕ) (class : Option ℕ) → length ends ≤ MOST_ARMS → class ≡ class_of ends j → IfSome class (λ i. i < 2 ^ 32)
small_class ends j class few e = narrow class (class_within ends j class e)
  where
    narrow : (class : Option ℕ) → IfSome class (λ i. i < length ends) → IfSome class (λ i. i < 2 ^ 32)
    narrow None h = tt
    narrow (Some i) h = omega arith
