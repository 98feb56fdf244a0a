-- That known bytes grew by others is so in at most one way, so a struct can hold it as a fact.
use Rattle.std.specs.Prelude.{ℕ, List, Option, None, Some}
use Rattle.std.specs.Io.KnownBytes.{Appends}
use mathlib.Core.HLevel.{⊥_prop}
use Rattle.std.specs.Coded.{Unit-prop, Coded-set, coded_ℕ, coded_list}

pub appends_once : (before now : Option (List ℕ)) (bytes : List ℕ) → IsProp (Appends before now bytes)
appends_once None now bytes = Unit-prop
appends_once (Some old) None bytes = ⊥_prop
appends_once (Some old) (Some new) bytes = Coded-set (coded_list coded_ℕ) _ _
