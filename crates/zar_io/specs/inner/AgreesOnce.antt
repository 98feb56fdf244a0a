-- That files agree with a record is so in at most one way, so a struct can hold it as a fact.
use Rattle.std.specs.Prelude.{◌≡◌, ℕ, List, [], ◌∷◌, length, take}
use mathlib.Core.HLevel.{×₃_prop}
use Rattle.std.specs.Coded.{Unit-prop, ×_prop, →_prop, Coded-set, coded_bool, coded_ℕ, coded_list, coded_option}
use Rattle.zar_io.specs.declared.trace.Event.{Event}
use Rattle.zar_io.specs.declared.trace.Event.TheVariants.{Opened, Missed, OpenFailed, Read, Wrote, Failed}
use Rattle.zar_io.specs.Trace.{World, Agrees, left_in}

same_once : (xs ys : List ℕ) → IsProp (xs ≡ ys)
same_once = Coded-set (coded_list coded_ℕ)

pub agrees_once : (file : World) (events : List Event) → IsProp (Agrees file events)
agrees_once file [] = Unit-prop
agrees_once file (Opened name ∷ before) = ×_prop (Coded-set coded_bool _ _) (agrees_once file before)
agrees_once file (Missed name ∷ before) = ×_prop (Coded-set (coded_option (coded_list coded_ℕ)) _ _) (agrees_once file before)
agrees_once file (OpenFailed name ∷ before) = agrees_once file before
agrees_once file (Read bytes ∷ before) =
    ×₃_prop (same_once (take (length bytes) (left_in file before)) bytes)
    (→_prop {A = bytes ≡ []} (same_once (left_in file before) [])) (agrees_once file before)
agrees_once file (Wrote bytes ∷ before) = agrees_once file before
agrees_once file (Failed ∷ before) = agrees_once file before
