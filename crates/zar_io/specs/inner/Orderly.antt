-- Records that some files can have answered.
use Rattle.std.specs.Prelude.{◌≡◌, false, List, [], ◌∷◌}
use Rattle.zar_io.specs.declared.trace.Event.{Event}
use Rattle.zar_io.specs.declared.trace.Event.TheVariants.{Read}
use Rattle.zar_io.specs.More.{has_more}

-- no read gave bytes of a file whose end was found, or of none
abbrev pub IsOrderly : List Event → Type 0
IsOrderly [] = Unit {0}
IsOrderly (Read bytes ∷ before) = (has_more before ≡ false → bytes ≡ []) × IsOrderly before
IsOrderly (_ ∷ before) = IsOrderly before
