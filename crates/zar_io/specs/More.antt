-- Whether more of a file can be read. This project's own rule.
use Rattle.std.specs.Prelude.{Bool, true, false, List, [], ◌∷◌}
use Rattle.zar_io.specs.declared.trace.Event.{Event}
use Rattle.zar_io.specs.declared.trace.Event.TheVariants.{Opened, Read, Wrote}

-- whether a file is open whose end no read has found
abbrev pub has_more : List Event → Bool
has_more [] = false
has_more (Opened name ∷ before) = true
has_more (Read [] ∷ before) = false
has_more (Read (byte ∷ bytes) ∷ before) = has_more before
has_more (Wrote bytes ∷ before) = has_more before
has_more (_ ∷ before) = false
