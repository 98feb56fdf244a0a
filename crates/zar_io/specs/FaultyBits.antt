-- What bits of a list with a plan of faults show: the bits that are left, the record, and the plan. This project's own rule.
use Rattle.std.specs.Prelude.{◌≡◌, ◌==◌, ℕ, Bool, false, not, List, Contains, drop}
use Rattle.zar_io.specs.declared.faulty_bits.FaultyBits.{FaultyBits}
use Rattle.zar_io.specs.declared.trace.Event.{Event}
use Rattle.zar_io.specs.Trace.{failures}

-- the bits that are left
abbrev pub bits_to_come : FaultyBits → List Bool
bits_to_come source = drop source.list.next source.list.bits.items

-- what was answered so far: the failures alone
abbrev pub bits_answered : FaultyBits → List Event
bits_answered source = source.trace.events

-- whether a call has answered that no bit is left
abbrev pub has_ended : FaultyBits → Bool
has_ended source = source.list.ended

-- whether a call has failed
abbrev pub has_failed : FaultyBits → Bool
has_failed source = not (failures (bits_answered source) == 0)

-- the numbers of the calls that fail
abbrev pub bits_fails : FaultyBits → List ℕ
bits_fails source = source.calls.fails.items

-- the number of the next call
abbrev pub bits_number : FaultyBits → ℕ
bits_number source = source.calls.number

-- the next call fails: its number is among those that fail, and no call before it has answered that no bit is left
abbrev pub IsToFail : FaultyBits → Type 0
IsToFail source = (has_ended source ≡ false) × Contains (bits_fails source) (bits_number source)
