-- What files and sinks answered, the newest first, and what is known after that. This project's own rule.
use Rattle.std.specs.Prelude.{◌≡◌, ℕ, ◌+◌, Bool, true, false, List, [], ◌∷◌, ◌++◌, length, take, drop, Option, None, is_some, unwrap_or, Result, Ok, Err, IsTrue}
use Rattle.zar_io.specs.declared.outside.OpenError.{OpenError}
use Rattle.zar_io.specs.declared.outside.OpenError.TheVariants as error
use Rattle.zar_io.specs.declared.trace.Event.{Event}
use Rattle.zar_io.specs.declared.trace.Event.TheVariants.{Opened, Missed, OpenFailed, Read, Wrote, Failed}

-- ---- the event that an answer is

abbrev pub opening : {A : Type 0} → Result A OpenError → List ℕ → Event
opening (Ok _) name = Opened name
opening (Err error.Missing) name = Missed name
opening (Err error.Failed) name = OpenFailed name

abbrev pub reading : {E : Type 0} → Result ℕ E → List ℕ → Event
reading (Ok n) buffer = Read (take n buffer)
reading (Err _) buffer = Failed

abbrev pub writing : {E : Type 0} → Result ℕ E → List ℕ → Event
writing (Ok n) piece = Wrote (take n piece)
writing (Err _) piece = Failed

-- ---- what is known after some events

-- how many calls failed
abbrev pub failures : List Event → ℕ
failures [] = 0
failures (OpenFailed name ∷ before) = failures before + 1
failures (Failed ∷ before) = failures before + 1
failures (_ ∷ before) = failures before

-- a call recorded a failure where it failed, and else none
abbrev pub Fails : {A E : Type 0} → Result A E → List Event → List Event → Type 0
Fails (Ok _) before now = failures now ≡ failures before
Fails (Err _) before now = failures now ≡ failures before + 1

-- whether a file is open
abbrev pub is_open : List Event → Bool
is_open [] = false
is_open (Opened name ∷ before) = true
is_open (Read bytes ∷ before) = is_open before
is_open (Wrote bytes ∷ before) = is_open before
is_open (_ ∷ before) = false

-- the bytes that writes took
abbrev pub written : List Event → List ℕ
written [] = []
written (Wrote bytes ∷ before) = written before ++ bytes
written (_ ∷ before) = written before

-- ---- files that may have answered so

-- the bytes of each name, or `None` where no file has the name
abbrev pub World : Type 0
World = List ℕ → Option (List ℕ)

-- the bytes that are left of the open file, over files with these bytes
abbrev pub left_in : World → List Event → List ℕ
left_in file [] = []
left_in file (Opened name ∷ before) = unwrap_or (file name) []
left_in file (Read bytes ∷ before) = drop (length bytes) (left_in file before)
left_in file (Wrote bytes ∷ before) = left_in file before
left_in file (_ ∷ before) = []

-- Files with these bytes may have answered so: an opened file is there, a missed one is not, and a read gave the next bytes, none
-- of them only at the end.
abbrev pub Agrees : World → List Event → Type 0
Agrees file [] = Unit {0}
Agrees file (Opened name ∷ before) = IsTrue (is_some (file name)) × Agrees file before
Agrees file (Missed name ∷ before) = (file name ≡ None) × Agrees file before
Agrees file (Read bytes ∷ before) =
    (take (length bytes) (left_in file before) ≡ bytes) × (bytes ≡ [] → left_in file before ≡ []) × Agrees file before
Agrees file (_ ∷ before) = Agrees file before
