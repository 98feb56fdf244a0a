-- There are files that may have answered so, where no name stands twice and no read gave bytes where none could be left.
use Rattle.std.proofs.Common.{◌≡◌, ◌≢◌, ℕ, Bool, true, false, List, [], ◌∷◌, ◌++◌, suc, length, take, drop, Option, Some, None, refl, sym, ap, ◌∙◌}
use Rattle.std.specs.Prelude.{is_some, unwrap_or}
use Rattle.std.specs.Str.{bytes_eq}
use Rattle.std.proofs.lemmas.Slice.Eq.{bytes_eq-Decides}
use Rattle.std.proofs.Math.Seq.{take-append_seam, drop-append_seam}
use Rattle.zar_io.specs.declared.trace.Event.{Event}
use Rattle.zar_io.specs.declared.trace.Event.TheVariants.{Opened, Missed, OpenFailed, Read, Wrote, Failed}
use Rattle.zar_io.specs.Trace.{World, left_in, Agrees}
use Rattle.zar_io.specs.GoesOn.{AreApart, IsNew, sought}
use Rattle.zar_io.specs.More.{has_more}
use Rattle.zar_io.specs.inner.Orderly.{IsOrderly}

-- ---- the files with other bytes of one name

abbrev chosen : Bool → Option (List ℕ) → Option (List ℕ) → Option (List ℕ)
chosen true here there = here
chosen false here there = there

abbrev with_bytes : World → List ℕ → Option (List ℕ) → World
with_bytes file name bytes other = chosen (bytes_eq name other) bytes (file other)

chosen_here : (b : Bool) (here there : Option (List ℕ)) → b ≡ true → chosen b here there ≡ here
chosen_here true here there is = refl
chosen_here false here there is = absurd (cc)

chosen_there : (b : Bool) (here there : Option (List ℕ)) → (b ≡ true → ⊥) → chosen b here there ≡ there
chosen_there true here there is_not = absurd (is_not refl)
chosen_there false here there is_not = refl

with_here : (file : World) (name : List ℕ) (bytes : Option (List ℕ)) → with_bytes file name bytes name ≡ bytes
with_here file name bytes = chosen_here (bytes_eq name name) bytes (file name) ((bytes_eq-Decides name name).1 refl)

with_there : (file : World) (name other : List ℕ) (bytes : Option (List ℕ)) → name ≢ other → with_bytes file name bytes other ≡ file other
with_there file name other bytes apart = chosen_there (bytes_eq name other) bytes (file other) (λ same. apart ((bytes_eq-Decides name other).0 same))

-- ---- only the names that were sought matter

abbrev Same : World → World → List (List ℕ) → Type 0
Same file other [] = Unit {0}
Same file other (name ∷ names) = (other name ≡ file name) × Same file other names

same_but : (file : World) (name : List ℕ) (bytes : Option (List ℕ)) (names : List (List ℕ)) → IsNew name names → Same file (with_bytes file name bytes) names
same_but file name bytes [] apart = tt
same_but file name bytes (other ∷ names) apart = (with_there file name other bytes apart.0, same_but file name bytes names apart.1)

left_same : (file other : World) (events : List Event) → Same file other (sought events) → left_in other events ≡ left_in file events
left_same file other [] same = refl
left_same file other (Opened name ∷ before) same = ap (λ bytes. unwrap_or bytes []) same.0
left_same file other (Missed name ∷ before) same = refl
left_same file other (OpenFailed name ∷ before) same = refl
left_same file other (Read bytes ∷ before) same = ap (drop (length bytes)) (left_same file other before same)
left_same file other (Wrote bytes ∷ before) same = left_same file other before same
left_same file other (Failed ∷ before) same = refl

agrees_same : (file other : World) (events : List Event) → Same file other (sought events) → Agrees file events → Agrees other events
agrees_same file other [] same agrees = tt
agrees_same file other (Opened name ∷ before) same agrees = (ap is_some same.0 ∙ agrees.0, agrees_same file other before same.1 agrees.1)
agrees_same file other (Missed name ∷ before) same agrees = (same.0 ∙ agrees.0, agrees_same file other before same.1 agrees.1)
agrees_same file other (OpenFailed name ∷ before) same agrees = agrees_same file other before same.1 agrees
agrees_same file other (Read bytes ∷ before) same agrees =
    let left = left_same file other before same in
    (ap (take (length bytes)) left ∙ agrees.0, (λ none. left ∙ agrees.1 none), agrees_same file other before same agrees.2)
agrees_same file other (Wrote bytes ∷ before) same agrees = agrees_same file other before same agrees
agrees_same file other (Failed ∷ before) same agrees = agrees_same file other before same agrees

-- ---- files that agree, and have these bytes left where any may be

abbrev Leaving : List Event → List ℕ → Type 0
Leaving events left = (file : World) × Agrees file events × (left_in file events ≡ left)

or_none : (b : Bool) (byte : ℕ) (bytes left : List ℕ) → (b ≡ false → byte ∷ bytes ≡ []) → b ≡ false → (byte ∷ bytes) ++ left ≡ []
or_none b byte bytes left orderly over = absurd (let e = orderly over in cc)

leaving : (events : List Event) (left : List ℕ) → IsOrderly events → AreApart (sought events) → (has_more events ≡ false → left ≡ []) → Leaving events left
leaving [] left orderly apart ends = ((λ name. None), tt, sym (ends refl))
leaving (Opened name ∷ before) left orderly apart ends =
    let rest = leaving before [] orderly apart.1 (λ _. refl) in
    let file = with_bytes rest.0 name (Some left) in
    let here = with_here rest.0 name (Some left) in
    (file, (ap is_some here, agrees_same rest.0 file before (same_but rest.0 name (Some left) (sought before) apart.0) rest.1), ap (λ bytes. unwrap_or bytes []) here)
leaving (Missed name ∷ before) left orderly apart ends =
    let rest = leaving before [] orderly apart.1 (λ _. refl) in
    let file = with_bytes rest.0 name None in
    (file, (with_here rest.0 name None, agrees_same rest.0 file before (same_but rest.0 name None (sought before) apart.0) rest.1), sym (ends refl))
leaving (OpenFailed name ∷ before) left orderly apart ends =
    let rest = leaving before [] orderly apart.1 (λ _. refl) in (rest.0, rest.1, sym (ends refl))
leaving (Read [] ∷ before) left orderly apart ends =
    let rest = leaving before [] orderly.1 apart (λ _. refl) in (rest.0, (refl, (λ _. rest.2), rest.1), rest.2 ∙ sym (ends refl))
leaving (Read (byte ∷ bytes) ∷ before) left orderly apart ends =
    let read = byte ∷ bytes in
    let rest = leaving before (read ++ left) orderly.1 apart (or_none (has_more before) byte bytes left orderly.0) in
    (rest.0, (ap (take (length read)) rest.2 ∙ take-append_seam read left, (λ none. absurd (cc)), rest.1), ap (drop (length read)) rest.2 ∙ drop-append_seam read left)
leaving (Wrote bytes ∷ before) left orderly apart ends = leaving before left orderly apart ends
leaving (Failed ∷ before) left orderly apart ends =
    let rest = leaving before [] orderly apart (λ _. refl) in (rest.0, rest.1, sym (ends refl))

some_agree : (events : List Event) → IsOrderly events → AreApart (sought events) → (file : World) × Agrees file events
some_agree events orderly apart = let some = leaving events [] orderly apart (λ _. refl) in (some.0, some.1)

-- ---- a record that goes on

-- of files that agree nothing is left where nothing can be
over_left : (file : World) (events : List Event) → Agrees file events → has_more events ≡ false → left_in file events ≡ []
over_left file [] agrees over = refl
over_left file (Opened name ∷ before) agrees over = absurd (cc)
over_left file (Missed name ∷ before) agrees over = refl
over_left file (OpenFailed name ∷ before) agrees over = refl
over_left file (Read [] ∷ before) agrees over = agrees.1 refl
over_left file (Read (byte ∷ bytes) ∷ before) agrees over = ap (drop (suc (length bytes))) (over_left file before agrees.2 over)
over_left file (Wrote bytes ∷ before) agrees over = over_left file before agrees over
over_left file (Failed ∷ before) agrees over = refl

none_read : (bytes left : List ℕ) → left ≡ [] → take (length bytes) left ≡ bytes → bytes ≡ []
none_read [] left none is = refl
none_read (byte ∷ bytes) left none is = let wrong : [] ≡ byte ∷ bytes = ap (take (suc (length bytes))) (sym none) ∙ is in absurd (cc)

agreed_orderly : (file : World) (events : List Event) → Agrees file events → IsOrderly events
agreed_orderly file [] agrees = tt
agreed_orderly file (Opened name ∷ before) agrees = agreed_orderly file before agrees.1
agreed_orderly file (Missed name ∷ before) agrees = agreed_orderly file before agrees.1
agreed_orderly file (OpenFailed name ∷ before) agrees = agreed_orderly file before agrees
agreed_orderly file (Read bytes ∷ before) agrees =
    ((λ over. none_read bytes (left_in file before) (over_left file before agrees.2 over) agrees.0), agreed_orderly file before agrees.2)
agreed_orderly file (Wrote bytes ∷ before) agrees = agreed_orderly file before agrees
agreed_orderly file (Failed ∷ before) agrees = agreed_orderly file before agrees

-- where some agreed, some do
pub some_still : (before now : List Event) → (IsOrderly before → IsOrderly now) → (file : World) × Agrees file before → AreApart (sought now) → (file : World) × Agrees file now
some_still before now on some apart = some_agree now (on (agreed_orderly some.0 before some.1)) apart

-- the names behind others
pub behind_apart : (later names : List (List ℕ)) → AreApart (later ++ names) → AreApart names
behind_apart [] names apart = apart
behind_apart (name ∷ later) names apart = behind_apart later names apart.1
