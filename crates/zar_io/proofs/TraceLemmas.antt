-- What an answer that was just recorded tells, and how a record goes on.
use Rattle.std.proofs.Common.{◌≡◌, ◌<◌, ◌≤◌, ◌++◌, ℕ, zero, suc, true, List, [], ◌∷◌, length, take, drop, Option, Some, None, Result, Ok, Err, refl, subst, sym, ap, ◌∙◌, arith, append_assoc}
use Rattle.std.specs.Prelude.{IsTrue, is_some, unwrap_or}
use Rattle.std.proofs.lemmas.List.{take-append-drop}
use Rattle.std.proofs.Math.Seq.{take-append_seam, drop-append_seam}
use Rattle.zar_io.specs.declared.outside.OpenError.{OpenError}
use Rattle.zar_io.specs.declared.outside.OpenError.TheVariants as error
use Rattle.zar_io.specs.declared.trace.Event.{Event}
use Rattle.zar_io.specs.declared.trace.Event.TheVariants.{Opened, Missed, OpenFailed, Read, Wrote, Failed}
use Rattle.zar_io.specs.Trace.{World, left_in, Agrees, opening, is_open}
use Rattle.zar_io.specs.GoesOn.{GoesOn, AreApart, sought}
use Rattle.zar_io.specs.More.{has_more}
use Rattle.zar_io.specs.inner.Orderly.{IsOrderly}
use Rattle.zar_io.proofs.SomeFiles.{some_still, behind_apart}

-- ---- files that agree

-- files that agree with a record agreed with it before it grew
pub agrees_rest : (file : World) (more before : List Event) → Agrees file (more ++ before) → Agrees file before
agrees_rest file [] before agrees = agrees
agrees_rest file (Opened name ∷ more) before agrees = agrees_rest file more before agrees.1
agrees_rest file (Missed name ∷ more) before agrees = agrees_rest file more before agrees.1
agrees_rest file (OpenFailed name ∷ more) before agrees = agrees_rest file more before agrees
agrees_rest file (Read bytes ∷ more) before agrees = agrees_rest file more before agrees.2
agrees_rest file (Wrote bytes ∷ more) before agrees = agrees_rest file more before agrees
agrees_rest file (Failed ∷ more) before agrees = agrees_rest file more before agrees

pub agrees_before : (file : World) (names : List (List ℕ)) (before now : List Event) → GoesOn names before now → Agrees file now → Agrees file before
agrees_before file names before now on agrees = agrees_rest file on.more before (subst (Agrees file) on.grown agrees)

-- an opened file begins with its first byte
pub left_opened : (file : World) (name : List ℕ) (before now : List Event) → now ≡ Opened name ∷ before → Agrees file now
    → file name ≡ Some (left_in file now)
left_opened file name before now is agrees =
    there (file name) (subst (Agrees file) is agrees).0 ∙ ap (λ events. Some (left_in file events)) (sym is)
  where
    there : (bytes : Option (List ℕ)) → IsTrue (is_some bytes) → bytes ≡ Some (unwrap_or bytes [])
    there None never = absurd (cc)
    there (Some bytes) some = refl

-- a read gives the next bytes
pub left_read : (file : World) (bytes : List ℕ) (before now : List Event) → now ≡ Read bytes ∷ before → Agrees file now
    → left_in file before ≡ bytes ++ left_in file now
left_read file bytes before now is agrees =
    let front : take (length bytes) (left_in file before) ≡ bytes = (subst (Agrees file) is agrees).0 in
    sym (take-append-drop (length bytes) (left_in file before)) ∙ ap (λ xs. xs ++ drop (length bytes) (left_in file before)) front
    ∙ ap (λ events. bytes ++ left_in file events) (sym is)

-- and none only at the end
pub left_at_end : (file : World) (bytes : List ℕ) (before now : List Event) → now ≡ Read bytes ∷ before → Agrees file now → bytes ≡ [] → left_in file before ≡ []
left_at_end file bytes before now is agrees none = (subst (Agrees file) is agrees).1 none

-- files that agree go on to agree, where they answer by what they are
module _ (file : World) (before now : List Event) where
  pub agrees_opened : (name left : List ℕ) → now ≡ Opened name ∷ before → file name ≡ Some left → Agrees file before → Agrees file now
  agrees_opened name left is holds agrees = subst (Agrees file) (sym is) (ap is_some holds, agrees)

  pub left_once_opened : (name left : List ℕ) → now ≡ Opened name ∷ before → file name ≡ Some left → left_in file now ≡ left
  left_once_opened name left is holds = ap (left_in file) is ∙ ap (λ bytes. unwrap_or bytes []) holds

  pub agrees_read : (bytes rest : List ℕ) → now ≡ Read bytes ∷ before → left_in file before ≡ bytes ++ rest → (bytes ≡ [] → left_in file before ≡ []) → Agrees file before → Agrees file now
  agrees_read bytes rest is left ends agrees =
      subst (Agrees file) (sym is) (ap (take (length bytes)) left ∙ take-append_seam bytes rest, ends, agrees)

  pub left_once_read : (bytes rest : List ℕ) → now ≡ Read bytes ∷ before → left_in file before ≡ bytes ++ rest → left_in file now ≡ rest
  left_once_read bytes rest is left = ap (left_in file) is ∙ ap (drop (length bytes)) left ∙ drop-append_seam bytes rest

-- ---- an open file that has more

pub more_is_open : (events : List Event) → has_more events ≡ true → is_open events ≡ true
more_is_open [] more = absurd (cc)
more_is_open (Opened name ∷ before) more = refl
more_is_open (Missed name ∷ before) more = absurd (cc)
more_is_open (OpenFailed name ∷ before) more = absurd (cc)
more_is_open (Read [] ∷ before) more = absurd (cc)
more_is_open (Read (byte ∷ bytes) ∷ before) more = more_is_open before more
more_is_open (Wrote bytes ∷ before) more = more_is_open before more
more_is_open (Failed ∷ before) more = absurd (cc)

-- a read that gave some bytes
pub more_after : (n : ℕ) (buffer : List ℕ) (before now : List Event) → now ≡ Read (take n buffer) ∷ before → 0 < n → n ≤ length buffer
    → has_more before ≡ true → has_more now ≡ true
more_after zero buffer before now is some within more = absurd (omega arith)
more_after (suc n) [] before now is some within more = absurd (omega arith)
more_after (suc n) (byte ∷ buffer) before now is some within more = ap has_more is ∙ more

-- ---- how a record goes on

pub goes_on-none : (before now : List Event) → now ≡ before → GoesOn [] before now
goes_on-none before now is = record { more = []; grown = is; sought = ap sought is; some = some_still before now (λ orderly. subst IsOrderly (sym is) orderly) }

sought_opening : {A : Type 0} (result : Result A OpenError) (name : List ℕ) (before : List Event) → sought (opening result name ∷ before) ≡ name ∷ sought before
sought_opening (Ok _) name before = refl
sought_opening (Err error.Missing) name before = refl
sought_opening (Err error.Failed) name before = refl

orderly_opening : {A : Type 0} (result : Result A OpenError) (name : List ℕ) (before : List Event) → IsOrderly before → IsOrderly (opening result name ∷ before)
orderly_opening (Ok _) name before orderly = orderly
orderly_opening (Err error.Missing) name before orderly = orderly
orderly_opening (Err error.Failed) name before orderly = orderly

pub goes_on-open : {A : Type 0} (result : Result A OpenError) (name : List ℕ) (before now : List Event) → now ≡ opening result name ∷ before → GoesOn (name ∷ []) before now
goes_on-open result name before now is = record {
  more = opening result name ∷ [];
  grown = is;
  sought = ap sought is ∙ sought_opening result name before;
  some = some_still before now (λ orderly. subst IsOrderly (sym is) (orderly_opening result name before orderly));
}

pub goes_on-read : (bytes : List ℕ) (before now : List Event) → now ≡ Read bytes ∷ before → has_more before ≡ true → GoesOn [] before now
goes_on-read bytes before now is more = record {
  more = Read bytes ∷ [];
  grown = is;
  sought = ap sought is;
  some = some_still before now (λ orderly. subst IsOrderly (sym is) ((λ over. absurd (cc)), orderly));
}

pub goes_on-failed : (before now : List Event) → now ≡ Failed ∷ before → GoesOn [] before now
goes_on-failed before now is = record { more = Failed ∷ []; grown = is; sought = ap sought is; some = some_still before now (λ orderly. subst IsOrderly (sym is) orderly) }

pub goes_on-then : (names later : List (List ℕ)) (before between now : List Event) → GoesOn names before between → GoesOn later between now → GoesOn (later ++ names) before now
goes_on-then names later before between now on next = record {
  more = next.more ++ on.more;
  grown = next.grown ∙ ap (λ events. next.more ++ events) on.grown ∙ sym (append_assoc next.more on.more before);
  sought = next.sought ∙ ap (λ sought. later ++ sought) on.sought ∙ sym (append_assoc later names (sought before));
  some = λ some apart. next.some (on.some some (behind_apart later (sought between) (subst AreApart next.sought apart))) apart;
}

-- by a call that opens no file
pub goes_on-more : (names : List (List ℕ)) (before between now : List Event) → GoesOn names before between → GoesOn [] between now → GoesOn names before now
goes_on-more names before between now on next = goes_on-then names [] before between now on next

pub ruleset gone_on = (goes_on-none, goes_on-open, goes_on-read, goes_on-failed, goes_on-more)
