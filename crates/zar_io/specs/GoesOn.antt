-- How a record goes on. This project's own rule.
use Rattle.std.specs.Prelude.{◌≡◌, ◌≢◌, ℕ, List, [], ◌∷◌, ◌++◌}
use Rattle.zar_io.specs.declared.trace.Event.{Event}
use Rattle.zar_io.specs.declared.trace.Event.TheVariants.{Opened, Missed, OpenFailed}
use Rattle.zar_io.specs.Trace.{World, Agrees}

-- the names whose files were to be opened, the newest first
abbrev pub sought : List Event → List (List ℕ)
sought [] = []
sought (Opened name ∷ before) = name ∷ sought before
sought (Missed name ∷ before) = name ∷ sought before
sought (OpenFailed name ∷ before) = name ∷ sought before
sought (_ ∷ before) = sought before

-- the name is none of these
abbrev pub IsNew : List ℕ → List (List ℕ) → Type 0
IsNew name [] = Unit {0}
IsNew name (other ∷ others) = (name ≢ other) × IsNew name others

-- no name stands twice
abbrev pub AreApart : List (List ℕ) → Type 0
AreApart [] = Unit {0}
AreApart (name ∷ names) = IsNew name names × AreApart names

-- A record goes on in a call that is to open the files of these names, the last of them first.
pub record GoesOn (names : List (List ℕ)) (before now : List Event) : Type 0 where
  -- nothing of it is lost
  pub more : List Event
  pub grown : now ≡ more ++ before
  -- where some files may have answered so before, some may have answered so now, if no name is sought twice
  pub some : (file : World) × Agrees file before → AreApart (sought now) → (file : World) × Agrees file now
  -- no file of another name was to be opened
  pub sought : sought now ≡ names ++ sought before
