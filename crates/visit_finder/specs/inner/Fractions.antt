-- The fractions that are found of residues.
use Rattle.std.specs.Prelude.{◌≡◌, ℕ, ◌*◌, ◌^◌, ◌≤◌, ◌<◌, List, Contains}
use Rattle.std.specs.Ordering.{nat_cmp}
use Rattle.std.specs.List.Sorted.{IsStrictlySortedBy}
use Rattle.std.specs.Map.{keys_of}
use Rattle.numbers.specs.Fraction.{Fraction}
use Rattle.visit_finder.specs.declared.residues.Moduli.{Moduli}
use Rattle.visit_finder.specs.declared.residues.Residues.{Residues}
use Rattle.visit_finder.specs.Places.{AreForms, AreOfFraction}

-- the only fraction of two numbers below 2 ^ 128 with these residues is equal to this one
abbrev pub IsOnlyOf : Moduli → Residues → Fraction → Type 0
IsOnlyOf moduli r f = AreForms moduli r → (num den : ℕ) → 1 ≤ den → den < 2 ^ 128 → num < 2 ^ 128 → AreOfFraction moduli r num den → den * f.0 ≡ f.1 * num

abbrev pub HasNoneOf : Moduli → Residues → Type 0
HasNoneOf moduli r = AreForms moduli r → (num den : ℕ) → 1 ≤ den → den < 2 ^ 128 → num < 2 ^ 128 → AreOfFraction moduli r num den → ⊥

-- each state of which there are residues has a fraction, which is the only one of its residues
pub record AreFractions (moduli : Moduli) (states : List ℕ) (visits : List (ℕ × Residues)) (found : List (ℕ × Fraction)) : Type 0 where
  pub ordered : IsStrictlySortedBy nat_cmp (keys_of visits)
  pub all : (s : ℕ) → Contains states s → Contains (keys_of visits) s → Contains (keys_of found) s
  pub each : (s : ℕ) (f : Fraction) → Contains found (s, f) → Contains states s × ((r : Residues) × Contains visits (s, r) × IsOnlyOf moduli r f)

-- the residues of some state are those of no fraction
pub record SomeHasNone (moduli : Moduli) (states : List ℕ) (visits : List (ℕ × Residues)) : Type 0 where
  pub ordered : IsStrictlySortedBy nat_cmp (keys_of visits)
  pub state : ℕ
  pub among : Contains states state
  pub residues : Residues
  pub there : Contains visits (state, residues)
  pub none : HasNoneOf moduli residues
