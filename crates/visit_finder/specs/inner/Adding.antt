-- Residues that are added to those of a key.
use Rattle.std.specs.Prelude.{◌≡◌, ℕ, ◌+◌, ◌<◌, false, List, MatchOption}
use Rattle.std.specs.declared.cmp.Ordering.{Ordering}
use Rattle.std.specs.Ordering.{nat_cmp, on, then_cmp}
use Rattle.std.specs.BTreeMap.{insert_entry, is_at}
use Rattle.std.specs.List.Sorted.{IsStrictlySortedBy}
use Rattle.std.specs.Map.{keys_of, lookup}
use Rattle.visit_finder.specs.declared.residues.Moduli.{Moduli}
use Rattle.visit_finder.specs.declared.residues.Residues.{Residues}
use Rattle.visit_finder.specs.Places.{is_lost, AreAt, AreForms, AreOver}

-- two states in order, by the first and then by the second
abbrev pub ends_order : ℕ × ℕ → ℕ × ℕ → Ordering
ends_order = then_cmp (on (λ ends. ends.0) nat_cmp) (on (λ ends. ends.1) nat_cmp)

-- at each place the last are those of the sum of what the others are of
abbrev pub AreSum : Moduli → Residues → Residues → Residues → Type 0
AreSum moduli one other sum = (place : ℕ) → place < 5 → (v u : ℕ) → AreAt moduli place one v → AreAt moduli place other u → AreAt moduli place sum (v + u)

-- fs is es, whose keys are in order, once the residues r were added to those of a key
abbrev pub AreAdded : {K : Type 0} → (K → K → Ordering) → Moduli → List (K × Residues) → List (K × Residues) → K → Residues → Type 0
AreAdded order moduli es fs k r = IsStrictlySortedBy order (keys_of es)
    × ((sum : Residues) × MatchOption (lookup (is_at (order k)) es) (sum ≡ r) (λ old. AreSum moduli old r sum) × (fs ≡ insert_entry order es k sum))

-- they are those of 1 over a number, but at places that are lost
abbrev pub AreOverOne : Moduli → Residues → ℕ → Type 0
AreOverOne moduli over den = AreForms moduli over × ((place : ℕ) → place < 5 → is_lost moduli place ≡ false → AreOver moduli place over 1 den)
