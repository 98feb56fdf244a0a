-- Values in slots.
use Rattle.std.proofs.Common.{◌≡◌, ℕ, zero, suc, ◌<◌, ℤ, pos, List, ◌∷◌, length, refl, ap, ◌∙◌, arith, negsuc, IsTrue, w64, to_z, of_z, ltb-true, ◌^◌}
use Rattle.std.proofs.lemmas.List.{get_or-set_other, get_or-set_same}
use Rattle.std.specs.Prelude.{slice_set, slice_index_or}
use Rattle.std.proofs.lemmas.Int.{to_z-of_z, ints}
use Rattle.gcl_core.specs.meaning.Value.{fits_64}
use Rattle.formula.specs.inner.OnStack.{under, values}

under_length : (slots : List ℤ) (n : ℕ) → length (under slots n) ≡ n
under_length slots zero = refl
under_length slots (suc n) = ap suc (under_length slots n)

pub values_length : (top : ℤ) (n : ℕ) (slots : List ℤ) → length (values top n slots) ≡ n
values_length top zero slots = refl
values_length top (suc n) slots = ap suc (under_length slots n)

under_set : (slots : List ℤ) (k n : ℕ) (v : ℤ) → n < k → under (slice_set slots k v) n ≡ under slots n
under_set slots k zero v lt = refl
under_set slots k (suc n) v lt =
    ap (λ x. x ∷ under (slice_set slots k v) n) (get_or-set_other slots k (suc n) v (pos 0) (omega arith)) ∙ ap (λ l. slice_index_or slots (suc n) (pos 0) ∷ l) (under_set slots k n v (omega arith))

pub values_put : (top v : ℤ) (n : ℕ) (slots : List ℤ) → n < length slots → values v (suc n) (slice_set slots n top) ≡ v ∷ values top n slots
values_put top v zero slots lt = refl
values_put top v (suc n) slots lt =
    ap (λ x. v ∷ (x ∷ under (slice_set slots (suc n) top) n)) (get_or-set_same slots (suc n) top (pos 0) lt) ∙ ap (λ l. v ∷ (top ∷ l)) (under_set slots (suc n) n top (omega arith))

-- a number of 64 bits is written and read back
pub small_back : (z : ℤ) → IsTrue (fits_64 z) → to_z w64 (of_z w64 z) ≡ z
small_back (pos n) h = let lt = ltb-true n (2 ^ 63) h in omega (arith, ints, lt)
small_back (negsuc n) h = let lt = ltb-true n (2 ^ 63) h in to_z-of_z w64 (negsuc n) (record { sfits = lt })
