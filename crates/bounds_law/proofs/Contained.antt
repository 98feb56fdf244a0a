-- What a list with one more in front contains.
use Rattle.std.proofs.Common.{◌≡◌, ◌⊎◌, inl, inr, zero, suc, ◌<◌, List, ◌∷◌, length, arith}
use Rattle.std.specs.Prelude.{Contains}

pub first_in : {A : Type 0} (x : A) (xs : List A) (y : A) → x ≡ y → Contains (x ∷ xs) y
first_in x xs y e = (0, omega arith, e)

pub later_in : {A : Type 0} (x : A) (xs : List A) (y : A) → Contains xs y → Contains (x ∷ xs) y
later_in x xs y c = let l : c.0 < length xs = c.1 in (suc c.0, omega arith, c.2)

pub in_cons : {A : Type 0} (x : A) (xs : List A) (y : A) → Contains (x ∷ xs) y → (x ≡ y) ⊎ Contains xs y
in_cons x xs y (zero, l, e) = inl e
in_cons x xs y (suc k, l, e) = inr (k, omega arith, e)
