-- Lists whose members were lent to threads, each to one.
use Rattle.std.proofs.Common.{ℕ, suc, ◌<◌, ◌≡◌, List, [], ◌∷◌, length, get_or, subst, arith}
use Rattle.std.specs.List.{AllZip}

all_zip_at : {X : Type 0} (R : X → X → Type 0) (xs ys : List X) → length ys ≡ length xs → ((i : ℕ) (d : X) → i < length xs → R (get_or xs i d) (get_or ys i d)) → AllZip R xs ys
all_zip_at R [] [] same at = tt
all_zip_at R [] (y ∷ ys) same at = absurd (omega arith)
all_zip_at R (x ∷ xs) [] same at = absurd (omega arith)
all_zip_at R (x ∷ xs) (y ∷ ys) same at = (at 0 x (omega arith), all_zip_at R xs ys (omega arith) (λ i d lt. at (suc i) d (omega arith)))

-- what holds of each member as a call found it and as the call left it holds of the two lists, place by place
pub all_zip_calls : {X : Type 0} (R : X → X → Type 0) (xs ys : List X) → length ys ≡ length xs →
    ((i : ℕ) (d : X) → i < length xs → (x : X) × (y : X) × (x ≡ get_or xs i d) × (y ≡ get_or ys i d) × R x y) → AllZip R xs ys
all_zip_calls R xs ys same calls = all_zip_at R xs ys same (λ i d lt. let c = calls i d lt in subst (λ x. R x (get_or ys i d)) c.2 (subst (R c.0) c.3 c.4))
