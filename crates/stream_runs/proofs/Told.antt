-- What a gate was told of, and the blocks dealt to its worker.
use Rattle.std.proofs.Common.{◌≡◌, ◌∙◌, ℕ, List, [], ◌∷◌, ◌++◌, append_assoc, sym, ap}

-- one block more was dealt, and the gate was told of it
pub one_told : (was told told' dealt dealt' : List ℕ) (block : ℕ) → told ≡ was ++ dealt → told' ≡ told ++ block ∷ [] → dealt' ≡ dealt ++ block ∷ [] → told' ≡ was ++ dealt'
one_told was told told' dealt dealt' block before more is =
    more ∙ ap (λ l. l ++ block ∷ []) before ∙ append_assoc was dealt (block ∷ []) ∙ ap (λ l. was ++ l) (sym is)
