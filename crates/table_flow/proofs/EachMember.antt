-- A fact of each member of a list, said along the list.
use Rattle.std.proofs.Common.{List, [], ◌∷◌, ◌++◌}

abbrev pub Each : {A : Type 0} → (A → Type 0) → List A → Type 0
Each P [] = Unit {0}
Each P (e ∷ J) = P e × Each P J

pub each_append : {A : Type 0} (P : A → Type 0) (J K : List A) → Each P J → Each P K → Each P (J ++ K)
each_append P [] K h i = i
each_append P (e ∷ J) K h i = (h.0, each_append P J K h.1 i)

-- no fact
abbrev pub Anything : {A : Type 0} → A → Type 0
Anything e = Unit {0}

pub each_anything : {A : Type 0} (J : List A) → Each Anything J
each_anything [] = tt
each_anything (e ∷ J) = (tt, each_anything J)
