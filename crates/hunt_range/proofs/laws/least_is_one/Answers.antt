use Rattle.std.proofs.Common.{◌≡◌, ℕ, ◌<◌, ◌≤◌, ⊎_elim, Option, Some, None, refl, ap, arith}
use Rattle.std.proofs.lemmas.Bool.{cases_lt}
use Rattle.hunt_range.specs.Sought.{Sought, LeastWanted}
use Rattle.hunt_range.proofs.laws.least_is_one.Goals as goal

-- neither of two is less
one : (s : Sought) (x y : ℕ) → LeastWanted s (Some x) → LeastWanted s (Some y) → x ≡ y
one s x y h k =
    ⊎_elim
    (λ (less : x < y). absurd (k.3 x h.0 less h.2))
    (λ (le : y ≤ x). ⊎_elim (λ (less : y < x). absurd (h.3 y k.0 less k.2)) (λ (ge : x ≤ y). omega arith) (cases_lt y x))
    (cases_lt x y)

same : (s : Sought) (x y : Option ℕ) → LeastWanted s x → LeastWanted s y → x ≡ y
same s None None h k = refl
same s None (Some y) h k = absurd (h y k.0 k.1 k.2)
same s (Some x) None h k = absurd (k x h.0 h.1 h.2)
same s (Some x) (Some y) h k = ap Some (one s x y h k)

pub returns : goal.returns
returns c = λ s x y h k. same s x y h k
