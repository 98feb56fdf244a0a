-- What lists of units hold.
use Rattle.std.proofs.Common.{◌≡◌, ℕ, ◌+◌, ◌*◌, [], ◌∷◌, ◌++◌, map, refl, arith}
use Rattle.gcl_core.specs.weighing.Fractions.{Fraction}
use Rattle.units_law.specs.Units.{Units, held}
use Rattle.units_law.proofs.Orders.{IsOrder, along}

pub held_append : {A : Type 0} (G : A → ℕ) (J K : Units A) → held G (J ++ K) ≡ held G J + held G K
held_append G [] K = omega arith
held_append G (e ∷ J) K = let i = held_append G J K in omega arith

pub held_none : {A : Type 0} (J : Units A) → held (λ x. 0) J ≡ 0
held_none [] = refl
held_none (e ∷ J) = let i = held_none J in omega arith

-- where each number of units is cut to a fraction of it
pub held_cut : (R : ℕ → ℕ → Type 0) → IsOrder R → {A : Type 0} (G : A → ℕ) (u : Fraction) (cut : ℕ → ℕ) → ((w : ℕ) → R (u.1 * cut w) (u.0 * w)) → (J : Units A) →
    R (u.1 * held G (map (λ e. (e.0, cut e.1)) J)) (u.0 * held G J)
held_cut R o G u cut c [] = along R 0 0 _ _ (omega arith) (omega arith) (o.itself 0)
held_cut R o G u cut c (e ∷ J) =
    along R (G e.0 * (u.1 * cut e.1) + u.1 * held G (map (λ e. (e.0, cut e.1)) J)) (G e.0 * (u.0 * e.1) + u.0 * held G J) _ _ (omega arith) (omega arith)
    (o.sums _ _ _ _ (o.products (G e.0) (u.1 * cut e.1) (u.0 * e.1) (c e.1)) (held_cut R o G u cut c J))
