-- The loop of one state that goes on with 1/2, modulo 7: its visits are 2.
use Rattle.std.proofs.Common.{◌≡◌, inl, inr, ℕ, zero, suc, ◌+◌, ◌*◌, [], ◌∷◌, refl, arith}
use Rattle.narrow_fractions.specs.Remainders.{Same}
use Rattle.narrow_fractions.specs.Elimination.{Replaces}
use Rattle.narrow_fractions.specs.Refusal.{BalancesExactly, Covers, FoundAt}
use Rattle.narrow_fractions.specs.WorkedLoop.{halves, visits}

-- modulo 7
abbrev sevenths : ℕ → ℕ → ℕ
sevenths zero (suc zero) = 1
sevenths (suc zero) (suc zero) = 4
sevenths t s = 0

pub covered : Covers 2 (1 ∷ [])
covered zero l = inl refl
covered (suc zero) l = inr (inl refl)
covered (suc (suc t)) l = absurd (omega arith)

pub balanced : BalancesExactly 2 2 halves (1 ∷ []) visits
balanced zero (inl e) = absurd (omega arith)
balanced zero (inr x) = absurd x
balanced (suc zero) a = refl
balanced (suc (suc s)) (inl e) = absurd (omega arith)
balanced (suc (suc s)) (inr x) = absurd x

replaced : Replaces 7 1 2 sevenths (λ t s. 0)
replaced = (λ s. refl, λ t. refl, other)
  where
    other : (t s : ℕ) → (t ≡ 1 → ⊥) → (s ≡ 1 → ⊥) → Same 7 0 (sevenths t s + sevenths t 1 * (2 * sevenths 1 s))
    other zero zero d e = (0, 0, refl)
    other zero (suc zero) d e = absurd (e refl)
    other zero (suc (suc s)) d e = (0, 0, refl)
    other (suc zero) s d e = absurd (d refl)
    other (suc (suc t)) s d e = (0, 0, omega arith)

parts_same : (t s : ℕ) → Same 7 (2 * sevenths t s) (halves t s)
parts_same zero zero = (0, 0, refl)
parts_same zero (suc zero) = (0, 0, refl)
parts_same zero (suc (suc s)) = (0, 0, refl)
parts_same (suc zero) zero = (0, 0, refl)
parts_same (suc zero) (suc zero) = (0, 1, refl)
parts_same (suc zero) (suc (suc s)) = (0, 0, refl)
parts_same (suc (suc t)) s = (0, 0, omega arith)

pub found : FoundAt 2 2 halves (1 ∷ []) 1 2 7
found = (
  sevenths,
  visits,
  (1, 2, λ t s. 0) ∷ [],
  4,
  omega arith,
  (0, 1, refl),
  parts_same,
  λ t a. a,
  λ t a. a,
  (0, 0, refl),
  (omega arith, (1, 0, refl), replaced, λ a. a, (0, 0, refl), tt),
  (0, 0, refl),
)
