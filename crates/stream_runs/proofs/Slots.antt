-- Places of a list that are written one after the other.
use Rattle.std.proofs.Common.{◌≡◌, ◌∙◌, ◌⊎◌, inl, inr, ℕ, ◌+◌, ◌<◌, List, length, get_or, set, ap, sym, arith}
use Rattle.std.proofs.lemmas.Bool.{cases_eq}
use Rattle.std.proofs.lemmas.Grind.{get_or-set_at}
use Rattle.std.proofs.lemmas.List.{get_or-set_other}

-- one more is right
pub written_more : {A : Type 0} (f : ℕ → A) (xs : List A) (d : A) (n : ℕ) (y : A) → n < length xs → y ≡ f n
    → ((k : ℕ) → k < n → get_or xs k d ≡ f k) → (k : ℕ) → k < n + 1 → get_or (set xs n y) k d ≡ f k
written_more f xs d n y within is before k below = by (cases_eq k n)
  where
    by : (k ≡ n) ⊎ (k ≡ n → ⊥) → get_or (set xs n y) k d ≡ f k
    by (inl same) = get_or-set_at xs n k y d same within ∙ is ∙ ap f (sym same)
    by (inr other) = get_or-set_other xs n k y d other ∙ before k (omega (arith, other, below))
