-- Where Euclid's algorithm stops without a candidate, no table of narrow fractions balances.
use Rattle.std.proofs.Common.{◌≡◌, ◌⊎◌, inl, inr, ℕ, zero, suc, ◌*◌, ◌≤◌, ◌<◌, List, [], ◌∷◌, refl, sym, subst, arith}
use Rattle.narrow_fractions.specs.Remainders.{Same}
use Rattle.narrow_fractions.specs.Euclid.{Reached, IsNarrow}
use Rattle.narrow_fractions.specs.Moduli.{product_of, AreApart, SameAtEach}
use Rattle.narrow_fractions.specs.Elimination.{total, led, Balances, Among, unknowns}
use Rattle.narrow_fractions.specs.Refusal.{BalancesExactly, Covers, FoundAt, FoundAtEach}
use Rattle.narrow_fractions.proofs.Congruence.{equal, turned, chained, times, cancelled, product}
use Rattle.narrow_fractions.proofs.Euclid.{none, candidate}
use Rattle.narrow_fractions.proofs.Moduli.{together}
use Rattle.narrow_fractions.proofs.Elimination.{total_same, known}
use Rattle.narrow_fractions.proofs.Denominators.{remainder_of}

scaled_parts : (n whole : ℕ) (f v : ℕ → ℕ) → total n (λ t. whole * f t * v t) ≡ whole * total n (λ t. f t * v t)
scaled_parts zero whole f v = omega arith
scaled_parts (suc n) whole f v = let e = scaled_parts n whole f v in omega arith

-- what balances exactly balances modulo m
pub balances_at : (m n whole u : ℕ) (parts part : ℕ → ℕ → ℕ) (v : ℕ → ℕ) (s : ℕ) → Same m (u * whole) 1 → ((t s : ℕ) → Same m (whole * part t s) (parts t s))
    → whole * v s ≡ led n parts v s → Balances m n part v s
balances_at m n whole u parts part v s inverse h e =
    let each : Same m (total n (λ t. parts t s * v t)) (total n (λ t. whole * part t s * v t)) =
    total_same m n (λ t. parts t s * v t) (λ t. whole * part t s * v t) (λ t l. product m (parts t s) (whole * part t s) (v t) (v t) (turned m _ _ (h t s)) (equal m (v t) (v t) refl)) in
    cancelled m whole u (v s) (led n part v s) inverse
    (chained m _ _ _ (equal m _ _ e) (chained m _ _ _ each (equal m _ _ (scaled_parts n whole (λ t. part t s) v))))

-- at one modulus
pub found_at : (n whole : ℕ) (parts : ℕ → ℕ → ℕ) (ks : List ℕ) (s number m : ℕ) → Covers n ks → FoundAt n whole parts ks s number m
    → (v : ℕ → ℕ) → 1 ≤ v 0 → BalancesExactly n whole parts ks v → Among s ks → (num den : ℕ) → den * v s ≡ v 0 * num → Same m (den * number) num
found_at n whole parts ks s number m covers f v p x i num den e =
    chained m _ _ _ (times m den _ _ f.11)
    (remainder_of m n whole parts ks f.1 f.4 covers at (v 0) v (omega arith) p x s i num den e)
  where
    at : (v : ℕ → ℕ) → BalancesExactly n whole parts ks v → (s : ℕ) → Among s ks → Same m (v s) (v 0 * f.1 s)
    at v x s i = known m n v f.1 f.2 f.0 f.10 (λ t a. balances_at m n whole f.3 parts f.0 v t f.5 f.6 (x t (f.8 t a))) (λ t l. stands t (covers t l)) s (f.7 s i)
      where
        stands : (t : ℕ) → (t ≡ 0) ⊎ Among t ks → ((s : ℕ) → Same m (f.0 t s) 0) ⊎ (Same m (v t) (v 0 * f.1 t) ⊎ Among t (unknowns f.2))
        stands t (inl e) = inr (inl (subst (λ y. Same m (v y) (v 0 * f.1 y)) (sym e) (chained m _ _ _ (equal m _ (v 0 * 1) (omega arith)) (times m (v 0) _ _ (turned m _ _ f.9)))))
        stands t (inr a) = inr (inr (f.7 t a))

found_at_each : (n whole : ℕ) (parts : ℕ → ℕ → ℕ) (ks : List ℕ) (s number : ℕ) (ms : List ℕ) → Covers n ks → FoundAtEach n whole parts ks s number ms
    → (v : ℕ → ℕ) → 1 ≤ v 0 → BalancesExactly n whole parts ks v → Among s ks → (num den : ℕ) → den * v s ≡ v 0 * num → SameAtEach ms (den * number) num
found_at_each n whole parts ks s number [] covers f v p x i num den e = tt
found_at_each n whole parts ks s number (m ∷ ms) covers f v p x i num den e =
    (found_at n whole parts ks s number m covers f.0 v p x i num den e, found_at_each n whole parts ks s number ms covers f.1 v p x i num den e)

module _ (n whole : ℕ) (parts : ℕ → ℕ → ℕ) (ks : List ℕ) (s number : ℕ) (ms : List ℕ) (covers : Covers n ks) (apart : AreApart ms)
    (found : FoundAtEach n whole parts ks s number ms) (v : ℕ → ℕ) (p : 1 ≤ v 0) (x : BalancesExactly n whole parts ks v) (i : Among s ks)
    (bound num den : ℕ) (some : 1 ≤ den) (short : den < bound) (low_num : num < bound) (e : den * v s ≡ v 0 * num) where
  narrow : IsNarrow (product_of ms) number bound num den
  narrow = (some, short, low_num, together ms (den * number) num apart (found_at_each n whole parts ks s number ms covers found v p x i num den e))

  -- no table that balances has a narrow fraction there
  pub nothing_narrow : (high low before now : ℕ) → bound ≤ high → bound ≤ now → Reached (product_of ms) number high low before now → ⊥
  nothing_narrow high low before now h w r = none (product_of ms) number bound high low before now num den h w r narrow

  -- or no other than the candidate
  pub one_narrow : (high low before now : ℕ) → 2 * (bound * bound) ≤ product_of ms → low < bound → now < bound → Reached (product_of ms) number high low before now → den * low ≡ now * num
  one_narrow high low before now w l h r = candidate (product_of ms) number bound high low before now num den w l h r narrow
