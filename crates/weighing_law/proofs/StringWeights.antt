-- The weight of the strings behind a front, by what is read on the front.
use Rattle.std.proofs.Common.{◌≡◌, ℕ, zero, suc, ◌+◌, ◌^◌, Bool, true, false, cond, Option, Some, None, List, [], ◌∷◌, ◌++◌, refl, ap, ◌∙◌}
use Rattle.gcl_core.specs.weighing.StringWeight.{weight_at, string_weight_from}

module _ (read : List Bool → Option Bool) where
  abbrev below : ℕ → List Bool → ℕ
  below h u = string_weight_from read h (u ++ false ∷ []) + string_weight_from read h (u ++ true ∷ [])

  some_weight : (b : Bool) (here longer : ℕ) → weight_at (Some b) here longer ≡ cond b here 0
  some_weight true here longer = refl
  some_weight false here longer = refl

  pub weight_ended : (h : ℕ) (u : List Bool) (b : Bool) → read u ≡ Some b → string_weight_from read h u ≡ cond b (2 ^ h) 0
  weight_ended zero u b e = ap (λ o. weight_at o 1 0) e ∙ some_weight b 1 0
  weight_ended (suc h) u b e = ap (λ o. weight_at o (2 ^ suc h) (below h u)) e ∙ some_weight b (2 ^ suc h) (below h u)

  pub weight_short : (u : List Bool) → read u ≡ None → string_weight_from read zero u ≡ 0
  weight_short u e = ap (λ o. weight_at o 1 0) e

  pub weight_goes_on : (h : ℕ) (u : List Bool) → read u ≡ None →
      string_weight_from read (suc h) u ≡ string_weight_from read h (u ++ false ∷ []) + string_weight_from read h (u ++ true ∷ [])
  weight_goes_on h u e = ap (λ o. weight_at o (2 ^ suc h) (below h u)) e

-- a first bit belongs to the front or to the reader
pub weight_behind : (read : List Bool → Option Bool) (h : ℕ) (b : Bool) (u : List Bool) → string_weight_from read h (b ∷ u) ≡ string_weight_from (λ w. read (b ∷ w)) h u
weight_behind read zero b u = refl
weight_behind read (suc h) b u =
    let e = weight_behind read h b (u ++ false ∷ []) in
    let f = weight_behind read h b (u ++ true ∷ []) in
    ap (λ n. weight_at (read (b ∷ u)) (2 ^ suc h) (n + string_weight_from read h (b ∷ (u ++ true ∷ [])))) e
    ∙ ap (λ n. weight_at (read (b ∷ u)) (2 ^ suc h) (string_weight_from (λ w. read (b ∷ w)) h (u ++ false ∷ []) + n)) f
