-- Batches of several workers, one behind the other.
use Rattle.std.proofs.Common.{◌≡◌, ◌∙◌, ℕ, zero, suc, ◌+◌, ◌-◌, ◌<◌, ◌≤◌, List, [], ◌∷◌, ◌++◌, flat_map, length, take, drop, get_or, append_assoc, length-append, sym, ap, arith}
use Rattle.std.proofs.Math.Seq.{take-append-add, drop-cons}
use Rattle.std.proofs.lemmas.Grind.{flat_map-append}
use Rattle.std.proofs.lemmas.List.{take-append-le, take-append-drop}
use Rattle.stream_lines.proofs.Fronts.{texts_from, texts_joined}

-- texts of stretches that follow one another, from b 0 to b 1, from there to b 2, and so on
pub follow : {X : Type 0} (f : ℕ → List ℕ) (text : X → List ℕ) (b : ℕ → ℕ) (xs : List X) → ((i : ℕ) → b i ≤ b (suc i))
    → ((i : ℕ) (d : X) → i < length xs → text (get_or xs i d) ≡ texts_from f (b i) (b (suc i) - b i))
    → (b zero ≤ b (length xs)) × (flat_map text xs ≡ texts_from f (b zero) (b (length xs) - b zero))
follow f text b [] up each =
    let none : b zero - b zero ≡ zero = omega arith in
    (omega arith, sym (ap (texts_from f (b zero)) none))
follow f text b (x ∷ xs) up each =
    let rest = follow f text (λ i. b (suc i)) xs (λ i. up (suc i)) (λ i d below. each (suc i) d (omega (arith, below))) in
    let le : b zero ≤ b (suc zero) = up zero in
    let further : b (suc zero) ≤ b (suc (length xs)) = rest.0 in (
      omega (arith, le, further),
      ap (λ w. w ++ flat_map text xs) (each zero x (omega arith)) ∙ ap (λ w. texts_from f (b zero) (b (suc zero) - b zero) ++ w) rest.1
          ∙ sym (texts_joined f (b zero) (b (suc zero)) (b (suc (length xs))) le further),
    )

-- members of a list, of which the texts of the first i were written
module _ {X : Type 0} (xs : List X) (f : X → List ℕ) (i : ℕ) (d : X) (below : i < length xs) where
  cut : flat_map f (take i xs) ++ (f (get_or xs i d) ++ flat_map f (drop (suc i) xs)) ≡ flat_map f xs
  cut = sym (flat_map-append f (take i xs) (get_or xs i d ∷ drop (suc i) xs)) ∙ ap (λ rest. flat_map f (take i xs ++ rest)) (sym (drop-cons xs i d below))
      ∙ ap (flat_map f) (take-append-drop i xs)

  -- a part of the front of the next, behind them
  pub part_of_next : (n : ℕ) (old now new : List ℕ) → now ≡ old ++ flat_map f (take i xs) → n < length (f (get_or xs i d)) → new ≡ now ++ take n (f (get_or xs i d))
      → (m : ℕ) × (m < length (flat_map f xs)) × (new ≡ old ++ take m (flat_map f xs))
  part_of_next n old now new before few after =
      let first : List ℕ = flat_map f (take i xs) in
      let next : List ℕ = f (get_or xs i d) in
      let rest : List ℕ = flat_map f (drop (suc i) xs) in
      let long : length (flat_map f xs) ≡ length first + (length next + length rest) = ap length (sym cut) ∙ length-append first (next ++ rest) ∙ ap (λ k. length first + k) (length-append next rest) in
      let front : take (length first + n) (flat_map f xs) ≡ first ++ take n next =
      ap (take (length first + n)) (sym cut) ∙ take-append-add first (next ++ rest) n ∙ ap (λ w. first ++ w) (take-append-le n next rest (omega (arith, few))) in
      (length first + n, omega (arith, long, few), after ∙ ap (λ w. w ++ take n next) before ∙ append_assoc old first (take n next) ∙ ap (λ w. old ++ w) (sym front))
