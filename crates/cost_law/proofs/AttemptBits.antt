-- One attempt asks for a bit at each string that does not decide.
use Rattle.std.proofs.Common.{◌≡◌, ℕ, zero, suc, ◌+◌, ◌*◌, ◌^◌, ◌<◌, ◌≤◌, Bool, true, false, cond, List, [], ◌∷◌, ◌++◌, length, refl, sym, ap, ◌∙◌, arith}
use Rattle.std.specs.Prelude.{◌==◌}
use Rattle.std.specs.Option.{option_eq}
use Rattle.gcl_core.specs.meaning.Draw.{class_of, have_one_class, bit, first_of, decides}
use Rattle.gcl_core.proofs.AttemptTrees.{attempt_tree, decided_same, length-push, free_of, first-push}
use Rattle.gcl_core.proofs.Classes.{all_below-each, option_same}
use Rattle.gcl_core.proofs.Sums.{two_more}
use Rattle.gcl_core.proofs.Trees.{Tree, leaf, flip}
use Rattle.cost_law.specs.ExpectedBits.{undecided_from}
use Rattle.cost_law.proofs.AskedBits.{asks}

bit_fits : (b : Bool) (P j : ℕ) → j < P → bit b * P + j < P + P
bit_fits true P j lt = omega arith
bit_fits false P j lt = omega arith

-- behind a string that decides each string does
decides-push : (ends : List ℕ) (k n : ℕ) (u : List Bool) (b : Bool) → length u + suc n ≡ k → decides ends k u ≡ true → decides ends k (u ++ b ∷ []) ≡ true
decides-push ends k n u b e t =
    let f = first_of k (u ++ b ∷ []) in
    let same : (j : ℕ) → j < 2 ^ n → class_of ends (f + j) ≡ class_of ends (first_of k u) = λ j lt.
    let q : f + j ≡ first_of k u + (bit b * 2 ^ n + j) = omega (arith, first-push k n u b e) in
    ap (class_of ends) q ∙ decided_same ends k (suc n) u e t (bit b * 2 ^ n + j) (omega (arith, bit_fits b (2 ^ n) j lt, two_more n)) in
    let first : class_of ends f ≡ class_of ends (first_of k u) =
    (let q : f ≡ first_of k u + (bit b * 2 ^ n + 0) = omega (arith, first-push k n u b e) in
    ap (class_of ends) q ∙ decided_same ends k (suc n) u e t (bit b * 2 ^ n + 0) (omega (arith, bit_fits b (2 ^ n) 0 (omega (arith, one_at_least n)), two_more n))) in
    ap (λ m. have_one_class ends f (2 ^ m)) (free_of (u ++ b ∷ []) n k (length-push u b n k e))
    ∙ all_below-each (2 ^ n) (λ j. option_eq ◌==◌ (class_of ends (f + j)) (class_of ends f))
    (λ j lt. ap (λ c. option_eq ◌==◌ c (class_of ends f)) (same j lt ∙ sym first) ∙ option_same (class_of ends f))
  where
    one_at_least : (n : ℕ) → 1 ≤ 2 ^ n
    one_at_least zero = omega arith
    one_at_least (suc n) = let h = one_at_least n in omega (arith, two_more n)

none_undecided : (ends : List ℕ) (k n : ℕ) (u : List Bool) → length u + n ≡ k → decides ends k u ≡ true → undecided_from ends k n u ≡ 0
none_undecided ends k zero u e t = refl
none_undecided ends k (suc n) u e t =
    let a = none_undecided ends k n (u ++ false ∷ []) (length-push u false n k e) (decides-push ends k n u false e t) in
    let b = none_undecided ends k n (u ++ true ∷ []) (length-push u true n k e) (decides-push ends k n u true e t) in
    rw (t, a, b) (omega arith)

by_decides : {A : Type 0} (b : Bool) (x : A) (l r : Tree A) (n U : ℕ) → (b ≡ true → U ≡ 0) → asks l n + asks r n ≡ U → asks (cond b (leaf x) (flip l r)) (suc n) ≡ cond b 0 (2 ^ suc n) + U
by_decides true x l r n U none e = omega (arith, none refl)
by_decides false x l r n U none e = ap (λ m. 2 ^ suc n + m) e

pub attempt_asks : (ends : List ℕ) (k n : ℕ) (u : List Bool) → length u + n ≡ k → asks (attempt_tree ends k u n) n ≡ undecided_from ends k n u
attempt_asks ends k zero u e = refl
attempt_asks ends k (suc n) u e =
    let a = attempt_asks ends k n (u ++ false ∷ []) (length-push u false n k e) in
    let b = attempt_asks ends k n (u ++ true ∷ []) (length-push u true n k e) in
    by_decides (decides ends k u) (class_of ends (first_of k u)) _ _ n (undecided_from ends k n (u ++ false ∷ []) + undecided_from ends k n (u ++ true ∷ []))
    (λ t. let c = none_undecided ends k n (u ++ false ∷ []) (length-push u false n k e) (decides-push ends k n u false e t) in let d = none_undecided ends k n (u ++ true ∷ []) (length-push u true n k e) (decides-push ends k n u true e t) in omega arith)
    (omega arith)
