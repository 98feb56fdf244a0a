-- Strings that do not decide, by the stretches of the numbers that they begin.
use Rattle.std.proofs.Common.{◌≡◌, ℕ, zero, suc, ◌+◌, ◌*◌, ◌^◌, ◌≤◌, Bool, true, false, cond, ◌-◌, List, [], ◌∷◌, ◌++◌, length, refl, sym, ap, ◌∙◌, arith}
use Rattle.std.proofs.lemmas.Nat.{pow_pos}
use Rattle.gcl_core.specs.meaning.Draw.{have_one_class, first_of, last_end, bits_for}
use Rattle.gcl_core.proofs.Sums.{two_more}
use Rattle.cost_law.specs.ExpectedBits.{undecided_from, number_bits, attempt_bits}
use Rattle.gcl_core.proofs.AttemptTrees.{length-push, free_of, first-push}
use Rattle.draw_tree.proofs.Halves.{first_half, second_half}
use Rattle.attempt_bits.specs.inner.Undecided.{undecided_at}

pub by_numbers : (ends : List ℕ) (k n : ℕ) (u : List Bool) → length u + n ≡ k → undecided_from ends k n u ≡ undecided_at ends n (first_of k u)
by_numbers ends k zero u e = refl
by_numbers ends k (suc n) u e =
    let l = by_numbers ends k n (u ++ false ∷ []) (length-push u false n k e) in
    let r = by_numbers ends k n (u ++ true ∷ []) (length-push u true n k e) in
    let p : first_of k (u ++ false ∷ []) ≡ first_of k u = first-push k n u false e ∙ omega arith in
    let q : first_of k (u ++ true ∷ []) ≡ first_of k u + 2 ^ n = first-push k n u true e ∙ omega arith in
    ap (λ m. cond (have_one_class ends (first_of k u) (2 ^ m)) 0 (2 ^ suc n) + (undecided_from ends k n (u ++ false ∷ []) + undecided_from ends k n (u ++ true ∷ []))) (free_of u (suc n) k e)
    ∙ ap (λ x. cond (have_one_class ends (first_of k u) (2 ^ suc n)) 0 (2 ^ suc n) + (x + undecided_from ends k n (u ++ true ∷ []))) (l ∙ ap (undecided_at ends n) p)
    ∙ ap (λ x. cond (have_one_class ends (first_of k u) (2 ^ suc n)) 0 (2 ^ suc n) + (undecided_at ends n (first_of k u) + x)) (r ∙ ap (undecided_at ends n) q)

at_most : (b : Bool) (P x y n H : ℕ) → P ≡ H + H → x ≤ n * H → y ≤ n * H → cond b 0 P + (x + y) ≤ suc n * P
at_most true P x y n H e a b = let z = ap (λ x. n * x) e in omega arith
at_most false P x y n H e a b = let z = ap (λ x. n * x) e in omega arith

pub undecided_most : (ends : List ℕ) (n first : ℕ) → undecided_at ends n first ≤ n * 2 ^ n
undecided_most ends zero first = omega arith
undecided_most ends (suc n) first = at_most (have_one_class ends first (2 ^ suc n)) (2 ^ suc n) _ _ n (2 ^ n) (two_more n) (undecided_most ends n first) (undecided_most ends n (first + 2 ^ n))

-- a stretch of one class has no more in it
pub none_inside : (ends : List ℕ) (n first : ℕ) → have_one_class ends first (2 ^ n) ≡ true → undecided_at ends n first ≡ 0
none_inside ends zero first t = refl
none_inside ends (suc n) first t =
    let h : have_one_class ends first (2 ^ n + 2 ^ n) ≡ true = ap (have_one_class ends first) (sym (two_more n)) ∙ t in
    rw (t, none_inside ends n first (first_half ends first (2 ^ n) h), none_inside ends n (first + 2 ^ n) (second_half ends first (2 ^ n) (pow_pos n) h)) (omega arith)

-- ---- as the code has it
pub depth_most : (depth half l r : ℕ) → 1 ≤ depth → half ≡ 2 ^ (depth - 1) → l ≤ (depth - 1) * 2 ^ (depth - 1) → r ≤ (depth - 1) * 2 ^ (depth - 1) → 2 * half + l + r ≤ depth * 2 ^ depth
depth_most zero half l r some h a b = absurd (omega arith)
depth_most (suc n) half l r some h a b =
    let e : suc n - 1 ≡ n = omega arith in
    rw (two_more n) (joined n half (2 ^ n) l r (h ∙ ap (λ n. 2 ^ n) e) (rw (← e) a) (rw (← e) b))
  where
    joined : (n half H l r : ℕ) → half ≡ H → l ≤ n * H → r ≤ n * H → 2 * half + l + r ≤ suc n * (H + H)
    joined n half H l r h a b = omega arith

pub attempt_is : (ends : List ℕ) (k b n : ℕ) → b ≡ last_end ends → k ≡ bits_for b → n ≡ undecided_at ends k 0 → n ≡ (attempt_bits ends).0
attempt_is ends k b n e h v =
    let q : k ≡ number_bits ends = h ∙ ap bits_for e in
    let z : 0 + number_bits ends ≡ number_bits ends = omega arith in
    let first : first_of (number_bits ends) [] ≡ 0 = omega arith in
    v ∙ ap (λ k. undecided_at ends k 0) q ∙ sym (by_numbers ends (number_bits ends) (number_bits ends) [] z ∙ ap (undecided_at ends (number_bits ends)) first)

pub depth_below : (depth half less r : ℕ) → 1 ≤ depth → half ≡ 2 ^ (depth - 1) → less ≡ depth - 1 → r ≤ (depth - 1) * 2 ^ (depth - 1) → 2 * half + less * half + r ≤ depth * 2 ^ depth
depth_below zero half less r some h k a = absurd (omega arith)
depth_below (suc n) half less r some h k a =
    let e : suc n - 1 ≡ n = omega arith in
    rw (two_more n) (joined n half (2 ^ n) less r (h ∙ ap (λ n. 2 ^ n) e) (k ∙ e) (rw (← e) a))
  where
    joined : (n half H less r : ℕ) → half ≡ H → less ≡ n → r ≤ n * H → 2 * half + less * half + r ≤ suc n * (H + H)
    joined n half H less r h k a = rw (h, k) (omega arith)
