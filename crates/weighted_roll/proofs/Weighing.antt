-- What the labels weigh, as the code computes it.
use Rattle.std.proofs.Common.{◌≡◌, ℕ, zero, suc, ◌+◌, ◌-◌, ◌*◌, ◌/◌, ◌^◌, ◌≤◌, ◌<◌, Bool, Option, Some, None, List, [], ◌∷◌, ◌++◌, length, get_or, sym, ap, ◌∙◌, arith}
use Rattle.std.proofs.lemmas.Bool.Decides.{nat_tests}
use Rattle.std.specs.List.{sum}
use Rattle.numbers.specs.Divisor.{gcd}
use Rattle.numbers.specs.Fraction.{Fraction, lowest}
use Rattle.numbers.proofs.Divisors.{gcd_is, gcd_pos, coprime_rests, factor_pos, lowest_from}
use native.Mathlib.Nat.{mul-div_cancel'}
use Rattle.weighted_roll.specs.Rollers.{undecided, decided, flips_on, add_strings}
use Rattle.weighted_roll.specs.ExactRollers.{sum_below}
use Rattle.weighted_roll.specs.Shares.{all_flips, flips_expected, share_left, share_of, shares_of, values_below}
use Rattle.weighted_roll.specs.WeightedRoll.{weighted}
use Rattle.weighted_roll.specs.Weights.{AreWeights}
use Rattle.weighted_roll.proofs.Costs.{cost_of}
use Rattle.weighted_roll.proofs.Allowed.{are_below, are_some}
use Rattle.weighted_roll.proofs.Optimality.{optimal}
use Rattle.weighted_roll.proofs.Sums.{sums_same, sums_times}

-- ---- sums, one value more

pub sums_last : (f : ℕ → ℕ) (n : ℕ) → sum_below f (suc n) ≡ sum_below f n + f n
sums_last f zero = omega arith
sums_last f (suc n) = let i = sums_last (λ k. f (suc k)) n in omega arith

sums_more : (f : ℕ → ℕ) (n d : ℕ) → sum_below f n ≤ sum_below f (n + d)
sums_more f n zero = let e : n + 0 ≡ n = omega arith in let p = ap (sum_below f) e in omega arith
sums_more f n (suc d) =
    let e : n + suc d ≡ suc (n + d) = omega arith in
    let p = ap (sum_below f) e in
    let i = sums_more f n d in
    let l = sums_last f (n + d) in
    omega arith

-- ---- the strings that give no label

module _ (ws : List ℕ) (b T : ℕ) (are : AreWeights ws) (e : b ≡ sum ws) where
  abbrev quota_at : ℕ → ℕ
  quota_at i = 2 ^ T * get_or ws i 0 / b

  all_quotas : undecided (weighted ws) T + sum_below quota_at (length ws) ≡ 2 ^ T
  all_quotas = rw e ((optimal ws (are_below ws are) (are_some ws are)).left T)

  module _ (i left : ℕ) (p : left + sum_below quota_at i ≡ 2 ^ T) where
    pub quota_fits : i < length ws → quota_at i ≤ left
    quota_fits lt =
        let n : suc i + (length ws - suc i) ≡ length ws = omega arith in
        let m = sums_more quota_at (suc i) (length ws - suc i) in
        let q = ap (sum_below quota_at) n in
        let l = sums_last quota_at i in
        let a = all_quotas in
        omega arith

    pub quota_taken : (left' : ℕ) → i < length ws → left' ≡ left - quota_at i → left' + sum_below quota_at (i + 1) ≡ 2 ^ T
    quota_taken left' lt f =
        let one : i + 1 ≡ suc i = omega arith in
        let q = ap (sum_below quota_at) one in
        let l = sums_last quota_at i in
        let h = quota_fits lt in
        omega arith

    pub all_taken : i ≡ length ws → left ≡ undecided (weighted ws) T
    all_taken f = let q = ap (sum_below quota_at) f in let a = all_quotas in omega arith

-- ---- the flips

pub one_flip_more : (r : List Bool → Option ℕ) (N : ℕ) → add_strings (flips_on r) (suc N) ≡ 2 * add_strings (flips_on r) N + 2 * undecided r N
one_flip_more r N =
    let a = cost_of r (suc N) in
    let b = cost_of r N in
    let l = sums_last (λ t. 2 ^ (suc N - t) * undecided r t) N in
    let s = sums_same (λ t. 2 ^ (suc N - t) * undecided r t) (λ t. 2 * (2 ^ (N - t) * undecided r t)) N (λ t lt. each t lt) in
    let m = sums_times 2 (λ t. 2 ^ (N - t) * undecided r t) N in
    let e : suc N - N ≡ 1 = omega arith in
    let q = ap (λ d. 2 ^ d * undecided r N) e in
    omega arith
  where
    each : (t : ℕ) → t < N → 2 ^ (suc N - t) * undecided r t ≡ 2 * (2 ^ (N - t) * undecided r t)
    each t lt =
        let e : suc N - t ≡ suc (N - t) = omega arith in
        let p = ap (λ d. 2 ^ d * undecided r t) e in
        let q : 2 ^ suc (N - t) ≡ 2 * 2 ^ (N - t) = omega arith in
        let u = ap (λ y. y * undecided r t) q in
        omega arith

flips_grow : (r : List Bool → Option ℕ) (N d : ℕ) → add_strings (flips_on r) N ≤ add_strings (flips_on r) (N + d)
flips_grow r N zero = let e : N + 0 ≡ N = omega arith in let p = ap (add_strings (flips_on r)) e in omega arith
flips_grow r N (suc d) =
    let e : N + suc d ≡ suc (N + d) = omega arith in
    let p = ap (add_strings (flips_on r)) e in
    let i = flips_grow r N d in
    let o = one_flip_more r (N + d) in
    omega arith

module _ (ws : List ℕ) (t half : ℕ) (p : 2 * half ≡ all_flips ws t) where
  pub half_more : (half' : ℕ) → half' ≡ half * 2 + undecided (weighted ws) t → 2 * half' ≡ all_flips ws (t + 1)
  half_more half' e =
      let one : suc t ≡ t + 1 = omega arith in
      let q = ap (all_flips ws) one in
      let o = one_flip_more (weighted ws) t in
      omega arith

  pub flips_too_many : (T : ℕ) → t < T → 2 ^ 128 ≤ half * 2 + undecided (weighted ws) t → 2 ^ 129 ≤ all_flips ws T
  flips_too_many T lt le =
      let n : suc t + (T - suc t) ≡ T = omega arith in
      let g = flips_grow (weighted ws) (suc t) (T - suc t) in
      let q = ap (all_flips ws) n in
      let o = one_flip_more (weighted ws) t in
      omega arith

-- ---- the fractions

-- a common factor of 2
pub twice_lowest : (a b : ℕ) → 0 < b → lowest (a, b) ≡ lowest (2 * a, 2 * b)
twice_lowest a b pos =
    let g = gcd a b in
    let gpos = gcd_pos a b pos in
    let x : g * (a / g) ≡ a = mul-div_cancel' g (gcd_is a b).0 in
    let y : g * (b / g) ≡ b = mul-div_cancel' g (gcd_is a b).1 in
    let u : 2 * g * (a / g) ≡ 2 * a = omega arith in
    let v : 2 * g * (b / g) ≡ 2 * b = omega arith in
    let two : 0 < 2 * g = omega arith in
    sym (ap (λ n. lowest (n, 2 * b)) (sym u) ∙ ap (λ n. lowest (2 * g * (a / g), n)) (sym v)
    ∙ lowest_from (2 * g) (a / g) (b / g) two (factor_pos g (b / g) b pos y) (coprime_rests a b pos))

pub values_one_more : {A : Type 0} (f : ℕ → A) (n : ℕ) (before after : List A) (x : A) → before ≡ values_below f n → x ≡ f n → after ≡ before ++ x ∷ []
    → after ≡ values_below f (n + 1)
values_one_more f n before after x e g h =
    let one : suc n ≡ n + 1 = omega arith in
    h ∙ ap (λ l. l ++ x ∷ []) e ∙ ap (λ y. values_below f n ++ y ∷ []) g ∙ ap (values_below f) one

pub share_given : (ws : List ℕ) (b T i given : ℕ) → AreWeights ws → b ≡ sum ws → given ≡ 2 ^ T * get_or ws i 0 / b → given ≡ decided (weighted ws) i T
share_given ws b T i given are e f = f ∙ ap (λ b. 2 ^ T * get_or ws i 0 / b) e ∙ sym ((optimal ws (are_below ws are) (are_some ws are)).each i T)

pub wide_limit : (ws : List ℕ) (T : ℕ) → 127 < T → shares_of ws T ≡ None
wide_limit ws T lt = grind (arith, nat_tests)

pub wide_flips : (ws : List ℕ) (T : ℕ) → 2 ^ 129 ≤ all_flips ws T → shares_of ws T ≡ None
wide_flips ws T le = grind (arith, nat_tests)

narrow : (ws : List ℕ) (T half : ℕ) → T ≤ 127 → half < 2 ^ 128 → 2 * half ≡ all_flips ws T
    → shares_of ws T ≡ Some (values_below (share_of ws T) (length ws), share_left ws T, flips_expected ws T)
narrow ws T half le small e = grind (arith, nat_tests)

pub narrow_shares : (ws : List ℕ) (T half left strings : ℕ) (labels : List Fraction) (l f : Fraction) → T ≤ 127 → half < 2 ^ 128 → 2 * half ≡ all_flips ws T
    → labels ≡ values_below (share_of ws T) (length ws) → left ≡ undecided (weighted ws) T → strings ≡ 2 ^ T → l ≡ lowest (left, strings)
    → f ≡ lowest (2 * half, 2 ^ T) → ◌≡◌ {A = Option (List Fraction × Fraction × Fraction)} (Some (labels, l, f)) (shares_of ws T)
narrow_shares ws T half left strings labels l f le small e p q s u v =
    let x : l ≡ share_left ws T = u ∙ ap (λ n. lowest (n, strings)) q ∙ ap (λ n. lowest (undecided (weighted ws) T, n)) s in
    let y : f ≡ flips_expected ws T = v ∙ ap (λ n. lowest (n, 2 ^ T)) e in
    ap (λ (t : List Fraction). as_some t l f) p ∙ ap (λ (t : Fraction). as_some (values_below (share_of ws T) (length ws)) t f) x
    ∙ ap (λ (t : Fraction). as_some (values_below (share_of ws T) (length ws)) (share_left ws T) t) y ∙ sym (narrow ws T half le small e)
  where
    as_some : List Fraction → Fraction → Fraction → Option (List Fraction × Fraction × Fraction)
    as_some a b c = Some (a, b, c)
