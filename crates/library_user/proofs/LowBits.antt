-- The lowest bits of a word, from the front.
use Rattle.std.proofs.Common.{◌≡◌, ℕ, zero, suc, ◌-◌, ◌/◌, ◌%◌, ◌^◌, ◌==◌, ◌≤◌, ◌<◌, [], ◌∷◌, drop, refl, subst, arith}
use Rattle.zar_io.specs.FileBits.{low_bits}

pub none_left : (k w : ℕ) → k ≡ 0 → low_bits k w ≡ []
unfolding low_bits
none_left zero w e = refl
none_left (suc k) w e = absurd (omega (arith, e))

pub first_bit : (k w : ℕ) → 0 < k → low_bits k w ≡ (w / 2 ^ (k - 1) % 2 == 1) ∷ low_bits (k - 1) w
unfolding low_bits
first_bit zero w some = absurd (omega (arith, some))
first_bit (suc k) w some = let e : k ≡ suc k - 1 = omega arith in subst (λ n. low_bits (suc k) w ≡ (w / 2 ^ n % 2 == 1) ∷ low_bits n w) e refl

pub without_first : (n k w : ℕ) → n ≤ k → low_bits (k - n) w ≡ drop n (low_bits k w)
unfolding low_bits
without_first zero k w le = let e : k ≡ k - 0 = omega arith in subst (λ m. low_bits m w ≡ low_bits k w) e refl
without_first (suc n) zero w le = absurd (omega (arith, le))
without_first (suc n) (suc k) w le =
    let e : k - n ≡ suc k - suc n = omega arith in
    subst (λ m. low_bits m w ≡ drop n (low_bits k w)) e (without_first n k w (omega (arith, le)))
