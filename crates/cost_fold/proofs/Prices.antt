-- The bits of a draw, as a whole number of parts, and how many they are at most.
use Rattle.std.proofs.Common.{◌≡◌, ℕ, zero, suc, ◌+◌, ◌-◌, ◌*◌, ◌^◌, ◌≤◌, ◌<◌, List, [], ◌∷◌, Some, sym, ap, ◌∙◌, arith}
use Rattle.std.proofs.lemmas.Nat.{pow-add, pow_pos}
use Rattle.std.proofs.Math.Nat.{mul-le-mul_left, mul-le-mul_right, le_of_mul-le-mul_left}
use Rattle.gcl_core.specs.meaning.Draw.{bits_for, last_end, rejected_numbers, strings_to_a_number}
use Rattle.gcl_core.specs.weighing.Fractions.{power_sum}
use Rattle.gcl_core.specs.weighing.WeightedEnds.{class_weight}
use Rattle.cost_law.specs.ExpectedBits.{number_bits, attempt_bits, again_weight, draw_bits}
use Rattle.attempt_bits.proofs.Stretches.{by_numbers, undecided_most}
use Rattle.table_flow.specs.Scale.{whole, Whole}
use Rattle.table_flow.proofs.Wholes.{whole_from}
use Rattle.mass_fold.specs.Metering.{IsPriced, Priced, price}
use Rattle.cost_fold.specs.Spread.{most_bits}
use Rattle.numbers.proofs.Divisors.{cancel}
use Rattle.table_flow.specs.Tables.{ReachedDraws}

module _ (ends : List ℕ) where
  abbrev k : ℕ
  k = number_bits ends

  abbrev q : ℕ
  q = rejected_numbers (last_end ends)

  abbrev U : ℕ
  U = (attempt_bits ends).0

  abbrev S : ℕ → ℕ
  S r = strings_to_a_number k q r

  more_bits : (r : ℕ) → 2 ^ (k * suc r) ≡ 2 ^ k * 2 ^ (k * r)
  more_bits r = let p : k * suc r ≡ k + k * r = omega arith in ap (λ n. 2 ^ n) p ∙ pow-add 2 k (k * r)

  -- the sum of the weights of being rejected, by the strings that are read to one number
  sum_strings : (r : ℕ) → (power_sum (again_weight ends) r).0 * 2 ^ (k * r) ≡ 2 ^ k * S r * (power_sum (again_weight ends) r).1
  sum_strings zero = omega arith
  sum_strings (suc r) =
      let p = power_sum (again_weight ends) r in
      rw (more_bits r) (more (2 ^ k) q (2 ^ (k * r)) (S r) p.0 p.1 (sum_strings r))
    where
      more : (N q D S p0 p1 : ℕ) → p0 * D ≡ N * S * p1 → (1 * (N * p1) + q * p0 * 1) * (N * D) ≡ N * (D + q * S) * (1 * (N * p1))
      more N q D S p0 p1 e = let x = ap (λ z. q * N * z) e in omega arith

  -- the price is the share that the draw's bits are of the whole
  pub price_share : (r M : ℕ) → IsPriced (Some r) M (last_end ends) → (draw_bits ends r).1 * price (Some r) M ends ≡ (draw_bits ends r).0 * M
  price_share r M w =
      let p = power_sum (again_weight ends) r in
      joined U (2 ^ k) p.0 p.1 (2 ^ (k * r)) (S r) (whole M (class_weight (last_end ends) (Some r) 1)) M (pow_pos (k * r)) (sum_strings r) w.one.exact
    where
      joined : (U N p0 p1 D S V M : ℕ) → 0 < D → p0 * D ≡ N * S * p1 → D * V ≡ 1 * S * M → N * p1 * (U * V) ≡ U * p0 * M
      joined U N p0 p1 D S V M pos e f =
          cancel D _ _ pos (let x = ap (λ z. U * M * z) e in let y = ap (λ z. N * p1 * U * z) f in omega arith)

  -- so many bits at most
  few_strings : (r : ℕ) → 2 ^ k * S r ≤ r * 2 ^ (k * r)
  few_strings zero = omega arith
  few_strings (suc r) =
      let again : q ≤ 2 ^ k = omega arith in
      let x = mul-le-mul_left q (few_strings r) in
      let y = mul-le-mul_right (r * 2 ^ (k * r)) again in
      rw (more_bits r) (more (2 ^ k) q (2 ^ (k * r)) (S r) r x y)
    where
      more : (N q D S r : ℕ) → q * (N * S) ≤ q * (r * D) → q * (r * D) ≤ N * (r * D) → N * (D + q * S) ≤ suc r * (N * D)
      more N q D S r x y = omega arith

  few_undecided : U ≤ k * 2 ^ k
  few_undecided = let z : 0 + k ≡ k = omega arith in rw (by_numbers ends k k [] z) (undecided_most ends k _)

  pub price_most : (r M : ℕ) → IsPriced (Some r) M (last_end ends) → price (Some r) M ends ≤ M * (k * r)
  price_most r M w =
      let V = whole M (class_weight (last_end ends) (Some r) 1) in
      let D = 2 ^ (k * r) in
      let a = mul-le-mul_right V few_undecided in
      let b = mul-le-mul_left (k * M) (few_strings r) in
      le_of_mul-le-mul_left {k = D} (joined U k (2 ^ k) D (S r) V M r a b w.one.exact) (pow_pos (k * r))
    where
      joined : (U k N D S V M r : ℕ) → U * V ≤ k * N * V → k * M * (N * S) ≤ k * M * (r * D) → D * V ≡ 1 * S * M → D * (U * V) ≤ D * (M * (k * r))
      joined U k N D S V M r a b e =
          let x = mul-le-mul_left D a in
          let y : D * (k * N * V) ≡ k * M * (N * S) = (let z = ap (λ z. k * N * z) e in omega arith) in
          omega arith

-- ---- a scale at which the parts of each draw are whole
power_whole : (x j g : ℕ) → j ≤ g → Whole (2 ^ g) (x, 2 ^ j)
power_whole x j g le =
    let e : j + (g - j) ≡ g = omega arith in
    (whole_from (2 ^ g) (x, 2 ^ j) (x * 2 ^ (g - j)) (pow_pos j) (turned x (2 ^ j) (2 ^ (g - j)) (2 ^ g) (sym (pow-add 2 j (g - j)) ∙ ap (λ n. 2 ^ n) e))).1
  where
    turned : (x a b c : ℕ) → a * b ≡ c → a * (x * b) ≡ x * c
    turned x a b c e = let z = ap (λ z. x * z) e in omega arith

pub priced_at : (r g : ℕ) (D : ReachedDraws) → most_bits r D ≤ g → Priced (Some r) (2 ^ g) D
priced_at r g [] h = tt
priced_at r g (e ∷ D) h =
    let b = last_end e.1 in
    let le : bits_for b * r ≤ g = omega arith in
    (record { one = power_whole (1 * strings_to_a_number (bits_for b) (rejected_numbers b) r) (bits_for b * r) g le; none = power_whole (rejected_numbers b ^ r) (bits_for b * r) g le }, priced_at r g D (omega arith))
