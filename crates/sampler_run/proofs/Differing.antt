-- The first bit, from the most significant on, at which a number differs from a smaller one.
use Rattle.std.proofs.Common.{◌≡◌, ⊎_elim, ℕ, suc, ◌+◌, ◌-◌, ◌*◌, ◌/◌, ◌^◌, ◌<◌, ◌≤◌, sym, ap, ◌∙◌, subst, arith}
use Rattle.std.specs.Prelude.{bit_xor}
use Rattle.std.specs.Int.Bits.{xor_self, xor_add_and}
use Rattle.std.specs.Int.Count.{count_leading_zeros}
use Rattle.std.proofs.lemmas.Bool.{cases_lt}
use Rattle.std.proofs.lemmas.Nat.{leading_top, le-div, mul-le, pow_pos, xor_shr, and_le_l, and_le_r}
use Rattle.std.proofs.Math.Nat.{div-eq_of_lt, div-mul-le_self, lt-div-mul-add, pow-le-pow_right}

-- the place of that bit
pub record DifferAt (a b j : ℕ) : Type 0 where
  pub before : a / 2 ^ suc j ≡ b / 2 ^ suc j
  pub there : b / 2 ^ j < a / 2 ^ j

alike : (a b : ℕ) → bit_xor a b ≡ 0 → a ≡ b
alike a b none = let sum = xor_add_and a b in let left = and_le_l a b in let right = and_le_r a b in omega (arith, none, sum, left, right)

some_differs : (a b : ℕ) → b < a → 0 < bit_xor a b
some_differs a b lt =
    ⊎_elim
    (λ (some : 0 < bit_xor a b). some)
    (λ (none : bit_xor a b ≤ 0). let e = alike a b (omega (arith, none)) in absurd (omega (arith, e)))
    (cases_lt 0 (bit_xor a b))

pub power_le : (j k : ℕ) → j ≤ k → 2 ^ j ≤ 2 ^ k
power_le j k le = let two : 0 < 2 = omega arith in pow-le-pow_right {n = 2} two le

place_below : (x j need : ℕ) → 2 ^ j ≤ x → x < 2 ^ need → j < need
place_below x j need ge lt =
    ⊎_elim
    (λ (below : j < need). below)
    (λ (over : need ≤ j). let p = power_le need j over in absurd (omega (arith, p)))
    (cases_lt j need)

in_order : (a b j : ℕ) → b < a → b / 2 ^ j ≤ a / 2 ^ j
in_order a b j lt = let part = div-mul-le_self b (2 ^ j) in le-div (b / 2 ^ j) a (2 ^ j) (pow_pos j) (omega (arith, part))

differ_at : (a b j : ℕ) → b < a → 2 ^ j ≤ bit_xor a b → bit_xor a b < 2 ^ suc j → DifferAt a b j
differ_at a b j lt ge small = record {
  before = alike (a / 2 ^ suc j) (b / 2 ^ suc j) (sym (xor_shr a b (suc j)) ∙ div-eq_of_lt small);
  there =
      ⊎_elim
      (λ (less : b / 2 ^ j < a / 2 ^ j). less)
      (λ (over : a / 2 ^ j ≤ b / 2 ^ j).
      let order = in_order a b j lt in
      let same : a / 2 ^ j ≡ b / 2 ^ j = omega (arith, over, order) in
      let none : bit_xor a b / 2 ^ j ≡ 0 = xor_shr a b j ∙ ap (λ n. bit_xor n (b / 2 ^ j)) same ∙ xor_self (b / 2 ^ j) in
      let one : 1 ≤ bit_xor a b / 2 ^ j = le-div 1 (bit_xor a b) (2 ^ j) (pow_pos j) (omega (arith, ge)) in
      absurd (omega (arith, none, one)))
      (cases_lt (b / 2 ^ j) (a / 2 ^ j));
}

-- how many bits of a number are left where those before show that it is not below the bound
pub record IsFirstAbove (bound number need rest : ℕ) : Type 0 where
  pub left : rest < need
  pub above : bound ≤ number / 2 ^ rest * 2 ^ rest
  pub below : number / 2 ^ (rest + 1) * 2 ^ (rest + 1) < bound

above_there : (bound number j : ℕ) → 0 < bound → (bound - 1) / 2 ^ j < number / 2 ^ j → bound ≤ number / 2 ^ j * 2 ^ j
above_there bound number j some lt =
    let next = lt-div-mul-add {a = bound - 1} (pow_pos j) in
    let more = mul-le ((bound - 1) / 2 ^ j + 1) (2 ^ j) (number / 2 ^ j) (2 ^ j) (omega (arith, lt)) (omega arith) in
    omega (arith, next, more)

below_before : (bound number j : ℕ) → 0 < bound → number / 2 ^ suc j ≡ (bound - 1) / 2 ^ suc j → number / 2 ^ (j + 1) * 2 ^ (j + 1) < bound
below_before bound number j some same =
    let part = div-mul-le_self (bound - 1) (2 ^ suc j) in
    let e : number / 2 ^ suc j * 2 ^ suc j ≡ (bound - 1) / 2 ^ suc j * 2 ^ suc j = ap (λ q. q * 2 ^ suc j) same in
    let next : j + 1 ≡ suc j = omega arith in
    subst (λ k. number / 2 ^ k * 2 ^ k < bound) (sym next) (omega (arith, part, e))

at_place : (bound number need zeros j : ℕ) → 0 < bound → zeros + suc j ≡ 64 → j < need → DifferAt number (bound - 1) j → IsFirstAbove bound number need (63 - zeros)
at_place bound number need zeros j some place few differ =
    let e : j ≡ 63 - zeros = omega (arith, place) in
    subst (IsFirstAbove bound number need) e (record { left = few; above = above_there bound number j some differ.there; below = below_before bound number j some differ.before })

-- the bits before the last `need` are those of the bound less one
before_alike : (bound number need : ℕ) → 0 < bound → bound ≤ number → number / 2 ^ need * 2 ^ need < bound → number / 2 ^ need ≡ (bound - 1) / 2 ^ need
before_alike bound number need some over before =
    let order = in_order number (bound - 1) need (omega (arith, some, over)) in
    let part = le-div (number / 2 ^ need) (bound - 1) (2 ^ need) (pow_pos need) (omega (arith, before)) in
    omega (arith, order, part)

-- found by the leading zeros of where they differ
pub by_zeros : (bound number need : ℕ) → bound ≤ number → number / 2 ^ need * 2 ^ need < bound → need < 64
    → (count_leading_zeros 64 (bit_xor number (bound - 1)) ≤ 63) × IsFirstAbove bound number need (63 - count_leading_zeros 64 (bit_xor number (bound - 1)))
by_zeros bound number need over before few =
    let x = bit_xor number (bound - 1) in
    let some : 0 < bound = omega (arith, before) in
    let alike_before = before_alike bound number need some over before in
    let none : x / 2 ^ need ≡ 0 = xor_shr number (bound - 1) need ∙ ap (λ n. bit_xor n ((bound - 1) / 2 ^ need)) alike_before ∙ xor_self ((bound - 1) / 2 ^ need) in
    let next = lt-div-mul-add {a = x} (pow_pos need) in
    let zero_part : x / 2 ^ need * 2 ^ need ≡ 0 = ap (λ q. q * 2 ^ need) none ∙ (omega arith) in
    let fits : x < 2 ^ need = omega (arith, next, zero_part) in
    let width = power_le need 64 (omega arith) in
    let top = leading_top 64 x (some_differs number (bound - 1) (omega arith)) (omega (arith, fits, width)) in
    (omega (arith, top.1), at_place bound number need _ top.0 some top.1 (place_below x top.0 need top.2 fits) (differ_at number (bound - 1) top.0 (omega arith) top.2 top.3))
