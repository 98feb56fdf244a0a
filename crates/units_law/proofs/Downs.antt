-- The program's products are rounded down, and lose few units.
use Rattle.std.proofs.Common.{◌≡◌, ℕ, zero, suc, ◌+◌, ◌-◌, ◌*◌, ◌/◌, ◌%◌, ◌^◌, ◌≤◌, ◌<◌, Option, Some, None, refl, sym, ap, ◌∙◌, arith, ⊎_elim}
use Rattle.std.proofs.lemmas.Bool.{cases_lt}
use Rattle.std.proofs.lemmas.Grind.{div_ceil_times}
use Rattle.std.proofs.lemmas.Nat.{pow-add}
use Rattle.std.proofs.Math.Nat.{mul-le-mul_left, div-mul-le_self, lt-div-mul-add, pow-suc, pow-zero, mul-mod_left, mul-div_left}
use Rattle.numbers.specs.declared.units.TheConstants.{ALL}
use Rattle.numbers.specs.Units.{shared, power_down, power_up}
use Rattle.gcl_core.specs.meaning.Draw.{bits_for, rejected_numbers, strings_to_a_number}
use Rattle.gcl_core.specs.weighing.WeightedEnds.{class_weight, no_class_weight}
use Rattle.gcl_core.proofs.Classes.{bits_enough, bits_le}
use Rattle.table_flow.proofs.Draws.{power_pos, parts_add_up}
use Rattle.units_law.specs.Rounding.{RoundsDown, LosesFew}
use Rattle.units_law.specs.Down.{again_down, again_up, share_of, rest_of, down}
use Rattle.units_law.proofs.Orders.{from_left}
use Rattle.units_law.proofs.Powers.{some_all, less_before, shared_low, shared_near, power_below, power_above, power_down_near, power_up_near}

-- ---- over plain numbers: P is the power of D that is Q / D, and b * s + Q ≡ D

-- what is left of all is a share of b * s
left_most : (S D Q P t : ℕ) → t + Q ≡ D → Q * S ≤ P * D → D * (S - P) ≤ t * S
left_most S D Q P t e h =
    ⊎_elim
    (λ (less : P < S). let z : S - P + P ≡ S = omega arith in let x = ap (λ y. D * y) z in let y = ap (λ u. u * S) e in omega arith)
    (λ (more : S ≤ P). let z : S - P ≡ 0 = omega arith in let x = ap (λ y. D * y) z in omega arith)
    (cases_lt P S)

left_least : (S D Q P t : ℕ) → t + Q ≡ D → P * D ≤ Q * S + 4 * D → t * S ≤ D * (S - P + 4)
left_least S D Q P t e h =
    ⊎_elim
    (λ (less : P < S). let z : S - P + P ≡ S = omega arith in let x = ap (λ y. D * y) z in let y = ap (λ u. u * S) e in omega arith)
    (λ (more : S ≤ P). let z : S - P ≡ 0 = omega arith in let x = ap (λ y. D * y) z in let y = ap (λ u. u * S) e in let v = mul-le-mul_left D more in omega arith)
    (cases_lt P S)

share_low : (S D z X Y b c s w : ℕ) → 0 < b → 0 < S → D * z ≤ b * s * S → X * S ≤ w * z → Y * b ≤ X * c → D * Y ≤ c * s * w
share_low S D z X Y b c s w p q h k l =
    let x = mul-le-mul_left (D * S) l in
    let y = mul-le-mul_left (D * c) k in
    let u = mul-le-mul_left (c * w) h in
    from_left b (D * Y) (c * s * w) p (from_left S (b * (D * Y)) (b * (c * s * w)) q (omega arith))

share_near : (S D z X Y b c s w : ℕ) → 0 < b → 0 < S → c ≤ b → w ≤ S → b * s * S ≤ D * (z + 4) → w * z ≤ X * S + S → X * c ≤ Y * b + b → c * s * w ≤ D * (Y + 6)
share_near S D z X Y b c s w p q m n h k l =
    let x = mul-le-mul_left (c * w) h in
    let y = mul-le-mul_left (c * D) k in
    let u = mul-le-mul_left (4 * c * D) n in
    let v = mul-le-mul_left (D * S) l in
    let t = mul-le-mul_left (5 * D * S) m in
    from_left b (c * s * w) (D * (Y + 6)) p (from_left S (b * (c * s * w)) (b * (D * (Y + 6))) q (omega arith))

rest_low : (S D Q P R w : ℕ) → 0 < S → P * D ≤ Q * S → R * S ≤ w * P → D * R ≤ Q * w
rest_low S D Q P R w p h k = let x = mul-le-mul_left D k in let y = mul-le-mul_left w h in from_left S (D * R) (Q * w) p (omega arith)

rest_near : (S D Q P R w : ℕ) → 0 < S → w ≤ S → Q * S ≤ (P + 4) * D → w * P ≤ R * S + S → Q * w ≤ D * (R + 6)
rest_near S D Q P R w p n h k =
    let x = mul-le-mul_left w h in
    let y = mul-le-mul_left D k in
    let u = mul-le-mul_left (4 * D) n in
    from_left S (Q * w) (D * (R + 6)) p (omega arith)

-- ---- what an attempt is rejected with

module _ (b : ℕ) (some : 0 < b) where
  abbrev k : ℕ
  k = bits_for b

  abbrev q : ℕ
  q = rejected_numbers b

  -- at most half of the numbers are rejected
  half : 2 * q ≤ 2 ^ k
  half = by_bits (bits_for b) refl (bits_enough b)
    where
      by_bits : (n : ℕ) → bits_for b ≡ n → b ≤ 2 ^ n → 2 * (2 ^ bits_for b - b) ≤ 2 ^ bits_for b
      by_bits zero e h = rw (e, pow-zero 2) (omega arith)
      by_bits (suc n) e h =
          let low : 2 ^ n < b = ⊎_elim (λ (less : 2 ^ n < b). less) (λ (more : b ≤ 2 ^ n). let x = bits_le b n more in absurd (omega arith)) (cases_lt (2 ^ n) b) in
          rw (e, pow-suc 2 n) (omega arith)

  again_low : again_down b * 2 ^ k ≤ q * ALL
  again_low = div-mul-le_self (q * ALL) (2 ^ k)

  again_near : q * ALL ≤ again_down b * 2 ^ k + 2 ^ k
  again_near = let x = lt-div-mul-add {a = q * ALL} {b = 2 ^ k} (power_pos k) in omega arith

  again_high : q * ALL ≤ again_up b * 2 ^ k
  again_high = (div_ceil_times (q * ALL) (2 ^ k) (power_pos k)).0

  again_up_near : again_up b * 2 ^ k < q * ALL + 2 ^ k
  again_up_near = (div_ceil_times (q * ALL) (2 ^ k) (power_pos k)).1

  down_most : again_down b ≤ ALL
  down_most = bounded ALL (2 ^ k) q (again_down b) (power_pos k) half again_low
    where
      bounded : (S M q d : ℕ) → 0 < M → 2 * q ≤ M → d * M ≤ q * S → d ≤ S
      bounded S M q d p h l = let x = mul-le-mul_left S h in from_left M d S p (omega arith)

  up_most : again_up b ≤ ALL
  up_most = bounded ALL (2 ^ k) q (again_up b) (power_pos k) half again_up_near
    where
      bounded : (S M q u : ℕ) → 0 < M → 2 * q ≤ M → u * M < q * S + M → u ≤ S
      bounded S M q u p h l = let x = mul-le-mul_left S h in let y : u < S + 1 = less_before u (S + 1) M (omega arith) in omega arith

  module _ (r : ℕ) where
    abbrev D : ℕ
    D = 2 ^ (k * r)

    parts : b * strings_to_a_number k q r + q ^ r ≡ D
    parts = parts_add_up b (Some r)

    pub share_down : (c w : ℕ) → D * share_of b (Some r) c w ≤ c * strings_to_a_number k q r * w
    share_down c w =
        let P = power_up (again_up b) r in
        let X = shared w (ALL - P) in
        share_low ALL D (ALL - P) X (X * c / b) b c (strings_to_a_number k q r) w some some_all
        (left_most ALL D (q ^ r) P (b * strings_to_a_number k q r) parts (power_above k q (again_up b) again_high r)) (shared_low w (ALL - P)) (div-mul-le_self (X * c) b)

    pub share_few : (c w : ℕ) → c ≤ b → w ≤ ALL → c * strings_to_a_number k q r * w ≤ D * (share_of b (Some r) c w + 6)
    share_few c w m n =
        let P = power_up (again_up b) r in
        let X = shared w (ALL - P) in
        let l = lt-div-mul-add {a = X * c} {b = b} some in
        let u = again_up_near in
        share_near ALL D (ALL - P) X (X * c / b) b c (strings_to_a_number k q r) w some some_all m n
        (left_least ALL D (q ^ r) P (b * strings_to_a_number k q r) parts (power_up_near k q half (again_up b) up_most (omega arith) r)) (shared_near w (ALL - P)) (omega arith)

    pub rest_down : (w : ℕ) → D * rest_of b (Some r) w ≤ q ^ r * w
    rest_down w = let P = power_down (again_down b) r in rest_low ALL D (q ^ r) P (shared w P) w some_all (power_below k q (again_down b) again_low r) (shared_low w P)

    pub rest_few : (w : ℕ) → w ≤ ALL → q ^ r * w ≤ D * (rest_of b (Some r) w + 6)
    rest_few w n = let P = power_down (again_down b) r in rest_near ALL D (q ^ r) P (shared w P) w some_all n (power_down_near k q half (again_down b) down_most again_near r) (shared_near w P)

pub rounds_down : RoundsDown down
rounds_down = record { shares = shares; rests = rests }
  where
    shares : (b : ℕ) (r : Option ℕ) (c w : ℕ) → 0 < b → (class_weight b r c).1 * share_of b r c w ≤ (class_weight b r c).0 * w
    shares b None c w p = let x = div-mul-le_self (w * c) b in omega arith
    shares b (Some r) c w p = share_down b p r c w

    rests : (b : ℕ) (r : Option ℕ) (w : ℕ) → 0 < b → (no_class_weight b r).1 * rest_of b r w ≤ (no_class_weight b r).0 * w
    rests b None w p = omega arith
    rests b (Some r) w p = rest_down b p r w

pub loses_one : LosesFew 1 ALL None down
loses_one = record { shares = λ b c w p m n. shares b c w p; rests = λ b w p n. omega arith }
  where
    shares : (b c w : ℕ) → 0 < b → c * w ≤ b * (w * c / b + 1)
    shares b c w p = let x = lt-div-mul-add {a = w * c} {b = b} p in omega arith

pub loses_six : (r : ℕ) → LosesFew 6 ALL (Some r) down
loses_six r = record { shares = λ b c w p m n. share_few b p r c w m n; rests = λ b w p n. rest_few b p r w n }

-- ---- no rounding where the bits are few

pub again_exact : (b : ℕ) → bits_for b ≤ 120 → (again_down b ≡ rejected_numbers b * 2 ^ (120 - bits_for b)) × (again_up b ≡ rejected_numbers b * 2 ^ (120 - bits_for b))
again_exact b h =
    let M = 2 ^ bits_for b in
    let x = rejected_numbers b * 2 ^ (120 - bits_for b) in
    let e : bits_for b + (120 - bits_for b) ≡ 120 = omega arith in
    let f : M * 2 ^ (120 - bits_for b) ≡ ALL = sym (pow-add 2 (bits_for b) (120 - bits_for b)) ∙ ap (λ t. 2 ^ t) e in
    let g : rejected_numbers b * ALL ≡ x * M = let y = ap (λ t. rejected_numbers b * t) f in omega arith in
    let d : again_down b ≡ x = ap (λ t. t / M) g ∙ mul-div_left x (power_pos (bits_for b)) in
    let m : rejected_numbers b * ALL % M ≡ 0 = ap (λ t. t % M) g ∙ mul-mod_left x M in
    let u : again_up b ≡ x = rw m (omega arith) in
    (d, u)
