-- The program's products that are rounded up are no less than their weights, and have no unit where these are nothing.
use Rattle.std.proofs.Common.{◌≡◌, ◌⊎◌, inl, inr, ℕ, zero, suc, ◌+◌, ◌-◌, ◌*◌, ◌^◌, ◌≤◌, ◌<◌, Option, Some, None, refl, ap, arith, ⊎_elim}
use Rattle.std.specs.Int.{div_ceil}
use Rattle.std.proofs.lemmas.Bool.{cases_lt}
use Rattle.std.proofs.lemmas.Grind.{div_ceil_times}
use Rattle.std.proofs.Math.Nat.{mul-le-mul_left, pow-zero, pow-suc, div-mul-le_self}
use Rattle.numbers.specs.declared.units.TheConstants.{ALL}
use Rattle.numbers.specs.Units.{shared_up, power_down, power_up}
use Rattle.gcl_core.specs.meaning.Draw.{bits_for, rejected_numbers, strings_to_a_number}
use Rattle.gcl_core.specs.weighing.WeightedEnds.{class_weight, no_class_weight}
use Rattle.table_flow.proofs.Draws.{power_pos, parts_add_up}
use Rattle.units_law.specs.Down.{again_down, again_up}
use Rattle.units_law.proofs.Orders.{from_left}
use Rattle.units_law.proofs.Powers.{some_all, power_below, power_above}
use Rattle.scaled_law.specs.Up.{RoundsUp, share_up, rest_up, up}

ceil_high : (m d : ℕ) → 0 < d → m ≤ div_ceil m d * d
ceil_high m d p = (div_ceil_times m d p).0

ceil_none : (m d : ℕ) → 0 < d → m ≡ 0 → div_ceil m d ≡ 0
ceil_none m d p e = by (div_ceil m d) (div_ceil_times m d p).1 e
  where
    by : (t : ℕ) → t * d < m + d → m ≡ 0 → t ≡ 0
    by zero x e = refl
    by (suc t) x e = absurd (omega arith)

-- ---- over plain numbers: P is at most the power of D that is Q / D, and b * s + Q ≡ D

left_enough : (S D Q P t : ℕ) → t + Q ≡ D → P * D ≤ Q * S → t * S ≤ D * (S - P)
left_enough S D Q P t e h =
    ⊎_elim
    (λ (less : P < S). let z : S - P + P ≡ S = omega arith in let x = ap (λ y. D * y) z in let y = ap (λ u. u * S) e in omega arith)
    (λ (more : S ≤ P). let z : S - P ≡ 0 = omega arith in let x = ap (λ y. D * y) z in let y = ap (λ u. u * S) e in let v = mul-le-mul_left D more in omega arith)
    (cases_lt P S)

share_enough : (S D z X Y b c s w : ℕ) → 0 < b → 0 < S → b * s * S ≤ D * z → w * z ≤ X * S → X * c ≤ Y * b → c * s * w ≤ D * Y
share_enough S D z X Y b c s w p q h k l =
    let x = mul-le-mul_left (D * S) l in
    let y = mul-le-mul_left (D * c) k in
    let u = mul-le-mul_left (c * w) h in
    from_left b (c * s * w) (D * Y) p (from_left S (b * (c * s * w)) (b * (D * Y)) q (omega arith))

rest_enough : (S D Q P R w : ℕ) → 0 < S → Q * S ≤ P * D → w * P ≤ R * S → Q * w ≤ D * R
rest_enough S D Q P R w p h k = let x = mul-le-mul_left D k in let y = mul-le-mul_left w h in from_left S (Q * w) (D * R) p (omega arith)

-- ---- where nothing is decided

either_none : (a b : ℕ) → a * b ≡ 0 → (a ≡ 0) ⊎ (b ≡ 0)
either_none zero b e = inl refl
either_none (suc a) zero e = inr refl
either_none (suc a) (suc b) e = absurd (omega arith)

module _ (b : ℕ) (some : 0 < b) (r : ℕ) where
  abbrev k : ℕ
  k = bits_for b

  abbrev q : ℕ
  q = rejected_numbers b

  abbrev s : ℕ
  s = strings_to_a_number k q r

  abbrev D : ℕ
  D = 2 ^ (k * r)

  parts : b * s + q ^ r ≡ D
  parts = parts_add_up b (Some r)

  again_low : again_down b * 2 ^ k ≤ q * ALL
  again_low = div-mul-le_self (q * ALL) (2 ^ k)

  again_high : q * ALL ≤ again_up b * 2 ^ k
  again_high = ceil_high (q * ALL) (2 ^ k) (power_pos k)

  share_above : (c w : ℕ) → c * s * w ≤ D * share_up b (Some r) c w
  share_above c w =
      let P = power_down (again_down b) r in
      let X = shared_up w (ALL - P) in
      share_enough ALL D (ALL - P) X (div_ceil (X * c) b) b c s w some some_all
      (left_enough ALL D (q ^ r) P (b * s) parts (power_below k q (again_down b) again_low r)) (ceil_high (w * (ALL - P)) ALL some_all) (ceil_high (X * c) b some)

  rest_above : (w : ℕ) → q ^ r * w ≤ D * rest_up b (Some r) w
  rest_above w =
      let P = power_up (again_up b) r in
      rest_enough ALL D (q ^ r) P (shared_up w P) w some_all (power_above k q (again_up b) again_high r) (ceil_high (w * P) ALL some_all)

  -- where the weight is nothing
  shared_none : (u w : ℕ) → u * w ≡ 0 → shared_up u w ≡ 0
  shared_none u w e = ceil_none (u * w) ALL some_all e

  again_none : q ≡ 0 → again_up b ≡ 0
  again_none e = ceil_none (q * ALL) (2 ^ k) (power_pos k) (rw e refl)

  power_none : (t : ℕ) → q ^ t ≡ 0 → power_up (again_up b) t ≡ 0
  power_none zero e = let x = pow-zero q in absurd (omega arith)
  power_none (suc t) e =
      ⊎_elim
      (λ (h : q ≡ 0). shared_none (again_up b) (power_up (again_up b) t) (rw (again_none h) (omega arith)))
      (λ (h : q ^ t ≡ 0). shared_none (again_up b) (power_up (again_up b) t) (rw (power_none t h) (omega arith)))
      (either_none q (q ^ t) (let x = pow-suc q t in omega arith))

  undecided : (t : ℕ) → strings_to_a_number k q t ≡ 0 → ALL - power_down (again_down b) t ≡ 0
  undecided zero e = omega arith
  undecided (suc t) e = let x = power_pos (k * t) in absurd (omega arith)

  no_share_above : (c w : ℕ) → c * s * w ≡ 0 → share_up b (Some r) c w ≡ 0
  no_share_above c w e =
      let P = power_down (again_down b) r in
      let X = shared_up w (ALL - P) in
      ceil_none (X * c) b some
      (⊎_elim
      (λ (h : c * s ≡ 0). ⊎_elim
      (λ (i : c ≡ 0). rw i (omega arith))
      (λ (i : s ≡ 0). rw (shared_none w (ALL - P) (rw (undecided r i) (omega arith))) (omega arith)) (either_none c s h))
      (λ (h : w ≡ 0). rw (shared_none w (ALL - P) (rw h (omega arith))) (omega arith)) (either_none (c * s) w e))

  no_rest_above : (w : ℕ) → q ^ r * w ≡ 0 → rest_up b (Some r) w ≡ 0
  no_rest_above w e =
      let P = power_up (again_up b) r in
      shared_none w P (⊎_elim (λ (h : q ^ r ≡ 0). rw (power_none r h) (omega arith)) (λ (h : w ≡ 0). rw h (omega arith)) (either_none (q ^ r) w e))

pub rounds_up : RoundsUp up
rounds_up = record { shares = shares; rests = rests; no_share = no_share; no_rest = no_rest }
  where
    shares : (b : ℕ) (r : Option ℕ) (c w : ℕ) → 0 < b → (class_weight b r c).0 * w ≤ (class_weight b r c).1 * share_up b r c w
    shares b None c w p = let x = ceil_high (w * c) b p in omega arith
    shares b (Some r) c w p = share_above b p r c w

    rests : (b : ℕ) (r : Option ℕ) (w : ℕ) → 0 < b → (no_class_weight b r).0 * w ≤ (no_class_weight b r).1 * rest_up b r w
    rests b None w p = omega arith
    rests b (Some r) w p = rest_above b p r w

    no_share : (b : ℕ) (r : Option ℕ) (c w : ℕ) → 0 < b → (class_weight b r c).0 * w ≡ 0 → share_up b r c w ≡ 0
    no_share b None c w p e = ceil_none (w * c) b p (omega arith)
    no_share b (Some r) c w p e = no_share_above b p r c w e

    no_rest : (b : ℕ) (r : Option ℕ) (w : ℕ) → 0 < b → (no_class_weight b r).0 * w ≡ 0 → rest_up b r w ≡ 0
    no_rest b None w p e = refl
    no_rest b (Some r) w p e = no_rest_above b p r w e
