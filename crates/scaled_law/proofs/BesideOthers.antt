-- A mass lies between its units at least beside what others have at most, and the reverse.
use Rattle.std.proofs.Common.{◌≡◌, ◌⊎◌, inl, inr, ℕ, zero, suc, ◌+◌, ◌-◌, ◌*◌, ◌≤◌, ◌<◌, Bool, true, Option, ap, arith, le_refl}
use Rattle.std.specs.Prelude.{not}
use Rattle.std.proofs.Math.Nat.{mul-le-mul_left, mul-le-mul_right}
use Rattle.std.proofs.lemmas.Bool.{cases_lt}
use Rattle.numbers.proofs.Divisors.{product_pos}
use Rattle.gcl_core.specs.declared.answers.Outcome.{Outcome}
use Rattle.gcl_core.specs.meaning.Checked.{IsChecked}
use Rattle.gcl_core.specs.meaning.Syntax.{SourceProgram}
use Rattle.gcl_core.specs.weighing.Fractions.{IsBelowOne}
use Rattle.gcl_core.specs.weighing.Mass.{round_mass, failed_mass}
use Rattle.units_law.proofs.OneRound.{parted}
use Rattle.units_law.proofs.Orders.{from_left}
use Rattle.scaled_law.specs.Given.{least_of, most_of, AreWithin, AreEnough, LiesBetween}
use Rattle.scaled_law.specs.Scaled.{Scaled}

-- units of a share of N, within it and enough for it
share_low : (N A m0 m1 L S d : ℕ) → 0 < m1 → m1 * A ≡ m0 * N → L * (d * m1) ≤ m0 * S → L * d * N ≤ A * S
share_low N A m0 m1 L S d some e h = from_left m1 (L * d * N) (A * S) some (let x = mul-le-mul_right N h in let y = ap (λ t. t * S) e in omega arith)

share_high : (N B n0 n1 H S d : ℕ) → 0 < n1 → n1 * B ≡ n0 * N → n0 * S ≤ H * (d * n1) → B * S ≤ H * d * N
share_high N B n0 n1 H S d some e h = from_left n1 (B * S) (H * d * N) some (let x = mul-le-mul_right N h in let y = ap (λ t. t * S) e in omega arith)

-- where a of N are x of S units, and y of them others: a times the others is no more than x times theirs
crossed : (N S d a b x y : ℕ) → 0 < N → 0 < S → 0 < d → a * d * N ≤ x * S → y * S ≤ b * d * N → a * y ≤ x * b
crossed N S d a b x y p q r h k =
    let m = product_pos (d * N) S (product_pos d N r p) q in
    from_left (d * N * S) (a * y) (x * b) m (let u = mul-le-mul_right (y * S) h in let v = mul-le-mul_left (x * S) k in omega arith)

module _ (N A B F m0 m1 f0 f1 : ℕ) (some : 0 < N) (e : m1 * A ≡ m0 * N) (f : f1 * F ≡ f0 * N) (all : A + B + F ≡ N) (passes : f0 < f1) where
  passing : (d : ℕ) → f1 ≡ f0 + d → (A + B) * f1 ≡ N * d
  passing d g = let x = ap (λ t. f1 * t) all in let y = ap (λ t. t * N) g in omega arith

  low_part : (L H : ℕ) → L * B ≤ A * H → L * (m1 * (f1 - f0)) ≤ m0 * f1 * (L + H)
  low_part L H h = by (f1 - f0) (omega (arith, passes))
    where
      by : (d : ℕ) → f1 ≡ f0 + d → L * (m1 * d) ≤ m0 * f1 * (L + H)
      by d g =
          let y = mul-le-mul_left (m1 * f1) h in
          let z = ap (λ t. L * m1 * t) (passing d g) in
          let w = ap (λ t. f1 * (L + H) * t) e in
          from_left N (L * (m1 * d)) (m0 * f1 * (L + H)) some (omega arith)

  high_part : (H L : ℕ) → L * A ≤ B * H → m0 * f1 * (H + L) ≤ H * (m1 * (f1 - f0))
  high_part H L h = by (f1 - f0) (omega (arith, passes))
    where
      by : (d : ℕ) → f1 ≡ f0 + d → m0 * f1 * (H + L) ≤ H * (m1 * d)
      by d g =
          let y = mul-le-mul_left (m1 * f1) h in
          let z = ap (λ t. H * m1 * t) (passing d g) in
          let w = ap (λ t. f1 * (H + L) * t) e in
          from_left N (m0 * f1 * (H + L)) (H * (m1 * d)) some (omega arith)

module _ (p : SourceProgram) (n : ℕ) (r : Option ℕ) (ok : IsChecked p) (all_turns : Bool) (last : Scaled) (whole : 0 < last.scale.0) (fraction : 0 < last.scale.1)
    (within : (meant : Outcome → Bool) → AreWithin last.scale (least_of p all_turns meant last) (round_mass p n r meant)) where
  -- where a unit passes, a round fails with probability below 1
  pub a_unit_passes : 0 < least_of p all_turns (λ x. true) last → IsBelowOne (failed_mass p n r)
  a_unit_passes unit =
      let a = parted p ok n n (le_refl n) r (λ x. true) in
      let m = round_mass p n r (λ x. true) in
      let f = failed_mass p n r in
      let L = least_of p all_turns (λ x. true) last in
      let l = share_low a.scale a.given m.0 m.1 L last.scale.0 last.scale.1 a.given_fraction a.given_share (within (λ x. true)) in
      less a.scale a.given a.failing f.0 f.1 (some_given a.scale a.given L last.scale.0 last.scale.1 a.positive unit fraction l) a.failing_fraction a.failing_share (let x = a.all in omega arith)
    where
      some_given : (N A L S d : ℕ) → 0 < N → 0 < L → 0 < d → L * d * N ≤ A * S → 0 < A
      some_given N zero L S d p q r h = let x = product_pos (L * d) N (product_pos L d q r) p in absurd (omega arith)
      some_given N (suc A) L S d p q r h = omega arith

      less : (N A F f0 f1 : ℕ) → 0 < A → 0 < f1 → f1 * F ≡ f0 * N → A + F ≤ N → f0 < f1
      less N A F f0 f1 a p e h = by (cases_lt f0 f1)
        where
          by : (f0 < f1) ⊎ (f1 ≤ f0) → f0 < f1
          by (inl h) = h
          by (inr k) =
              let x = mul-le-mul_right N k in
              let y : f1 * (F + 1) ≤ f1 * N = mul-le-mul_left f1 (omega (arith, a)) in
              absurd (omega arith)

  pub lies_between : ((meant : Outcome → Bool) → AreEnough last.scale (most_of p all_turns meant last) (round_mass p n r meant)) → IsBelowOne (failed_mass p n r) → (meant : Outcome → Bool) → LiesBetween p n r all_turns last meant
  lies_between enough passes meant =
      let others = λ (x : Outcome). not (meant x) in
      let a = parted p ok n n (le_refl n) r meant in
      let m = round_mass p n r meant in
      let o = round_mass p n r others in
      let f = failed_mass p n r in
      let S = last.scale.0 in
      let d = last.scale.1 in
      let L = least_of p all_turns meant last in
      let H = most_of p all_turns meant last in
      let L' = least_of p all_turns others last in
      let H' = most_of p all_turns others last in
      record {
        from_below = low_part a.scale a.given a.others a.failing m.0 m.1 f.0 f.1 a.positive a.given_share a.failing_share a.all passes L H'
            (crossed a.scale S d L H' a.given a.others a.positive whole fraction (share_low a.scale a.given m.0 m.1 L S d a.given_fraction a.given_share (within meant)) (share_high a.scale a.others o.0 o.1 H' S d a.others_fraction a.others_share (enough others)));
        from_above = high_part a.scale a.given a.others a.failing m.0 m.1 f.0 f.1 a.positive a.given_share a.failing_share a.all passes H L'
            (crossed a.scale S d L' H a.others a.given a.positive whole fraction (share_low a.scale a.others o.0 o.1 L' S d a.others_fraction a.others_share (within others)) (share_high a.scale a.given m.0 m.1 H S d a.given_fraction a.given_share (enough meant)));
      }
