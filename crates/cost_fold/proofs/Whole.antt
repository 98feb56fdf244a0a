-- What the fold gives, and what all rounds make of it.
use Rattle.std.proofs.Common.{◌≡◌, ℕ, zero, suc, ◌+◌, ◌-◌, ◌*◌, ◌^◌, ◌≤◌, ◌<◌, Bool, List, [], ◌∷◌, length, Some, None, refl, sym, ap, ◌∙◌, subst, arith}
use Rattle.std.proofs.lemmas.Nat.{pow_pos}
use Rattle.std.proofs.Math.Nat.{one-le-pow, pow-suc, pow-zero, mul-le-mul_left, mul-le-mul_right, le_of_mul-le-mul_left}
use Rattle.gcl_core.specs.declared.answers.Answer.{Answer}
use Rattle.gcl_core.specs.declared.answers.Limits.{Limits}
use Rattle.gcl_core.specs.meaning.Bounds.{BlockIsWeighed}
use Rattle.gcl_core.specs.weighing.Fractions.{Fraction, zero_share, one, times, power_sum}
use Rattle.gcl_core.specs.meaning.Checked.{IsChecked}
use Rattle.gcl_core.specs.weighing.LongestReading.{longest}
use Rattle.gcl_core.specs.weighing.Mass.{is_failed, failed_mass}
use Rattle.gcl_core.specs.meaning.Runs.{run_on}
use Rattle.gcl_core.specs.meaning.Outcomes.{zeros}
use Rattle.gcl_core.specs.meaning.Syntax.{SourceProgram}
use Rattle.gcl_core.specs.weighing.WeightedEnds.{sure}
use Rattle.gcl_core.proofs.Accepted.{checked_weights}
use Rattle.gcl_core.proofs.FittingValues.{zeros_fit}
use Rattle.cost_law.specs.Costing.{CostsExactly}
use Rattle.cost_law.specs.ExpectedBits.{on_average, block_bits, expected_bits}
use Rattle.cost_law.proofs.CostLaw.{costs_exactly, expected_pos}
use Rattle.cost_law.proofs.DrawBits.{draw_bits_pos}
use Rattle.numbers.specs.Fraction.{IsEqual, lowest}
use Rattle.numbers.specs.Arithmetic.{InLowest}
use Rattle.numbers.proofs.Divisors.{product_pos, lowest_equal, lowest_in_lowest, cancel}
use Rattle.table_flow.specs.Scale.{whole, Whole, Wholes, amount, weight}
use Rattle.table_flow.specs.Tables.{Table, peak_of, ReachedDraws}
use Rattle.table_flow.specs.Width.{round_width, denominator}
use Rattle.table_flow.proofs.FlowWords.{draws_of}
use Rattle.table_flow.proofs.AtWidth.{at_width}
use Rattle.table_flow.proofs.Positive.{Positive}
use Rattle.table_flow.proofs.Wholes.{whole_from, whole_multiple}
use Rattle.mass_fold.specs.Body.{RoundBits, IsMass}
use Rattle.mass_fold.specs.Metering.{Priced, price}
use Rattle.mass_fold.specs.Rounds.{geometric, scale_of, IsRepeated, RepeatBlames}
use Rattle.mass_fold.proofs.AllRounds.{same_sums}
use Rattle.mass_fold.proofs.DrawsWhole.{block_whole}
use Rattle.mass_fold.proofs.OutcomeRows.{lowest_is}
use Rattle.mass_fold.proofs.Repeats.{scale_is}
use Rattle.mass_fold.proofs.RoundMasses.{round_positive}
use Rattle.mass_fold.proofs.Transfer.{EachShare, average_amount}
use Rattle.cost_fold.specs.Spread.{most_bits, spread}
use Rattle.cost_fold.proofs.Equal.{average_positive}
use Rattle.cost_fold.proofs.Most.{block_most, DrawsMost}
use Rattle.cost_fold.proofs.Prices.{price_share, priced_at}
use Rattle.cost_fold.proofs.ReachedBits.{cost_of, block_reached}

-- ---- shares of equal fractions
share_along : (p q : Fraction) (X T : ℕ) → 0 < p.1 → IsEqual p q → p.1 * X ≡ p.0 * T → q.1 * X ≡ q.0 * T
share_along p q X T pos e h = cancel p.1 _ _ pos (joined p.0 p.1 q.0 q.1 X T e h)
  where
    joined : (p0 p1 q0 q1 X T : ℕ) → p0 * q1 ≡ q0 * p1 → p1 * X ≡ p0 * T → p1 * (q1 * X) ≡ p1 * (q0 * T)
    joined p0 p1 q0 q1 X T e h = let x = ap (λ z. q1 * z) h in let y = ap (λ z. z * T) e in omega arith

within_along : (p q : Fraction) (X T : ℕ) → 0 < p.1 → IsEqual p q → p.1 * X ≤ p.0 * T → q.1 * X ≤ q.0 * T
within_along p q X T pos e h = le_of_mul-le-mul_left {k = p.1} (joined p.0 p.1 q.0 q.1 X T e h) pos
  where
    joined : (p0 p1 q0 q1 X T : ℕ) → p0 * q1 ≡ q0 * p1 → p1 * X ≤ p0 * T → p1 * (q1 * X) ≤ p1 * (q0 * T)
    joined p0 p1 q0 q1 X T e h = let x = mul-le-mul_left q1 h in let y = ap (λ z. z * T) e in omega arith

costs_along : (run : List Bool → Answer) (p : SourceProgram) (l : Limits) (f g : Fraction) → 0 < f.1 → IsEqual g f → CostsExactly run p l g → CostsExactly run p l f
costs_along run p l f g pos e c =
    let pg : 0 < g.1 = let z = c.fraction in omega arith in
    record {
      within = λ L. within_along g f _ (2 ^ L) pg e (c.within L);
      exact = λ L s. share_along g f _ (2 ^ L) pg e (c.exact L s);
      enough = c.enough;
      fraction = omega arith;
    }

-- ---- sums over rounds
sums_most : (f : Fraction) (k : ℕ) → f.0 ≤ f.1 → geometric f (suc k) ≤ suc k * f.1 ^ k
sums_most f zero h = rw (pow-zero f.1) (omega arith)
sums_most f (suc k) h =
    let x = mul-le-mul_left f.0 (sums_most f k h) in
    let y = mul-le-mul_right (suc k * f.1 ^ k) h in
    rw (pow-suc f.1 k) (more f.0 f.1 (geometric f (suc k)) (f.1 ^ k) k x y)
  where
    more : (a b G D k : ℕ) → a * G ≤ a * (suc k * D) → a * (suc k * D) ≤ b * (suc k * D) → D * b + a * G ≤ suc (suc k) * (D * b)
    more a b G D k x y = omega arith

sum_share : (f g : Fraction) → 0 < f.1 → IsEqual f g → (k : ℕ) → (power_sum g (suc k)).1 * geometric f (suc k) ≡ (power_sum g (suc k)).0 * f.1 ^ k
sum_share f g pos e k =
    let S = power_sum g (suc k) in
    let s = same_sums f g e (suc k) in
    cancel f.1 _ _ pos (s ∙ ap (λ z. S.0 * z) (pow-suc f.1 k) ∙ (let z : S.0 * (f.1 ^ k * f.1) ≡ f.1 * (S.0 * f.1 ^ k) = omega arith in z))

-- ---- one round
shares_of : (r M : ℕ) (D : ReachedDraws) → Priced (Some r) M D → EachShare M (cost_of r) (price (Some r) M) D
shares_of r M [] k = tt
shares_of r M (e ∷ D) k = (price_share e.1 r M k.0, shares_of r M D k.1)

module _ (p : SourceProgram) (l : Limits) (ok : IsChecked p) where
  abbrev n : ℕ
  n = l.turns

  abbrev r : ℕ
  r = l.attempts

  abbrev s : Table
  s = sure (zeros (length p.names))

  abbrev Q : ℕ
  Q = round_width p n (Some r)

  abbrev D : ReachedDraws
  D = draws_of p n (Some r)

  abbrev M : ℕ
  M = 2 ^ most_bits r D

  abbrev N : ℕ
  N = Q * M

  abbrev X : ℕ
  X = amount Q (price (Some r) M) D

  abbrev Long : ℕ
  Long = longest n r p.body

  abbrev body : Fraction
  body = block_bits n r p.body (zeros (length p.names)) (λ s. zero_share)

  w : BlockIsWeighed p.body
  w = checked_weights p ok

  Qp : 0 < Q
  Qp = (at_width p n (Some r) w).positive

  Np : 0 < N
  Np = product_pos Q M Qp (pow_pos (most_bits r D))

  priced : Priced (Some r) M D
  priced = priced_at r (most_bits r D) D (omega arith)

  most : DrawsMost r Q M D (weight Q s) Long
  most = block_most n r Q (peak_of p n (Some r)) M p.body w ok.numbers.body s ((whole_from Q one Q (omega arith) (omega arith)).1, tt) (zeros_fit (length p.names), tt) (at_width p n (Some r) w).within priced

  draws_whole : Wholes Q D
  draws_whole = block_whole n (Some r) Q (peak_of p n (Some r)) p.body s (at_width p n (Some r) w).within

  few : X ≤ N * Long
  few = let a : whole Q one ≡ Q = (whole_from Q one Q (omega arith) (omega arith)).0 in let m = most.most in bounded X (whole Q one) Q M Long a m
    where
      bounded : (X O Q M L : ℕ) → O ≡ Q → X ≤ (O * 1 + 0) * (M * L) → X ≤ Q * M * L
      bounded X O Q M L e h = rw (← e) (omega arith)

  -- the parts that are counted are the share that the body's bits are
  body_share : body.1 * X ≡ body.0 * N
  body_share =
      let a = average_amount Q M (cost_of r) (price (Some r) M) D draws_whole (shares_of r M D priced) in
      let A = on_average D (cost_of r) in
      let B = on_average s (λ s. block_bits n r p.body s (λ s. zero_share)) in
      let e : IsEqual A B = block_reached n r p.body w s (omega arith, tt) in
      let pA : 0 < A.1 = average_of_draws D draws_whole in
      let b = share_along A B X N pA e a in
      alone body.0 body.1 X N b
    where
      positive_of : (D : ReachedDraws) → Wholes Q D → Positive D
      positive_of [] w = tt
      positive_of (e ∷ D) w = (w.0.positive, positive_of D w.1)

      average_of_draws : (D : ReachedDraws) → Wholes Q D → 0 < (on_average D (cost_of r)).1
      average_of_draws D w = average_positive D (cost_of r) (positive_of D w) (λ ends. draw_bits_pos ends r)

      alone : (a b X N : ℕ) → 1 * b * 1 * X ≡ (1 * a * 1 + 0 * (1 * b)) * N → b * X ≡ a * N
      alone a b X N e = omega arith

  -- ---- all rounds
  module _ (f : Fraction) (fe : f ≡ lowest (failed_mass p n (Some r))) (m : IsMass Q f) where
    abbrev g : Fraction
    g = failed_mass p n (Some r)

    failed_equal : IsEqual f g
    failed_equal = rw fe (lowest_equal g.0 g.1)

    failed_whole : Whole N f
    failed_whole = (whole_multiple Q M f m.parts).1

    failed_below : f.0 ≤ f.1
    failed_below = le_of_mul-le-mul_left {k = Q} (let z = mul-le-mul_left f.1 m.at_most_all in omega (arith, m.parts.exact)) Qp

    module _ (R : ℕ) (Rp : 1 ≤ R) (Re : l.rounds ≡ R) (b : Fraction) (given : RoundBits p n (Some r) (Some b)) where
      given_here : Whole N b × (whole N b ≡ X)
      given_here = given M (pow_pos (most_bits r D)) priced

      abbrev all : Fraction
      all = times body (power_sum g R)

      rounds_equal : (t : Fraction) → IsRepeated b f R t → 0 < t.1 → IsEqual t all
      rounds_equal t is tp = at R Rp is
        where
          joined : (t0 t1 B0 B1 P0 P1 G F X N : ℕ) → 0 < N * F → t1 * (G * X) ≡ t0 * (N * F) → B1 * X ≡ B0 * N → P1 * G ≡ P0 * F → t0 * (B1 * P1) ≡ B0 * P0 * t1
          joined t0 t1 B0 B1 P0 P1 G F X N pos e h k =
              cancel (N * F) _ _ pos (let x = ap (λ z. B1 * P1 * z) e in let y = ap (λ z. P1 * G * t1 * z) h in let u = ap (λ z. B0 * N * t1 * z) k in omega arith)

          at : (R : ℕ) → 1 ≤ R → IsRepeated b f R t → IsEqual t (times body (power_sum g R))
          at zero h is = absurd (omega arith)
          at (suc k) h is =
              let P = power_sum g (suc k) in
              let x = is N Np given_here.0 failed_whole in
              let F = f.1 ^ k in
              let pos : 0 < N * F = product_pos N F Np (one-le-pow k f.1 m.parts.positive) in
              let e : t.1 * (geometric f (suc k) * X) ≡ t.0 * (N * F) = ap (λ z. t.1 * (geometric f (suc k) * z)) (sym given_here.1) ∙ ap (λ z. t.1 * z) (sym x.1) ∙ x.0.exact in
              joined t.0 t.1 body.0 body.1 P.0 P.1 (geometric f (suc k)) F X N pos e body_share (sum_share f g m.parts.positive failed_equal k)

      expected_equal : (t : Fraction) → IsRepeated b f R t → InLowest t → IsEqual t (expected_bits p l)
      expected_equal t is low = subst (λ R. IsEqual t (times body (power_sum g R))) (sym Re) (rounds_equal t is (omega (arith, low.positive)))

      pub cost_is : (t : Fraction) → IsRepeated b f R t → InLowest t → t ≡ lowest (expected_bits p l)
      cost_is t is low = lowest_is t (expected_bits p l) low (expected_pos p l ok) (expected_equal t is low)

      pub cost_law : (t : Fraction) → IsRepeated b f R t → InLowest t → CostsExactly (run_on p l) p l t
      cost_law t is low = costs_along (run_on p l) p l t (expected_bits p l) (omega (arith, low.positive)) (sym (expected_equal t is low)) (costs_exactly p l (run_on p l) ok (λ w. refl))

      pub rounds_wide : RepeatBlames b f R → 2 ^ 128 ≤ spread p l
      rounds_wide h =
          let C = R * (Long + 1) in
          let some : 1 ≤ C = product_pos R (Long + 1) Rp (omega arith) in
          let x = h N C (record { positive = Np; some = some; first = given_here.0; second = failed_whole; bound = λ k lt. bound k lt }) in
          let s = scale_is N f R Rp in
          let d = ap (λ f. N * f.1 ^ (R - 1)) fe in
          subst (λ R'. 2 ^ 128 ≤ N * denominator g ^ (R' - 1) * R' * (Long + 1)) (sym Re) (wide (scale_of N f R) (N * f.1 ^ (R - 1)) (N * denominator g ^ (R - 1)) R Long x s d)
        where
          wide : (Y S T R L : ℕ) → 2 ^ 128 ≤ Y * (R * (L + 1)) → S ≡ Y → S ≡ T → 2 ^ 128 ≤ T * R * (L + 1)
          wide Y S T R L h e d = rw (← d, e) (omega arith)

          room : (G F X N L k R : ℕ) → G ≤ suc k * F → X ≤ N * L → suc k ≤ R → G * X ≤ N * F * (R * (L + 1))
          room G F X N L k R a b c =
              let x = mul-le-mul_right X a in
              let y = mul-le-mul_left (suc k * F) b in
              let z = mul-le-mul_right (N * F * L) c in
              omega arith

          bound : (k : ℕ) → k < R → geometric f (suc k) * whole N b ≤ N * f.1 ^ k * (R * (Long + 1))
          bound k lt = rw given_here.1 (room (geometric f (suc k)) (f.1 ^ k) X N Long k R (sums_most f k failed_below) few lt)

  -- ---- why they are refused
  denominator_some : 1 ≤ denominator (failed_mass p n (Some r)) ^ (l.rounds - 1)
  denominator_some =
      let g = failed_mass p n (Some r) in
      let low = lowest_in_lowest g.0 g.1 (let z = round_positive p n (Some r) w is_failed in omega arith) in
      one-le-pow (l.rounds - 1) (denominator g) (let z = low.positive in omega arith)

  spread_most : (C : ℕ) → 1 ≤ l.rounds → C ≤ N * (Long + 1) → C ≤ spread p l
  spread_most C R h = upto C N (denominator (failed_mass p n (Some r)) ^ (l.rounds - 1)) l.rounds Long denominator_some R h
    where
      upto : (C N F R L : ℕ) → 1 ≤ F → 1 ≤ R → C ≤ N * (L + 1) → C ≤ N * F * R * (L + 1)
      upto C N F R L f r h =
          let x = mul-le-mul_left N f in
          let y = mul-le-mul_left (N * F) r in
          let z = mul-le-mul_right (L + 1) (let t : N ≤ N * F * R = omega arith in t) in
          omega arith

  pub body_wide : 1 ≤ l.rounds → RoundBits p n (Some r) None → 2 ^ 128 ≤ spread p l
  body_wide R h = spread_most (2 ^ 128) R (h M (pow_pos (most_bits r D)) priced (Long + 1) (omega arith) (let z = few in omega arith))

  pub round_wide : 1 ≤ l.rounds → 2 ^ 128 ≤ Q → 2 ^ 128 ≤ spread p l
  round_wide R h =
      let one_part : Q * 1 ≤ Q * M = mul-le-mul_left Q (pow_pos (most_bits r D)) in
      spread_most (2 ^ 128) R (let z : 2 ^ 128 ≤ N * 1 = omega arith in let y = mul-le-mul_left N (let o : 1 ≤ Long + 1 = omega arith in o) in omega arith)
