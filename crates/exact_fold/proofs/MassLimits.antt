-- Exact masses are limits of the masses at n turns, and lie within the bounds of every limit of turns.
use Rattle.std.proofs.Common.{◌≡◌, ℕ, zero, suc, ◌+◌, ◌-◌, ◌*◌, ◌≤◌, ◌<◌, true, false, None, refl, sym, ap, ◌∙◌, subst, arith}
use Rattle.std.proofs.Math.Nat.{mul-le-mul_right, le_of_mul-le-mul_right}
use Rattle.numbers.specs.Fraction.{IsEqual, lowest}
use Rattle.numbers.proofs.Divisors.{lowest_in_lowest, lowest_equal}
use Rattle.gcl_core.specs.declared.answers.Limit.TheVariants.{Turns}
use Rattle.gcl_core.specs.declared.answers.Outcome.{Outcome}
use Rattle.gcl_core.specs.declared.answers.Outcome.TheVariants as outcome
use Rattle.gcl_core.specs.meaning.Checked.{IsChecked}
use Rattle.gcl_core.specs.meaning.Outcomes.{same_outcome, is_settled}
use Rattle.gcl_core.specs.meaning.Syntax.{SourceProgram}
use Rattle.gcl_core.specs.weighing.Fractions.{Fraction, plus, AtMost, IsBelowOne}
use Rattle.gcl_core.specs.weighing.Mass.{mass_of, round_mass}
use Rattle.gcl_core.proofs.Accepted.{checked_weights}
use Rattle.table_flow.proofs.EqualFractions.{equal_plus}
use Rattle.mass_fold.specs.Rows.{Rows}
use Rattle.bounds_law.specs.PosteriorBounds.{fails, lower_of, upper_of}
use Rattle.bounds_law.specs.Holding.{BoundsHold}
use Rattle.unlimited_law.specs.SettledMasses.{settled_failed, settled_mass, gap, nth_part, IsNear, MassTends, EndlessTends, endless_mass}
use Rattle.unlimited_law.proofs.EndlessLimits.{endless_tends}
use Rattle.unlimited_law.proofs.OneLimit.{parts_vanish, through}
use Rattle.unlimited_law.proofs.ProgramLimits.{mass_tends}
use Rattle.exact_fold.specs.Exact.{IsExact}
use Rattle.exact_fold.specs.Limits.{AreLimits, LieWithin, rate_of}

-- ---- comparing with fractions of one value
below_equal : (p q r : Fraction) → 0 < q.1 → IsEqual r q → AtMost p q → AtMost p r
below_equal p q r some e h = le_of_mul-le-mul_right {k = q.1} (let x = ap (λ z. z * p.1) e in let y = mul-le-mul_right r.1 h in omega arith) some

equal_below : (p q r : Fraction) → 0 < q.1 → IsEqual r q → AtMost q p → AtMost r p
equal_below p q r some e h = le_of_mul-le-mul_right {k = q.1} (let x = ap (λ z. z * p.1) e in let y = mul-le-mul_right r.1 h in omega arith) some

below_through : (p q r : Fraction) → 0 < q.1 → AtMost p q → AtMost q r → AtMost p r
below_through p q r some h k = le_of_mul-le-mul_right {k = q.1} (let x = mul-le-mul_right r.1 h in let y = mul-le-mul_right p.1 k in omega arith) some

pub factors_pos : (a b : ℕ) → 1 ≤ a * b → (1 ≤ a) × (1 ≤ b)
factors_pos zero b h = absurd (omega arith)
factors_pos (suc a) zero h = absurd (omega arith)
factors_pos (suc a) (suc b) h = (omega arith, omega arith)

pub nothing : (p q : Fraction) → 1 ≤ q.1 → q.0 ≡ 0 → AtMost p q → p.0 ≡ 0
nothing p q some e h =
    let z : p.0 * q.1 ≤ 0 = let x = ap (λ z. z * p.1) e in omega arith in
    by p.0 q.1 some z
  where
    by : (a b : ℕ) → 1 ≤ b → a * b ≤ 0 → a ≡ 0
    by zero b h k = refl
    by (suc a) zero h k = absurd (omega arith)
    by (suc a) (suc b) h k = absurd (omega arith)

module _ (p : SourceProgram) (rows : Rows) (endless : Fraction) (ok : IsChecked p) (e : IsExact p rows endless) where
  abbrev mass : Outcome → Fraction
  mass x = settled_mass p e.settled (same_outcome x)

  abbrev lost : Fraction
  lost = settled_failed p e.settled

  abbrev rate : Fraction
  rate = rate_of p e.settled

  same_gap : (n : ℕ) → gap p e.settled n ≡ nth_part n rate
  same_gap n =
      let t = e.settled.turns in
      let a : 1 * t.0 * lost.1 ≡ 1 * (t.0 * lost.1) = omega arith in
      let b : n * t.1 * (lost.1 - lost.0) ≡ n * (t.1 * (lost.1 - lost.0)) = omega arith in
      ap (λ z. (z, n * t.1 * (lost.1 - lost.0))) a ∙ ap (λ z. (1 * (t.0 * lost.1), z)) b

  -- a limit has no mass
  pub settled : (x : Outcome) → 0 < (mass x).0 → is_settled x ≡ true
  settled (outcome.Value v) h = refl
  settled (outcome.Fault g) h = refl
  settled (outcome.Limit k) h = absurd (omega (arith, h, e.no_limit k))

  spared : (x : Outcome) → is_settled x ≡ true → same_outcome x (outcome.Limit Turns) ≡ false
  spared (outcome.Value v) h = refl
  spared (outcome.Fault g) h = refl
  spared (outcome.Limit k) h = absurd (cc)

  tends : (x : Outcome) → is_settled x ≡ true → (n : ℕ) → 1 ≤ n → MassTends p e.settled n (same_outcome x)
  tends x h n some = mass_tends p e.settled (checked_weights p ok) e.settles e.passes n (omega arith) (same_outcome x) (spared x h)

  rate_some : (n : ℕ) → 1 ≤ (gap p e.settled n).1 → 1 ≤ rate.1
  rate_some n h = (factors_pos n rate.1 (subst (λ z. 1 ≤ z.1) (same_gap n) h)).1

  lowest_some : (q : Fraction) → 1 ≤ q.1 → 1 ≤ (lowest q).1
  lowest_some q h = (lowest_in_lowest q.0 q.1 h).positive

  row_near : (x : Outcome) (n : ℕ) → 1 ≤ n → MassTends p e.settled n (same_outcome x) → IsNear n rate (mass_of p n None None x) (lowest (mass x))
  row_near x n some t =
      let q = mass x in
      let l = lowest_equal q.0 q.1 in
      record {
        from_below = below_equal (mass_of p n None None x) q (lowest q) (omega (arith, t.settled_fraction)) l t.from_below;
        from_above = equal_below (plus (mass_of p n None None x) (nth_part n rate)) q (lowest q) (omega (arith, t.settled_fraction)) l (subst (λ z. AtMost q (plus (mass_of p n None None x) z)) (same_gap n) t.from_above);
        weight_fraction = t.mass_fraction;
        settled_fraction = lowest_some q t.settled_fraction;
        cost_fraction = rate_some n t.gap_fraction;
      }

  never_near : (n : ℕ) → 1 ≤ n → EndlessTends p e.settled n → IsNear n rate (lowest (endless_mass p e.settled)) (mass_of p n None None (outcome.Limit Turns))
  never_near n some t =
      let q = endless_mass p e.settled in
      let m = mass_of p n None None (outcome.Limit Turns) in
      let l = lowest_equal q.0 q.1 in
      let part = nth_part n rate in
      let above : AtMost m (plus q part) = subst (λ z. AtMost m (plus q z)) (same_gap n) t.from_below in
      let some_part : 1 ≤ part.1 = subst (λ z. 1 ≤ z.1) (same_gap n) t.gap_fraction in
      record {
        from_below = equal_below m q (lowest q) (omega (arith, t.endless_fraction)) l t.from_above;
        from_above = below_equal m (plus q part) (plus (lowest q) part) (positive q.1 part.1 t.endless_fraction some_part) (equal_plus (lowest q) q part part l refl) above;
        weight_fraction = lowest_some q t.endless_fraction;
        settled_fraction = t.mass_fraction;
        cost_fraction = rate_some n t.gap_fraction;
      }
    where
      positive : (a b : ℕ) → 1 ≤ a → 1 ≤ b → 0 < a * b
      positive zero b h k = absurd (omega arith)
      positive (suc a) zero h k = absurd (omega arith)
      positive (suc a) (suc b) h k = omega arith

  pub are_limits : AreLimits p rows endless rate
  are_limits = record {
    row = λ x f has n some.
        let r = e.masses.each x f has in
        subst (IsNear n rate (mass_of p n None None x)) (sym r.1) (row_near x n some (tends x (settled x r.0) n some));
    others = λ x is none n some.
        let t = tends x is n some in
        let empty : (mass x).0 ≡ 0 = no_more (mass x).0 (λ h. none (lowest (mass x)) (e.masses.all x h)) in
        nothing (mass_of p n None None x) (mass x) t.settled_fraction empty t.from_below;
    never = λ n some. subst (λ z. IsNear n rate z (mass_of p n None None (outcome.Limit Turns))) (sym e.rest) (never_near n some (endless_tends p ok e.settled e.settles e.passes n (omega arith)));
  }
    where
      no_more : (a : ℕ) → (0 < a → ⊥) → a ≡ 0
      no_more zero h = refl
      no_more (suc a) h = absurd (h (omega arith))

  -- ---- bounds
  module _ (law : (n n' : ℕ) → n ≤ n' → IsBelowOne (fails p n') → BoundsHold p n n') where
    below_one : (x : Outcome) (n : ℕ) → MassTends p e.settled n (same_outcome x) → IsBelowOne (fails p n)
    below_one x n t =
        let h = factors_pos (round_mass p n None (same_outcome x)).1 ((fails p n).1 - (fails p n).0) t.mass_fraction in
        omega (arith, h.1)

    from_below : (x : Outcome) (n : ℕ) → is_settled x ≡ true → AtMost (lower_of p n x) (lowest (mass x))
    from_below x n is =
        let t = tends x is (n + 1) (omega arith) in
        let b = (law n (n + 1) (omega arith) (below_one x (n + 1) t)).outcomes x is in
        let q = mass x in
        below_equal (lower_of p n x) q (lowest q) (omega (arith, t.settled_fraction)) (lowest_equal q.0 q.1)
        (below_through (lower_of p n x) (mass_of p (n + 1) None None x) q (omega (arith, t.mass_fraction)) b.from_below t.from_below)

    from_above : (x : Outcome) (n : ℕ) → is_settled x ≡ true → AtMost (lowest (mass x)) (upper_of p n x)
    from_above x n is =
        let q = mass x in
        let u = upper_of p n x in
        let t1 = tends x is 1 (omega arith) in
        let c0 = 1 * e.settled.turns.0 * lost.1 in
        let c1 = (n + 1) * (e.settled.turns.1 * (lost.1 - lost.0)) in
        let one_rate = (factors_pos 1 rate.1 (subst (λ z. 1 ≤ z.1) (same_gap 1) t1.gap_fraction)).1 in
        equal_below u q (lowest q) (omega (arith, t1.settled_fraction)) (lowest_equal q.0 q.1)
        (parts_vanish q.0 q.1 u.0 u.1 c0 c1 (positive n (e.settled.turns.1 * (lost.1 - lost.0)) one_rate)
        (λ j some.
        let m = (n + 1) * j in
        let le = past n j some in
        let t = tends x is m (omega (arith, le)) in
        let b = (law n m (omega (arith, le)) (below_one x m t)).outcomes x is in
        let w = mass_of p m None None x in
        let turned : m * e.settled.turns.1 * (lost.1 - lost.0) ≡ j * c1 = omega arith in
        let high : q.0 * (w.1 * (j * c1)) ≤ (w.0 * (j * c1) + c0 * w.1) * q.1 = subst (λ z. q.0 * (w.1 * z) ≤ (w.0 * z + c0 * w.1) * q.1) turned t.from_above in
        through q.0 q.1 w.0 w.1 u.0 u.1 c0 (j * c1) (omega (arith, t.mass_fraction)) high b.from_above))
      where
        positive : (n a : ℕ) → 1 ≤ a → 0 < (n + 1) * a
        positive n zero h = absurd (omega arith)
        positive n (suc a) h = omega arith

        past : (n j : ℕ) → 1 ≤ j → n + 1 ≤ (n + 1) * j
        past n zero h = absurd (omega arith)
        past n (suc j) h = omega arith

    pub lie_within : LieWithin p rows
    lie_within = record {
      settled = λ x f has. settled x (e.masses.each x f has).0;
      from_below = λ x f has n. let r = e.masses.each x f has in subst (AtMost (lower_of p n x)) (sym r.1) (from_below x n (settled x r.0));
      from_above = λ x f has n. let r = e.masses.each x f has in subst (λ z. AtMost z (upper_of p n x)) (sym r.1) (from_above x n (settled x r.0));
    }
