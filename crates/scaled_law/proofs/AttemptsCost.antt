-- What a limit of attempts costs without a limit of rounds: the ends of a round with and without it are counted at one scale.
use Rattle.std.proofs.Common.{◌≡◌, ⊎_elim, ℕ, zero, suc, ◌+◌, ◌-◌, ◌*◌, ◌^◌, ◌≤◌, ◌<◌, Bool, true, false, cond, Some, None, length, refl, ap, subst, arith, le_refl}
use Rattle.std.specs.Prelude.{not, ◌&&◌, ◌||◌}
use Rattle.std.proofs.Math.Nat.{mul-le-mul_left, mul-le-mul_right}
use Rattle.std.proofs.lemmas.Bool.{cases_lt}
use Rattle.numbers.proofs.Divisors.{product_pos}
use Rattle.numbers.specs.Fraction.{IsEqual}
use Rattle.gcl_core.specs.declared.answers.Limit.TheVariants.{Turns, Attempts, Rounds}
use Rattle.gcl_core.specs.declared.answers.Outcome.{Outcome}
use Rattle.gcl_core.specs.declared.answers.Outcome.TheVariants as outcome
use Rattle.gcl_core.specs.meaning.Blocks.{End, on, failed, fault, limit}
use Rattle.gcl_core.specs.meaning.Checked.{IsChecked}
use Rattle.gcl_core.specs.meaning.Outcomes.{same_outcome, zeros, outcome_of}
use Rattle.gcl_core.specs.meaning.Syntax.{Expression, SourceProgram}
use Rattle.gcl_core.specs.meaning.Value.{State, value_of}
use Rattle.gcl_core.specs.weighing.Fractions.{Fraction, plus, divided_by_rest, AtMost, IsBelowOne}
use Rattle.gcl_core.specs.weighing.LongestReading.{longest}
use Rattle.gcl_core.specs.weighing.Mass.{ends_in, is_failed, round_mass, failed_mass, mass_of_those}
use Rattle.gcl_core.specs.weighing.WeightedEnds.{Weighted, weighted_ends}
use Rattle.gcl_core.proofs.Accepted.{checked_weights}
use Rattle.gcl_core.proofs.FittingValues.{zeros_fit}
use Rattle.gcl_core.proofs.TreeWeights.{chi}
use Rattle.weighing_law.proofs.LimitedBlocks.{OfAttempts, limited_block}
use Rattle.weighing_law.proofs.PlayWeights.{AtSomeScale, Pair}
use Rattle.weighing_law.proofs.RoundCutOff.{attempts_rare}
use Rattle.weighing_law.proofs.Shares.{counts_sum, sum_pos}
use Rattle.weighing_law.proofs.WeightedLists.{Counts}
use Rattle.bounds_law.proofs.EntrySums.{counts_join, whole_at}
use Rattle.bounds_law.proofs.EqualFractions.{equal_below, equal_above}
use Rattle.bounds_law.proofs.Growth.{scale, scale_pos, growth, high_all}
use Rattle.units_law.proofs.OneRound.{one_kind}
use Rattle.units_law.proofs.Orders.{from_left}

-- ---- over plain numbers

-- where a, b and c are N, of which c fail: what a round gives over what does not fail is a of a + b
as_part : (S0 S1 f0 f1 d a b c N : ℕ) → S1 * a ≡ S0 * N → f1 * c ≡ f0 * N → a + b + c ≡ N → f1 ≡ f0 + d → S0 * f1 * (a + b) ≡ a * (S1 * d)
as_part S0 S1 f0 f1 d a b c N h e all g =
    let x = ap (λ t. f1 * t) all in
    let y = ap (λ t. t * N) g in
    let k : f1 * (a + b) ≡ d * N = omega (arith, x, y, e) in
    let z = ap (λ t. S0 * t) k in
    let w = ap (λ t. d * t) h in
    omega (arith, z, w)

-- where c of N fail, and that is less than all, some do not
some_pass : (f0 f1 a b c N : ℕ) → 0 < N → f1 * c ≡ f0 * N → a + b + c ≡ N → f0 < f1 → 0 < a + b
some_pass f0 f1 zero zero c N some e all h = let x = mul-le-mul_right N h in let y = ap (λ t. f1 * t) all in absurd (omega (arith, some, x, y, e))
some_pass f0 f1 zero (suc b) c N some e all h = omega arith
some_pass f0 f1 (suc a) b c N some e all h = omega arith

-- a of s are no more than a' of s', where s' is no more than s
less_of : (a a' s s' : ℕ) → a ≤ a' → s' ≤ s → a * s' ≤ a' * s
less_of a a' s s' h k = let x = mul-le-mul_right s' h in let y = mul-le-mul_left a' k in omega (arith, x, y)

-- x' of s' are no more than x of s, where the others and what fails are no less
more_of : (x y c x' y' c' N : ℕ) → x + y + c ≡ N → x' + y' + c' ≡ N → y ≤ y' → c ≤ c' → x' * (x + y) ≤ x * (x' + y')
more_of x y c x' y' c' N e e' h k =
    let l : x' ≤ x = omega (arith, e, e', h, k) in
    let u = mul-le-mul_right y l in
    let v = mul-le-mul_left x h in
    omega (arith, u, v)

-- a fraction m that is a of s, beside p and q that are b of t and c of u
sum_above : (m0 m1 p0 p1 q0 q1 a s b t c u : ℕ) → 0 < s → 0 < t → 0 < u → m0 * s ≡ a * m1 → p0 * t ≡ b * p1 → q0 * u ≡ c * q1 → a * (t * u) ≤ (b * u + c * t) * s → m0 * (p1 * q1) ≤ (p0 * q1 + q0 * p1) * m1
sum_above m0 m1 p0 p1 q0 q1 a s b t c u some_s some_t some_u e f g h =
    let k = mul-le-mul_left (m1 * p1 * q1) h in
    let x = ap (λ n. n * (t * u * p1 * q1)) e in
    let y = ap (λ n. n * (u * q1 * m1 * s)) f in
    let z = ap (λ n. n * (t * p1 * m1 * s)) g in
    from_left (s * (t * u)) (m0 * (p1 * q1)) ((p0 * q1 + q0 * p1) * m1) (product_pos s (t * u) some_s (product_pos t u some_t some_u)) (omega (arith, k, x, y, z))

-- ---- tests of outcomes

abbrev is_limit : Outcome → Bool
is_limit = same_outcome (outcome.Limit Attempts)

abbrev Together : (u v w : Outcome → Bool) → Type 0
Together u v w = (x : Outcome) → cond (u x) 1 0 + cond (v x) 1 0 ≡ cond (w x) 1 0

ends_together : (result : Expression) (u v w : Outcome → Bool) → Together u v w → (e : End) → chi (ends_in result u) e + chi (ends_in result v) e ≡ chi (ends_in result w) e
ends_together result u v w h (on s) = h (outcome_of (value_of result s))
ends_together result u v w h failed = refl
ends_together result u v w h (fault f) = h (outcome.Fault f)
ends_together result u v w h (limit l) = h (outcome.Limit l)

or_else : (a b : Bool) → cond a 1 0 + cond (b && not a) 1 0 ≡ cond (a || b) 1 0
or_else true true = refl
or_else true false = refl
or_else false true = refl
or_else false false = refl

with_and_without : (a b : Bool) → cond (b && a) 1 0 + cond (b && not a) 1 0 ≡ cond b 1 0
with_and_without true true = refl
with_and_without true false = refl
with_and_without false true = refl
with_and_without false false = refl

without_and_with : (a b : Bool) → cond (a && not b) 1 0 + cond (b && a) 1 0 ≡ cond a 1 0
without_and_with true true = refl
without_and_with true false = refl
without_and_with false true = refl
without_and_with false false = refl

never_or : (b : Bool) → not (b || true) ≡ false
never_or true = refl
never_or false = refl

never_and : (b : Bool) → (b && false) ≡ false
never_and true = refl
never_and false = refl

-- ---- a round with the limit, and without, at one scale

module _ (p : SourceProgram) (ok : IsChecked p) (n r : ℕ) where
  abbrev start : State
  start = zeros (length p.names)

  abbrev few : Weighted End
  few = weighted_ends n (Some r) p.body start

  abbrev all : Weighted End
  all = weighted_ends n None p.body start

  both : AtSomeScale (λ N. Pair OfAttempts N few all)
  both = limited_block n r p.body (checked_weights p ok) ok.numbers.body start (zeros_fit (length p.names))

  abbrev N : ℕ
  N = both.scale

  abbrev low : (End → ℕ) → ℕ
  low G = both.holds.low G

  abbrev high : (End → ℕ) → ℕ
  high G = both.holds.high G

  low_join : (G H J : End → ℕ) → ((e : End) → G e + H e ≡ J e) → low G + low H ≡ low J
  low_join G H J e = counts_join N G H J few (low G) (low H) (low J) both.positive e (both.holds.low_counts G) (both.holds.low_counts H) (both.holds.low_counts J)

  high_join : (G H J : End → ℕ) → ((e : End) → G e + H e ≡ J e) → high G + high H ≡ high J
  high_join G H J e = counts_join N G H J all (high G) (high H) (high J) both.positive e (both.holds.high_counts G) (both.holds.high_counts H) (both.holds.high_counts J)

  abbrev one_each : End → ℕ
  one_each e = 1

  low_one : low one_each ≡ N
  low_one =
      whole_at (scale p ok n n (le_refl n) (Some r)) N few (low one_each) (scale_pos p ok n n (le_refl n) (Some r)) both.positive
      (subst (Counts (scale p ok n n (le_refl n) (Some r)) one_each few) (high_all p ok n n (le_refl n) (Some r)) ((growth p ok n n (le_refl n) (Some r)).high_counts one_each))
      (both.holds.low_counts one_each)

  high_one : high one_each ≡ N
  high_one =
      whole_at (scale p ok n n (le_refl n) None) N all (high one_each) (scale_pos p ok n n (le_refl n) None) both.positive
      (subst (Counts (scale p ok n n (le_refl n) None) one_each all) (high_all p ok n n (le_refl n) None) ((growth p ok n n (le_refl n) None).high_counts one_each))
      (both.holds.high_counts one_each)

  abbrev counted : (Outcome → Bool) → End → ℕ
  counted meant = chi (ends_in p.result meant)

  abbrev fails : End → ℕ
  fails = chi is_failed

  abbrev others : (Outcome → Bool) → Outcome → Bool
  others meant x = not (meant x)

  low_all : (meant : Outcome → Bool) → low (counted meant) + low (counted (others meant)) + low fails ≡ N
  low_all meant =
      let passed = λ (e : End). counted meant e + counted (others meant) e in
      let x = low_join (counted meant) (counted (others meant)) passed (λ e. refl) in
      let y = low_join passed fails one_each (one_kind p.result meant) in
      omega (arith, x, y, low_one)

  high_all_is : (meant : Outcome → Bool) → high (counted meant) + high (counted (others meant)) + high fails ≡ N
  high_all_is meant =
      let passed = λ (e : End). counted meant e + counted (others meant) e in
      let x = high_join (counted meant) (counted (others meant)) passed (λ e. refl) in
      let y = high_join passed fails one_each (one_kind p.result meant) in
      omega (arith, x, y, high_one)

  fails_more : low fails ≤ high fails
  fails_more =
      both.holds.below fails fails (elim [ on s ↦ λ b. refl | failed ↦ λ b. absurd b | fault g ↦ λ b. refl | limit l ↦ λ b. refl ]) (λ e. le_refl (fails e))

  spared_less : (meant : Outcome → Bool) → meant (outcome.Limit Attempts) ≡ false → low (counted meant) ≤ high (counted meant)
  spared_less meant spared =
      both.holds.below (counted meant) (counted meant)
      (elim [ on s ↦ λ b. absurd b | failed ↦ λ b. absurd b | fault g ↦ λ b. absurd b | limit Turns ↦ λ b. absurd b | limit Attempts ↦ λ b. ap (λ t. cond t 1 0) spared | limit Rounds ↦ λ b. absurd b ])
      (λ e. le_refl (counted meant e))

  -- ---- what does not fail
  abbrev f : Fraction
  f = failed_mass p n (Some r)

  abbrev F : Fraction
  F = failed_mass p n None

  low_failed : f.1 * low fails ≡ f.0 * N
  low_failed = counts_sum N is_failed few (low fails) (both.holds.low_counts fails)

  high_failed : F.1 * high fails ≡ F.0 * N
  high_failed = counts_sum N is_failed all (high fails) (both.holds.high_counts fails)

  low_fraction : 0 < f.1
  low_fraction = sum_pos N is_failed one_each few (low one_each) both.positive (both.holds.low_counts one_each)

  high_fraction : 0 < F.1
  high_fraction = sum_pos N is_failed one_each all (high one_each) both.positive (both.holds.high_counts one_each)

  fails_less : f.0 * F.1 ≤ F.0 * f.1
  fails_less =
      let x = mul-le-mul_left (f.1 * F.1) fails_more in
      let y = ap (λ t. F.1 * t) low_failed in
      let z = ap (λ t. f.1 * t) high_failed in
      from_left N (f.0 * F.1) (F.0 * f.1) both.positive (omega (arith, x, y, z))

  module _ (passes : IsBelowOne (failed_mass p n None)) where
    pub still_passes : IsBelowOne (failed_mass p n (Some r))
    still_passes = less f.0 f.1 F.0 F.1 low_fraction passes fails_less
      where
        less : (a b c d : ℕ) → 0 < b → c < d → a * d ≤ c * b → a < b
        less a b c d some h k =
            let x = mul-le-mul_left b h in
            below_by a b d (omega (arith, x, k, some))
          where
            below_by : (a b d : ℕ) → a * d < b * d → a < b
            below_by a b d l = ⊎_elim (λ (y : a < b). y) (λ (y : b ≤ a). let z = mul-le-mul_right d y in absurd (omega (arith, z, l))) (cases_lt a b)

    -- ---- masses, of what does not fail
    abbrev left : (Outcome → Bool) → ℕ
    left meant = low (counted meant) + low (counted (others meant))

    abbrev left_all : (Outcome → Bool) → ℕ
    left_all meant = high (counted meant) + high (counted (others meant))

    low_is : (meant : Outcome → Bool) → IsEqual (mass_of_those p n (Some r) None meant) (low (counted meant), left meant)
    low_is meant =
        let S = round_mass p n (Some r) meant in
        as_part S.0 S.1 f.0 f.1 (f.1 - f.0) (low (counted meant)) (low (counted (others meant))) (low fails) N
        (counts_sum N (ends_in p.result meant) few (low (counted meant)) (both.holds.low_counts (counted meant))) low_failed (low_all meant) (omega (arith, still_passes))

    high_is : (meant : Outcome → Bool) → IsEqual (mass_of_those p n None None meant) (high (counted meant), left_all meant)
    high_is meant =
        let S = round_mass p n None meant in
        as_part S.0 S.1 F.0 F.1 (F.1 - F.0) (high (counted meant)) (high (counted (others meant))) (high fails) N
        (counts_sum N (ends_in p.result meant) all (high (counted meant)) (both.holds.high_counts (counted meant))) high_failed (high_all_is meant) (omega (arith, passes))

    left_some : (meant : Outcome → Bool) → 0 < left meant
    left_some meant = some_pass f.0 f.1 (low (counted meant)) (low (counted (others meant))) (low fails) N both.positive low_failed (low_all meant) still_passes

    left_all_some : (meant : Outcome → Bool) → 0 < left_all meant
    left_all_some meant = some_pass F.0 F.1 (high (counted meant)) (high (counted (others meant))) (high fails) N both.positive high_failed (high_all_is meant) passes

    left_less : (meant : Outcome → Bool) → left_all meant ≤ left meant
    left_less meant = omega (arith, low_all meant, high_all_is meant, fails_more)

    pub masses_below : (meant : Outcome → Bool) → meant (outcome.Limit Attempts) ≡ false → AtMost (mass_of_those p n (Some r) None meant) (mass_of_those p n None None meant)
    masses_below meant spared =
        equal_below (mass_of_those p n (Some r) None meant) (low (counted meant), left meant) (mass_of_those p n None None meant) (left_some meant) (low_is meant)
        (equal_above (low (counted meant), left meant) (mass_of_those p n None None meant) (high (counted meant), left_all meant) (left_all_some meant) (high_is meant)
        (less_of (low (counted meant)) (high (counted meant)) (left meant) (left_all meant) (spared_less meant spared) (left_less meant)))

    -- ---- beside what the limit weighs

    same_left : (meant other : Outcome → Bool) → left meant ≡ left other
    same_left meant other = omega (arith, low_all meant, low_all other)

    same_left_all : (meant other : Outcome → Bool) → left_all meant ≡ left_all other
    same_left_all meant other = omega (arith, high_all_is meant, high_all_is other)

    module _ (meant : Outcome → Bool) where
      abbrev either : Outcome → Bool
      either x = meant x || is_limit x

      abbrev only_limit : Outcome → Bool
      only_limit x = is_limit x && not (meant x)

      abbrev limit_too : Outcome → Bool
      limit_too x = is_limit x && meant x

      abbrev spared : Outcome → Bool
      spared x = meant x && not (is_limit x)

      abbrev a : ℕ
      a = low (counted meant)

      abbrev a' : ℕ
      a' = high (counted meant)

      abbrev t : ℕ
      t = low (counted is_limit)

      either_most : low (counted either) ≤ a + t
      either_most =
          let x = low_join (counted meant) (counted only_limit) (counted either) (ends_together p.result meant only_limit either (λ x. or_else (meant x) (is_limit x))) in
          let y = low_join (counted limit_too) (counted only_limit) (counted is_limit) (ends_together p.result limit_too only_limit is_limit (λ x. with_and_without (meant x) (is_limit x))) in
          omega (arith, x, y)

      either_least : a' ≤ high (counted either)
      either_least =
          let x = high_join (counted meant) (counted only_limit) (counted either) (ends_together p.result meant only_limit either (λ x. or_else (meant x) (is_limit x))) in
          omega (arith, x)

      meant_most : a ≤ a' + t
      meant_most =
          let x = low_join (counted spared) (counted limit_too) (counted meant) (ends_together p.result spared limit_too meant (λ x. without_and_with (meant x) (is_limit x))) in
          let y = low_join (counted limit_too) (counted only_limit) (counted is_limit) (ends_together p.result limit_too only_limit is_limit (λ x. with_and_without (meant x) (is_limit x))) in
          let z = high_join (counted spared) (counted limit_too) (counted meant) (ends_together p.result spared limit_too meant (λ x. without_and_with (meant x) (is_limit x))) in
          let w = spared_less spared (never_and (meant (outcome.Limit Attempts))) in
          omega (arith, x, y, z, w)

      either_of : high (counted either) * left either ≤ low (counted either) * left_all either
      either_of =
          more_of (low (counted either)) (low (counted (others either))) (low fails) (high (counted either)) (high (counted (others either))) (high fails) N (low_all either) (high_all_is either)
          (spared_less (others either) (never_or (meant (outcome.Limit Attempts)))) fails_more

      pub masses_no_less : AtMost (mass_of_those p n None None meant) (plus (mass_of_those p n (Some r) None meant) (mass_of_those p n (Some r) None (same_outcome (outcome.Limit Attempts))))
      masses_no_less =
          let M = mass_of_those p n None None meant in
          let P = mass_of_those p n (Some r) None meant in
          let Q = mass_of_those p n (Some r) None is_limit in
          sum_above M.0 M.1 P.0 P.1 Q.0 Q.1 a' (left_all meant) a (left meant) t (left is_limit) (left_all_some meant) (left_some meant) (left_some is_limit) (high_is meant) (low_is meant) (low_is is_limit)
          (beside a a' t (left meant) (left is_limit) (left_all meant) (high (counted either)) (low (counted either)) (left either) (left_all either) (same_left is_limit meant) (same_left either meant) (same_left_all either meant)
          either_least either_most either_of)
        where
          beside : (a a' t s u s' x' x v v' : ℕ) → u ≡ s → v ≡ s → v' ≡ s' → a' ≤ x' → x ≤ a + t → x' * v ≤ x * v' → a' * (s * u) ≤ (a * u + t * s) * s'
          beside a a' t s u s' x' x v v' e g g' h k l =
              rw e
              (let l' : x' * s ≤ x * s' = subst (λ w. x' * s ≤ x * w) g' (subst (λ w. x' * w ≤ x * v') g l) in
              let y = mul-le-mul_right s h in
              let z = mul-le-mul_right s' k in
              let q = mul-le-mul_left s (let m : a' * s ≤ (a + t) * s' = omega (arith, y, l', z) in m) in
              omega (arith, q))

      pub masses_no_more : AtMost (mass_of_those p n (Some r) None meant) (plus (mass_of_those p n None None meant) (mass_of_those p n (Some r) None (same_outcome (outcome.Limit Attempts))))
      masses_no_more =
          let M = mass_of_those p n (Some r) None meant in
          let P = mass_of_those p n None None meant in
          let Q = mass_of_those p n (Some r) None is_limit in
          sum_above M.0 M.1 P.0 P.1 Q.0 Q.1 a (left meant) a' (left_all meant) t (left is_limit) (left_some meant) (left_all_some meant) (left_some is_limit) (low_is meant) (high_is meant) (low_is is_limit)
          (beside a a' t (left meant) (left is_limit) (left_all meant) (same_left is_limit meant) meant_most (left_less meant))
        where
          beside : (a a' t s u s' : ℕ) → u ≡ s → a ≤ a' + t → s' ≤ s → a * (s' * u) ≤ (a' * u + t * s') * s
          beside a a' t s u s' e h k =
              rw e
              (let x = mul-le-mul_right (s' * s) h in
              let y = mul-le-mul_left (a' * s) k in
              omega (arith, x, y))

    pub limit_little : 1 ≤ r → AtMost (mass_of_those p n (Some r) None (same_outcome (outcome.Limit Attempts))) (divided_by_rest (longest n 1 p.body, 2 ^ r) (failed_mass p n None))
    limit_little some =
        let S = round_mass p n (Some r) is_limit in
        little S.0 S.1 f.0 f.1 (f.1 - f.0) F.0 F.1 (F.1 - F.0) (longest n 1 p.body) (2 ^ r) (omega (arith, still_passes)) (omega (arith, passes)) fails_less (attempts_rare p ok n r some)
      where
        little : (s0 s1 f0 f1 d g0 g1 e D T : ℕ) → f1 ≡ f0 + d → g1 ≡ g0 + e → f0 * g1 ≤ g0 * f1 → s0 * T ≤ D * s1 → s0 * f1 * (T * e) ≤ D * g1 * (s1 * d)
        little s0 s1 f0 f1 d g0 g1 e D T h k l m =
            let x = ap (λ t. g1 * t) h in
            let y = ap (λ t. f1 * t) k in
            let z : f1 * e ≤ g1 * d = omega (arith, l, x, y) in
            let u = mul-le-mul_right (f1 * e) m in
            let v = mul-le-mul_left (D * s1) z in
            omega (arith, u, v)
