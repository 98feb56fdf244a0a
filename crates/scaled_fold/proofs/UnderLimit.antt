-- Under a limit of attempts that weighs one part of 2^-120 at most, bounds hold that hold without it, each lower one by such a part less.
use Rattle.std.proofs.Common.{◌≡◌, ⊎_elim, ℕ, zero, suc, ◌+◌, ◌-◌, ◌*◌, ◌^◌, ◌≤◌, ◌<◌, Bool, true, false, None, Some, refl, le_refl, sym, ap, ◌∙◌, subst, arith}
use Rattle.std.specs.Prelude.{not, Contains}
use Rattle.std.specs.Int.{div_ceil}
use Rattle.std.proofs.lemmas.Bool.{cases_lt}
use Rattle.std.proofs.lemmas.Nat.{pow_pos}
use Rattle.std.proofs.Math.Nat.{le_of_mul-le-mul_right, mul-le-mul_right}
use Rattle.numbers.specs.declared.units.TheConstants.{ALL}
use Rattle.numbers.specs.Arithmetic.{InLowest}
use Rattle.numbers.specs.Fraction.{lowest}
use Rattle.numbers.proofs.Divisors.{lowest_equal, lowest_in_lowest, product_pos}
use Rattle.gcl_core.specs.declared.answers.Limit.TheVariants.{Attempts}
use Rattle.gcl_core.specs.declared.answers.Outcome.{Outcome}
use Rattle.gcl_core.specs.declared.answers.Outcome.TheVariants as outcome
use Rattle.gcl_core.specs.meaning.Checked.{IsChecked}
use Rattle.gcl_core.specs.meaning.Outcomes.{same_outcome}
use Rattle.gcl_core.specs.meaning.Syntax.{SourceProgram}
use Rattle.gcl_core.specs.weighing.Fractions.{Fraction, plus, divided_by_rest, AtMost, IsBelowOne}
use Rattle.gcl_core.specs.weighing.LongestReading.{longest}
use Rattle.gcl_core.specs.weighing.Mass.{round_mass, failed_mass, mass_of_those}
use Rattle.gcl_core.proofs.SameOutcomes.{same_outcomes}
use Rattle.bounds_law.specs.Rows.{Rows, HasNone}
use Rattle.bounds_law.proofs.EqualFractions.{equal_below, equal_above}
use Rattle.units_law.specs.Between.{rounded_up}
use Rattle.units_law.specs.Down.{down}
use Rattle.units_law.specs.Holding.{AreOrdered, Enclose, AreClose}
use Rattle.units_law.specs.Units.{held, total}
use Rattle.units_law.proofs.OneRound.{parted}
use Rattle.units_law.proofs.Ordered.{above}
use Rattle.units_law.proofs.Orders.{from_left}
use Rattle.units_law.proofs.RowsHold.{up_above}
use Rattle.scaled_law.specs.Given.{least_of, most_of, AreWithin, AreEnough as AreMostEnough, LiesBetween}
use Rattle.scaled_law.specs.Listed.{parts_of, upper_of_others, AreListed, all_least, uncertain, AreNear}
use Rattle.scaled_law.specs.Pairs.{Pair, Pairs, at_least, at_most}
use Rattle.scaled_law.specs.Scaled.{Scaled}
use Rattle.scaled_law.specs.Up.{up}
use Rattle.scaled_law.proofs.Sides.{mass_fraction}
use Rattle.scaled_fold.specs.Doubling.{doubling, doubled_round}
use Rattle.scaled_fold.specs.inner.Listing.{Ascending, counted, set_aside, rows_by, kept_by, part_at, upper_at, bounds_at, AreEnough}
use Rattle.scaled_fold.specs.inner.Outcomes.{RoundGives}
use Rattle.scaled_fold.proofs.Counting.{bit, fewer_have, same_tests, parted as parted_units}
use Rattle.scaled_fold.proofs.Ending.{doubling_positive}
use Rattle.scaled_fold.proofs.Listed.{least_number, most_number, none_of, in_order, least_is, most_is, all_least_is, uncertain_is, parts_are, has_entry, are_listed, has_bounds, are_bounds, row_or_none, same_rows, same_kept, same_enough}
use Rattle.scaled_fold.proofs.LittleLimit.{passing_units, weighs_little, one_less, one_more, near_less, part_rises, within_all}
use Rattle.scaled_fold.proofs.Others.{bounds_close}
use Rattle.scaled_fold.proofs.RowsBy.{row_from, row_has, kept_order, kept_is}

through : (p q m : Fraction) → 0 < q.1 → AtMost p q → AtMost q m → AtMost p m
through p q m some h k = le_of_mul-le-mul_right {k = q.1} (let x = mul-le-mul_right m.1 h in let y = mul-le-mul_right p.1 k in omega arith) some

positive : (k : ℕ) → 0 < (lowest (k, ALL)).1
positive k = let z = (lowest_in_lowest k ALL (omega arith)).positive in omega (arith, z)

-- what is said of rows under a limit of t attempts
pub record HoldUnder (p : SourceProgram) (n t : ℕ) (rows : Rows) (other : Fraction) : Type 0 where
  pub ordered : AreOrdered rows other
  pub encloses : Enclose p n (Some t) None rows other
  pub close : AreClose 1 rows other

module _ (p : SourceProgram) (n t : ℕ) (ok : IsChecked p) (K : Pairs Outcome) (loose : ℕ) (g : RoundGives p n None K loose) (ascending : Ascending K) where
  abbrev f : Scaled
  f = doubled_round p n None

  abbrev C : Pairs Outcome
  C = counted false K

  abbrev A : ℕ
  A = total (at_least C)

  abbrev B : ℕ
  B = total (at_most C)

  abbrev R : ℕ
  R = loose + set_aside false K

  abbrev F : Fraction
  F = failed_mass p n None

  abbrev limit : Outcome → Bool
  limit = same_outcome (outcome.Limit Attempts)

  -- masses without the limit, and with it
  abbrev M : (Outcome → Bool) → Fraction
  M meant = mass_of_those p n None None meant

  abbrev m : (Outcome → Bool) → Fraction
  m meant = mass_of_those p n (Some t) None meant

  module _ (passes : IsBelowOne (failed_mass p n None)) (still : IsBelowOne (failed_mass p n (Some t)))
      (within : (meant : Outcome → Bool) → AreWithin (doubled_round p n None).scale (least_of p false meant (doubled_round p n None)) (round_mass p n None meant))
      (d : ℕ) (scale : (doubled_round p n None).scale ≡ (ALL * 2 ^ d, 1)) (unit : 0 < total (at_least (counted false K))) where
    -- ---- how little the limit weighs

    pass : A * F.1 ≤ (F.1 - F.0) * (ALL * 2 ^ d)
    pass =
        let a = parted p ok n n (le_refl n) None (λ x. true) in
        let q = round_mass p n None (λ x. true) in
        passing_units a.scale a.given a.others a.failing q.0 q.1 F.0 F.1 A (ALL * 2 ^ d) a.positive a.given_fraction a.given_share a.failing_share a.all passes
        (subst (λ l. l * (1 * q.1) ≤ q.0 * (ALL * 2 ^ d)) (all_least_is p n None false K loose g ascending) (subst (λ S. AreWithin S (least_of p false (λ x. true) f) q) scale (within (λ x. true))))

    pub little : (D : ℕ) → AtMost (m limit) (divided_by_rest (longest n 1 p.body, 2 ^ t) (failed_mass p n None)) → longest n 1 p.body ≤ D → D * ALL * (ALL * 2 ^ d) ≤ 2 ^ t * A → AtMost (m limit) (1, ALL)
    little D most reads enough =
        weighs_little (m limit).0 (m limit).1 (longest n 1 p.body) D (2 ^ t) (F.1 - F.0) F.1 A (ALL * 2 ^ d) ALL (pow_pos t) (omega (arith, passes)) (product_pos ALL (2 ^ d) (omega arith) (pow_pos d)) most reads pass enough

    -- ---- what bounds without the limit say under it
    module _ (most_units : (meant : Outcome → Bool) → AreMostEnough (doubled_round p n None).scale (most_of p false meant (doubled_round p n None)) (round_mass p n None meant))
        (between : (meant : Outcome → Bool) → LiesBetween p n None false (doubled_round p n None) meant)
        (enclosed : (rows : Rows) (other : Fraction) → AreListed p false (doubled_round p n None) rows → other ≡ upper_of_others p false (doubled_round p n None) → Enclose p n None None rows other)
        (near : (rows : Rows) → AreListed p false (doubled_round p n None) rows → AreNear p false (doubled_round p n None) rows)
        (spared : (meant : Outcome → Bool) → meant (outcome.Limit Attempts) ≡ false → AtMost (mass_of_those p n (Some t) None meant) (mass_of_those p n None None meant))
        (no_more : (meant : Outcome → Bool) → AtMost (mass_of_those p n (Some t) None meant) (plus (mass_of_those p n None None meant) (mass_of_those p n (Some t) None (same_outcome (outcome.Limit Attempts)))))
        (no_less : (meant : Outcome → Bool) → AtMost (mass_of_those p n None None meant) (plus (mass_of_those p n (Some t) None meant) (mass_of_those p n (Some t) None (same_outcome (outcome.Limit Attempts)))))
        (weight : AtMost (mass_of_those p n (Some t) None (same_outcome (outcome.Limit Attempts))) (1, ALL)) where
      abbrev rows : Rows
      rows = rows_by (bounds_at A B R 1) C

      abbrev all_rows : Rows
      all_rows = rows_by (bounds_at A B R 0) C

      listed : AreListed p false f all_rows
      listed = are_listed p n None false K loose g ascending

      holds : Enclose p n None None all_rows (upper_of_others p false f)
      holds = enclosed all_rows (upper_of_others p false f) listed refl

      some_M : (meant : Outcome → Bool) → 0 < (M meant).1
      some_M meant = let x = mass_fraction down up doubling doubling_positive p n None ok false n refl passes meant in omega (arith, x)

      some_m : (meant : Outcome → Bool) → 0 < (m meant).1
      some_m meant = let x = mass_fraction down up doubling doubling_positive p n (Some t) ok false n refl still meant in omega (arith, x)

      -- ---- of a row

      record Here (x : Outcome) (low high : Fraction) : Type 0 where
        units : Pair
        some : 1 < part_at A B R units
        lower : low ≡ lowest (part_at A B R units - 1, ALL)
        upper : high ≡ upper_at A B R units
        full : Contains all_rows (x, lowest (part_at A B R units - 0, ALL), upper_at A B R units)

      here : (x : Outcome) (low high : Fraction) → Contains rows (x, low, high) → Here x low high
      here x low high c =
          let r = row_from (bounds_at A B R 1) C x low high c in
          let b = has_bounds A B R 1 r.units low high r.is in
          record {
            units = r.units;
            some = b.some;
            lower = b.lower;
            upper = b.upper;
            full = row_has (bounds_at A B R 0) C x r.units (lowest (part_at A B R r.units - 0, ALL)) (upper_at A B R r.units) r.entry (are_bounds A B R 0 r.units (let s = b.some in omega (arith, s)));
          }

      module _ (x : Outcome) (low high : Fraction) (h : Here x low high) where
        abbrev part : ℕ
        part = part_at A B R h.units

        parts_least : AtMost (part - 0, ALL) (M (same_outcome x))
        parts_least =
            equal_below (part - 0, ALL) (lowest (part - 0, ALL)) (M (same_outcome x)) (positive (part - 0)) (sym (lowest_equal (part - 0) ALL))
            (holds.from_below x (lowest (part - 0, ALL)) (upper_at A B R h.units) h.full)

        row_below : AtMost low (m (same_outcome x))
        row_below =
            let u = M (same_outcome x) in
            let v = m (same_outcome x) in
            let a = m limit in
            subst (λ q. AtMost q (m (same_outcome x))) (sym h.lower)
            (equal_below (lowest (part - 1, ALL)) (part - 1, ALL) (m (same_outcome x)) (omega arith) (lowest_equal (part - 1) ALL)
            (one_less ALL (part - 0) (part - 1) u.0 u.1 v.0 v.1 a.0 a.1 (some_M (same_outcome x)) (some_m limit) (let s = h.some in omega (arith, s)) parts_least (no_less (same_outcome x)) weight))

        most_is_above : AtMost (M (same_outcome x)) high
        most_is_above = subst (AtMost (M (same_outcome x))) (sym h.upper) (holds.from_above x (lowest (part - 0, ALL)) (upper_at A B R h.units) h.full)

        row_above : AtMost (m (same_outcome x)) high
        row_above = by (same_outcome x (outcome.Limit Attempts)) refl
          where
            one_part : AtMost (1, ALL) high
            one_part =
                through (1, ALL) (M (same_outcome x)) high (some_M (same_outcome x))
                (through (1, ALL) (part - 0, ALL) (M (same_outcome x)) (omega arith) (let s = h.some in omega (arith, s)) parts_least) most_is_above

            by : (b : Bool) → same_outcome x (outcome.Limit Attempts) ≡ b → AtMost (m (same_outcome x)) high
            by false q = through (m (same_outcome x)) (M (same_outcome x)) high (some_M (same_outcome x)) (spared (same_outcome x) q) most_is_above
            by true q =
                subst (λ y. AtMost (m (same_outcome y)) high) (sym (same_outcomes x (outcome.Limit Attempts) q)) (through (m limit) (1, ALL) high (omega arith) weight one_part)

        row_near : AtMost high (plus (plus low (uncertain p false f, all_least p false f)) (3, ALL))
        row_near =
            let e = near all_rows listed x (lowest (part - 0, ALL)) (upper_at A B R h.units) h.full in
            let l = lowest (part - 0, ALL) in
            let k = lowest (part - 1, ALL) in
            let u = upper_at A B R h.units in
            subst (λ q. AtMost high (plus (plus q (uncertain p false f, all_least p false f)) (3, ALL))) (sym h.lower)
            (subst (λ q. AtMost q (plus (plus (lowest (part - 1, ALL)) (uncertain p false f, all_least p false f)) (3, ALL))) (sym h.upper)
            (near_less ALL (part - 0) (part - 1) l.0 l.1 k.0 k.1 u.0 u.1 (uncertain p false f) (all_least p false f) (positive (part - 0)) (let s = h.some in omega (arith, s))
            (lowest_equal (part - 0) ALL) (lowest_equal (part - 1) ALL) e))

      -- ---- all that have no row

      abbrev unlisted : Outcome → Bool
      unlisted x = none_of (parts_of p false f x - 1)

      abbrev others : (Outcome → Bool) → Outcome → Bool
      others meant x = not (meant x)

      abbrev kept : Pair
      kept = kept_by (bounds_at A B R 1) C

      not_listed : (x : Outcome) → HasNone x rows → unlisted x ≡ true
      not_listed x none = by (parts_of p false f x - 1) refl
        where
          by : (k : ℕ) → parts_of p false f x - 1 ≡ k → none_of k ≡ true
          by zero q = refl
          by (suc k) q =
              let e = has_entry p n None false K loose g ascending x (omega (arith, q)) in
              let s = parts_are p n None false K loose g ascending x e.0 e.1 in
              absurd (none (lowest (part_at A B R e.0 - 1, ALL)) (upper_at A B R e.0)
              (row_has (bounds_at A B R 1) C x e.0 (lowest (part_at A B R e.0 - 1, ALL)) (upper_at A B R e.0) e.1 (are_bounds A B R 1 e.0 (omega (arith, q, s)))))

      kept_are : (kept.0 ≡ held (λ x. bit (others unlisted x)) (at_least C)) × (kept.1 ≡ held (λ x. bit (others unlisted x)) (at_most C))
      kept_are =
          kept_is (bounds_at A B R 1) (others unlisted) C
          (λ x w c. ap (λ k. not (none_of (k - 1))) (parts_are p n None false K loose g ascending x w c) ∙ row_or_none A B R w (part_at A B R w - 1))

      twice : (b : Bool) → not (not b) ≡ b
      twice true = refl
      twice false = refl

      most_left : most_of p false unlisted f ≡ B - kept.1 + R
      most_left =
          let a = most_is p n None false K loose g ascending unlisted in
          let b = parted_units most_number (others unlisted) C in
          let c = same_tests most_number (others (others unlisted)) unlisted (λ x. twice (unlisted x)) C in
          let e = kept_are.1 in
          omega (arith, a, b, c, e)

      least_kept : least_of p false (others unlisted) f ≡ kept.0
      least_kept = least_is p n None false K loose g ascending (others unlisted) ∙ sym kept_are.0

      least_most : (meant : Outcome → Bool) → least_of p false meant f ≤ most_of p false meant f
      least_most meant =
          let q = round_mass p n None meant in
          let x = subst (λ S. AreWithin S (least_of p false meant f) q) scale (within meant) in
          let y = subst (λ S. AreMostEnough S (most_of p false meant f) q) scale (most_units meant) in
          from_left q.1 (least_of p false meant f) (most_of p false meant f) (parted p ok n n (le_refl n) None meant).given_fraction (omega (arith, x, y))

      -- something stands on both sides
      some_most : (meant : Outcome → Bool) → 0 < most_of p false meant f + least_of p false (others meant) f
      some_most meant =
          let a = least_is p n None false K loose g ascending meant in
          let b = least_is p n None false K loose g ascending (others meant) in
          let c = parted_units least_number meant C in
          let e = least_most meant in
          omega (arith, a, b, c, e, unit)

      reversed : (a b : Bool) → (a ≡ true → b ≡ true) → not b ≡ true → not a ≡ true
      reversed true b h e = let x = h refl in rw x at e
      reversed false b h e = refl

      others_most : (meant : Outcome → Bool) → ((x : Outcome) → meant x ≡ true → HasNone x rows) → AtMost (M meant) (rounded_up (B - kept.1 + R) (B - kept.1 + R + kept.0))
      others_most meant none =
          let u = M meant in
          let within_those = λ (x : Outcome) (e : meant x ≡ true). not_listed x (none x e) in
          let a = most_is p n None false K loose g ascending meant in
          let b = most_is p n None false K loose g ascending unlisted in
          let c = fewer_have most_number meant unlisted within_those C in
          let a' = least_is p n None false K loose g ascending (others meant) in
          let b' = least_is p n None false K loose g ascending (others unlisted) in
          let c' = fewer_have least_number (others unlisted) (others meant) (λ x. reversed (meant x) (unlisted x) (within_those x)) C in
          let rises =
          part_rises u.0 u.1 (most_of p false meant f) (least_of p false (others meant) f) (most_of p false unlisted f) (least_of p false (others unlisted) f) (some_most meant)
          (between meant).from_above (omega (arith, a, b, c)) (omega (arith, a', b', c')) in
          subst (λ k. AtMost u (rounded_up (B - kept.1 + R) (B - kept.1 + R + k))) least_kept
          (subst (λ k. AtMost u (rounded_up k (k + least_of p false (others unlisted) f))) most_left
          (up_above (most_of p false unlisted f) (most_of p false unlisted f + least_of p false (others unlisted) f) u (some_most unlisted) rises))

      all_most : (meant : Outcome → Bool) → (m meant).0 ≤ (m meant).1
      all_most meant =
          let a = parted p ok n n (le_refl n) (Some t) meant in
          let q = round_mass p n (Some t) meant in
          let e = failed_mass p n (Some t) in
          within_all a.scale a.given a.others a.failing q.0 q.1 e.0 e.1 a.positive a.given_share a.failing_share a.all still

      module _ (o : ℕ) (enough : AreEnough A B R 1 (kept_by (bounds_at A B R 1) C) o) where
        others_few : (meant : Outcome → Bool) → ((x : Outcome) → meant x ≡ true → HasNone x rows) → AtMost (m meant) (lowest (o, ALL))
        others_few meant none =
            let u = M meant in
            let v = m meant in
            let a = m limit in
            let k = div_ceil ((B - kept.1 + R) * ALL) (B - kept.1 + R + kept.0) in
            let parts_most : AtMost u (k, ALL) = equal_above u (k, ALL) (lowest (k, ALL)) (positive k) (sym (lowest_equal k ALL)) (others_most meant none) in
            equal_above v (lowest (o, ALL)) (o, ALL) (omega arith) (lowest_equal o ALL)
            (⊎_elim
            (λ (l : o < ALL).
            let x = one_more ALL k u.0 u.1 v.0 v.1 a.0 a.1 (some_M meant) (some_m limit) parts_most (no_more meant) weight in
            let y = mul-le-mul_right v.1 (enough.unlisted l) in
            omega (arith, x, y))
            (λ (l : ALL ≤ o).
            let x = mul-le-mul_right v.1 l in
            let y = all_most meant in
            omega (arith, x, y))
            (cases_lt o ALL))

        under_encloses : Enclose p n (Some t) None rows (lowest (o, ALL))
        under_encloses = record {
          fraction = λ x. let z = some_m (same_outcome x) in omega (arith, z);
          from_below = λ x low high c. row_below x low high (here x low high c);
          from_above = λ x low high c. row_above x low high (here x low high c);
          others = others_few;
        }

        under_close : AreClose 1 rows (lowest (o, ALL))
        under_close x low high c =
            let h = here x low high c in
            subst (λ q. AtMost q (plus (plus low (lowest (o, ALL))) (1, ALL))) (sym h.upper)
            (bounds_close low (h.units.1 + R) (h.units.1 + R + (A - h.units.0)) o (B + R + R - A) A 1 (omega arith) unit enough.within enough.apart
            (subst (λ q. AtMost q (plus (plus low (B + R + R - A, A)) (3, ALL))) h.upper
            (subst (λ a. AtMost high (plus (plus low (B + R + R - A, a)) (3, ALL))) (all_least_is p n None false K loose g ascending)
            (subst (λ g. AtMost high (plus (plus low (g, all_least p false f)) (3, ALL))) (uncertain_is p n None false K loose g ascending) (row_near x low high h)))))

        under_ordered : AreOrdered rows (lowest (o, ALL))
        under_ordered = record {
          ascending = kept_order (bounds_at A B R 1) C (in_order p n None false K loose g ascending);
          each = λ x low high c.
              let h = here x low high c in (
                subst (λ q. 1 ≤ q.0) (sym h.lower) (above (part_at A B R h.units - 1) (let s = h.some in omega (arith, s))),
                subst InLowest (sym h.lower) (lowest_in_lowest (part_at A B R h.units - 1) ALL (omega arith)),
                subst InLowest (sym h.upper) (lowest_in_lowest (div_ceil ((h.units.1 + R) * ALL) (h.units.1 + R + (A - h.units.0))) ALL (omega arith)),
              );
          others = lowest_in_lowest o ALL (omega arith);
        }

      -- with the same numbers by other names
      module _ (least most rest : ℕ) (least_all : least ≡ total (at_least (counted false K))) (most_all : most ≡ total (at_most (counted false K))) (rest_all : rest ≡ loose + set_aside false K)
          (those : Pair) (those_all : those ≡ kept_by (bounds_at least most rest 1) (counted false K)) (found : Rows) (found_all : found ≡ rows_by (bounds_at least most rest 1) (counted false K))
          (o : ℕ) (enough : AreEnough least most rest 1 those o) where
        enough_here : AreEnough A B R 1 kept o
        enough_here = same_enough 1 least most rest A B R least_all most_all rest_all those kept o (same_kept 1 least most rest A B R least_all most_all rest_all those C those_all) enough

        pub hold_under : HoldUnder p n t found (lowest (o, ALL))
        hold_under =
            subst (λ rows. HoldUnder p n t rows (lowest (o, ALL))) (sym (same_rows 1 least most rest A B R least_all most_all rest_all found C found_all))
            (record { ordered = under_ordered o enough_here; encloses = under_encloses o enough_here; close = under_close o enough_here })
