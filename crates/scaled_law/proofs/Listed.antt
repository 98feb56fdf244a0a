-- Rows of bounds from a round over pairs hold, are in order, and are near.
use Rattle.std.proofs.Common.{◌≡◌, ℕ, zero, suc, ◌+◌, ◌-◌, ◌*◌, ◌/◌, ◌≤◌, ◌<◌, ◌==◌, Bool, true, false, cond, [], ◌∷◌, Option, None, refl, sym, ap, subst, arith, true≢false}
use Rattle.std.specs.Prelude.{not, ◌&&◌, ◌||◌}
use Rattle.std.specs.Int.{div_ceil}
use Rattle.std.proofs.lemmas.Grind.{div_ceil_times}
use Rattle.std.proofs.lemmas.Nat.{div-add-mod', mod_below}
use Rattle.std.proofs.Math.Nat.{mul-le-mul_left}
use Rattle.numbers.specs.declared.units.TheConstants.{ALL}
use Rattle.numbers.specs.Arithmetic.{InLowest}
use Rattle.numbers.specs.Fraction.{lowest, IsEqual}
use Rattle.numbers.proofs.Divisors.{lowest_equal, lowest_in_lowest, product_pos}
use Rattle.gcl_core.specs.declared.answers.Limit.TheVariants.{Turns}
use Rattle.gcl_core.specs.declared.answers.Outcome.{Outcome}
use Rattle.gcl_core.specs.declared.answers.Outcome.TheVariants as outcome
use Rattle.gcl_core.specs.meaning.Blocks.{End, on, failed, fault, limit}
use Rattle.gcl_core.specs.meaning.Outcomes.{same_outcome, outcome_of}
use Rattle.gcl_core.specs.meaning.Syntax.{Expression, SourceProgram}
use Rattle.gcl_core.specs.meaning.Value.{value_of}
use Rattle.gcl_core.specs.weighing.Fractions.{Fraction, plus, AtMost}
use Rattle.gcl_core.specs.weighing.Mass.{ends_in, mass_of, mass_of_those, round_mass}
use Rattle.bounds_law.specs.Rows.{Rows, HasNone}
use Rattle.units_law.specs.Flows.{UnitFlow}
use Rattle.units_law.specs.Holding.{AreOrdered, Enclose}
use Rattle.units_law.specs.Rounds.{meant_units}
use Rattle.units_law.specs.Units.{Units, held}
use Rattle.units_law.proofs.OneRound.{counts_less}
use Rattle.units_law.proofs.Ordered.{above}
use Rattle.units_law.proofs.Orders.{from_left}
use Rattle.units_law.proofs.RowsHold.{up_above, down_below}
use Rattle.units_law.proofs.Units.{held_join}
use Rattle.scaled_law.specs.Given.{least_flow, most_flow, least_of, most_of, stay, may_be, AreWithin, AreEnough, LiesBetween}
use Rattle.scaled_law.specs.Listed.{least_at, most_at, least_beside, most_beside, lower_of, upper_of, parts_of, unlisted, most_unlisted, upper_of_others, AreListed, all_least, uncertain, AreNear}
use Rattle.scaled_law.specs.Scaled.{Scaled}

-- ---- how tests of outcomes count

held_less : {A : Type 0} (G H : A → ℕ) → ((a : A) → G a ≤ H a) → (J : Units A) → held G J ≤ held H J
held_less G H h [] = omega arith
held_less G H h (e ∷ J) = let i = held_less G H h J in let x = mul-le-mul_left e.1 (h e.0) in omega arith

units_less : (p : SourceProgram) (some meant : Outcome → Bool) → ((x : Outcome) → some x ≡ true → meant x ≡ true) → (f : UnitFlow) → meant_units p some f ≤ meant_units p meant f
units_less p some meant h f =
    let x = held_less (λ s. cond (ends_in p.result some (on s)) 1 0) (λ s. cond (ends_in p.result meant (on s)) 1 0) (λ s. counts_less p.result some meant h (on s)) f.next in
    let y = held_less (λ e. cond (ends_in p.result some e) 1 0) (λ e. cond (ends_in p.result meant e) 1 0) (counts_less p.result some meant h) f.ended in
    omega arith

-- where two tests count together what two others do
abbrev Together : (a b c d : Outcome → Bool) → Type 0
Together a b c d = (x : Outcome) → cond (a x) 1 0 + cond (b x) 1 0 ≡ cond (c x) 1 0 + cond (d x) 1 0

ends_together : (result : Expression) (a b c d : Outcome → Bool) → Together a b c d → (e : End) →
    cond (ends_in result a e) 1 0 + cond (ends_in result b e) 1 0 ≡ cond (ends_in result c e) 1 0 + cond (ends_in result d e) 1 0
ends_together result a b c d h (on s) = h (outcome_of (value_of result s))
ends_together result a b c d h failed = refl
ends_together result a b c d h (fault f) = h (outcome.Fault f)
ends_together result a b c d h (limit l) = h (outcome.Limit l)

abbrev tested : Expression → (Outcome → Bool) → End → ℕ
tested result t e = cond (ends_in result t e) 1 0

units_together : (p : SourceProgram) (a b c d : Outcome → Bool) → Together a b c d → (f : UnitFlow) → meant_units p a f + meant_units p b f ≡ meant_units p c f + meant_units p d f
units_together p a b c d h f =
    let G = λ (e : End). tested p.result a e + tested p.result b e in
    let x = held_join (λ s. tested p.result a (on s)) (λ s. tested p.result b (on s)) (λ s. G (on s)) (λ s. refl) f.next in
    let y = held_join (λ s. tested p.result c (on s)) (λ s. tested p.result d (on s)) (λ s. G (on s)) (λ s. sym (ends_together p.result a b c d h (on s))) f.next in
    let u = held_join (tested p.result a) (tested p.result b) G (λ e. refl) f.ended in
    let v = held_join (tested p.result c) (tested p.result d) G (λ e. sym (ends_together p.result a b c d h e)) f.ended in
    omega arith

apart : (b : Bool) → cond b 1 0 + cond (not b) 1 0 ≡ cond true 1 0 + cond false 1 0
apart true = refl
apart false = refl

apart_in : (b t : Bool) → cond (b && not t) 1 0 + cond (not b && not t) 1 0 ≡ cond (true && not t) 1 0 + cond false 1 0
apart_in true true = refl
apart_in true false = refl
apart_in false true = refl
apart_in false false = refl

apart_or : (b t : Bool) → cond (b || t) 1 0 + cond (not b || t) 1 0 ≡ cond (true || t) 1 0 + cond (false || t) 1 0
apart_or true true = refl
apart_or true false = refl
apart_or false true = refl
apart_or false false = refl

module _ (p : SourceProgram) (f : Scaled) where
  nothing_meant : (g : UnitFlow) → meant_units p (λ x. false) g ≡ 0
  nothing_meant g =
      let x = none_held (λ s. tested p.result (λ x. false) (on s)) (λ s. refl) g.next in
      let y = none_held (tested p.result (λ x. false)) none_ends g.ended in
      omega arith
    where
      none_ends : (e : End) → tested p.result (λ x. false) e ≡ 0
      none_ends (on s) = refl
      none_ends failed = refl
      none_ends (fault f) = refl
      none_ends (limit l) = refl

      none_held : {A : Type 0} (G : A → ℕ) → ((a : A) → G a ≡ 0) → (J : Units A) → held G J ≡ 0
      none_held G h [] = refl
      none_held G h (e ∷ J) = let i = none_held G h J in let x = ap (λ t. e.1 * t) (h e.0) in omega arith

  -- what is meant and all others have all of it
  least_joins : (all_turns : Bool) (meant : Outcome → Bool) → least_of p all_turns meant f + least_of p all_turns (λ x. not (meant x)) f ≡ least_of p all_turns (λ x. true) f
  least_joins false meant =
      let x = units_together p meant (λ x. not (meant x)) (λ x. true) (λ x. false) (λ x. apart (meant x)) (least_flow f) in
      let y = nothing_meant (least_flow f) in
      omega arith
  least_joins true meant =
      let t = same_outcome (outcome.Limit Turns) in
      let x = units_together p (stay true meant) (stay true (λ x. not (meant x))) (stay true (λ x. true)) (λ x. false) (λ x. apart_in (meant x) (t x)) (least_flow f) in
      let y = nothing_meant (least_flow f) in
      omega arith

  most_joins : (all_turns : Bool) (meant : Outcome → Bool) →
      most_of p all_turns meant f + most_of p all_turns (λ x. not (meant x)) f ≡ most_of p all_turns (λ x. true) f + most_of p all_turns (λ x. false) f
  most_joins false meant = let x = units_together p meant (λ x. not (meant x)) (λ x. true) (λ x. false) (λ x. apart (meant x)) (most_flow f) in omega arith
  most_joins true meant =
      let t = same_outcome (outcome.Limit Turns) in
      let x = units_together p (may_be true meant) (may_be true (λ x. not (meant x))) (may_be true (λ x. true)) (may_be true (λ x. false)) (λ x. apart_or (meant x) (t x)) (most_flow f) in
      omega arith

  -- fewer outcomes have less
  most_less : (all_turns : Bool) (some meant : Outcome → Bool) → ((x : Outcome) → some x ≡ true → meant x ≡ true) → most_of p all_turns some f ≤ most_of p all_turns meant f
  most_less false some meant h = let x = units_less p some meant h (most_flow f) in omega arith
  most_less true some meant h =
      let t = same_outcome (outcome.Limit Turns) in
      let x = units_less p (may_be true some) (may_be true meant) (λ x. either (some x) (meant x) (t x) (h x)) (most_flow f) in
      omega arith
    where
      either : (a b t : Bool) → (a ≡ true → b ≡ true) → (a || t) ≡ true → (b || t) ≡ true
      either true b t h e = let x = h refl in rw x refl
      either false true t h e = refl
      either false false t h e = e

  least_fewer : (all_turns : Bool) (some meant : Outcome → Bool) → ((x : Outcome) → some x ≡ true → meant x ≡ true) → least_of p all_turns some f ≤ least_of p all_turns meant f
  least_fewer false some meant h = units_less p some meant h (least_flow f)
  least_fewer true some meant h = let t = same_outcome (outcome.Limit Turns) in units_less p (stay true some) (stay true meant) (λ x. both (some x) (meant x) (not (t x)) (h x)) (least_flow f)
    where
      both : (a b t : Bool) → (a ≡ true → b ≡ true) → (a && t) ≡ true → (b && t) ≡ true
      both true b t h e = let x = h refl in rw x e
      both false b t h e = absurd (true≢false (sym e))

-- where what is meant is of the others, no other is of what is not meant
reversed : (a b : Bool) → (a ≡ true → b ≡ true) → not b ≡ true → not a ≡ true
reversed true b h e = let x = h refl in rw x at e
reversed false b h e = refl

-- ---- over plain numbers

-- part of a whole rises with the part, and falls as the rest does
beside_rises : (m0 m1 h l u k : ℕ) → 0 < h + l → m0 * (h + l) ≤ h * m1 → h ≤ u → k ≤ l → m0 * (u + k) ≤ u * m1
beside_rises m0 m1 h l u k p a b c =
    from_left (h + l) (m0 * (u + k)) (u * m1) p
    (let x = mul-le-mul_left (u + k) a in let y = mul-le-mul_left (m1 * u) c in let z = mul-le-mul_left (m1 * k) b in omega arith)

-- how far two parts are apart
near : (l l' d d' : ℕ) → (l + d) * (l + (l' + d')) * (l + l') ≤ (l * (l + l') + (d + d') * (l + (l' + d'))) * (l + d + l')
near l l' d d' = omega arith

near_by : (l l' h h' L g : ℕ) → l ≤ h → l' ≤ h' → l + l' ≡ L → g ≡ h + h' - L → h * (l + h') * L ≤ (l * L + g * (l + h')) * (h + l')
near_by l l' h h' L g m n e f = by (h - l) (h' - l') (omega arith) (omega arith)
  where
    by : (d d' : ℕ) → h ≡ l + d → h' ≡ l' + d' → h * (l + h') * L ≤ (l * L + g * (l + h')) * (h + l')
    by d d' p q = let k : g ≡ d + d' = omega arith in rw (p, q, sym e, k) (near l l' d d')

rounded_near : (A h l w v g L a b : ℕ) → 0 < w → 0 < v → b * v ≤ h * A + v → l * A ≤ a * w + w → h * w * L ≤ (l * L + g * w) * v → b * L ≤ a * L + g * A + 2 * L
rounded_near A h l w v g L a b p q x y z =
    from_left (w * v) (b * L) (a * L + g * A + 2 * L) (product_pos w v p q)
    (let i = mul-le-mul_left (L * w) x in let j = mul-le-mul_left (L * v) y in let k = mul-le-mul_left A z in omega arith)

-- through lowest terms
lowest_near : (A a b g L : ℕ) (s t : Fraction) → IsEqual s (b, A) → IsEqual t (a, A) → b * L ≤ a * L + g * A + 2 * L → AtMost s (plus (plus t (g, L)) (2, A))
lowest_near A a b g L s t e f h =
    let x = mul-le-mul_left (s.1 * t.1) h in
    let y = ap (λ z. z * (t.1 * L)) e in
    let k = ap (λ z. z * (s.1 * L)) f in
    omega arith

-- ---- rows

module _ (p : SourceProgram) (all_turns : Bool) (f : Scaled) (rows : Rows) (other : Fraction) (are : AreListed p all_turns f rows) (is : other ≡ upper_of_others p all_turns f) where
  pub rows_ordered : AreOrdered rows other
  rows_ordered = record {
    ascending = are.ascending;
    each = λ x low high c. (
      subst (λ f. 1 ≤ f.0) (sym (are.lower x low high c)) (above (parts_of p all_turns f x) (are.some x low high c)),
      subst InLowest (sym (are.lower x low high c)) (lowest_in_lowest (parts_of p all_turns f x) ALL (omega arith)),
      subst InLowest (sym (are.upper x low high c)) (lowest_in_lowest (div_ceil (most_at p all_turns f x * ALL) (most_at p all_turns f x + least_beside p all_turns f x)) ALL (omega arith)),
    );
    others = subst InLowest (sym is) (lowest_in_lowest (div_ceil (most_unlisted p all_turns f * ALL) (most_unlisted p all_turns f + least_of p all_turns (λ x. not (unlisted p all_turns f x)) f)) ALL (omega arith));
  }

module _ (p : SourceProgram) (n' : ℕ) (r : Option ℕ) (all_turns : Bool) (f : Scaled) (fraction : 0 < f.scale.1)
    (within : (meant : Outcome → Bool) → AreWithin f.scale (least_of p all_turns meant f) (round_mass p n' r meant))
    (enough : (meant : Outcome → Bool) → AreEnough f.scale (most_of p all_turns meant f) (round_mass p n' r meant))
    (some : (meant : Outcome → Bool) → 0 < (round_mass p n' r meant).1) where
  least_most : (meant : Outcome → Bool) → least_of p all_turns meant f ≤ most_of p all_turns meant f
  least_most meant =
      let m = round_mass p n' r meant in
      let x = within meant in
      let y = enough meant in
      from_left (f.scale.1 * m.1) (least_of p all_turns meant f) (most_of p all_turns meant f) (product_pos f.scale.1 m.1 fraction (some meant)) (omega (arith, x, y))

  module _ (passes : 0 < all_least p all_turns f) (between : (meant : Outcome → Bool) → LiesBetween p n' r all_turns f meant) (fractions : (meant : Outcome → Bool) → 1 ≤ (mass_of_those p n' r None meant).1) where
    -- something stands on both sides
    some_least : (meant : Outcome → Bool) → 0 < least_of p all_turns meant f + most_of p all_turns (λ x. not (meant x)) f
    some_least meant = let x = least_joins p f all_turns meant in let y = least_most (λ x. not (meant x)) in omega (arith, x, y, passes)

    some_most : (meant : Outcome → Bool) → 0 < most_of p all_turns meant f + least_of p all_turns (λ x. not (meant x)) f
    some_most meant = let x = least_joins p f all_turns meant in let y = least_most meant in omega (arith, x, y, passes)

    module _ (rows : Rows) (other : Fraction) (are : AreListed p all_turns f rows) (is : other ≡ upper_of_others p all_turns f) where
      not_listed : (x : Outcome) → HasNone x rows → unlisted p all_turns f x ≡ true
      not_listed x none = by (parts_of p all_turns f x) (λ h. none (lower_of p all_turns f x) (upper_of p all_turns f x) (are.all x h))
        where
          by : (k : ℕ) → (0 < k → ⊥) → (k == 0) ≡ true
          by zero h = refl
          by (suc k) h = absurd (h (omega arith))

      others_at_most : (meant : Outcome → Bool) → ((x : Outcome) → meant x ≡ true → HasNone x rows) → AtMost (mass_of_those p n' r None meant) other
      others_at_most meant none =
          let m = mass_of_those p n' r None meant in
          let u = unlisted p all_turns f in
          let x = most_less p f all_turns meant u (λ x t. not_listed x (none x t)) in
          let a = least_joins p f all_turns meant in
          let b = least_joins p f all_turns u in
          let l = least_less (λ x t. not_listed x (none x t)) in
          let z = (between meant).from_above in
          subst (λ f. AtMost m f) (sym is)
          (up_above (most_unlisted p all_turns f) (most_unlisted p all_turns f + least_of p all_turns (λ x. not (u x)) f) m (some_most u)
          (beside_rises m.0 m.1 (most_of p all_turns meant f) (least_of p all_turns (λ x. not (meant x)) f) (most_unlisted p all_turns f) (least_of p all_turns (λ x. not (u x)) f) (some_most meant) z x l))
        where
          least_less : ((x : Outcome) → meant x ≡ true → unlisted p all_turns f x ≡ true) → least_of p all_turns (λ x. not (unlisted p all_turns f x)) f ≤ least_of p all_turns (λ x. not (meant x)) f
          least_less h = least_fewer p f all_turns (λ x. not (unlisted p all_turns f x)) (λ x. not (meant x)) (λ x. reversed (meant x) (unlisted p all_turns f x) (h x))

      pub rows_enclose : Enclose p n' r None rows other
      rows_enclose = record {
        fraction = λ x. fractions (same_outcome x);
        from_below = λ x low high c.
            subst (λ f. AtMost f (mass_of p n' r None x)) (sym (are.lower x low high c)) (down_below (least_at p all_turns f x) (least_at p all_turns f x + most_beside p all_turns f x) (mass_of p n' r None x) (some_least (same_outcome x)) (between (same_outcome x)).from_below);
        from_above = λ x low high c.
            subst (λ f. AtMost (mass_of p n' r None x) f) (sym (are.upper x low high c)) (up_above (most_at p all_turns f x) (most_at p all_turns f x + least_beside p all_turns f x) (mass_of p n' r None x) (some_most (same_outcome x)) (between (same_outcome x)).from_above);
        others = others_at_most;
      }

      pub rows_near : AreNear p all_turns f rows
      rows_near x low high c =
          subst (λ t. AtMost high (plus (plus t (uncertain p all_turns f, all_least p all_turns f)) (2, ALL))) (sym (are.lower x low high c))
          (subst (λ t. AtMost t (plus (plus (lower_of p all_turns f x) (uncertain p all_turns f, all_least p all_turns f)) (2, ALL))) (sym (are.upper x low high c)) (at_row x))
        where
          at_row : (x : Outcome) → AtMost (upper_of p all_turns f x) (plus (plus (lower_of p all_turns f x) (uncertain p all_turns f, all_least p all_turns f)) (2, ALL))
          at_row x =
              let l = least_at p all_turns f x in
              let h = most_at p all_turns f x in
              let l' = least_beside p all_turns f x in
              let h' = most_beside p all_turns f x in
              let w = l + h' in
              let v = h + l' in
              let L = all_least p all_turns f in
              let g = uncertain p all_turns f in
              let a = l * ALL / w in
              let b = div_ceil (h * ALL) v in
              let k = most_joins p f all_turns (same_outcome x) in
              let d = div-add-mod' (l * ALL) w in
              let m = mod_below (l * ALL) w (some_least (same_outcome x)) in
              let c = (div_ceil_times (h * ALL) v (some_most (same_outcome x))).1 in
              lowest_near ALL a b g L (lowest (b, ALL)) (lowest (a, ALL)) (lowest_equal b ALL) (lowest_equal a ALL)
              (rounded_near ALL h l w v g L a b (some_least (same_outcome x)) (some_most (same_outcome x)) (omega (arith, c)) (omega (arith, d, m))
              (near_by l l' h h' L g (least_most (same_outcome x)) (least_most (λ y. not (same_outcome x y))) (least_joins p f all_turns (same_outcome x)) (omega (arith, k))))
