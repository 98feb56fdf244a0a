-- Rows of bounds go on to hold, in order and close, beside a bound of the others that is enough.
use Rattle.std.proofs.Common.{◌≡◌, ◌⊎◌, inl, inr, ⊎_elim, ℕ, zero, suc, ◌+◌, ◌*◌, ◌≤◌, ◌<◌, Option, sym, ap, ◌∙◌, arith}
use Rattle.std.specs.Int.{div_ceil}
use Rattle.std.proofs.lemmas.Bool.{cases_lt}
use Rattle.std.proofs.lemmas.Grind.{div_ceil_times}
use Rattle.std.proofs.Math.Nat.{mul-le-mul_left, mul-le-mul_right}
use Rattle.numbers.specs.declared.units.TheConstants.{ALL}
use Rattle.numbers.specs.Arithmetic.{InLowest}
use Rattle.numbers.specs.Fraction.{lowest}
use Rattle.numbers.proofs.Divisors.{lowest_equal, lowest_in_lowest}
use Rattle.gcl_core.specs.meaning.Syntax.{SourceProgram}
use Rattle.gcl_core.specs.weighing.Fractions.{Fraction, plus, AtMost, one}
use Rattle.gcl_core.specs.weighing.Mass.{mass_of_those}
use Rattle.bounds_law.specs.Rows.{Rows}
use Rattle.bounds_law.proofs.EqualFractions.{equal_below, equal_above}
use Rattle.units_law.specs.Between.{rounded_up}
use Rattle.units_law.specs.Holding.{AreOrdered, Enclose}
use Rattle.units_law.proofs.Orders.{from_left}

abbrev units : ℕ → Fraction
units k = (k, ALL)

abbrev other_of : ℕ → Fraction
other_of k = lowest (k, ALL)

is_lowest : (k : ℕ) → InLowest (other_of k)
is_lowest k = lowest_in_lowest k ALL (omega arith)

-- ---- at most a number of units is at most any greater one

more_units : (m : Fraction) (k o : ℕ) → k ≤ o → AtMost m (other_of k) → AtMost m (other_of o)
more_units m k o h a =
    let low = is_lowest k in
    let near : AtMost m (units k) = equal_above m (units k) (other_of k) (let z = low.positive in omega arith) (sym (lowest_equal k ALL)) a in
    let x = mul-le-mul_right m.1 h in
    equal_above m (other_of o) (units o) (omega arith) (lowest_equal o ALL) (omega (arith, near, x))

pub at_most_one : (o : ℕ) → o ≤ ALL → AtMost (other_of o) one
at_most_one o h = equal_below (other_of o) (units o) one (omega arith) (lowest_equal o ALL) (omega (arith, h))

pub still_ordered : (rows : Rows) (other : Fraction) (o : ℕ) → AreOrdered rows other → AreOrdered rows (other_of o)
still_ordered rows other o a = record { ascending = a.ascending; each = a.each; others = is_lowest o }

pub still_enclose : (p : SourceProgram) (n : ℕ) (r R : Option ℕ) (rows : Rows) (k o : ℕ) → k ≤ o → Enclose p n r R rows (other_of k) → Enclose p n r R rows (other_of o)
still_enclose p n r R rows k o h e = record {
  fraction = e.fraction;
  from_below = e.from_below;
  from_above = e.from_above;
  others = λ meant none. more_units (mass_of_those p n r R meant) k o h (e.others meant none);
}

-- ---- close

-- over plain numbers, where o * t1 is t0 * S
closer : (S h0 h1 l0 l1 t0 t1 o g L D s : ℕ) → 0 < L → t0 * S ≡ o * t1 → g * S ≤ D * L → D + 1 + s ≤ o →
    h0 * (l1 * L * S) ≤ ((l0 * L + g * l1) * S + (2 + s) * (l1 * L)) * h1 → h0 * (l1 * t1 * S) ≤ ((l0 * t1 + t0 * l1) * S + 1 * (l1 * t1)) * h1
closer S h0 h1 l0 l1 t0 t1 o g L D s some e d m near =
    let far : g * S + L + s * L ≤ o * L = let x = mul-le-mul_right L m in omega (arith, x, d) in
    let a = mul-le-mul_left (t1 * l1 * h1) far in
    let b = mul-le-mul_left t1 near in
    let c = ap (λ z. z * (l1 * h1 * L)) e in
    from_left L (h0 * (l1 * t1 * S)) (((l0 * t1 + t0 * l1) * S + 1 * (l1 * t1)) * h1) some (omega (arith, a, b, c))

within_one : (S h0 h1 l0 l1 t0 t1 : ℕ) → t0 * S ≡ S * t1 → h0 ≤ h1 → h0 * (l1 * t1 * S) ≤ ((l0 * t1 + t0 * l1) * S + 1 * (l1 * t1)) * h1
within_one S h0 h1 l0 l1 t0 t1 e m =
    let a = mul-le-mul_left (l1 * t1 * S) m in
    let b = ap (λ z. z * (l1 * h1)) e in
    omega (arith, a, b)

-- a part of a whole is at most 1, rounded up
pub part_most : (h d : ℕ) → h ≤ d → div_ceil (h * ALL) d ≤ ALL
part_most h zero m = by h m
  where
    by : (h : ℕ) → h ≤ 0 → div_ceil (h * ALL) 0 ≤ ALL
    by zero m = omega arith
    by (suc h) m = absurd (omega arith)
part_most h (suc d) m = by (cases_lt ALL (div_ceil (h * ALL) (suc d)))
  where
    by : (ALL < div_ceil (h * ALL) (suc d)) ⊎ (div_ceil (h * ALL) (suc d) ≤ ALL) → div_ceil (h * ALL) (suc d) ≤ ALL
    by (inr l) = l
    by (inl l) =
        let a = (div_ceil_times (h * ALL) (suc d) (omega arith)).1 in
        let b : (ALL + 1) * suc d ≤ div_ceil (h * ALL) (suc d) * suc d = mul-le-mul_right (suc d) (omega (arith, l)) in
        let c = mul-le-mul_right ALL m in
        absurd (omega (arith, a, b, c))

-- what is within all is within any number that is all or else enough
pub capped : (k o : ℕ) → k ≤ ALL → (o < ALL → k ≤ o) → k ≤ o
capped k o h e = ⊎_elim (λ (l : o < ALL). e l) (λ (l : ALL ≤ o). omega (arith, h, l)) (cases_lt o ALL)

below_one : (k : ℕ) → k ≤ ALL → (other_of k).0 ≤ (other_of k).1
below_one k h = let a = at_most_one k h in omega (arith, a)

pub bounds_close : (low : Fraction) (h d o g L s : ℕ) → h ≤ d → 0 < L → o ≤ ALL → (o < ALL → div_ceil (g * ALL) L + 1 + s ≤ o) →
    AtMost (rounded_up h d) (plus (plus low (g, L)) (2 + s, ALL)) → AtMost (rounded_up h d) (plus (plus low (other_of o)) (1, ALL))
bounds_close low h d o g L s m some within apart near = by (cases_lt o ALL)
  where
    high : Fraction
    high = rounded_up h d

    by : (o < ALL) ⊎ (ALL ≤ o) → AtMost (rounded_up h d) (plus (plus low (other_of o)) (1, ALL))
    by (inl l) =
        closer ALL high.0 high.1 low.0 low.1 (other_of o).0 (other_of o).1 o g L (div_ceil (g * ALL) L) s some (lowest_equal o ALL)
        (div_ceil_times (g * ALL) L some).0 (apart l) near
    by (inr l) =
        let is : o ≡ ALL = omega (arith, within, l) in
        within_one ALL high.0 high.1 low.0 low.1 (other_of o).0 (other_of o).1 (lowest_equal o ALL ∙ ap (λ k. k * (other_of o).1) is) (below_one (div_ceil (h * ALL) d) (part_most h d m))
