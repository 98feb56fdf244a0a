-- Rows of bounds are of possible outcomes, in lowest terms.
use Rattle.std.proofs.Common.{◌≡◌, ℕ, zero, suc, ◌+◌, ◌*◌, ◌/◌, ◌%◌, ◌≤◌, ◌<◌, Bool, Option, Some, None, sym, subst, arith}
use Rattle.std.specs.Int.{div_ceil}
use Rattle.std.proofs.lemmas.Nat.{div-add-mod', mod_below}
use Rattle.numbers.specs.declared.units.TheConstants.{ALL}
use Rattle.numbers.specs.Arithmetic.{InLowest}
use Rattle.numbers.specs.Fraction.{lowest}
use Rattle.numbers.proofs.Divisors.{lowest_in_lowest, lowest_equal}
use Rattle.gcl_core.specs.meaning.Outcomes.{same_outcome}
use Rattle.gcl_core.specs.meaning.Syntax.{SourceProgram}
use Rattle.gcl_core.specs.weighing.Fractions.{Fraction}
use Rattle.bounds_law.specs.Rows.{Rows}
use Rattle.weighing_law.proofs.Shares.{product_pos}
use Rattle.units_law.specs.Enclosures.{whole_units, least_units, most_units, lost_units, upper_of_others, AreEnclosures}
use Rattle.units_law.specs.Holding.{AreOrdered}

-- what has a unit of no more than all has a unit of its share of all
some_part : (l w k m : ℕ) → 0 < l → w ≤ ALL → l * ALL ≡ k * w + m → m < w → 0 < k
some_part l w zero m some most e less = absurd (omega arith)
some_part l w (suc k) m some most e less = omega arith

-- a fraction above 0 stays so in lowest terms
pub above : (a : ℕ) → 0 < a → 1 ≤ (lowest (a, ALL)).0
above a some =
    let g = lowest (a, ALL) in
    let e = lowest_equal a ALL in
    let low = lowest_in_lowest a ALL (omega arith) in
    let y = product_pos a g.1 some (let z = low.positive in omega arith) in
    by g.0 (a * g.1) e y
  where
    by : (k t : ℕ) → k * ALL ≡ t → 0 < t → 1 ≤ k
    by k t e some = omega arith

module _ (p : SourceProgram) (n : ℕ) (r R : Option ℕ) (all_turns : Bool) (some : 0 < whole_units p n r R all_turns) (most : whole_units p n r R all_turns ≤ ALL) where
  abbrev w : ℕ
  w = whole_units p n r R all_turns

  pub rows_ordered : (rows : Rows) (other : Fraction) → AreEnclosures p n r R all_turns rows → other ≡ upper_of_others p n r R all_turns → AreOrdered rows other
  rows_ordered rows other are is = record {
    ascending = are.ascending;
    each = λ x low high c.
        let l = least_units p n r R all_turns (same_outcome x) in
        let a = l * ALL / w in
        let b = div_ceil (most_units p n r R all_turns (same_outcome x) * ALL) w in
        let has = some_part l w a (l * ALL % w) (are.some x low high c) most (let d = div-add-mod' (l * ALL) w in omega arith) (mod_below (l * ALL) w some) in
        (subst (λ f. 1 ≤ f.0) (sym (are.lower x low high c)) (above a has), subst InLowest (sym (are.lower x low high c)) (lowest_in_lowest a ALL (omega arith)), subst InLowest (sym (are.upper x low high c)) (lowest_in_lowest b ALL (omega arith)));
    others = subst InLowest (sym is) (lowest_in_lowest (div_ceil (lost_units p n r R all_turns * ALL) w) ALL (omega arith));
  }

pub whole_most : (p : SourceProgram) (n : ℕ) (r R : Option ℕ) (all_turns : Bool) → whole_units p n r R all_turns ≤ ALL
whole_most p n r None all_turns = omega arith
whole_most p n r (Some R) all_turns = omega arith
