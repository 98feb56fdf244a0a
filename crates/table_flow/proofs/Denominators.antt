-- At the common denominator each fraction is whole.
use Rattle.std.proofs.Common.{◌≡◌, ℕ, ◌*◌, ◌/◌, ◌≤◌, ◌<◌, List, [], ◌∷◌, ◌++◌, sym, ap, ◌∙◌, arith}
use Prim.Native.Nat.{◌∣◌}
use native.Mathlib.Nat.{mul-div_cancel', dvd-mul_left, dvd-mul_right}
use Rattle.std.proofs.lemmas.Nat.Gcd.{dvd_trans}
use Rattle.gcl_core.specs.weighing.Fractions.{Fraction}
use Rattle.gcl_core.specs.weighing.WeightedEnds.{Weighted}
use Rattle.numbers.specs.Divisor.{gcd, lcm}
use Rattle.numbers.specs.Fraction.{lowest}
use Rattle.numbers.proofs.Divisors.{gcd_is, gcd_pos, along_to, lcm_is, product_pos, lowest_in_lowest, lowest_equal, crosswise}
use Rattle.numbers.proofs.Terms.{part_pos}
use Rattle.table_flow.specs.Tables.{Table, Flow, most_states}
use Rattle.table_flow.specs.Width.{denominator, common_denominator, weights, table_weights, fractions}
use Rattle.table_flow.specs.Scale.{Whole, AllWhole, Wholes, TablesWithin, Within}
use Rattle.table_flow.proofs.Wholes.{whole_from}
use Rattle.table_flow.proofs.EachMember.{Each}
use Rattle.table_flow.proofs.Amounts.{all_first, all_second}

-- each fraction has a denominator of at least 1
abbrev pub AllPositive : List Fraction → Type 0
AllPositive = Each (λ p. 0 < p.1)

lcm_left : (a b : ℕ) → a ∣ lcm a b
lcm_left a b = along_to a (a * (b / gcd a b)) (lcm a b) (sym (lcm_is a b)) (dvd-mul_right a (b / gcd a b))

lcm_right : (a b : ℕ) → 0 < b → b ∣ lcm a b
lcm_right a b pos =
    let g = gcd a b in
    let x : g * (a / g) ≡ a = mul-div_cancel' g (gcd_is a b).0 in
    let y : g * (b / g) ≡ b = mul-div_cancel' g (gcd_is a b).1 in
    along_to b (a / g * b) (lcm a b) (crosswise g a b (a / g) (b / g) x y ∙ sym (lcm_is a b)) (dvd-mul_left b (a / g))

lcm_pos : (a b : ℕ) → 0 < a → 0 < b → 0 < lcm a b
lcm_pos a b pa pb = let x = product_pos a (b / gcd a b) pa (part_pos (gcd a b) b pb (gcd_is a b).1) in rw (lcm_is a b) x

-- a fraction whose denominator in lowest terms divides N
pub whole_at : (N : ℕ) (p : Fraction) → 0 < p.1 → denominator p ∣ N → Whole N p
whole_at N p pos h =
    let d = denominator p in
    let low = lowest_in_lowest p.0 p.1 (omega arith) in
    let e : d * (N / d) ≡ N = mul-div_cancel' d h in
    let g : 0 < gcd p.0 p.1 = gcd_pos p.0 p.1 pos in
    let q : (lowest p).0 * p.1 ≡ p.0 * d = lowest_equal p.0 p.1 in
    (whole_from N p ((lowest p).0 * (N / d)) pos (crossed p.0 p.1 (lowest p).0 d (N / d) N q e)).1
  where
    crossed : (a b x d k N : ℕ) → x * b ≡ a * d → d * k ≡ N → b * (x * k) ≡ a * N
    crossed a b x d k N q e = let z = ap (λ u. u * k) q in rw (← e) (omega arith)

pub common_positive : (ps : List Fraction) → AllPositive ps → 0 < common_denominator ps
common_positive [] h = omega arith
common_positive (p ∷ ps) h =
    let low = lowest_in_lowest p.0 p.1 (let z = h.0 in omega arith) in
    lcm_pos (denominator p) (common_denominator ps) (let z = low.positive in omega arith) (common_positive ps h.1)

-- at a multiple of the common denominator
pub wholes_at : (N : ℕ) (ps : List Fraction) → AllPositive ps → common_denominator ps ∣ N → AllWhole N ps
wholes_at N [] h d = tt
wholes_at N (p ∷ ps) h d = (
  whole_at N p h.0 (dvd_trans _ (lcm_left (denominator p) (common_denominator ps)) d),
  wholes_at N ps h.1 (dvd_trans _ (lcm_right (denominator p) (common_denominator ps) (common_positive ps h.1)) d),
)

-- ---- the parts of a flow
pub weights_whole : {A : Type 0} (N : ℕ) (m : Weighted A) → AllWhole N (weights m) → Wholes N m
weights_whole N [] h = tt
weights_whole N (e ∷ m) h = (h.0, weights_whole N m h.1)

tables_within : (N L : ℕ) (Is : List Table) → AllWhole N (table_weights Is) → most_states Is ≤ L → TablesWithin N L Is
tables_within N L [] h m = tt
tables_within N L (I ∷ Is) h m =
    (weights_whole N I (all_first N (weights I) (table_weights Is) h), omega arith, tables_within N L Is (all_second N (weights I) (table_weights Is) h) (omega arith))

pub flow_within : (N L : ℕ) (f : Flow) → AllPositive (fractions f) → common_denominator (fractions f) ∣ N → most_states f.tables ≤ L → Within N L f
flow_within N L f h d m =
    let w = wholes_at N (fractions f) h d in
    let v = all_second N (table_weights f.tables) (weights f.ended ++ f.draws) w in
    record {
      tables = tables_within N L f.tables (all_first N (table_weights f.tables) (weights f.ended ++ f.draws) w) m;
      ended = weights_whole N f.ended (all_first N (weights f.ended) f.draws v);
      draws = all_second N (weights f.ended) f.draws v;
    }
