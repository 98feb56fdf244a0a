-- The parts of a choice among several in lowest terms: their greatest common divisor is taken out of each and of their sum, and no
-- number above 1 divides all that is left.
use Rattle.std.proofs.Common.{◌≡◌, ◌∙◌, ⊎_elim, ℕ, zero, suc, ◌+◌, ◌*◌, ◌/◌, ◌%◌, ◌≤◌, ◌<◌, true, false, ◌==◌, List, [], ◌∷◌, length, map, refl, sym, ap, subst, arith}
use Prim.Native.Nat.{◌∣◌}
use Rattle.std.specs.List.{All, sum, list_all}
use Rattle.std.proofs.lemmas.Bool.{cases_lt}
use Rattle.std.proofs.lemmas.Bool.Decides.{nat_tests}
use Rattle.std.proofs.lemmas.List.{length-map}
use Rattle.std.proofs.lemmas.List.Sums.{sum_by-cons}
use Rattle.std.proofs.lemmas.Nat.Gcd.{dvd_of_mod-eq-zero, mod-eq-zero_of_dvd, le_of_dvd, dvd-zero}
use Rattle.std.proofs.Math.Nat.{one-dvd, dvd-add, mul_comm, mul-div_cancel', mul-dvd-mul_left, mul-le-mul_left, le_of_mul-le-mul_left, div-one}
use Rattle.gcl_core.specs.meaning.Divisor.{divides, greatest_divisor, common_divisor}
use Rattle.gcl_core.specs.meaning.Lowest.{lowest_parts}
use Rattle.gcl_core.specs.meaning.Bounds.{HaveArmCount}
use Rattle.gcl_core.proofs.Booleans.{both}
use Rattle.gcl_core.proofs.Divisors.{by_test}

-- ---- a number that divides each part
abbrev pub DividesEach : ℕ → List ℕ → Type 0
DividesEach d [] = Unit {0}
DividesEach d (p ∷ ps) = (d ∣ p) × DividesEach d ps

pub from_all : (d : ℕ) (ps : List ℕ) → All (λ p. d ∣ p) ps → DividesEach d ps
from_all d [] all = tt
from_all d (p ∷ ps) all = (all 0 p (omega arith), from_all d ps (λ k q lt. all (suc k) q (omega (arith, lt))))

passes_each : (n : ℕ) (ps : List ℕ) → DividesEach (suc n) ps → list_all (λ p. divides (suc n) p) ps ≡ true
passes_each n [] each = refl
passes_each n (p ∷ ps) each =
    let rest = mod-eq-zero_of_dvd (suc n) each.0 in
    let here : (p % suc n == 0) ≡ true = grind (arith, nat_tests) in
    rw (here) (passes_each n ps each.1)

each_passed : (n : ℕ) (ps : List ℕ) → list_all (λ p. divides (suc n) p) ps ≡ true → DividesEach (suc n) ps
each_passed n [] e = tt
each_passed n (p ∷ ps) e =
    let q = both (p % suc n == 0) (list_all (λ q. divides (suc n) q) ps) e in
    let t = q.0 in
    let rest : p % suc n ≡ 0 = grind (arith, nat_tests) in
    (dvd_of_mod-eq-zero (suc n) rest, each_passed n ps q.1)

pub sum_cons : (p : ℕ) (ps : List ℕ) → sum (p ∷ ps) ≡ p + sum ps
sum_cons p ps = sum_by-cons (λ x. x) p ps

pub divides_sum : (d : ℕ) (ps : List ℕ) → DividesEach d ps → d ∣ sum ps
divides_sum d [] each = dvd-zero d
divides_sum d (p ∷ ps) each = subst (λ x. d ∣ x) (sym (sum_cons p ps)) (dvd-add d each.0 (divides_sum d ps each.1))

-- ---- the greatest
one_divides : (ps : List ℕ) → DividesEach 1 ps
one_divides [] = tt
one_divides (p ∷ ps) = (one-dvd p, one_divides ps)

greatest_divides : (ps : List ℕ) (n : ℕ) → 1 ≤ n → DividesEach (greatest_divisor ps n) ps × (1 ≤ greatest_divisor ps n)
unfolding greatest_divisor
greatest_divides ps zero some = absurd (omega (arith, some))
greatest_divides ps (suc zero) some = by_test (λ g. DividesEach g ps × (1 ≤ g)) (λ pass. (one_divides ps, omega arith)) (λ (fails : list_all (λ p. divides 1 p) ps ≡ false). absurd (let pass = passes_each 0 ps (one_divides ps) in cc))
greatest_divides ps (suc (suc n)) some = by_test (λ g. DividesEach g ps × (1 ≤ g)) (λ pass. (each_passed (suc n) ps pass, omega arith)) (λ fails. greatest_divides ps (suc n) (omega arith))

greatest_least : (ps : List ℕ) (n d : ℕ) → 1 ≤ d → d ≤ n → DividesEach d ps → d ≤ greatest_divisor ps n
unfolding greatest_divisor
greatest_least ps zero d pos le each = absurd (omega (arith, pos, le))
greatest_least ps (suc n) d pos le each =
    by_test (λ g. d ≤ g) (λ pass. le)
    (λ fails. ⊎_elim
    (λ (lt : d < suc n). greatest_least ps n d pos (omega (arith, lt)) each)
    (λ (ge : suc n ≤ d).
    let same : d ≡ suc n = omega (arith, ge, le) in
    let pass = passes_each n ps (subst (λ k. DividesEach k ps) same each) in
    absurd (cc))
    (cases_lt d (suc n)))

module _ (ps : List ℕ) (positive : 1 ≤ sum ps) where
  pub each_divided : DividesEach (common_divisor ps) ps
  each_divided = (greatest_divides ps (sum ps) positive).0

  pub divisor_positive : 1 ≤ common_divisor ps
  divisor_positive = (greatest_divides ps (sum ps) positive).1

  greatest : (d : ℕ) → 1 ≤ d → DividesEach d ps → d ≤ common_divisor ps
  greatest d pos each = greatest_least ps (sum ps) d pos (le_of_dvd (omega (arith, positive)) (divides_sum d ps each)) each

  -- a number that divides each part, and that each such number divides, is the divisor
  pub divisor_is : (g : ℕ) → 1 ≤ g → DividesEach g ps → ((d : ℕ) → DividesEach d ps → d ∣ g) → g ≡ common_divisor ps
  divisor_is g pos each all =
      let up = greatest g pos each in
      let down : common_divisor ps ≤ g = le_of_dvd (omega (arith, pos)) (all (common_divisor ps) each_divided) in
      omega (arith, up, down)

-- ---- what is left
sum_divided : (g : ℕ) (ps : List ℕ) → DividesEach g ps → g * sum (map (λ p. p / g) ps) ≡ sum ps
sum_divided g [] each = omega arith
sum_divided g (p ∷ ps) each =
    ap (λ x. g * x) (sum_cons (p / g) (map (λ q. q / g) ps))
    ∙ times_more g (p / g) (sum (map (λ q. q / g) ps)) p (sum ps) (mul-div_cancel' g each.0) (sum_divided g ps each.1) ∙ sym (sum_cons p ps)
  where
    times_more : (g a b x y : ℕ) → g * a ≡ x → g * b ≡ y → g * (a + b) ≡ x + y
    times_more g a b x y p q = omega (arith, p, q)

scaled_each : (g d : ℕ) (ps : List ℕ) → DividesEach g ps → DividesEach d (map (λ p. p / g) ps) → DividesEach (g * d) ps
scaled_each g d [] each rest = tt
scaled_each g d (p ∷ ps) each rest =
    (subst (λ x. g * d ∣ x) (mul-div_cancel' g each.0) (mul-dvd-mul_left d g rest.0), scaled_each g d ps each.1 rest.1)

undivided : (ps : List ℕ) → map (λ p. p / 1) ps ≡ ps
undivided [] = refl
undivided (p ∷ ps) = ap (λ x. x ∷ map (λ q. q / 1) ps) (div-one p) ∙ ap (λ x. p ∷ x) (undivided ps)

pub lowest_sum : (ps : List ℕ) → 1 ≤ sum ps → sum (lowest_parts ps) * common_divisor ps ≡ sum ps
lowest_sum ps positive = mul_comm (sum (lowest_parts ps)) (common_divisor ps) ∙ sum_divided (common_divisor ps) ps (each_divided ps positive)

pub lowest_sum_positive : (ps : List ℕ) → 1 ≤ sum ps → 1 ≤ sum (lowest_parts ps)
lowest_sum_positive ps positive = of_product (sum (lowest_parts ps)) (common_divisor ps) (sum ps) (lowest_sum ps positive) positive
  where
    of_product : (d g b : ℕ) → d * g ≡ b → 1 ≤ b → 1 ≤ d
    of_product zero g b e le = absurd (omega (arith, e, le))
    of_product (suc d) g b e le = omega arith

pub one_divides_left : (ps : List ℕ) → 1 ≤ sum ps → (d : ℕ) → DividesEach d (lowest_parts ps) → d ≤ 1
one_divides_left ps positive zero each = omega arith
one_divides_left ps positive (suc d) each =
    let g = common_divisor ps in
    let pos = divisor_positive ps positive in
    let some : g * 1 ≤ g * suc d = mul-le-mul_left g (omega arith) in
    let scaled : g * suc d ≤ g * 1 = omega (arith, greatest ps positive (g * suc d) (omega (arith, some, pos)) (scaled_each g (suc d) ps (each_divided ps positive) each)) in
    le_of_mul-le-mul_left scaled pos

pub divisor_left : (ps : List ℕ) → 1 ≤ sum ps → common_divisor (lowest_parts ps) ≡ 1
divisor_left ps positive =
    let left = lowest_sum_positive ps positive in
    let most = one_divides_left ps positive (common_divisor (lowest_parts ps)) (each_divided (lowest_parts ps) left) in
    let least = divisor_positive (lowest_parts ps) left in
    omega (arith, most, least)

pub parts_again : (ps : List ℕ) → 1 ≤ sum ps → lowest_parts (lowest_parts ps) ≡ lowest_parts ps
parts_again ps positive = ap (λ d. map (λ p. p / d) (lowest_parts ps)) (divisor_left ps positive) ∙ undivided (lowest_parts ps)

pub lowest_count : (ps : List ℕ) → HaveArmCount ps → HaveArmCount (lowest_parts ps)
lowest_count ps count =
    let same : length (lowest_parts ps) ≡ length ps = length-map ps (λ p. p / common_divisor ps) in
    record { enough = omega (arith, same, count.enough); few = omega (arith, same, count.few) }
