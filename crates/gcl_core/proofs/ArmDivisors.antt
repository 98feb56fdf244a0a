-- The greatest common divisor of parts, gathered while they are read: a number divides it and the parts that are left exactly where it
-- divides all parts.
use Rattle.std.proofs.Common.{◌≡◌, ℕ, zero, suc, ◌≤◌, List, [], ◌∷◌, sym, subst, arith}
use Prim.Native.Nat.{◌∣◌}
use Rattle.std.specs.Int.{IsGcd}
use Rattle.std.specs.List.{sum}
use Rattle.std.proofs.lemmas.Nat.Gcd.{dvd-zero, dvd_refl, dvd_trans}
use Rattle.std.proofs.Math.Nat.{eq-zero_of_zero-dvd}
use Rattle.gcl_core.specs.meaning.Divisor.{common_divisor}
use Rattle.gcl_core.proofs.LowestParts.{DividesEach, divides_sum, divisor_is}

pub record Gathered (g : ℕ) (left all : List ℕ) : Type 0 where
  pub down : (d : ℕ) → d ∣ g → DividesEach d left → DividesEach d all
  pub up : (d : ℕ) → DividesEach d all → (d ∣ g) × DividesEach d left

pub one_gathered : (g h p : ℕ) (left all : List ℕ) → IsGcd g p h → Gathered g (p ∷ left) all → Gathered h left all
one_gathered g h p left all gcd b = record {
  down = λ d divides each. b.down d (dvd_trans d divides gcd.0) (dvd_trans d divides gcd.1, each);
  up = λ d each. let u = b.up d each in (gcd.2 d u.0 u.1.0, u.1.1);
}

pub zero_gathered : (g p : ℕ) (left all : List ℕ) → p ≡ 0 → Gathered g (p ∷ left) all → Gathered g left all
zero_gathered g p left all none b = record {
  down = λ d divides each. b.down d divides (subst (λ x. d ∣ x) (sym none) (dvd-zero d), each);
  up = λ d each. let u = b.up d each in (u.0, u.1.1);
}

pub all_gathered : (g : ℕ) (ps : List ℕ) → 1 ≤ sum ps → Gathered g [] ps → g ≡ common_divisor ps
all_gathered zero ps positive b = let none = eq-zero_of_zero-dvd (divides_sum 0 ps (b.down 0 (dvd-zero 0) tt)) in absurd (omega (arith, none, positive))
all_gathered (suc g) ps positive b =
    divisor_is ps positive (suc g) (omega arith) (b.down (suc g) (dvd_refl (suc g)) tt) (λ d each. (b.up d each).0)
