-- The law of one draw: what the strings weigh that a draw reads to a class, and to the limit of attempts. A draw by repeated
-- attempts is the rejection sampler of cpGCL's compiler; the count of its strings under a limit is this project's own rule.
use Rattle.std.specs.Prelude.{◌≡◌, ℕ, ◌*◌, ◌^◌, ◌≤◌, Bool, List, [], ◌∷◌, length, Option, Some, None, ◌==◌, zero, suc, ◌-◌}
use Rattle.std.specs.Option.{option_eq}
use Rattle.gcl_core.specs.meaning.Reading.{more_bits}
use Rattle.gcl_core.specs.meaning.Draw.{bits_for, last_end, draw_on, rejected_numbers, strings_to_a_number}
use Rattle.gcl_core.specs.weighing.StringWeight.{string_weight, reading_to}

-- how many numbers class i has, where the end before the first of these ends is c; none, where there is no class i
abbrev pub class_size_from : ℕ → List ℕ → ℕ → ℕ
class_size_from c [] i = 0
class_size_from c (d ∷ ends) zero = d - c
class_size_from c (d ∷ ends) (suc i) = class_size_from d ends i

abbrev pub class_size : List ℕ → ℕ → ℕ
class_size ends i = class_size_from 0 ends i

-- from c on the ends do not decrease
abbrev pub Ascends : ℕ → List ℕ → Type 0
Ascends c [] = Unit {0}
Ascends c (d ∷ ends) = (c ≤ d) × Ascends d ends

-- the weight of the strings that r attempts just read to this class, or to the limit of attempts where the class is none
abbrev pub draw_weight : List ℕ → ℕ → Option ℕ → ℕ → ℕ
draw_weight ends r class L = string_weight (λ w. reading_to (λ c. option_eq ◌==◌ c class) (draw_on ends r w)) L

-- The law, at every length L of at least k * r, the bits of all r attempts: a class weighs as large a part of 2 ^ L as the
-- strings are of k * r bits that lead to one of its numbers, the limit of attempts weighs what is left, and no string of that
-- length needs more bits.
module _ (ends : List ℕ) (r : ℕ) where
  abbrev pub attempt_bits : ℕ
  attempt_bits = bits_for (last_end ends)

  abbrev pub all_bits : ℕ
  all_bits = attempt_bits * r

  abbrev pub rejected : ℕ
  rejected = rejected_numbers (last_end ends)

  pub record DrawWeighs : Type 0 where
    pub to_a_class : (i L : ℕ) → all_bits ≤ L →
        2 ^ all_bits * draw_weight ends r (Some i) L ≡ 2 ^ L * (class_size ends i * strings_to_a_number attempt_bits rejected r)
    pub to_the_limit : (L : ℕ) → all_bits ≤ L → 2 ^ all_bits * draw_weight ends r None L ≡ 2 ^ L * rejected ^ r
    pub enough : (w : List Bool) → all_bits ≤ length w → draw_on ends r w ≡ more_bits → ⊥
