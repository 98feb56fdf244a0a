-- A draw among classes by fair bits. The classes are given by their ends c1 <= c2 <= .. <= cm = b, with b at least 1: class i,
-- counted from 0, holds the numbers from the end before it, which is 0 for the first, up to but not including its own.
-- A choice is a draw of cpGCL; the order of the bits and the limit of attempts are this project's own rule.
use Rattle.std.specs.Prelude.{ℕ, zero, suc, ◌+◌, ◌-◌, ◌*◌, ◌^◌, Bool, true, false, ◌&&◌, List, [], ◌∷◌, ◌++◌, length, Option, Some, None, nat_lt, ◌==◌, if◌then◌else◌}
use Rattle.std.specs.List.{position_from, range_with_len}
use Rattle.std.specs.Option.{option_eq}
use Rattle.gcl_core.specs.declared.syntax.Weight.{Weight}
use Rattle.gcl_core.specs.meaning.Reading.{Reading, gives, more_bits, after}

-- ---- classes

-- how many of the powers 2 ^ 0 to 2 ^ (n - 1) lie below b
abbrev pub powers_below : ℕ → ℕ → ℕ
powers_below b zero = 0
powers_below b (suc n) = if nat_lt (2 ^ n) b then powers_below b n + 1 else powers_below b n

-- the bits of a number below b: the least k with b <= 2 ^ k
abbrev pub bits_for : ℕ → ℕ
bits_for b = powers_below b b

-- the last of the ends, or c where there is none
abbrev pub last_from : ℕ → List ℕ → ℕ
last_from c [] = c
last_from c (d ∷ ends) = last_from d ends

abbrev pub last_end : List ℕ → ℕ
last_end ends = last_from 0 ends

-- the class of a number: that of the first end above it. A number that no end lies above has none, and is
-- rejected.
abbrev pub class_of : List ℕ → ℕ → Option ℕ
class_of ends j = position_from (λ c. nat_lt j c) 0 ends

-- ---- one attempt

abbrev pub bit : Bool → ℕ
bit false = 0
bit true = 1

-- the number that a string spells, most significant bit first, behind what spells a
abbrev pub spelled_from : ℕ → List Bool → ℕ
spelled_from a [] = a
spelled_from a (b ∷ u) = spelled_from (2 * a + bit b) u

abbrev pub spelled : List Bool → ℕ
spelled u = spelled_from 0 u

-- the test passes for each number below n
abbrev pub all_below : ℕ → (ℕ → Bool) → Bool
all_below zero test = true
all_below (suc n) test = all_below n test && test n

-- the first of the k-bit numbers that begin with u; there are 2 ^ (k - length u) of them
abbrev pub first_of : ℕ → List Bool → ℕ
first_of k u = spelled u * 2 ^ (k - length u)

-- the n numbers from `first` on have one class
abbrev pub have_one_class : List ℕ → ℕ → ℕ → Bool
have_one_class ends first n = all_below n (λ j. option_eq ◌==◌ (class_of ends (first + j)) (class_of ends first))

-- all k-bit numbers that begin with u, a string of at most k bits, have one class
abbrev pub decides : List ℕ → ℕ → List Bool → Bool
decides ends k u = have_one_class ends (first_of k u) (2 ^ (k - length u))

-- the class of the shortest string that decides, among u and the strings that go on from u with bits of w
abbrev pub attempt_from : List ℕ → ℕ → List Bool → List Bool → Reading (Option ℕ)
attempt_from ends k u [] = if decides ends k u then gives (class_of ends (first_of k u)) [] else more_bits
attempt_from ends k u (b ∷ w) =
    if decides ends k u then gives (class_of ends (first_of k u)) (b ∷ w) else attempt_from ends k (u ++ b ∷ []) w

-- One attempt takes the shortest prefix of w that decides.
abbrev pub attempt_on : List ℕ → List Bool → Reading (Option ℕ)
attempt_on ends w = attempt_from ends (bits_for (last_end ends)) [] w

-- ---- a draw

-- At most r attempts, until one gives a class; none, where each of them was rejected.
abbrev pub attempts_with : (List Bool → Reading (Option ℕ)) → ℕ → List Bool → Reading (Option ℕ)
attempts_with attempt zero w = gives None w
attempts_with attempt (suc r) w =
    after (attempt w) (λ class rest. elim class [ Some i ↦ gives (Some i) rest | None ↦ attempts_with attempt r rest ])

abbrev pub draw_on : List ℕ → ℕ → List Bool → Reading (Option ℕ)
draw_on ends r w = attempts_with (attempt_on ends) r w

-- ---- how many numbers and strings

-- how many numbers of `bits_for b` bits are rejected, where the first b have a class
abbrev pub rejected_numbers : ℕ → ℕ
rejected_numbers b = 2 ^ bits_for b - b

-- Of the strings of k * r bits, how many r attempts read to one given number that has a class, where q numbers of k bits are
-- rejected: either the first attempt gives the number and the other bits are free, or it is rejected and a later one gives it. It
-- is the sum over j < r of 2 ^ (k * (r - 1 - j)) * q ^ j.
abbrev pub strings_to_a_number : ℕ → ℕ → ℕ → ℕ
strings_to_a_number k q zero = 0
strings_to_a_number k q (suc r) = 2 ^ (k * r) + q * strings_to_a_number k q r

-- ---- the ends of a choice and of a uniform draw

-- a choice of weight a/b is a draw with the ends a and b, whose class 0 is the first block
abbrev pub choice_ends : Weight → List ℕ
choice_ends p = p.num ∷ p.den ∷ []

-- a uniform draw of bound m has the ends 1, 2, .., m
abbrev pub uniform_ends : ℕ → List ℕ
uniform_ends m = range_with_len 1 m
