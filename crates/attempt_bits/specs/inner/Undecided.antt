-- The strings that do not decide, as stretches of the numbers that they begin. It is what the expected bits of an attempt count,
-- by numbers in place of strings.
use Rattle.std.specs.Prelude.{ℕ, zero, suc, ◌+◌, ◌-◌, ◌*◌, ◌^◌, List, nat_lt, if◌then◌else◌}
use Rattle.gcl_core.specs.meaning.Draw.{have_one_class}

-- how many numbers stand in all stretches that have more than one class: of the 2 ^ n numbers from `first` on, their halves,
-- the halves of these, and so on
abbrev pub undecided_at : List ℕ → ℕ → ℕ → ℕ
undecided_at ends zero first = 0
undecided_at ends (suc n) first =
    (if have_one_class ends first (2 ^ suc n) then 0 else 2 ^ suc n)
    + (undecided_at ends n first + undecided_at ends n (first + 2 ^ n))

-- the same where the first x of them, at least 1, have each a class of its own, and the others are rejected
abbrev pub undecided_below : ℕ → ℕ → ℕ
undecided_below zero x = 0
undecided_below (suc n) x =
    2 ^ suc n + (if nat_lt (2 ^ n) x then n * 2 ^ n + undecided_below n (x - 2 ^ n) else undecided_below n x)
