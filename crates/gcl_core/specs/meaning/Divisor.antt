-- The greatest common divisor of some numbers, as arithmetic has it.
use Rattle.std.specs.Prelude.{ℕ, zero, suc, ◌%◌, Bool, ◌==◌, if◌then◌else◌, List}
use Rattle.std.specs.List.{sum, list_all}

abbrev pub divides : ℕ → ℕ → Bool
divides d n = n % d == 0

-- the greatest number, of those from 1 to k, that divides each; 0 where k is 0
unfoldable pub greatest_divisor : List ℕ → ℕ → ℕ
greatest_divisor ns zero = 0
greatest_divisor ns (suc k) = if list_all (λ n. divides (suc k) n) ns then suc k else greatest_divisor ns k

-- The search begins at their sum: where one of them is above 0, no greater number divides each. It is 0 where all are 0.
abbrev pub common_divisor : List ℕ → ℕ
common_divisor ns = greatest_divisor ns (sum ns)
