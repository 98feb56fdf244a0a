-- How many statements and how many bytes a generated program has. This project's own rule.
use Rattle.std.specs.Prelude.{ℕ, zero, suc, ◌+◌, ◌-◌, ◌*◌, ◌/◌, ◌%◌}

-- the statements of the first numbers of a five: 1, 1, 3, 3 and 2 each
abbrev pub statements_of_rest : ℕ → ℕ
statements_of_rest zero = 0
statements_of_rest (suc zero) = 1
statements_of_rest (suc (suc zero)) = 2
statements_of_rest (suc (suc (suc zero))) = 5
statements_of_rest _ = 8

-- eight assignments, ten statements for five numbers, and one observation
abbrev pub statements_in : ℕ → ℕ
statements_in k = 9 + 10 * (k / 5) + statements_of_rest (k % 5)

-- the bytes of the first numbers of a five, 13, 17, 50, 56 and 38 each, without the digits of the added number, and with
-- one digit of a denominator
abbrev pub bytes_of_rest : ℕ → ℕ
bytes_of_rest zero = 0
bytes_of_rest (suc zero) = 13
bytes_of_rest (suc (suc zero)) = 30
bytes_of_rest (suc (suc (suc zero))) = 80
bytes_of_rest _ = 136

-- the digits of the numbers below k that 5 divides, for k of at most `GREATEST_NUMBER`
abbrev pub digits_of_fives : ℕ → ℕ
digits_of_fives k = (k + 4) / 5 + ((k + 4) / 5 - 2) + ((k + 4) / 5 - 20)

-- 110 bytes that each program has, 174 for five numbers, the digits of the added numbers, and one more digit of a
-- denominator at each number 45 j + 17, where it is 10
abbrev pub bytes_in : ℕ → ℕ
bytes_in k = 110 + 174 * (k / 5) + bytes_of_rest (k % 5) + digits_of_fives k + (k + 27) / 45
