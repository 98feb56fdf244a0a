-- Numbers as words spell them. This project's own rule.
use Rattle.std.specs.Prelude.{ℕ, ◌&&◌, List, length, Option, Some, None, nat_le, if◌then◌else◌}
use Rattle.std.specs.List.{list_all}
use Rattle.std.specs.Str.Parse.{digits_value}
use Rattle.gcl_core.specs.text.Pieces.{is_digit}
use Rattle.gcl_core.specs.declared.rules.TheConstants.{MOST_DIGITS}

-- a number is 1 to `MOST_DIGITS` digits, leading zeros allowed, with a value in its range
abbrev pub number_in : ℕ → ℕ → List ℕ → Option ℕ
number_in least most word =
    if nat_le 1 (length word) && nat_le (length word) MOST_DIGITS && list_all is_digit word && nat_le least (digits_value 10 word)
    && nat_le (digits_value 10 word) most
    then Some (digits_value 10 word) else None
