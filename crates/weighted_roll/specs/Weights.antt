-- Which weights a roll may have. This project's own rule.
use Rattle.std.specs.Prelude.{ℕ, Bool, ◌&&◌, List, length, IsTrue, nat_le, nat_lt}
use Rattle.std.specs.List.{sum, list_all}
use Rattle.weighted_roll.specs.declared.rules.TheConstants.{MOST_LABELS, GREATEST_SUM}

-- no weight is all of the sum, which is neither 0 nor too great; a weight may be 0
abbrev pub are_weights : List ℕ → Bool
are_weights ws =
    nat_le (length ws) MOST_LABELS && list_all (λ a. nat_lt a (sum ws)) ws && nat_lt 0 (sum ws) && nat_le (sum ws) GREATEST_SUM

abbrev pub AreWeights : List ℕ → Type 0
AreWeights ws = IsTrue (are_weights ws)
