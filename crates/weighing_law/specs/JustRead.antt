-- What an outcome weighs, by the strings that are just read to it and by those that end in it.
use Rattle.std.specs.Prelude.{◌≡◌, ℕ, suc, ◌-◌, ◌*◌, ◌^◌, Bool, List, sum_by}
use Rattle.std.specs.List.{range_with_len}
use Rattle.gcl_core.specs.declared.answers.Answer.{Answer}
use Rattle.gcl_core.specs.declared.answers.Outcome.{Outcome}
use Rattle.gcl_core.specs.weighing.StringWeight.{outcome_weight}
use Rattle.weighing_law.specs.Prefixes.{is_just_read}
use Rattle.weighing_law.specs.Counting.{strings_that, ended_in}

-- the sum over k from 0 to L of 2 ^ (L - k) times the strings of k bits that are just read to the outcome
abbrev pub just_read_weight : (List Bool → Answer) → Outcome → ℕ → ℕ
just_read_weight run x L = sum_by (λ k. 2 ^ (L - k) * strings_that (is_just_read run x) k) (range_with_len 0 (suc L))

-- What an outcome weighs at L bits is what the strings weigh that are just read to it, and how many strings of L bits end in it.
pub record CountsStrings (run : List Bool → Answer) : Type 0 where
  pub just_read : (x : Outcome) (L : ℕ) → outcome_weight run x L ≡ just_read_weight run x L
  pub ended : (x : Outcome) (L : ℕ) → outcome_weight run x L ≡ ended_in run x L
