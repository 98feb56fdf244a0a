-- Sums over strings of bits, and how far apart two numbers are.
use Rattle.std.specs.Prelude.{ℕ, zero, suc, ◌+◌, ◌-◌, Bool, true, false, List, [], ◌∷◌, if◌then◌else◌}
use Rattle.gcl_core.specs.declared.answers.Answer.{Answer}
use Rattle.gcl_core.specs.declared.answers.Outcome.{Outcome}
use Rattle.weighing_law.specs.Prefixes.{is_just_read}

-- f of each string of at most h bits that passes, added up
abbrev pub sum_of_those : (List Bool → Bool) → (List Bool → ℕ) → ℕ → ℕ
sum_of_those test f zero = if test [] then f [] else 0
sum_of_those test f (suc h) =
    (if test [] then f [] else 0)
    + (sum_of_those (λ v. test (false ∷ v)) (λ v. f (false ∷ v)) h + sum_of_those (λ v. test (true ∷ v)) (λ v. f (true ∷ v)) h)

-- f of each string of at most L bits that is just read to the outcome, added up
abbrev pub over_just_read : (List Bool → Answer) → Outcome → (List Bool → ℕ) → ℕ → ℕ
over_just_read run x f L = sum_of_those (is_just_read run x) f L

abbrev pub apart : ℕ → ℕ → ℕ
apart a b = (a - b) + (b - a)
