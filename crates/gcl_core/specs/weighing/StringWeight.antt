-- The weight of bit strings: of those that are just read to an end, each counts 2 to the minus its length. It is said in whole
-- numbers at the scale of 2 ^ L, over the strings of at most L bits. The measure is that of cpGCL's samplers on fair bits.
use Rattle.std.specs.Prelude.{ℕ, zero, suc, ◌+◌, ◌^◌, Bool, true, false, List, [], ◌∷◌, ◌++◌, Option, Some, None}
use Rattle.gcl_core.specs.declared.answers.Outcome.{Outcome}
use Rattle.gcl_core.specs.declared.answers.Answer.{Answer}
use Rattle.gcl_core.specs.declared.answers.Answer.TheVariants.{Ended, MoreBits}
use Rattle.gcl_core.specs.meaning.Outcomes.{same_outcome}
use Rattle.gcl_core.specs.meaning.Reading.{Reading, gives, more_bits}

-- What a string is read to: an end that is meant, or another; none, where more bits are needed.
abbrev pub weight_at : Option Bool → ℕ → ℕ → ℕ
weight_at (Some true) here longer = here
weight_at (Some false) here longer = 0
weight_at None here longer = longer

-- the sum of 2 ^ (h - length v) over the strings v of at most h bits such that u ++ v, and no shorter one, is read to an end that
-- is meant
abbrev pub string_weight_from : (List Bool → Option Bool) → ℕ → List Bool → ℕ
string_weight_from read zero u = weight_at (read u) 1 0
string_weight_from read (suc h) u =
    weight_at (read u) (2 ^ suc h) (string_weight_from read h (u ++ false ∷ []) + string_weight_from read h (u ++ true ∷ []))

abbrev pub string_weight : (List Bool → Option Bool) → ℕ → ℕ
string_weight read L = string_weight_from read L []

-- ---- what reads the strings

-- a reading, where the test says which answers are meant
abbrev pub reading_to : {A : Type 0} → (A → Bool) → Reading A → Option Bool
reading_to meant (gives a rest) = Some (meant a)
reading_to meant more_bits = None

-- a run, where the test says which outcomes are meant
abbrev pub answer_in : (Outcome → Bool) → Answer → Option Bool
answer_in meant (Ended x read) = Some (meant x)
answer_in meant (MoreBits read) = None

-- the strings of at most L bits on which a run has just ended in this outcome, weighed
abbrev pub outcome_weight : (List Bool → Answer) → Outcome → ℕ → ℕ
outcome_weight run x L = string_weight (λ w. answer_in (same_outcome x) (run w)) L
