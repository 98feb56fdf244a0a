-- Streams of bits: how many of them begin with a string, and on how many of them a run ends in an outcome.
use Rattle.std.specs.Prelude.{◌≡◌, ℕ, ◌*◌, ◌^◌, ◌≤◌, Bool, true, false, List, [], ◌∷◌, length, count_by}
use Rattle.gcl_core.specs.declared.answers.Answer.{Answer}
use Rattle.gcl_core.specs.declared.answers.Outcome.{Outcome}
use Rattle.weighing_law.specs.Prefixes.{has_ended_in}

-- the second list begins with the first
abbrev pub begins : List Bool → List Bool → Bool
begins [] s = true
begins (false ∷ u) (false ∷ s) = begins u s
begins (true ∷ u) (true ∷ s) = begins u s
begins _ _ = false

-- so many of the streams begin with the string
abbrev pub beginning : List Bool → List (List Bool) → ℕ
beginning u ss = count_by (begins u) ss

-- on so many of the streams the run ends in the outcome
abbrev pub runs_to : (List Bool → Answer) → Outcome → List (List Bool) → ℕ
runs_to run x ss = count_by (λ s. has_ended_in x (run s)) ss

-- as many begin with one string of at most L bits as with any other of its length
abbrev pub BeginEvenly : ℕ → List (List Bool) → Type 0
BeginEvenly L ss = (u : List Bool) → length u ≤ L → 2 ^ length u * beginning u ss ≡ length ss
