-- Runs in a row on one list of bits, each on what those before it left.
use Rattle.std.specs.Prelude.{ℕ, zero, suc, Bool, List, [], ◌∷◌}
use Rattle.gcl_core.specs.declared.answers.Limits.{Limits}
use Rattle.gcl_core.specs.declared.answers.Outcome.{Outcome}
use Rattle.gcl_core.specs.meaning.Reading.{Reading, gives, after}
use Rattle.gcl_core.specs.meaning.Runs.{reads}
use Rattle.gcl_core.specs.meaning.Syntax.{SourceProgram}

-- the outcomes of k runs in a row, and the bits that the last one leaves
abbrev pub in_a_row : (List Bool → Reading Outcome) → ℕ → List Bool → Reading (List Outcome)
in_a_row run zero w = gives [] w
in_a_row run (suc k) w = after (run w) (λ x rest. after (in_a_row run k rest) (λ xs left. gives (x ∷ xs) left))

abbrev pub runs_in_a_row : SourceProgram → Limits → ℕ → List Bool → Reading (List Outcome)
runs_in_a_row p l k w = in_a_row (reads p l) k w
