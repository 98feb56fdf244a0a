-- What stands in two slices: how runs in a row end, each on the bits that those before it left.
use Rattle.std.specs.Prelude.{◌≡◌, ℕ, zero, suc, ◌-◌, ◌<◌, pos, ℤ, Bool, List, length, get_or}
use Rattle.gcl_core.specs.declared.answers.Answer.TheVariants.{Ended}
use Rattle.gcl_core.specs.declared.answers.Limits.{Limits}
use Rattle.gcl_core.specs.declared.answers.Outcome.{Outcome}
use Rattle.gcl_core.specs.meaning.Reading.{Reading, gives}
use Rattle.gcl_core.specs.meaning.Runs.{capped, left_by, reads, run_on}
use Rattle.gcl_core.specs.meaning.Syntax.{SourceProgram}
use Rattle.many_runs.specs.InARow.{runs_in_a_row}
use Rattle.stream_runs.specs.Ends.{end_of, value_of}

-- the bits that k runs in a row leave; one that needs more leaves none
abbrev pub left_after : (List Bool → Reading Outcome) → ℕ → List Bool → List Bool
left_after run zero w = w
left_after run (suc k) w = left_by (run (left_after run k w))

-- these are the ends and values of outcomes, one after the other
pub record AreOf (xs : List Outcome) (values : List ℤ) (ends : List ℕ) : Type 0 where
  pub long : length xs ≡ length values
  pub values_are : (k : ℕ) (d : Outcome) → k < length values → get_or values k (pos 0) ≡ value_of (Ended (get_or xs k d) 0)
  pub ends_are : (k : ℕ) (d : Outcome) → k < length values → get_or ends k 0 ≡ end_of (Ended (get_or xs k d) 0)

-- At place k there is the end of the run on what the k runs before it left. All together have read so many bits. Where the runs in a
-- row give outcomes, it is these.
pub record AreInARow (p : SourceProgram) (l : Limits) (bits : List Bool) (values : List ℤ) (ends : List ℕ) (read : ℕ) : Type 0 where
  pub alike : length ends ≡ length values
  pub values_are : (k : ℕ) → k < length values → get_or values k (pos 0) ≡ value_of (run_on p l (left_after (reads p l) k bits))
  pub ends_are : (k : ℕ) → k < length values → get_or ends k 0 ≡ end_of (run_on p l (left_after (reads p l) k bits))
  pub read_is : read ≡ capped (length bits - length (left_after (reads p l) (length values) bits))
  pub row : (xs : List Outcome) (left : List Bool) → runs_in_a_row p l (length values) bits ≡ gives xs left →
      AreOf xs values ends × (left ≡ left_after (reads p l) (length values) bits)
