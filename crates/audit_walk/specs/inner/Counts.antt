-- What the walk counts, of a run and of a state.
use Rattle.std.specs.Prelude.{◌≡◌, ◌+◌, ◌^◌, ℕ, Bool, List}
use Rattle.gcl_core.specs.declared.answers.Answer.{Answer}
use Rattle.gcl_core.specs.declared.answers.Outcome.{Outcome}
use Rattle.gcl_core.specs.weighing.StringWeight.{outcome_weight}
use Rattle.sampler_run.specs.Held.{Held, IsRestOf}
use Rattle.audit_walk.specs.Audited.{undecided_by}
use Rattle.audit_walk.specs.Rows.{Rows, row_count, sum_of_counts}

-- the rows are the weights of outcomes over the strings of at most h bits, and on `undecided` strings of h bits the run needs
-- more
pub record IsCountOf (run : List Bool → Answer) (h : ℕ) (rows : Rows) (undecided : ℕ) : Type 0 where
  pub weights : (x : Outcome) → row_count x rows ≡ outcome_weight run x h
  pub undecided_is : undecided ≡ undecided_by run h

-- of what the rest of the run answers. All strings are counted.
pub record IsCountFrom (s : Held) (h : ℕ) (rows : Rows) (undecided : ℕ) : Type 0 where
  pub rest : (run : List Bool → Answer) → IsRestOf s run → IsCountOf run h rows undecided
  pub all : sum_of_counts rows + undecided ≡ 2 ^ h
