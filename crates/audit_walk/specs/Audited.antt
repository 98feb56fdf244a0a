-- What an audit says of a run: how the strings of one length end. The weights are those of cpGCL's samplers on fair bits.
use Rattle.std.specs.Prelude.{◌≡◌, ◌<◌, ◌↔◌, ℕ, Bool, true, List, AllPairs, Contains}
use Rattle.gcl_core.specs.declared.answers.Answer.{Answer}
use Rattle.gcl_core.specs.declared.answers.Outcome.{Outcome}
use Rattle.gcl_core.specs.meaning.Order.{is_before}
use Rattle.gcl_core.specs.weighing.StringWeight.{outcome_weight}
use Rattle.weighing_law.specs.Counting.{strings_that}
use Rattle.weighing_law.specs.Prefixes.{needs_more}
use Rattle.audit_walk.specs.Rows.{Rows}

-- on how many strings of h bits a run needs more
abbrev pub undecided_by : (List Bool → Answer) → ℕ → ℕ
undecided_by run h = strings_that (λ v. needs_more (run v)) h

-- The rows are exactly the outcomes whose weight is above 0, in order, each with its weight. On so many strings the run needs more.
pub record IsAuditOf (run : List Bool → Answer) (depth : ℕ) (rows : Rows) (undecided : ℕ) : Type 0 where
  pub ascending : AllPairs (λ r s. is_before r.0 s.0 ≡ true) rows
  pub exact : (x : Outcome) (n : ℕ) → Contains rows (x, n) ↔ ((n ≡ outcome_weight run x depth) × (0 < n))
  pub undecided_is : undecided ≡ undecided_by run depth
