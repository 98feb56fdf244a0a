use Rattle.std.proofs.Common.{◌≡◌, ◌-◌, ◌+◌, ◌≤◌, Bool, List}
use Rattle.gcl_core.specs.declared.answers.Answer.{Answer}
use Rattle.gcl_core.specs.declared.answers.TallyKey.{TallyKey}
use Rattle.sampler_run.specs.Held.{IsRestOf, set_back}
use Rattle.tally_range.specs.Sums.{count_in}
use Rattle.tally_range.specs.Counts.{count_over}
use Rattle.tally_range.proofs.streams.count_streams.Given as goal

-- what the table and the small values count together
abbrev pub invariant-loop-at : goal.invariant-loop-at
invariant-loop-at l = (l.first ≤ l.at) × (l.at ≤ l.end)
    × (set_back l.state ≡ set_back l.initial.state)
    × ((run : List Bool → Answer) → IsRestOf (set_back l.initial.state) run → (key : TallyKey) →
    count_in l.table key + count_in l.small key ≡ count_in l.initial.table key + count_in l.initial.small key + count_over run l.range.seed l.range.budget l.first l.at key)
    × ((key : TallyKey) → count_in l.table key + count_in l.small key ≤ count_in l.initial.table key + count_in l.initial.small key + (l.at - l.first))

abbrev pub decreases-loop-at : goal.decreases-loop-at
decreases-loop-at l = l.end - l.at
