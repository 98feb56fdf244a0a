-- What a hunt looks for: the least stream of a range whose run has a wanted key. This project's own rule.
use Rattle.std.specs.Prelude.{ℕ, ◌<◌, ◌≤◌, ◌≡◌, Bool, true, List, Option, Some, None}
use Rattle.gcl_core.specs.declared.answers.Answer.{Answer}
use Rattle.gcl_core.specs.declared.answers.TallyKey.{TallyKey}
use Rattle.gcl_core.specs.meaning.Order.{same_key}
use Rattle.stream_runs.specs.declared.range.SeedRange.{SeedRange}
use Rattle.stream_runs.specs.Keys.{key_on}

-- the streams from `from` up to but not including `to`, and a test of those that are wanted
pub record Sought : Type 0 where
  pub from : ℕ
  pub to : ℕ
  pub wants : ℕ → Bool

-- wanted are those on whose first bits, as many as the budget says, the run has the key
abbrev pub sought_of : (List Bool → Answer) → SeedRange → TallyKey → Sought
sought_of run r want = record { from = r.from; to = r.to; wants = λ i. same_key (key_on run r.seed r.budget i) want }

-- no stream from a up to but not including b is wanted
abbrev pub NoneWanted : Sought → ℕ → ℕ → Type 0
NoneWanted s a b = (i : ℕ) → a ≤ i → i < b → s.wants i ≡ true → ⊥

-- the least stream of all that is wanted, or none where there is none
abbrev pub LeastWanted : Sought → Option ℕ → Type 0
LeastWanted s None = NoneWanted s s.from s.to
LeastWanted s (Some x) = (s.from ≤ x) × (x < s.to) × (s.wants x ≡ true) × NoneWanted s s.from x
