-- The rule of the board, which holds of its word and of all views between any two steps, and ties them to the dealing.
use Rattle.std.specs.Prelude.{ℕ, ◌+◌, ◌<◌, ◌≤◌, ◌≡◌, List, [], ◌∷◌, ◌++◌, length, min, slice_index, if◌then◌else◌}
use Rattle.atomic_table.specs.Table as table
use Rattle.claim_board.specs.declared.hand.Hand.{Hand}
use Rattle.claim_board.specs.declared.hand.Terms.{Terms}
use Rattle.passes.specs.Total.{total}
use Rattle.passes.specs.Numbers.{EachOnce}
use Rattle.passes.specs.Numbering.{EachView, made, Numbered}
use Rattle.claim_board.specs.Deal.{Worker, Deal, fresh, start, worker_at, Runs}
use Rattle.claim_board.specs.Views.{passes_of}

-- ---- a view and a dealing

-- what the workers of these numbers were dealt, and which of them have ended
abbrev pub dealt_of : List Worker → List ℕ → List ℕ
dealt_of ws [] = []
dealt_of ws (p ∷ ps) = (worker_at ws p).dealt ++ dealt_of ws ps

abbrev pub ended_of : List Worker → List ℕ → List ℕ
ended_of ws [] = []
ended_of ws (p ∷ ps) = (if (worker_at ws p).ended then p ∷ [] else []) ++ ended_of ws ps

-- a view shows what its numbers have in a dealing
pub record Shows (ws : List Worker) (v : Hand) : Type 0 where
  pub dealt : v.dealt ≡ dealt_of ws v.passes.numbers
  pub ended : v.ended ≡ ended_of ws v.passes.numbers

-- there is a dealing after as many events as the word says, and each view shows it
abbrev pub ShowADealing : ℕ → ℕ → ℕ → List Hand → Type 0
ShowADealing blocks workers n views = (events : List ℕ) × (d : Deal)
    × Runs blocks (start workers) events d × (length events ≡ n) × (d.next ≡ n) × EachView (Shows d.workers) views

-- ---- the rule

-- how many passes had None
abbrev pub nones : List Hand → ℕ
nones views = total (λ (v : Hand). length v.ended) views

-- the word is n
pub record Kept (blocks workers n : ℕ) (views : List Hand) : Type 0 where
  -- the passes that were made are at most the workers, and each stands in one view and once
  pub passes : Numbered passes_of workers views
  -- the blocks below the word, each in one view and once, and no other
  pub dealt : EachOnce (λ (v : Hand). v.dealt) views (min n blocks)
  -- a draw that was no block is the None of one pass
  pub word : n ≡ min n blocks + nones views
  -- the views show a dealing after as many claims as the word says, and the passes that are not made yet have no part in it
  pub run : (events : List ℕ) × (d : Deal)
      × Runs blocks (start workers) events d × (length events ≡ n) × (d.next ≡ n) × (length d.workers ≡ workers)
      × EachView (Shows d.workers) views
      × ((p : ℕ) → made passes_of views ≤ p → worker_at d.workers p ≡ fresh)

abbrev pub Holds : Terms → table.State (Unit {0}) Hand → Type 0
Holds t s = (length s.words ≡ 1) × Kept t.blocks t.workers (slice_index s.words 0) s.views

-- ---- what the rule says

-- the blocks below the word stand each in one view and once
abbrev pub BlocksStandOnce : Terms → ℕ → List Hand → Type 0
BlocksStandOnce t n views = EachOnce (λ (v : Hand). v.dealt) views (min n t.blocks)

-- the word is the blocks dealt and the passes that had None, together, and so has a bound
abbrev pub WordCounts : Terms → ℕ → List Hand → Type 0
WordCounts t n views = (n ≡ min n t.blocks + nones views) × (n ≤ t.blocks + t.workers)

-- where some pass had None, the word is above the blocks
abbrev pub NoneIsLate : Terms → ℕ → List Hand → Type 0
NoneIsLate t n views = 0 < nones views → t.blocks < n

-- of each state that meets the rule
abbrev pub RuleSays : Type 0
RuleSays = (t : Terms) (s : table.State (Unit {0}) Hand) → Holds t s → let n = slice_index s.words 0 in
    Numbered passes_of t.workers s.views × BlocksStandOnce t n s.views × WordCounts t n s.views × NoneIsLate t n s.views
    × ShowADealing t.blocks t.workers n s.views
