-- The dealing of blocks to workers, a machine over events, which is this project's own. An event is the number of the worker that
-- claims.
use Rattle.std.specs.Prelude.{ℕ, ◌+◌, ◌<◌, ◌≡◌, Bool, true, false, List, [], ◌∷◌, ◌++◌, length, replicate, min, nat_lt}
use Rattle.std.specs.Prelude.{slice_index_or, slice_set, if◌then◌else◌}
use Rattle.passes.specs.Numbers.{EachOnce, ascends}

-- what was dealt to a worker, and whether it drew a number that is no block
pub record Worker : Type 0 where
  pub dealt : List ℕ
  pub ended : Bool

-- the number that is drawn next, and the workers
pub record Deal : Type 0 where
  pub next : ℕ
  pub workers : List Worker

abbrev pub fresh : Worker
fresh = record { dealt = []; ended = false }

abbrev pub start : ℕ → Deal
start count = record { next = 0; workers = replicate count fresh }

abbrev pub worker_at : List Worker → ℕ → Worker
worker_at ws w = slice_index_or ws w fresh

-- a worker that has drawn the number n
abbrev pub after_draw : ℕ → ℕ → Worker → Worker
after_draw blocks n k =
    if nat_lt n blocks then record { dealt = k.dealt ++ n ∷ []; ended = k.ended } else record { dealt = k.dealt; ended = true }

-- one event: the worker w, which has not ended, draws the next number
abbrev pub Claims : ℕ → Deal → ℕ → Deal → Type 0
Claims blocks d w e = (w < length d.workers) × ((worker_at d.workers w).ended ≡ false)
    × (e ≡ record { next = d.next + 1; workers = slice_set d.workers w (after_draw blocks d.next (worker_at d.workers w)) })

-- any list of events, one after another
abbrev pub Runs : ℕ → Deal → List ℕ → Deal → Type 0
Runs blocks d [] e = d ≡ e
Runs blocks d (w ∷ ws) e = (m : Deal) × Claims blocks d w m × Runs blocks m ws e

-- each number below n is dealt to one worker and once, and no other number to any
abbrev pub AreDealt : ℕ → List Worker → Type 0
AreDealt n ws = EachOnce (λ (k : Worker). k.dealt) ws n

-- As many numbers are drawn as there were events. Those that are blocks are dealt, each worker's in ascending order,
-- and where some worker has ended, all blocks are dealt
abbrev pub DealIsFair : ℕ → List ℕ → Deal → Type 0
DealIsFair blocks events d = (d.next ≡ length events) × AreDealt (min d.next blocks) d.workers
    × ((w : ℕ) → w < length d.workers → ascends (worker_at d.workers w).dealt ≡ true)
    × ((w : ℕ) → w < length d.workers → (worker_at d.workers w).ended ≡ true → AreDealt blocks d.workers)

-- the law of the dealing: every list of events is fair
abbrev pub DealsFairly : Type 0
DealsFairly = (blocks count : ℕ) (events : List ℕ) (d : Deal) → Runs blocks (start count) events d → DealIsFair blocks events d
