-- What a worker's passes say before and after its work.
use Rattle.std.specs.Prelude.{ℕ, ◌<◌, ◌≤◌, ◌≡◌, ◌⊎◌, ◌+◌, ◌++◌, true, Ok, Bool, List, [], All}
use Rattle.passes.specs.Numbers.{times, EachOnce}
use Rattle.claim_board.specs.declared.pass.Board.{Board}
use Rattle.claim_board.specs.declared.pass.Pass.{Pass}
use Rattle.claim_board.specs.Board as claim
use Rattle.claim_board.specs.Board.{dealt_to, had_none}
use Rattle.least_board.specs.declared.pass.LeastBoard.{LeastBoard}
use Rattle.least_board.specs.declared.pass.LeastPass.{LeastPass}
use Rattle.least_board.specs.Board as least
use Rattle.least_board.specs.Board.{offers_of, seen_by}
use Rattle.hunt_range.specs.declared.hunter.Hunter.{Hunter}
use Rattle.zar_io.specs.Visits.{blocks_told}
use Rattle.gcl_core.specs.declared.answers.Answer.{Answer}
use Rattle.gcl_core.specs.declared.answers.Limits.{Limits}
use Rattle.gcl_core.specs.declared.answers.TallyKey.{TallyKey}
use Rattle.sampler_code.specs.Assembled.{Assembled, IsRunOf}
use Rattle.stream_runs.specs.declared.range.SeedRange.{SeedRange}
use Rattle.stream_runs.specs.declared.range.TheConstants.{STREAMS_OF_A_BLOCK}
use Rattle.stream_runs.specs.Blocks.{blocks_over}
use Rattle.hunt_range.specs.Sought.{Sought, sought_of}
use Rattle.hunt_range.specs.inner.Blocks.{block_start}

-- the boards and the range belong together
pub record BelongTogether (b : Board) (l : LeastBoard) (r : SeedRange) : Type 0 where
  pub blocks : claim.blocks_of b ≡ blocks_over r.from r.to
  pub top : least.top_of l ≡ r.to

-- passes of these boards, and nothing dealt or offered yet
pub record IsReadyHunter (b : Board) (l : LeastBoard) (h : Hunter) : Type 0 where
  pub pass : claim.IsPassOf b h.pass
  pub bid : least.IsPassOf l h.bid
  pub new : claim.IsNew h.pass
  pub no_offer : offers_of h.bid ≡ []

-- each stream that is wanted, of these blocks, is at least what was seen
abbrev pub Covers : Sought → List ℕ → ℕ → Type 0
Covers s dealt seen = (j i : ℕ) → 0 < times j dealt → block_start s j ≤ i → i < block_start s j + STREAMS_OF_A_BLOCK → i < s.to
    → s.wants i ≡ true → seen ≤ i

-- each of these streams is wanted
abbrev pub AreWanted : Sought → List ℕ → Type 0
AreWanted s offers = (x : ℕ) → 0 < times x offers → (s.from ≤ x) × (x < s.to) × (s.wants x ≡ true)

pub record Searched (s : Sought) (p : Pass) (q : LeastPass) : Type 0 where
  pub covers : Covers s (dealt_to p) (seen_by q)
  pub wanted : AreWanted s (offers_of q)

-- the worker stopped: there was no block left, or a block was dealt to it that begins at the least number that it has seen, or
-- behind it
abbrev pub HasStopped : Sought → Pass → LeastPass → Type 0
HasStopped s p q = (had_none p ≡ true) ⊎ ((j : ℕ) × (0 < times j (dealt_to p)) × (seen_by q ≤ block_start s j))

abbrev pub HasHunted : Sought → Pass → LeastPass → Type 0
HasHunted s p q = Searched s p q × HasStopped s p q

-- the same for any runs of the code
abbrev pub HasHuntedRuns : Assembled → Limits → SeedRange → TallyKey → Pass → LeastPass → Type 0
HasHuntedRuns c l r want p q = (run : List Bool → Answer) → IsRunOf c l run → HasHunted (sought_of run r want) p q

-- the blocks that the gate was told of
abbrev pub told_by : Hunter → List ℕ
told_by h = blocks_told h.visits

abbrev pub IsSameHunter : Hunter → Hunter → Type 0
IsSameHunter h k = claim.IsSamePass h.pass k.pass × least.IsSamePass h.bid k.bid

-- the same passes, of whose blocks the gate was told, and where memory did not run out the worker has hunted
pub record HasWorked (Hunted : Pass → LeastPass → Type 0) (h k : Hunter) : Type 0 where
  pub same : IsSameHunter h k
  pub entered : told_by k ≡ told_by h ++ dealt_to k.pass
  pub hunted : k.done ≡ Ok tt → Hunted k.pass k.bid

-- all passes of both boards, each once
pub record AreAll (b : Board) (l : LeastBoard) (hs : List Hunter) : Type 0 where
  pub passes : All (λ (h : Hunter). claim.IsPassOf b h.pass) hs
  pub bids : All (λ (h : Hunter). least.IsPassOf l h.bid) hs
  pub each_pass : EachOnce (λ (h : Hunter). claim.numbers_of h.pass) hs (claim.workers_of b)
  pub each_bid : EachOnce (λ (h : Hunter). least.numbers_of h.bid) hs (least.workers_of l)
