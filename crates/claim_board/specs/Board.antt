-- What clauses say of a board and its passes.
use Rattle.std.specs.Prelude.{ℕ, ◌≡◌, Bool, false, nat_lt, List, [], ◌∷◌, slice_index, Option, Some, None, All, if◌then◌else◌}
use Rattle.atomic_table.specs.Seated.{TableId}
use Rattle.claim_board.specs.declared.pass.Board.{Board}
use Rattle.claim_board.specs.declared.pass.Pass.{Pass}
use Rattle.claim_board.specs.declared.hand.Hand.{Hand}
use Rattle.passes.specs.Numbers.{EachOnce}
use Rattle.claim_board.specs.Views.{Draws}

abbrev pub blocks_of : Board → ℕ
blocks_of b = b.blocks

abbrev pub workers_of : Board → ℕ
workers_of b = b.workers

abbrev pub view_of : Pass → Hand
view_of p = p.seat.me.0

-- the table at which the pass has its seat
abbrev pub table_of : Pass → TableId
table_of p = p.seat.table_id

-- of a view: it stands for one number, and nothing was dealt to it
abbrev pub IsFresh : Hand → Type 0
IsFresh v = (v.passes.numbers ≡ slice_index v.passes.numbers 0 ∷ []) × (v.dealt ≡ []) × (v.ended ≡ [])

-- the numbers dealt to the pass, in the order in which it drew them
abbrev pub dealt_to : Pass → List ℕ
dealt_to p = (view_of p).dealt

abbrev pub had_none : Pass → Bool
had_none p = p.had_none

-- the number of the pass, alone in a list
abbrev pub numbers_of : Pass → List ℕ
numbers_of p = (view_of p).passes.numbers

abbrev pub IsPassOf : Board → Pass → Type 0
IsPassOf b p = (p.seat.table_id ≡ b.table.shared.table_id) × ((view_of p).blocks ≡ b.blocks)

-- the same pass, after a step of it
abbrev pub IsSamePass : Pass → Pass → Type 0
IsSamePass p q = (q.seat.table_id ≡ p.seat.table_id) × ((view_of q).blocks ≡ (view_of p).blocks) × (numbers_of q ≡ numbers_of p)

abbrev pub IsNew : Pass → Type 0
IsNew p = (dealt_to p ≡ []) × (had_none p ≡ false)

-- these are all passes of the board, each once
abbrev pub AreAllPasses : Board → List Pass → Type 0
AreAllPasses b ps = All (IsPassOf b) ps × EachOnce numbers_of ps b.workers

-- each number below n was dealt to one of the passes and once, and no other number to any
abbrev pub AreDealtTo : ℕ → List Pass → Type 0
AreDealtTo n ps = EachOnce dealt_to ps n

-- one claim draws a number, which is above all that was dealt to the pass before, and the answer is that number if it is a block
abbrev pub Claimed : Board → Pass → Option ℕ → Pass → Type 0
Claimed b p r q = (n : ℕ) × Draws (view_of p) n (view_of q) × (r ≡ (if nat_lt n b.blocks then Some n else None))
