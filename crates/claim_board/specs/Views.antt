-- What a pass knows of a board, its view, and how each step of the board changes it.
use Rattle.std.specs.Prelude.{ℕ, ◌<◌, ◌≤◌, ◌≡◌, true, List, [], ◌∷◌, ◌++◌, refl}
use Rattle.atomic_table.specs.Table.{Me, Step}
use Rattle.claim_board.specs.declared.hand.Hand.{Hand}
use Rattle.claim_board.specs.declared.hand.Terms.{Terms}
use Rattle.passes.specs.declared.view.Numbering.{Numbering}
use Rattle.passes.specs.Numbering as numbering
use Rattle.passes.specs.Numbers.{is_above}

abbrev pub hand : ℕ → Numbering → List ℕ → List ℕ → Hand
hand blocks passes dealt ended = record { blocks = blocks; passes = passes; dealt = dealt; ended = ended }

abbrev pub passes_of : Hand → Numbering
passes_of v = v.passes

-- the view of the first pass, before another is made
abbrev pub first_hand : Terms → Hand
first_hand t = hand t.blocks numbering.first [] []

-- ---- splitting a seat, when a board is made: the pass that makes another, and the other

abbrev pub makes : Hand → Hand
makes v = hand v.blocks (numbering.makes v.passes) v.dealt v.ended

abbrev pub made_by : Hand → Hand
made_by v = hand v.blocks (numbering.made_by v.passes) [] []

-- ---- joining two seats, when a board is closed: the one that is kept, and the other

abbrev pub joined : Hand → Hand → Hand
joined v w = hand v.blocks (numbering.joined v.passes w.passes) (v.dealt ++ w.dealt) (v.ended ++ w.ended)

abbrev pub spent_hand : Hand
spent_hand = hand 0 numbering.spent [] []

abbrev pub are_numbered : numbering.AreNumbered passes_of makes made_by joined spent_hand
are_numbered = record {
  makes = λ v. refl;
  made_by = λ v. refl;
  joined = λ v w. refl;
  spent = refl;
}

-- ---- a claim

-- a pass that has drawn the number n, which is a block
abbrev pub took : ℕ → Hand → Hand
took n v = hand v.blocks v.passes (v.dealt ++ n ∷ []) v.ended

-- a pass that has drawn a number that is no block
abbrev pub closes : Hand → Hand
closes v = hand v.blocks v.passes v.dealt (v.ended ++ v.passes.numbers)

-- a claim draws n, which is above all that was dealt to the pass before: it is dealt n, or n is no block
abbrev pub Draws : Hand → ℕ → Hand → Type 0
Draws v n w = (is_above n v.dealt ≡ true) × (n < v.blocks → w ≡ took n v) × (v.blocks ≤ n → w ≡ closes v)

-- the same of a seat, which holds what it held
abbrev pub drawing : Step (Unit {0}) → Me (Unit {0}) Hand → ℕ → Me (Unit {0}) Hand → Type 0
drawing st m n m' = Draws m.0 n m'.0 × (m'.1 ≡ m.1)
