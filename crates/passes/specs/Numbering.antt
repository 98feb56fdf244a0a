-- How the passes of a board are numbered: each view stands for numbers, the one of the number 0 makes the other passes and counts
-- them, and of two that are joined one stands for the numbers of both. This project's own.
use Rattle.std.specs.Prelude.{ℕ, ◌+◌, ◌≤◌, ◌≡◌, List, [], ◌∷◌, ◌++◌, length}
use lib.ListN.{get_elem?}
use mathlib.Core.Option.{some}
use Rattle.passes.specs.declared.view.Numbering.{Numbering}
use Rattle.passes.specs.Total.{total}
use Rattle.passes.specs.Numbers.{times, EachOnce}

abbrev pub stands_for : List ℕ → ℕ → Numbering
stands_for numbers made = record { numbers = numbers; made = made }

-- the first pass, before another is made
abbrev pub first : Numbering
first = stands_for (0 ∷ []) 1

-- the pass that makes another, and the other
abbrev pub makes : Numbering → Numbering
makes p = stands_for p.numbers (p.made + 1)

abbrev pub made_by : Numbering → Numbering
made_by p = stands_for (p.made ∷ []) 0

-- of two that are joined, the one that is kept, and the other
abbrev pub joined : Numbering → Numbering → Numbering
joined p q = stands_for (p.numbers ++ q.numbers) (p.made + q.made)

abbrev pub spent : Numbering
spent = stands_for [] 0

-- a fact of each view
abbrev pub EachView : {V : Type 0} → (V → Type 0) → List V → Type 0
EachView {V} Fact views = (id : ℕ) (v : V) → get_elem? views id ≡ some v → Fact v

-- how many passes were made
abbrev pub made : {V : Type 0} → (V → Numbering) → List V → ℕ
made {V} passes views = total (λ (v : V). (passes v).made) views

-- only the pass of the number 0 counts how many were made
abbrev pub Leads : Numbering → Type 0
Leads p = times 0 p.numbers ≡ 0 → p.made ≡ 0

-- the passes that were made are at most the workers, and each stands in one view and once
pub record Numbered {V : Type 0} (passes : V → Numbering) (workers : ℕ) (views : List V) : Type 0 where
  pub few : made passes views ≤ workers
  pub numbers : EachOnce (λ (v : V). (passes v).numbers) views (made passes views)
  pub counted : total (λ (v : V). length (passes v).numbers) views ≡ made passes views
  pub lead : EachView (λ (v : V). Leads (passes v)) views

-- ---- the views of a board, whose numbers change so

pub record AreNumbered {V : Type 0} (passes : V → Numbering) (view_makes view_made_by : V → V) (both : V → V → V) (gone : V) : Type 0 where
  pub makes : (v : V) → passes (view_makes v) ≡ makes (passes v)
  pub made_by : (v : V) → passes (view_made_by v) ≡ made_by (passes v)
  pub joined : (v w : V) → passes (both v w) ≡ joined (passes v) (passes w)
  pub spent : passes gone ≡ spent
