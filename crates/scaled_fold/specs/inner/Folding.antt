-- What the clauses of a fold say of a block, a statement, a loop and the arms of a choice among several.
use Rattle.std.specs.Prelude.{ℕ, ◌-◌, [], ◌∷◌, ◌++◌, Option}
use Rattle.std.specs.List.{sum}
use Rattle.gcl_core.specs.declared.answers.Limit.TheVariants.{Turns, Attempts}
use Rattle.gcl_core.specs.declared.syntax.Weight.{Weight}
use Rattle.gcl_core.specs.meaning.Arms.{parts_of}
use Rattle.gcl_core.specs.meaning.Blocks.{limit}
use Rattle.gcl_core.specs.meaning.Syntax.{Expression, Statement, Statements, ArmList}
use Rattle.gcl_core.specs.meaning.Value.{value_of}
use Rattle.table_flow.specs.Tables.{holds, fails, only_go, faults_go, end_go}
use Rattle.units_law.specs.Down.{down}
use Rattle.scaled_law.specs.Pairs.{counted_pairs, class_pairs, rest_pairs}
use Rattle.scaled_law.specs.Scaled.{Scaled, top, below, with_tables, ends_more, swapped, taken_back, tidied, loop_scaled, statement_scaled, block_scaled, arms_scaled}
use Rattle.scaled_law.specs.Up.{up}
use Rattle.scaled_fold.specs.Doubling.{doubling}
use Rattle.scaled_fold.specs.declared.fold.Fold.{Fold}
use Rattle.scaled_fold.specs.declared.walk.Walk.{Walk}
use Rattle.scaled_fold.specs.inner.Holding.{Follows}

-- ---- what one statement does to what stands where

-- the states in which a guard holds go on, and those in which it does not stand aside
abbrev pub parted : Expression → Scaled → Scaled
parted e f =
    let g = tidied f in
    with_tables (only_go counted_pairs (holds (value_of e)) g.next) (only_go counted_pairs (fails (value_of e)) g.next ∷ g.aside)
    (ends_more (faults_go counted_pairs (value_of e) g.next) g)

-- the first side of a choice goes on, and the second stands aside
abbrev pub chosen : Option ℕ → Weight → Scaled → Scaled
chosen r p f =
    let g = tidied f in
    with_tables (class_pairs down up p.den r p.num g.next) (class_pairs down up p.den r (p.den - p.num) g.next ∷ g.aside)
    (ends_more (end_go counted_pairs (limit Attempts) (rest_pairs down up p.den r g.next)) g)

-- no table yet stands aside of a merged one
abbrev pub none_aside : Scaled → Scaled
none_aside f = let g = tidied f in with_tables g.next ([] ∷ g.aside) g

-- no arm of a draw with b parts has come yet, and what no attempt of it decides has ended
abbrev pub arms_begun : ℕ → Option ℕ → Scaled → Scaled
arms_begun b r f = let g = tidied f in with_tables g.next ([] ∷ g.aside) (ends_more (end_go counted_pairs (limit Attempts) (rest_pairs down up b r g.next)) g)

-- what an arm gets goes on, and the whole stands aside; and back
abbrev pub with_part : ℕ → Option ℕ → ℕ → Scaled → Scaled
with_part b r c f = with_tables (class_pairs down up b r c f.next) (f.next ∷ f.aside) f

abbrev pub gathered : Scaled → Scaled
gathered f = let g = swapped f in with_tables g.next ((top (below g.aside) ++ top g.aside) ∷ below (below g.aside)) g

-- a loop runs out of turns
abbrev pub turns_end : Expression → Scaled → Scaled
turns_end e f =
    taken_back (with_tables (only_go counted_pairs (fails (value_of e)) f.next) f.aside
    (ends_more (faults_go counted_pairs (value_of e) f.next ++ end_go counted_pairs (limit Turns) (only_go counted_pairs (holds (value_of e)) f.next)) f))

-- ---- blocks, under limits of turns and of attempts
module _ (n : ℕ) (r : Option ℕ) where
  abbrev pub block_after : Statements → Scaled → Scaled
  block_after = block_scaled down up doubling n r

  abbrev pub statement_after : Statement → Scaled → Scaled
  statement_after s f = statement_scaled down up doubling n r s (tidied f)

  abbrev pub both_after : Statements → Statements → Scaled → Scaled
  both_after a c f = taken_back (block_after c (swapped (block_after a f)))

  abbrev pub arms_after : ℕ → ArmList → Scaled → Scaled
  arms_after = arms_scaled down up doubling n r

  abbrev pub loop_after : Expression → Statements → ℕ → Scaled → Scaled
  loop_after e b = loop_scaled doubling (value_of e) (block_after b)

abbrev pub FollowsBlock : Fold → Statements → Walk → Walk → Type 0
FollowsBlock fold b = Follows (block_after fold.turns fold.attempts b)

abbrev pub FollowsStatement : Fold → Statement → Walk → Walk → Type 0
FollowsStatement fold s = Follows (statement_after fold.turns fold.attempts s)

abbrev pub FollowsArms : Fold → ArmList → Walk → Walk → Type 0
FollowsArms fold arms = let b = sum (parts_of arms) in Follows (λ f. arms_after fold.turns fold.attempts b arms (arms_begun b fold.attempts f))

abbrev pub FollowsLoop : Fold → Expression → Statements → Walk → Walk → Type 0
FollowsLoop fold e b = Follows (λ f. loop_after fold.turns fold.attempts e b fold.turns (none_aside f))
