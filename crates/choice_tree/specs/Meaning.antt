-- What a choice-fix tree does from a state on a list of bits, by the same cases as a block: a row is a block, a test an `if`, a
-- repetition a loop, and the tree that fails a failed observation. A choice among several arms goes on with the arm whose number
-- is the class of its draw.
use Rattle.std.specs.Prelude.{ℕ, zero, suc, Bool, List, slice_set}
use Rattle.gcl_core.specs.meaning.Value.{State, value_of}
use Rattle.gcl_core.specs.meaning.Reading.{Reading, gives}
use Rattle.gcl_core.specs.meaning.Draw.{draw_on, choice_ends}
use Rattle.gcl_core.specs.meaning.Blocks.{End, on, failed, by_truth, by_side, class_on, end_on}
use Rattle.choice_tree.specs.OnBits.{uniform_on, repeated_on, value_on}
use Rattle.gcl_core.specs.meaning.Parts.{partial_sums}
use Rattle.choice_tree.specs.Tree.{ChoiceTree, Fail, Set, Test, Choice, Choose, Uniform, Row, Fix, ChoiceTrees, no_tree, ◌▹◌}

-- under limits of n turns for each entry of a repetition and r attempts for each draw
module _ (n r : ℕ) where
  abbrev mutual
    pub choice_tree_on : ChoiceTree → State → List Bool → Reading End
    choice_tree_on Fail s w = gives failed w
    choice_tree_on (Set x e) s w = value_on (value_of e s) w (λ v. gives (on (slice_set s x v)) w)
    choice_tree_on (Test e a c) s w = value_on (value_of e s) w (λ v. by_truth v (choice_tree_on a s w) (choice_tree_on c s w))
    choice_tree_on (Choice p a c) s w =
        class_on (draw_on (choice_ends p) r w) (λ i rest. by_side i (choice_tree_on a s rest) (choice_tree_on c s rest))
    choice_tree_on (Choose ps ts) s w = class_on (draw_on (partial_sums ps) r w) (λ i rest. choice_arm_on ts i s rest)
    choice_tree_on (Uniform x e) s w = value_on (value_of e s) w (λ v. uniform_on r x v s w)
    choice_tree_on (Row ts) s w = choice_row_on ts s w
    choice_tree_on (Fix e a) s w = repeated_on (value_of e) (choice_tree_on a) n s w

    pub choice_row_on : ChoiceTrees → State → List Bool → Reading End
    choice_row_on no_tree s w = gives (on s) w
    choice_row_on (t ▹ ts) s w = end_on (choice_tree_on t s w) (choice_row_on ts)

    -- the arm with a number; there is one for each class of the draw
    pub choice_arm_on : ChoiceTrees → ℕ → State → List Bool → Reading End
    choice_arm_on no_tree i s w = gives (on s) w
    choice_arm_on (t ▹ ts) zero s w = choice_tree_on t s w
    choice_arm_on (t ▹ ts) (suc i) s w = choice_arm_on ts i s w
