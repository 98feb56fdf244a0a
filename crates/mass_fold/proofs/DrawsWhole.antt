-- The draws that a table reaches on its way through a block are whole at each scale at which the block's flow is.
use Rattle.std.proofs.Common.{ℕ, zero, suc, ◌-◌, ℤ, pos, negsuc, List, [], ◌∷◌, ◌++◌, Option, Ok, Err}
use Rattle.std.specs.List.{sum}
use Rattle.gcl_core.specs.meaning.Arms.{parts_of}
use Rattle.gcl_core.specs.meaning.Blocks.{by_value, by_bound}
use Rattle.gcl_core.specs.meaning.Draw.{choice_ends, uniform_ends}
use Rattle.gcl_core.specs.meaning.Parts.{partial_sums}
use Rattle.gcl_core.specs.meaning.Syntax.{Statement, Skip, Set, If, While, Choice, Choose, Uniform, Observe, Statements, done, ◌▸◌, ArmList, no_arm, arm}
use Rattle.gcl_core.specs.meaning.Value.{State, Value, value_of}
use Rattle.gcl_core.specs.weighing.WeightedEnds.{scaled, class_weight}
use Rattle.table_flow.specs.Tables.{Table, holds, fails, only, faults, statement_flow, block_flow, ReachedDraws, fractions_kind}
use Rattle.table_flow.specs.Scale.{Wholes, Within}
use Rattle.table_flow.proofs.FlowWords.{loop_flow, arms_flow, drawn_each, drawn_bound, loop_draws, statement_draws, block_draws, arms_draws}
use Rattle.table_flow.proofs.Amounts.{both_first, both_second}
use Rattle.table_flow.proofs.InsideFlows.{head_whole, first_inside, others_inside, turn_inside, turns_inside, side_first, side_second, choose_inside, first_arm, other_arms}
use Rattle.table_flow.proofs.UniformLists.{reached_by_list}

-- ---- lists of draws
wholes_append : (N : ℕ) (a b : ReachedDraws) → Wholes N a → Wholes N b → Wholes N (a ++ b)
wholes_append N [] b h k = k
wholes_append N (e ∷ a) b h k = (h.0, wholes_append N a b h.1 k)

wholes_each : (N : ℕ) (ends : List ℕ) (I : Table) → Wholes N I → Wholes N (drawn_each ends I)
wholes_each N ends [] h = tt
wholes_each N ends (e ∷ I) h = (h.0, wholes_each N ends I h.1)

wholes_bound : (N : ℕ) (v : State → Value) (I : Table) → Wholes N I → Wholes N (drawn_bound v I)
wholes_bound N v [] h = tt
wholes_bound N v (e ∷ I) h = wholes_append N _ (drawn_bound v I) (by_state (v e.1)) (wholes_bound N v I h.1)
  where
    by_sign : (z : ℤ) → Wholes N (by_bound z [] (λ m. (e.0, uniform_ends m) ∷ []))
    by_sign (pos zero) = tt
    by_sign (pos (suc m)) = (h.0, tt)
    by_sign (negsuc m) = tt

    by_state : (o : Value) → Wholes N (by_value o (λ f. []) (λ z. by_bound z [] (λ m. (e.0, uniform_ends m) ∷ [])))
    by_state (Ok z) = by_sign z
    by_state (Err f) = tt

-- ---- statements and blocks
module _ (n : ℕ) (r : Option ℕ) (N L : ℕ) where
  abbrev BlockWhole : Statements → Type 0
  BlockWhole b = (I : Table) → Within N L (block_flow n r b I) → Wholes N (block_draws n r b I)

  turns_whole : (v : State → Value) (b : Statements) → BlockWhole b → (t : ℕ) (I : Table) → Within N L (loop_flow v (block_flow n r b) t I) → Wholes N (loop_draws v (block_flow n r b) t I)
  turns_whole v b h zero I s = tt
  turns_whole v b h (suc t) I s =
      let A = only (holds v) I in
      let J = (block_flow n r b A).next in
      wholes_append N (block_draws n r b A) (loop_draws v (block_flow n r b) t J) (h A (turn_inside n r N L v b t I s)) (turns_whole v b h t J (turns_inside n r N L v b t I s))

  mutual
    one_whole : (st : Statement) (I : Table) → Wholes N I → Within N L (statement_flow n r st I) → Wholes N (statement_draws n r st I)
    one_whole Skip I w s = tt
    one_whole (Set x e) I w s = tt
    one_whole (Observe e) I w s = tt
    one_whole (Uniform x e) I w s = rw (reached_by_list fractions_kind r x (value_of e) I) (wholes_bound N (value_of e) I w)
    one_whole (If e p q) I w s =
        let A = only (holds (value_of e)) I in
        let C = only (fails (value_of e)) I in
        let F = block_flow n r p A in
        let G = block_flow n r q C in
        wholes_append N (block_draws n r p A) (block_draws n r q C) (block_whole p A (both_first N L (faults (value_of e) I) F G s)) (block_whole q C (both_second N L (faults (value_of e) I) F G s))
    one_whole (Choice c p q) I w s =
        let A = scaled (class_weight c.den r c.num) I in
        let C = scaled (class_weight c.den r (c.den - c.num)) I in
        let D = block_draws n r p A in
        let E = block_draws n r q C in
        wholes_append N (drawn_each (choice_ends c) I) (D ++ E) (wholes_each N (choice_ends c) I w)
        (wholes_append N D E (block_whole p A (side_first n r N L c p q I s)) (block_whole q C (side_second n r N L c p q I s)))
    one_whole (Choose arms) I w s =
        let ends = partial_sums (parts_of arms) in
        let b = sum (parts_of arms) in
        wholes_append N (drawn_each ends I) (arms_draws n r b arms I) (wholes_each N ends I w) (arms_whole b arms I (choose_inside n r N L arms I s))
    one_whole (While e p) I w s = turns_whole (value_of e) p (block_whole p) n I s

    pub block_whole : (b : Statements) (I : Table) → Within N L (block_flow n r b I) → Wholes N (block_draws n r b I)
    block_whole done I s = tt
    block_whole (st ▸ b) I s =
        let J = (statement_flow n r st I).next in
        wholes_append N (statement_draws n r st I) (block_draws n r b J) (one_whole st I (head_whole n r N L (st ▸ b) I s.tables) (first_inside n r N L st b I s)) (block_whole b J (others_inside n r N L st b I s))

    -- the arms of a draw with b parts
    arms_whole : (b : ℕ) (arms : ArmList) (I : Table) → Within N L (arms_flow n r b arms I) → Wholes N (arms_draws n r b arms I)
    arms_whole b no_arm I s = tt
    arms_whole b (arm q p arms) I s =
        let A = scaled (class_weight b r q) I in
        wholes_append N (block_draws n r p A) (arms_draws n r b arms I) (block_whole p A (first_arm n r N L b q p arms I s)) (arms_whole b arms I (other_arms n r N L b q p arms I s))
