-- What is whole in a flow is whole in those of its parts.
use Rattle.std.proofs.Common.{ℕ, suc, ◌-◌, [], ◌++◌, Option}
use Rattle.std.specs.List.{sum}
use Rattle.gcl_core.specs.declared.answers.Limit.TheVariants.{Attempts}
use Rattle.gcl_core.specs.declared.syntax.Weight.{Weight}
use Rattle.gcl_core.specs.meaning.Arms.{parts_of}
use Rattle.gcl_core.specs.meaning.Blocks.{End, limit}
use Rattle.gcl_core.specs.meaning.Syntax.{Statement, Choice, Choose, Statements, done, ◌▸◌, ArmList, arm}
use Rattle.gcl_core.specs.meaning.Value.{State, Value}
use Rattle.gcl_core.specs.weighing.WeightedEnds.{Weighted, scaled, class_weight, no_class_weight}
use Rattle.table_flow.specs.Scale.{Wholes, TablesWithin, Within}
use Rattle.table_flow.specs.Tables.{Table, Flow, holds, only, faults, all_end, statement_flow, block_flow, draws_each, draw_weights}
use Rattle.table_flow.proofs.FlowWords.{both, loop_flow, arms_flow}
use Rattle.table_flow.proofs.Amounts.{both_first, both_second, tables_first, tables_second, ends_first, ends_second, ends_whole, all_first, all_second}

module _ (n : ℕ) (r : Option ℕ) (N L : ℕ) where
  pub head_whole : (b : Statements) (I : Table) → TablesWithin N L (block_flow n r b I).tables → Wholes N I
  head_whole done I w = w.0
  head_whole (st ▸ b) I w = w.0

  -- ---- one statement, and the others
  pub first_inside : (st : Statement) (b : Statements) (I : Table) → Within N L (block_flow n r (st ▸ b) I) → Within N L (statement_flow n r st I)
  first_inside st b I s =
      let f = statement_flow n r st I in
      let g = block_flow n r b f.next in
      record { tables = tables_first N L f.tables g.tables s.tables.2; ended = ends_first N f.ended g.ended s.ended; draws = all_first N f.draws g.draws s.draws }

  pub others_inside : (st : Statement) (b : Statements) (I : Table) → Within N L (block_flow n r (st ▸ b) I) → Within N L (block_flow n r b (statement_flow n r st I).next)
  others_inside st b I s =
      let f = statement_flow n r st I in
      let g = block_flow n r b f.next in
      record { tables = tables_second N L f.tables g.tables s.tables.2; ended = ends_second N f.ended g.ended s.ended; draws = all_second N f.draws g.draws s.draws }

  -- ---- one turn of a loop, and the others
  pub turn_inside : (v : State → Value) (b : Statements) (t : ℕ) (I : Table) → Within N L (loop_flow v (block_flow n r b) (suc t) I) → Within N L (block_flow n r b (only (holds v) I))
  turn_inside v b t I s =
      let f = block_flow n r b (only (holds v) I) in
      let g = loop_flow v (block_flow n r b) t f.next in
      record { tables = tables_first N L f.tables g.tables s.tables.2; ended = ends_first N f.ended g.ended (ends_second N (faults v I) (f.ended ++ g.ended) s.ended); draws = all_first N f.draws g.draws s.draws }

  pub turns_inside : (v : State → Value) (b : Statements) (t : ℕ) (I : Table) → Within N L (loop_flow v (block_flow n r b) (suc t) I) →
      Within N L (loop_flow v (block_flow n r b) t (block_flow n r b (only (holds v) I)).next)
  turns_inside v b t I s =
      let f = block_flow n r b (only (holds v) I) in
      let g = loop_flow v (block_flow n r b) t f.next in
      record { tables = tables_second N L f.tables g.tables s.tables.2; ended = ends_second N f.ended g.ended (ends_second N (faults v I) (f.ended ++ g.ended) s.ended); draws = all_second N f.draws g.draws s.draws }

  -- ---- the sides of a choice between two
  module _ (p : Weight) (a c : Statements) (I : Table) (s : Within N L (statement_flow n r (Choice p a c) I)) where
    abbrev ends : Weighted End
    ends = all_end (limit Attempts) (scaled (no_class_weight p.den r) I)

    abbrev first : Flow
    first = block_flow n r a (scaled (class_weight p.den r p.num) I)

    abbrev second : Flow
    second = block_flow n r c (scaled (class_weight p.den r (p.den - p.num)) I)

    sides : Within N L (both ends first second)
    sides = record { tables = s.tables; ended = s.ended; draws = all_second N (draws_each (draw_weights p.den r) I) (first.draws ++ second.draws) s.draws }

    pub side_first : Within N L (block_flow n r a (scaled (class_weight p.den r p.num) I))
    side_first = both_first N L ends first second sides

    pub side_second : Within N L (block_flow n r c (scaled (class_weight p.den r (p.den - p.num)) I))
    side_second = both_second N L ends first second sides

    pub undecided_whole : Wholes N (scaled (no_class_weight p.den r) I)
    undecided_whole = ends_whole N (limit Attempts) (scaled (no_class_weight p.den r) I) (ends_first N ends (first.ended ++ second.ended) s.ended)

  -- ---- the arms of a choice among several
  pub choose_inside : (arms : ArmList) (I : Table) → Within N L (statement_flow n r (Choose arms) I) → Within N L (arms_flow n r (sum (parts_of arms)) arms I)
  choose_inside arms I s =
      let b = sum (parts_of arms) in
      let f = arms_flow n r b arms I in
      record { tables = s.tables; ended = ends_second N (all_end (limit Attempts) (scaled (no_class_weight b r) I)) f.ended s.ended; draws = all_second N (draws_each (draw_weights b r) I) f.draws s.draws }

  pub first_arm : (b p : ℕ) (a : Statements) (arms : ArmList) (I : Table) → Within N L (arms_flow n r b (arm p a arms) I) → Within N L (block_flow n r a (scaled (class_weight b r p) I))
  first_arm b p a arms I s = both_first N L [] (block_flow n r a (scaled (class_weight b r p) I)) (arms_flow n r b arms I) s

  pub other_arms : (b p : ℕ) (a : Statements) (arms : ArmList) (I : Table) → Within N L (arms_flow n r b (arm p a arms) I) → Within N L (arms_flow n r b arms I)
  other_arms b p a arms I s = both_second N L [] (block_flow n r a (scaled (class_weight b r p) I)) (arms_flow n r b arms I) s
