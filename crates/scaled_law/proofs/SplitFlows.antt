-- What a block makes of a table that is taken apart is what it makes of both parts, and that is whole and of few states where the whole is.
use Rattle.std.proofs.Common.{ℕ, zero, suc, ◌-◌, ◌≤◌, List, [], ◌∷◌, ◌++◌, Option, arith}
use Rattle.std.specs.List.{sum}
use Rattle.gcl_core.specs.declared.answers.Limit.TheVariants.{Turns, Attempts}
use Rattle.gcl_core.specs.meaning.Arms.{parts_of}
use Rattle.gcl_core.specs.meaning.Syntax.{Statement, Skip, Set, If, While, Choice, Choose, Uniform, Observe, Statements, done, ◌▸◌, ArmList, no_arm, arm}
use Rattle.gcl_core.specs.meaning.Value.{State, Value, value_of}
use Rattle.gcl_core.specs.meaning.Blocks.{End, failed, limit}
use Rattle.gcl_core.specs.weighing.WeightedEnds.{Weighted, class_weight, no_class_weight}
use Rattle.table_flow.specs.Tables.{Table, Flow, holds, fails, draw_weights, statement_flow, block_flow, states, fractions_kind}
use Rattle.table_flow.specs.Scale.{TablesWithin, Within}
use Rattle.table_flow.proofs.FlowWords.{both, loop_flow, arms_flow}
use Rattle.table_flow.proofs.UniformLists.{by_lists}
use Rattle.scaled_law.proofs.Splits.{Splits, none, appended, wholes_split, all_whole_split, fewer, of_parts, only_splits, faults_splits, set_splits, drawn_splits, undrawn_splits, shown_splits, draws_splits, end_splits, scaled_splits}

-- tables one by one
pub data EachSplits : List Table → List Table → List Table → Type 0 where
  no_table : EachSplits [] [] []
  one_more : {I J K : Table} {Is Js Ks : List Table} → Splits I J K → EachSplits Is Js Ks → EachSplits (I ∷ Is) (J ∷ Js) (K ∷ Ks)

each_appended : {Is Js Ks Is' Js' Ks' : List Table} → EachSplits Is Js Ks → EachSplits Is' Js' Ks' → EachSplits (Is ++ Is') (Js ++ Js') (Ks ++ Ks')
each_appended no_table t = t
each_appended (one_more s ss) t = one_more s (each_appended ss t)

pub parts_fewer : {I J K : Table} → Splits I J K → states J ≤ states I
parts_fewer {I} {J} s = fewer I J (λ q. (of_parts s q).0)

tables_split : (N L : ℕ) {Is Js Ks : List Table} → EachSplits Is Js Ks → TablesWithin N L Is → TablesWithin N L Js × TablesWithin N L Ks
tables_split N L no_table w = (tt, tt)
tables_split N L (one_more {I} {J} {K} s ss) w =
    let x = wholes_split N s w.0 in
    let y = tables_split N L ss w.2 in
    let a = parts_fewer s in
    let b = fewer I K (λ q. (of_parts s q).1) in
    let l = w.1 in
    ((x.0, omega (arith, a, l), y.0), (x.1, omega (arith, b, l), y.1))

pub record FlowSplits (f g h : Flow) : Type 0 where
  pub next : Splits f.next g.next h.next
  pub ended : Splits f.ended g.ended h.ended
  pub tables : EachSplits f.tables g.tables h.tables
  pub draws : Splits f.draws g.draws h.draws

pub within_split : (N L : ℕ) (f g h : Flow) → FlowSplits f g h → Within N L f → Within N L g × Within N L h
within_split N L f g h s w =
    let x = tables_split N L s.tables w.tables in
    let y = wholes_split N s.ended w.ended in
    let z = all_whole_split N s.draws w.draws in
    (record { tables = x.0; ended = y.0; draws = z.0 }, record { tables = x.1; ended = y.1; draws = z.1 })

both_splits : {x y z : Weighted End} {f g h f' g' h' : Flow} → Splits x y z → FlowSplits f g h → FlowSplits f' g' h' → FlowSplits (both x f f') (both y g g') (both z h h')
both_splits s t u = record {
  next = appended t.next u.next;
  ended = appended s (appended t.ended u.ended);
  tables = each_appended t.tables u.tables;
  draws = appended t.draws u.draws;
}

module _ (n : ℕ) (r : Option ℕ) where
  abbrev BlockSplits : Statements → Type 0
  BlockSplits b = (I J K : Table) → Splits I J K → FlowSplits (block_flow n r b I) (block_flow n r b J) (block_flow n r b K)

  pub loop_splits : (v : State → Value) (b : Statements) → BlockSplits b → (t : ℕ) {I J K : Table} → Splits I J K →
      FlowSplits (loop_flow v (block_flow n r b) t I) (loop_flow v (block_flow n r b) t J) (loop_flow v (block_flow n r b) t K)
  loop_splits v b h zero s = record {
    next = only_splits (fails v) s;
    ended = appended (faults_splits v s) (end_splits (limit Turns) (only_splits (holds v) s));
    tables = one_more s no_table;
    draws = none;
  }
  loop_splits v b h (suc t) s =
      let f = h _ _ _ (only_splits (holds v) s) in
      let g = loop_splits v b h t f.next in
      record {
        next = appended (only_splits (fails v) s) g.next;
        ended = appended (faults_splits v s) (appended f.ended g.ended);
        tables = one_more s (each_appended f.tables g.tables);
        draws = appended f.draws g.draws;
      }

  mutual
    pub statement_splits : (st : Statement) {I J K : Table} → Splits I J K → FlowSplits (statement_flow n r st I) (statement_flow n r st J) (statement_flow n r st K)
    statement_splits Skip s = record { next = s; ended = none; tables = no_table; draws = none }
    statement_splits (Set x e) s = record { next = set_splits x (value_of e) s; ended = faults_splits (value_of e) s; tables = no_table; draws = none }
    statement_splits (Observe e) s = record {
      next = only_splits (holds (value_of e)) s;
      ended = appended (faults_splits (value_of e) s) (end_splits failed (only_splits (fails (value_of e)) s));
      tables = no_table;
      draws = none;
    }
    statement_splits (Uniform x e) {I} {J} {K} s =
        rw (by_lists fractions_kind r x (value_of e) I) (rw (by_lists fractions_kind r x (value_of e) J) (rw (by_lists fractions_kind r x (value_of e) K) (record {
          next = drawn_splits x (value_of e) r s;
          ended = undrawn_splits (value_of e) r s;
          tables = no_table;
          draws = shown_splits (value_of e) r s;
        })))
    statement_splits (If e a c) s =
        both_splits (faults_splits (value_of e) s) (block_splits a _ _ _ (only_splits (holds (value_of e)) s)) (block_splits c _ _ _ (only_splits (fails (value_of e)) s))
    statement_splits (Choice p a c) s =
        let f = both_splits (end_splits (limit Attempts) (scaled_splits (no_class_weight p.den r) s)) (block_splits a _ _ _ (scaled_splits (class_weight p.den r p.num) s))
        (block_splits c _ _ _ (scaled_splits (class_weight p.den r (p.den - p.num)) s)) in
        record { next = f.next; ended = f.ended; tables = f.tables; draws = appended (draws_splits (draw_weights p.den r) s) f.draws }
    statement_splits (Choose arms) s =
        let b = sum (parts_of arms) in
        let f = arms_split b arms s in
        record {
          next = f.next;
          ended = appended (end_splits (limit Attempts) (scaled_splits (no_class_weight b r) s)) f.ended;
          tables = f.tables;
          draws = appended (draws_splits (draw_weights b r) s) f.draws;
        }
    statement_splits (While e a) s = loop_splits (value_of e) a (block_splits a) n s

    pub block_splits : (b : Statements) → BlockSplits b
    block_splits done I J K s = record { next = s; ended = none; tables = one_more s no_table; draws = none }
    block_splits (st ▸ b) I J K s =
        let f = statement_splits st s in
        let g = block_splits b _ _ _ f.next in
        record { next = g.next; ended = appended f.ended g.ended; tables = one_more s (each_appended f.tables g.tables); draws = appended f.draws g.draws }

    arms_split : (b : ℕ) (arms : ArmList) {I J K : Table} → Splits I J K → FlowSplits (arms_flow n r b arms I) (arms_flow n r b arms J) (arms_flow n r b arms K)
    arms_split b no_arm s = record { next = none; ended = none; tables = no_table; draws = none }
    arms_split b (arm p a arms) s = both_splits none (block_splits a _ _ _ (scaled_splits (class_weight b r p) s)) (arms_split b arms s)
