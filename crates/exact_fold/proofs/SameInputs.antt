-- From a table that weighs the same a block settles to the same.
use Rattle.std.proofs.Common.{ℕ, ◌-◌, ◌≤◌, ◌++◌, None, arith}
use Rattle.std.specs.List.{sum}
use Rattle.gcl_core.specs.meaning.Arms.{parts_of}
use Rattle.gcl_core.specs.meaning.Bounds.{StatementIsWeighed, BlockIsWeighed, ArmsAreWeighed}
use Rattle.gcl_core.specs.meaning.Blocks.{End}
use Rattle.gcl_core.specs.meaning.Syntax.{Statement, Skip, Set, If, While, Choice, Choose, Uniform, Observe, Statements, done, ◌▸◌, ArmList, no_arm, arm}
use Rattle.gcl_core.specs.meaning.Value.{State, Value, value_of}
use Rattle.gcl_core.specs.weighing.Fractions.{Fraction, zero_share}
use Rattle.gcl_core.specs.weighing.WeightedEnds.{Weighted, scaled, class_weight, statement_weighted}
use Rattle.table_flow.specs.Tables.{Table, holds, fails, only, faults, statement_flow}
use Rattle.table_flow.proofs.Linear.{no_one}
use Rattle.table_flow.proofs.Positive.{p_one}
use Rattle.unlimited_law.specs.Alike.{Alike}
use Rattle.unlimited_law.specs.Settling.{Outflow, IsOutflow, SettlesAlone, LoopSettles, StatementSettles, BlockSettles, ArmsSettle}
use Rattle.unlimited_law.proofs.Numbers.{Rational, ◌≃◌}
use Rattle.unlimited_law.proofs.Integrals.{integral}
use Rattle.unlimited_law.proofs.FlowIntegrals.{counted, skip_counted, set_counted, seen_counted, drawn_counted}
use Rattle.unlimited_law.proofs.BlockLimits.{all_fractions, all_positive, behind_fractions}
use Rattle.unlimited_law.proofs.Likeness.{alike_trans}
use Rattle.exact_fold.proofs.SameLists.{alike_refl, alike_append, alike_scaled, alike_next, alike_ended, alike_only, alike_faults}

pub outflow_from : (f : Outflow) (after after' : Table) (gone gone' : Weighted End) (cost : Fraction) → Alike after after' → Alike gone gone' → IsOutflow Alike Alike f after gone cost → IsOutflow Alike Alike f after' gone' cost
outflow_from f after after' gone gone' cost a e o = record { next = alike_trans f.next after after' o.next a; ended = alike_trans f.ended gone gone' o.ended e; turns = o.turns; fraction = o.fraction }

-- a statement of which no other is a part
alone_from : (st : Statement) → StatementIsWeighed st → ((H : End → Rational) (J : Table) → integral (λ s. integral H (statement_weighted 0 None st s)) J ≃ counted H (statement_flow 0 None st J).next (statement_flow 0 None st J).ended) →
    (I K : Table) (f : Outflow) → Alike I K → SettlesAlone Alike Alike st I f → SettlesAlone Alike Alike st K f
alone_from st w same I K f h o =
    let i = p_one 0 None st I w (all_positive I h.first) in
    let k = p_one 0 None st K w (all_positive K h.second) in
    outflow_from f _ _ _ _ zero_share (alike_next h (statement_weighted 0 None st) (statement_flow 0 None st) same (all_fractions _ i.next) (all_fractions _ k.next))
    (alike_ended h (statement_weighted 0 None st) (statement_flow 0 None st) same (no_one 0 None st I) (no_one 0 None st K) (all_fractions _ i.ended) (all_fractions _ k.ended)) o

-- two lists after one that weighs the same
pub ends_from : (x y m : Weighted End) {J : Weighted End} → Alike x y → Alike J (x ++ m) → Alike (x ++ m) (y ++ m)
ends_from x y m h k = alike_append h (alike_refl m (behind_fractions x m k.second))

loop_from : (guard : State → Value) (Body : Table → Outflow → Type 0) (I K : Table) (f : Outflow) → Alike I K → LoopSettles Alike Alike guard Body I f → LoopSettles Alike Alike guard Body K f
loop_from guard Body I K f h o =
    let V = o.0 in
    let E = o.1 in
    let g = o.3 in
    (V, E, o.2, g, o.4, alike_trans (V ++ E) (I ++ g.next) (K ++ g.next) o.5 (alike_append h (alike_refl g.next (behind_fractions I g.next (o.5).second))), o.6, o.7, o.8)

mutual
  pub statement_from : (st : Statement) → StatementIsWeighed st → (I K : Table) (f : Outflow) → Alike I K → StatementSettles Alike Alike st I f → StatementSettles Alike Alike st K f
  statement_from Skip w I K f h o = alone_from Skip w skip_counted I K f h o
  statement_from (Set x e) w I K f h o = alone_from (Set x e) w (λ H J. set_counted H x (value_of e) J) I K f h o
  statement_from (Observe e) w I K f h o = alone_from (Observe e) w (λ H J. seen_counted H (value_of e) J) I K f h o
  statement_from (Uniform x e) w I K f h o = alone_from (Uniform x e) w (λ H J. drawn_counted H x (value_of e) J) I K f h o
  statement_from (If e a c) w I K f h o =
      let v = value_of e in
      let g = o.0 in
      let k = o.1 in
      let x = alike_faults v h in (
        g,
        k,
        block_from a w.0 (only (holds v) I) (only (holds v) K) g (alike_only (holds v) h) o.2,
        block_from c w.1 (only (fails v) I) (only (fails v) K) k (alike_only (fails v) h) o.3,
        outflow_from f _ _ _ _ _ (alike_refl (g.next ++ k.next) (o.4).next.second) (ends_from (faults v I) (faults v K) (g.ended ++ k.ended) x (o.4).ended) o.4,
      )
  statement_from (Choice p a c) w I K f h o =
      let some : 1 ≤ p.den = let z = w.0.positive in omega arith in (
        o.0,
        o.1,
        block_from a w.1 (scaled (class_weight p.den None p.num) I) (scaled (class_weight p.den None p.num) K) o.0 (alike_scaled (class_weight p.den None p.num) some h) o.2,
        block_from c w.2 (scaled (class_weight p.den None (p.den - p.num)) I) (scaled (class_weight p.den None (p.den - p.num)) K) o.1 (alike_scaled (class_weight p.den None (p.den - p.num)) some h) o.3,
        o.4,
      )
  statement_from (Choose arms) w I K f h o = arms_from (sum (parts_of arms)) (let z = w.0.positive in omega arith) arms w.1 I K f h o
  statement_from (While e a) w I K f h o = loop_from (value_of e) (BlockSettles Alike Alike a) I K f h o

  pub block_from : (b : Statements) → BlockIsWeighed b → (I K : Table) (f : Outflow) → Alike I K → BlockSettles Alike Alike b I f → BlockSettles Alike Alike b K f
  block_from done w I K f h o = outflow_from f I K _ _ _ h (alike_refl _ tt) o
  block_from (st ▸ b) w I K f h o = (o.0, o.1, statement_from st w.0 I K o.0 h o.2, o.3, o.4)

  arms_from : (b : ℕ) → 1 ≤ b → (arms : ArmList) → ArmsAreWeighed arms → (I K : Table) (f : Outflow) → Alike I K → ArmsSettle Alike Alike b arms I f → ArmsSettle Alike Alike b arms K f
  arms_from b some no_arm w I K f h o = o
  arms_from b some (arm p a arms) w I K f h o = (
    o.0,
    o.1,
    block_from a w.0 (scaled (class_weight b None p) I) (scaled (class_weight b None p) K) o.0 (alike_scaled (class_weight b None p) some h) o.2,
    arms_from b some arms w.1 I K o.1 h o.3,
    o.4,
  )
