-- What a block makes of a table, of whatever kind its weights are, stands to what it makes of the table of fractions as that table does.
use Rattle.std.proofs.Common.{◌≡◌, ℕ, zero, suc, ◌-◌, ◌*◌, ◌≤◌, ◌<◌, All, Bool, List, [], ◌++◌, Option, subst, sym, arith}
use Rattle.std.specs.List.{sum}
use Rattle.std.proofs.lemmas.List.Elements.{All-nil, All-cons, All-append}
use Rattle.gcl_core.specs.declared.answers.Limit.TheVariants.{Turns, Attempts}
use Rattle.gcl_core.specs.meaning.Arms.{parts_of}
use Rattle.gcl_core.specs.meaning.Syntax.{Statement, Skip, Set, If, While, Choice, Choose, Uniform, Observe, Statements, done, ◌▸◌, ArmList, no_arm, arm}
use Rattle.gcl_core.specs.meaning.Bounds.{StatementIsWeighed, BlockIsWeighed, ArmsAreWeighed}
use Rattle.gcl_core.specs.meaning.Value.{State, Value, value_of}
use Rattle.gcl_core.specs.meaning.Blocks.{End, failed, limit}
use Rattle.gcl_core.specs.weighing.WeightedEnds.{Weighted, scaled, class_weight, no_class_weight}
use Rattle.table_flow.specs.Tables.{Table, FlowOf, Flow, Kind, holds, fails, only, faults, all_end, only_go, faults_go, end_go, loop_go, statement_go, block_go, arms_go, statement_flow, block_flow, states, fractions_kind}
use Rattle.table_flow.specs.Counts.{moved, stopped, kept_if, all_stopped}
use Rattle.table_flow.specs.Scale.{Wholes, Within}
use Rattle.table_flow.proofs.FlowWords.{both, loop_flow, arms_flow}
use Rattle.table_flow.proofs.Amounts.{ends_whole, both_first, both_second, ends_first, amount_set, amount_only, amount_faults, amount_all_end}
use Rattle.table_flow.proofs.Draws.{class_pos, no_class_pos}
use Rattle.table_flow.proofs.InsideFlows.{head_whole, first_inside, others_inside, turn_inside, turns_inside, side_first, side_second, undecided_whole, choose_inside, first_arm, other_arms}
use Rattle.table_flow.proofs.Uniforms.{drawn_next, drawn_ended, drawn_whole}
use Rattle.table_flow.proofs.UniformLists.{by_lists}
use Rattle.units_law.proofs.Counted.{Counts, StandsIn, Stands, counted_as, joined, none_stands, times_stands, of_append, of_only, of_faults, of_end, of_set}
use Rattle.units_law.proofs.Drawn.{drawn_stands, undrawn_stands}
use Rattle.units_law.proofs.Orders.{IsOrder}

module _ {X Y : Type 0} (k : Kind X Y) (c : Counts k.entries) (R : ℕ → ℕ → Type 0) (o : IsOrder R) (n : ℕ) (r : Option ℕ) (stands : StandsIn k c R r) (D S N L : ℕ) where
  abbrev pub TableStands : List X → Table → Type 0
  TableStands = Stands c.of R D S N

  abbrev pub EndsStand : List Y → Weighted End → Type 0
  EndsStand = Stands c.of_ended R D S N

  -- ---- parts

  pub tidied : (J : List X) (I : Table) → TableStands J I → TableStands (k.tidy J) I
  tidied J I h G = o.further (D * c.of G (k.tidy J)) (D * c.of G J) _ (o.products D (c.of G (k.tidy J)) (c.of G J) (stands.tidy G J)) (h G)

  pub only_stands : (J : List X) (I : Table) → TableStands J I → (test : State → Bool) → TableStands (only_go k.entries test J) (only test I)
  only_stands J I h test = counted_as R o D S N c.of c.of J I (only_go k.entries test J) (only test I) (kept_if test) h (λ G. of_only k.entries c G test J) (λ G. amount_only N G test I)

  pub faults_stand : (J : List X) (I : Table) → TableStands J I → (v : State → Value) → EndsStand (faults_go k.entries v J) (faults v I)
  faults_stand J I h v = counted_as R o D S N c.of c.of_ended J I (faults_go k.entries v J) (faults v I) (stopped v) h (λ G. of_faults k.entries c G v J) (λ G. amount_faults N G v I)

  pub end_stands : (J : List X) (I : Table) → TableStands J I → (x : End) → EndsStand (end_go k.entries x J) (all_end x I)
  end_stands J I h x = counted_as R o D S N c.of c.of_ended J I (end_go k.entries x J) (all_end x I) (all_stopped x) h (λ G. of_end k.entries c G x J) (λ G. amount_all_end N G x I)

  pub class_stands : (b q : ℕ) → 0 < b → (J : List X) (I : Table) → Wholes N I → Wholes N (scaled (class_weight b r q) I) → TableStands J I → TableStands (k.class b r q J) (scaled (class_weight b r q) I)
  class_stands b q p J I w s = times_stands R o D S N c.of (class_weight b r q) J (k.class b r q J) I (class_pos b r q p) w s (λ G. stands.class b q p G J)

  pub rest_stands : (b : ℕ) → 0 < b → (J : List X) (I : Table) → Wholes N I → Wholes N (scaled (no_class_weight b r) I) → TableStands J I → TableStands (k.rest b r J) (scaled (no_class_weight b r) I)
  rest_stands b p J I w s = times_stands R o D S N c.of (no_class_weight b r) J (k.rest b r J) I (no_class_pos b r) w s (λ G. stands.rest b p G J)

  -- one table behind the other, and one list of what ended
  pub beside : (J K : List X) (I M : Table) → TableStands J I → TableStands K M → TableStands (J ++ K) (I ++ M)
  beside J K I M = joined R o D S N c.of J K (J ++ K) I M (λ G. of_append k.entries c G J K)

  pub beside_ended : (J K : List Y) (I M : Weighted End) → EndsStand J I → EndsStand K M → EndsStand (J ++ K) (I ++ M)
  beside_ended J K I M = joined R o D S N c.of_ended J K (J ++ K) I M (λ G. c.append_ended G J K)

  none_next : TableStands [] []
  none_next = none_stands R o D S N c.of [] c.none

  pub none_ended : EndsStand [] []
  none_ended = none_stands R o D S N c.of_ended [] c.none_ended

  -- ---- a block, whose tables are few where each is tidied

  module _ (Few : List X → Type 0) (is_few : (J : List X) (I : Table) → TableStands J I → states I ≤ L → Few (k.tidy J)) (at_loop : (J : List X) → k.at_loop J ≡ []) where
    pub record FlowStands (f : FlowOf X Y) (g : Flow) : Type 0 where
      pub next : TableStands f.next g.next
      pub ended : EndsStand f.ended g.ended
      pub few : All Few f.tables

    no_tables : All Few []
    no_tables = All-nil Few

    loop_tables : (J : List X) (Js : List (List X)) → All Few Js → All Few (k.at_loop J ++ Js)
    loop_tables J Js h = subst (λ t. All Few (t ++ Js)) (sym (at_loop J)) h

    both_stand : (x : List Y) (f g : FlowOf X Y) (y : Weighted End) (f' g' : Flow) → EndsStand x y → FlowStands f f' → FlowStands g g' → FlowStands (both x f g) (both y f' g')
    both_stand x f g y f' g' h i l = record {
      next = beside f.next g.next f'.next g'.next i.next l.next;
      ended = beside_ended x (f.ended ++ g.ended) y (f'.ended ++ g'.ended) h (beside_ended f.ended g.ended f'.ended g'.ended i.ended l.ended);
      few = All-append Few f.tables g.tables i.few l.few;
    }

    abbrev BlockStands : Statements → Type 0
    BlockStands b = (J : List X) (I : Table) → Within N L (block_flow n r b I) → TableStands J I → FlowStands (block_go k n r b J) (block_flow n r b I)

    loop_stands : (v : State → Value) (b : Statements) → BlockStands b → (t : ℕ) (J : List X) (I : Table) → Within N L (loop_flow v (block_flow n r b) t I) → TableStands J I →
        FlowStands (loop_go k.entries k.at_loop v (block_go k n r b) t J) (loop_flow v (block_flow n r b) t I)
    loop_stands v b m zero J I w h =
        let A = only_go k.entries (holds v) J in
        let hh = only_stands J I h (holds v) in
        record {
          next = only_stands J I h (fails v);
          ended = beside_ended (faults_go k.entries v J) (end_go k.entries (limit Turns) A) (faults v I) (all_end (limit Turns) (only (holds v) I)) (faults_stand J I h v) (end_stands A (only (holds v) I) hh (limit Turns));
          few = subst (All Few) (sym (at_loop J)) no_tables;
        }
    loop_stands v b m (suc t) J I w h =
        let A = only_go k.entries (holds v) J in
        let B = only (holds v) I in
        let f = block_go k n r b A in
        let f' = block_flow n r b B in
        let g = loop_go k.entries k.at_loop v (block_go k n r b) t f.next in
        let g' = loop_flow v (block_flow n r b) t f'.next in
        let wf = turn_inside n r N L v b t I w in
        let wg = turns_inside n r N L v b t I w in
        let x = m A B wf (only_stands J I h (holds v)) in
        let y = loop_stands v b m t f.next f'.next wg x.next in
        record {
          next = beside (only_go k.entries (fails v) J) g.next (only (fails v) I) g'.next (only_stands J I h (fails v)) y.next;
          ended = beside_ended (faults_go k.entries v J) (f.ended ++ g.ended) (faults v I) (f'.ended ++ g'.ended) (faults_stand J I h v) (beside_ended f.ended g.ended f'.ended g'.ended x.ended y.ended);
          few = loop_tables J (f.tables ++ g.tables) (All-append Few f.tables g.tables x.few y.few);
        }

    mutual
      pub statement_stands : (st : Statement) → StatementIsWeighed st → (J : List X) (I : Table) → Wholes N I → Wholes N (statement_flow n r st I).next → Within N L (statement_flow n r st I) → TableStands J I →
          FlowStands (statement_go k n r st J) (statement_flow n r st I)
      statement_stands Skip p J I w y s h = record { next = h; ended = none_ended; few = no_tables }
      statement_stands (Set x e) p J I w y s h =
          let v = value_of e in
          record {
            next = counted_as R o D S N c.of c.of J I _ _ (moved x v) h (λ G. of_set k.entries c G x v J) (λ G. amount_set N G x v I);
            ended = faults_stand J I h v;
            few = no_tables;
          }
      statement_stands (Observe e) p J I w y s h =
          let v = value_of e in
          let A = only_go k.entries (fails v) J in
          let hh = only_stands J I h (fails v) in
          record {
            next = only_stands J I h (holds v);
            ended = beside_ended (faults_go k.entries v J) (end_go k.entries failed A) (faults v I) (all_end failed (only (fails v) I)) (faults_stand J I h v) (end_stands A (only (fails v) I) hh failed);
            few = no_tables;
          }
      statement_stands (Uniform x e) p J I w y s h =
          let v = value_of e in
          let u = by_lists fractions_kind r x v I in
          let q = drawn_whole x v r N I w (subst (λ f. Wholes N f.next) u y) (subst (λ f. Wholes N f.ended) u s.ended) in
          rw u (rw (by_lists k r x v J) (record {
            next = λ G. rw (drawn_next x v r N G I) (drawn_stands k c R o r stands D S N J I h w x v q.0 G);
            ended = λ G. rw (drawn_ended x v r N G I) (undrawn_stands k c R o r stands D S N J I h w v q.1 G);
            few = no_tables;
          }))
      statement_stands (If e a b) p J I w y s h =
          let v = value_of e in
          let A = only_go k.entries (holds v) J in
          let B = only_go k.entries (fails v) J in
          let A' = only (holds v) I in
          let B' = only (fails v) I in
          let f' = block_flow n r a A' in
          let g' = block_flow n r b B' in
          both_stand (faults_go k.entries v J) (block_go k n r a A) (block_go k n r b B) (faults v I) f' g' (faults_stand J I h v)
          (block_stands a p.0 A A' (both_first N L (faults v I) f' g' s) (only_stands J I h (holds v)))
          (block_stands b p.1 B B' (both_second N L (faults v I) f' g' s) (only_stands J I h (fails v)))
      statement_stands (Choice q a b) p J I w y s h =
          let A = k.class q.den r q.num J in
          let B = k.class q.den r (q.den - q.num) J in
          let C = k.rest q.den r J in
          let A' = scaled (class_weight q.den r q.num) I in
          let B' = scaled (class_weight q.den r (q.den - q.num)) I in
          let C' = scaled (no_class_weight q.den r) I in
          let f' = block_flow n r a A' in
          let g' = block_flow n r b B' in
          let ze = all_end (limit Attempts) C' in
          let wf = side_first n r N L q a b I s in
          let wg = side_second n r N L q a b I s in
          let d : 0 < q.den = let z = p.0.positive in omega arith in
          let x = class_stands q.den q.num d J I w (head_whole n r N L a A' wf.tables) h in
          let z = class_stands q.den (q.den - q.num) d J I w (head_whole n r N L b B' wg.tables) h in
          let u = rest_stands q.den d J I w (undecided_whole n r N L q a b I s) h in
          let m = both_stand (end_go k.entries (limit Attempts) C) (block_go k n r a A) (block_go k n r b B) ze f' g' (end_stands C C' u (limit Attempts)) (block_stands a p.1 A A' wf x) (block_stands b p.2 B B' wg z) in
          record { next = m.next; ended = m.ended; few = m.few }
      statement_stands (Choose arms) p J I w y s h =
          let b = sum (parts_of arms) in
          let d : 0 < b = let z = p.0.positive in omega arith in
          let C = k.rest b r J in
          let C' = scaled (no_class_weight b r) I in
          let f = arms_go k n r b arms J in
          let f' = arms_flow n r b arms I in
          let ze = all_end (limit Attempts) C' in
          let m = arms_stand b d arms p.1 J I w (choose_inside n r N L arms I s) h in
          let u = rest_stands b d J I w (ends_whole N (limit Attempts) C' (ends_first N ze f'.ended s.ended)) h in
          record { next = m.next; ended = beside_ended (end_go k.entries (limit Attempts) C) f.ended ze f'.ended (end_stands C C' u (limit Attempts)) m.ended; few = m.few }
      statement_stands (While e a) p J I w y s h = loop_stands (value_of e) a (block_stands a p) n J I s h

      pub block_stands : (b : Statements) → BlockIsWeighed b → BlockStands b
      block_stands done p J I s h = record { next = tidied J I h; ended = none_ended; few = All-cons Few (k.tidy J) [] (is_few J I h s.tables.1) no_tables }
      block_stands (st ▸ b) p J I s h =
          let f = statement_go k n r st (k.tidy J) in
          let f' = statement_flow n r st I in
          let g = block_go k n r b f.next in
          let g' = block_flow n r b f'.next in
          let sf = first_inside n r N L st b I s in
          let sg = others_inside n r N L st b I s in
          let x = statement_stands st p.0 (k.tidy J) I s.tables.0 (head_whole n r N L b f'.next sg.tables) sf (tidied J I h) in
          let y = block_stands b p.1 f.next f'.next sg x.next in
          record {
            next = y.next;
            ended = beside_ended f.ended g.ended f'.ended g'.ended x.ended y.ended;
            few = All-cons Few (k.tidy J) (f.tables ++ g.tables) (is_few J I h s.tables.1) (All-append Few f.tables g.tables x.few y.few);
          }

      arms_stand : (b : ℕ) → 0 < b → (arms : ArmList) → ArmsAreWeighed arms → (J : List X) (I : Table) → Wholes N I → Within N L (arms_flow n r b arms I) → TableStands J I → FlowStands (arms_go k n r b arms J) (arms_flow n r b arms I)
      arms_stand b d no_arm p J I w s h = record { next = none_next; ended = none_ended; few = no_tables }
      arms_stand b d (arm q a arms) p J I w s h =
          let A = k.class b r q J in
          let A' = scaled (class_weight b r q) I in
          let wf = first_arm n r N L b q a arms I s in
          let x = class_stands b q d J I w (head_whole n r N L a A' wf.tables) h in
          both_stand [] (block_go k n r a A) (arms_go k n r b arms J) [] (block_flow n r a A') (arms_flow n r b arms I) none_ended
          (block_stands a p.0 A A' wf x) (arms_stand b d arms p.1 J I w (other_arms n r N L b q a arms I s) h)
