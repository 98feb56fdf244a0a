-- One statement of a fold is one step, and why a step is refused.
use Rattle.std.proofs.Common.{◌≡◌, ℕ, ◌+◌, ◌≤◌, ◌<◌, List, [], ◌∷◌, ◌++◌, Option, length, drop, refl, sym, ap, ◌∙◌, subst, arith}
use Rattle.std.specs.Map.{keys_of}
use Rattle.std.specs.List.Sorted.{IsStrictlySortedBy}
use Rattle.std.proofs.Math.ListN.{drop_of_length-le}
use Rattle.gcl_core.specs.declared.syntax.Stmt.{Stmt}
use Rattle.gcl_core.specs.meaning.Views.{list_of}
use Rattle.gcl_core.specs.meaning.Syntax.{Expression, Statement, Skip, Set, If, Uniform, Observe, Statements, done, ◌▸◌}
use Rattle.gcl_core.specs.meaning.Bounds.{StatementIsWeighed, BlockIsWeighed}
use Rattle.gcl_core.specs.meaning.Value.{State, Value, value_of}
use Rattle.gcl_core.specs.meaning.Blocks.{End, failed}
use Rattle.gcl_core.specs.weighing.Fractions.{Fraction}
use Rattle.gcl_core.specs.weighing.WeightedEnds.{Weighted}
use Rattle.table_flow.specs.Tables.{Table, Flow, holds, fails, only, faults, all_end, statement_flow, block_flow, states, fractions_kind}
use Rattle.table_flow.specs.Scale.{Wholes, TablesWithin, Within, amount, weight, AllWhole}
use Rattle.table_flow.specs.Counts.{moved, stopped, kept_if, none_kept, none_stopped, all_kept, all_stopped, part_at, rest_at, drawn, undrawn}
use Rattle.table_flow.proofs.FlowWords.{set_to, multiplied, not_drawn}
use Rattle.table_flow.proofs.Amounts.{amount_append, amount_only, amount_faults, amount_all_end, amount_set, amount_none, amount_sum, both_first, both_second, regroup}
use Rattle.table_flow.proofs.InsideFlows.{first_inside, others_inside}
use Rattle.table_flow.proofs.Kept.{kept_one, kept_all, guard_weight}
use Rattle.table_flow.proofs.Uniforms.{drawn_next, drawn_ended, drawn_whole}
use Rattle.table_flow.proofs.NoneReached.{none_counts}
use Rattle.table_flow.proofs.UniformLists.{by_lists}
use Rattle.mass_fold.specs.declared.error.MassError.{MassError}
use Rattle.mass_fold.specs.declared.ended.Gone.TheVariants as gone_kind
use Rattle.mass_fold.specs.declared.ended.Ended.{Ended}
use Rattle.mass_fold.specs.Amounts.{held, AreHeld}
use Rattle.mass_fold.specs.inner.Amounts.{Entries, Blames, order}
use Rattle.mass_fold.specs.inner.Ended.{end_of, rows_of}
use Rattle.mass_fold.specs.inner.Steps.{StepsTo, StepBlames, Shares, shared, BothWhole, UniformTo, UniformBlames}
use Rattle.mass_fold.specs.inner.Fold.{Stands, EndStands, FoldsTo, FoldBlames, Around, FoldsOne, OneBlames}
use Rattle.mass_fold.proofs.Shares.{shares_stand, part_above, rest_above, draws_in, each_state}

-- ---- what stands
pub end_along : (N : ℕ) (E : Ended) (J K : Weighted End) → ((G : End → ℕ) → amount N G J ≡ amount N G K) → EndStands N E J → EndStands N E K
end_along N E J K e s = record { kept = s.kept; same = λ G. s.same G ∙ e G }

pub stands_along : (N : ℕ) (es : Entries) (I K : Table) → ((G : State → ℕ) → amount N G I ≡ amount N G K) → Stands N es I → Stands N es K
stands_along N es I K e s = record { kept = s.kept; same = λ G. s.same G ∙ e G }

pub held_none : (N : ℕ) (es : Entries) → held N (λ s. 0) es ≡ 0
held_none N [] = refl
held_none N (e ∷ es) = let i = held_none N es in omega arith

pub shared_none : (N : ℕ) (p : State → Fraction) (es : Entries) → shared N p (λ s. 0) es ≡ 0
shared_none N p [] = refl
shared_none N p (e ∷ es) = let i = shared_none N p es in omega arith

-- after a step, by go and stop
stepped : (N : ℕ) (go : (State → ℕ) → State → ℕ) (stop : (End → ℕ) → State → ℕ) (es : Entries) (E : Ended) (fs : Entries) (F : Ended) (I K : Table) (J L : Weighted End) →
    0 < N → StepsTo go stop [] es E fs F → Stands N es I → EndStands N E J → ((G : State → ℕ) → amount N G K ≡ amount N (go G) I) → ((G : End → ℕ) → amount N G L ≡ amount N (stop G) I) →
    Stands N fs K × EndStands N F (J ++ L)
stepped N go stop es E fs F I K J L Np d s t p q =
    let r = d N Np tt s.kept t.kept in (
      record { kept = r.kept; same = λ G. let a = r.going G in let b = s.same (go G) in let c = p G in omega arith },
      record { kept = r.ended; same = λ G. let a = r.stopping G in let b = s.same (stop G) in let c = q G in let e = t.same G in let f = amount_append N G J L in omega arith },
    )

step_blamed : (N L : ℕ) (go : (State → ℕ) → State → ℕ) (stop : (End → ℕ) → State → ℕ) (es : Entries) (E : Ended) (e : MassError) (I K : Table) (J : Weighted End) →
    0 < N → StepBlames go stop [] es E e → Stands N es I → EndStands N E J → ((G : State → ℕ) → amount N (go G) I ≤ amount N G K) → weight N K ≤ N → states K ≤ L → weight N J + amount N (stop (λ x. 1)) I ≤ N → Blames e N L
step_blamed N L go stop es E e I K J Np d s t p most few m =
    d N L K Np tt s.kept t.kept (λ G. let a = s.same (go G) in let b = p G in omega arith) most few (let a = s.same (stop (λ x. 1)) in let b = t.same (λ x. 1) in omega arith)

pub merged : (N : ℕ) (es fs gs : Entries) (E : Ended) (I K : Table) → 0 < N → StepsTo all_kept none_stopped es fs E gs E → Wholes N (rows_of E) → Stands N es I → Stands N fs K → Stands N gs (I ++ K)
merged N es fs gs E I K Np d w s t =
    let r = d N Np s.kept t.kept w in
    record { kept = r.kept; same = λ G. let a = r.going G in let b = s.same G in let c = t.same G in let e = amount_append N G I K in omega arith }

-- two tables that stand for parts of a third
pub merge_blamed : (N L : ℕ) (es fs : Entries) (E : Ended) (e : MassError) (I K M : Table) (J : Weighted End) → 0 < N → StepBlames all_kept none_stopped es fs E e → EndStands N E J → Stands N es I → Stands N fs K →
    ((G : State → ℕ) → amount N G I + amount N G K ≤ amount N G M) → weight N M ≤ N → states M ≤ L → weight N J ≤ N → Blames e N L
merge_blamed N L es fs E e I K M J Np d w s t p most few m =
    d N L M Np s.kept t.kept w.kept (λ G. let a = p G in let b = s.same G in let c = t.same G in omega arith) most few (let a = held_none N fs in let b = w.same (λ x. 1) in omega arith)

pub nothing_stands : (N : ℕ) (es : Entries) (I : Table) → es ≡ [] → weight N I ≡ 0 → Stands N es I
nothing_stands N es I e h = record { kept = subst (AreHeld N) (sym e) tt; same = λ G. ap (held N G) e ∙ sym (none_counts N G I h) }

pub ends_more : (N : ℕ) (E : Ended) (J K : Weighted End) → weight N K ≡ 0 → EndStands N E J → EndStands N E (J ++ K)
ends_more N E J K h t = end_along N E J (J ++ K) (λ G. let a = amount_append N G J K in let b = none_counts N G K h in omega arith) t

module _ (n : ℕ) (r : Option ℕ) where
  -- ---- around a statement
  pub head_few : (N L : ℕ) (b : Statements) (I : Table) → TablesWithin N L (block_flow n r b I).tables → Wholes N I × (states I ≤ L)
  head_few N L done I w = (w.0, w.1)
  head_few N L (st ▸ b) I w = (w.0, w.1)

  pub first_of : (N L : ℕ) (st : Statement) (b : Statements) (I : Table) → Within N L (block_flow n r (st ▸ b) I) → Around N L I (statement_flow n r st I) × Within N L (block_flow n r b (statement_flow n r st I).next)
  first_of N L st b I w =
      let others = others_inside n r N L st b I w in
      let h = head_few N L b (statement_flow n r st I).next others.tables in
      (record { before = w.tables.0; after = h.0; few_before = w.tables.1; few_after = h.1; inside = first_inside n r N L st b I w }, others)

  -- ---- sequences, by what is left of them
  abbrev pub FoldsOn : (Table → Flow) → Statements → Entries → Ended → Entries → Ended → Type 0
  FoldsOn all b es E now F = (gs : Entries) (G : Ended) → FoldsTo (block_flow n r b) now F gs G → FoldsTo all es E gs G

  abbrev pub BlamesOn : (Table → Flow) → Statements → Entries → Ended → Entries → Ended → Type 0
  BlamesOn all b es E now F = (e : MassError) → FoldBlames (block_flow n r b) now F e → FoldBlames all es E e

  fold_seq : (st : Statement) (b : Statements) (es gs hs : Entries) (E F G : Ended) → FoldsOne (statement_flow n r st) es E gs F → FoldsTo (block_flow n r b) gs F hs G → FoldsTo (block_flow n r (st ▸ b)) es E hs G
  fold_seq st b es gs hs E F G x y N L I J Np s t w =
      let p = first_of N L st b I w in
      let f = statement_flow n r st I in
      let u = x N L I J Np s t p.0 in
      let v = y N L f.next (J ++ f.ended) Np u.0 u.1 p.1 in
      (v.0, end_along N G _ _ (λ H. regroup H N J f.ended (block_flow n r b f.next).ended) v.1)

  blame_seq : (st : Statement) (b : Statements) (es gs : Entries) (E F : Ended) (e : MassError) → StatementIsWeighed st → FoldsOne (statement_flow n r st) es E gs F → FoldBlames (block_flow n r b) gs F e → FoldBlames (block_flow n r (st ▸ b)) es E e
  blame_seq st b es gs E F e ws x y N L I J Np s t w m =
      let p = first_of N L st b I w in
      let f = statement_flow n r st I in
      let u = x N L I J Np s t p.0 in
      let k = kept_one n r N L st I ws p.0.before p.0.after p.0.inside in
      let a = amount_append N (λ x. 1) J f.ended in
      y N L f.next (J ++ f.ended) Np u.0 u.1 p.1 (omega arith)

  blame_first : (st : Statement) (b : Statements) (es : Entries) (E : Ended) (e : MassError) → OneBlames (statement_flow n r st) es E e → FoldBlames (block_flow n r (st ▸ b)) es E e
  blame_first st b es E e x N L I J Np s t w m = x N L I J Np s t (first_of N L st b I w).0 m

  pub rest_next : (all : Table → Flow) (b rest : Statements) (st : Statement) (es now gs : Entries) (E F G : Ended) → b ≡ st ▸ rest → FoldsOn all b es E now F → FoldsOne (statement_flow n r st) now F gs G → FoldsOn all rest es E gs G
  rest_next all b rest st es now gs E F G p a c hs H d = subst (λ b. FoldsOn all b es E now F) p a hs H (fold_seq st rest now gs hs F G H c d)

  pub blames_next : (all : Table → Flow) (b rest : Statements) (st : Statement) (es now gs : Entries) (E F G : Ended) → b ≡ st ▸ rest → StatementIsWeighed st → BlamesOn all b es E now F → FoldsOne (statement_flow n r st) now F gs G → BlamesOn all rest es E gs G
  blames_next all b rest st es now gs E F G p w a c e k = subst (λ b. BlamesOn all b es E now F) p a e (blame_seq st rest now gs F G e w c k)

  pub blames_here : (all : Table → Flow) (b rest : Statements) (st : Statement) (es now : Entries) (E F : Ended) (e : MassError) → b ≡ st ▸ rest → BlamesOn all b es E now F → OneBlames (statement_flow n r st) now F e → FoldBlames all es E e
  blames_here all b rest st es now E F e p a c = subst (λ b. BlamesOn all b es E now F) p a e (blame_first st rest now F e c)

  fold_nothing : (es : Entries) (E : Ended) → FoldsTo (block_flow n r done) es E es E
  fold_nothing es E N L I J Np s t w = (s, end_along N E _ _ (λ G. let a = amount_append N G J [] in omega arith) t)

  pub rest_none : (xs ys : List Stmt) (i : ℕ) (es now : Entries) (E F : Ended) → length xs ≤ i → xs ≡ ys → FoldsOn (block_flow n r (list_of xs)) (list_of (drop i xs)) es E now F → FoldsTo (block_flow n r (list_of ys)) es E now F
  rest_none xs ys i es now E F h p a =
      let q : drop i xs ≡ [] = drop_of_length-le xs h in
      let b : FoldsOn (block_flow n r (list_of xs)) done es E now F = subst (λ z. FoldsOn (block_flow n r (list_of xs)) (list_of z) es E now F) q a in
      subst (λ z. FoldsTo (block_flow n r (list_of z)) es E now F) p (b now F (fold_nothing now F))

  -- ---- no state at all
  pub fold_empty : (st : Statement) (es : Entries) (E : Ended) → StatementIsWeighed st → es ≡ [] → FoldsOne (statement_flow n r st) es E es E
  fold_empty st es E ws e N L I J Np s t w =
      let k = kept_one n r N L st I ws w.before w.after w.inside in
      let z : weight N I ≡ 0 = sym (s.same (λ s. 1)) ∙ ap (held N (λ s. 1)) e in
      (nothing_stands N es _ e (omega arith), ends_more N E J _ (omega arith) t)

  -- ---- a step of each entry
  fold_step : (st : Statement) (go : (State → ℕ) → State → ℕ) (stop : (End → ℕ) → State → ℕ) (es : Entries) (E : Ended) (fs : Entries) (F : Ended) →
      ((N : ℕ) (G : State → ℕ) (I : Table) → amount N G (statement_flow n r st I).next ≡ amount N (go G) I) → ((N : ℕ) (G : End → ℕ) (I : Table) → amount N G (statement_flow n r st I).ended ≡ amount N (stop G) I) →
      StepsTo go stop [] es E fs F → FoldsOne (statement_flow n r st) es E fs F
  fold_step st go stop es E fs F p q d N L I J Np s t w = stepped N go stop es E fs F I _ J _ Np d s t (λ G. p N G I) (λ G. q N G I)

  pub fold_skip : (es : Entries) (E : Ended) → FoldsOne (statement_flow n r Skip) es E es E
  fold_skip es E = fold_step Skip all_kept none_stopped es E es E (λ N G I. refl) (λ N G I. sym (amount_none N I))
      (λ N Np a b w. record { kept = b; ended = w; going = λ G. omega arith; stopping = λ G. let z = held_none N es in omega arith })

  pub fold_assign : (x : ℕ) (e : Expression) (es : Entries) (E : Ended) (fs : Entries) (F : Ended) → StepsTo (moved x (value_of e)) (stopped (value_of e)) [] es E fs F → FoldsOne (statement_flow n r (Set x e)) es E fs F
  fold_assign x e es E fs F d = fold_step (Set x e) (moved x (value_of e)) (stopped (value_of e)) es E fs F (λ N G I. amount_set N G x (value_of e) I) (λ N G I. amount_faults N G (value_of e) I) d

  pub assign_blames : (x : ℕ) (e : Expression) (es : Entries) (E : Ended) (error : MassError) → StepBlames (moved x (value_of e)) (stopped (value_of e)) [] es E error → OneBlames (statement_flow n r (Set x e)) es E error
  assign_blames x e es E error d N L I J Np s t w m =
      let k = kept_one n r N L (Set x e) I tt w.before w.after w.inside in
      let b = amount_faults N (λ x. 1) (value_of e) I in
      step_blamed N L (moved x (value_of e)) (stopped (value_of e)) es E error I (set_to x (value_of e) I) J Np d s t (λ G. let z = amount_set N G x (value_of e) I in omega arith) (omega arith) w.few_after (omega arith)

  -- ---- observations
  abbrev seen_stop : Expression → (End → ℕ) → State → ℕ
  seen_stop e H s = stopped (value_of e) H s + kept_if (fails (value_of e)) (all_stopped failed H) s

  pub fold_observe : (e : Expression) (es : Entries) (E : Ended) (first second : Entries) (F G : Ended) → StepsTo (kept_if (holds (value_of e))) (stopped (value_of e)) [] es E first F →
      StepsTo (kept_if (fails (value_of e))) (stopped (value_of e)) [] es E second F → StepsTo none_kept (all_stopped (end_of gone_kind.Failed)) [] second F [] G →
      FoldsOne (statement_flow n r (Observe e)) es E first G
  fold_observe e es E first second F G d c a = fold_step (Observe e) (kept_if (holds (value_of e))) (seen_stop e) es E first G (λ N H I. amount_only N H (holds (value_of e)) I)
      (λ N H I.
      let v = value_of e in
      let x = amount_append N H (faults v I) (all_end failed (only (fails v) I)) in
      let y = amount_faults N H v I in
      let z = amount_all_end N H failed (only (fails v) I) ∙ amount_only N (all_stopped failed H) (fails v) I in
      let o = amount_sum N (stopped v H) (kept_if (fails v) (all_stopped failed H)) I in
      omega arith)
      (λ N Np b h w. let p = d N Np tt h w in let q = c N Np tt h w in let t = a N Np tt q.kept p.ended in
      record {
        kept = p.kept;
        ended = t.ended;
        going = p.going;
        stopping = λ H. let u = p.stopping H in let v = t.stopping H in let z = q.going (all_stopped failed H) in let y = held_sum N (stopped (value_of e) H) (kept_if (fails (value_of e)) (all_stopped failed H)) es in omega arith;
      })
    where
      held_sum : (N : ℕ) (X Y : State → ℕ) (es : Entries) → held N (λ s. X s + Y s) es ≡ held N X es + held N Y es
      held_sum N X Y [] = refl
      held_sum N X Y (e ∷ es) = let i = held_sum N X Y es in omega arith

  -- ---- a guard
  module _ (v : State → Value) (es first second : Entries) (E F : Ended) (d : StepsTo (kept_if (holds v)) (stopped v) [] es E first F) (c : StepsTo (kept_if (fails v)) (stopped v) [] es E second F)
      (N : ℕ) (I : Table) (J : Weighted End) (Np : 0 < N) (s : Stands N es I) (t : EndStands N E J) where
    pub looked_first : Stands N first (only (holds v) I) × EndStands N F (J ++ faults v I)
    looked_first = stepped N (kept_if (holds v)) (stopped v) es E first F I (only (holds v) I) J (faults v I) Np d s t (λ K. amount_only N K (holds v) I) (λ K. amount_faults N K v I)

    pub looked_second : Stands N second (only (fails v) I) × EndStands N F (J ++ faults v I)
    looked_second = stepped N (kept_if (fails v)) (stopped v) es E second F I (only (fails v) I) J (faults v I) Np c s t (λ K. amount_only N K (fails v) I) (λ K. amount_faults N K v I)

  pub split_blamed : (v : State → Value) (es : Entries) (E : Ended) (e : MassError) (N L : ℕ) (I : Table) (J : Weighted End) → 0 < N → StepBlames all_kept (stopped v) [] es E e → Stands N es I → EndStands N E J → states I ≤ L → weight N I + weight N J ≤ N → Blames e N L
  split_blamed v es E e N L I J Np d s t few m =
      let g = guard_weight N v I in
      let f = amount_faults N (λ x. 1) v I in
      step_blamed N L all_kept (stopped v) es E e I I J Np d s t (λ G. omega arith) (omega arith) few (omega arith)

  pub end_blamed : (x : End) (es : Entries) (E : Ended) (e : MassError) (N L : ℕ) (I : Table) (J : Weighted End) → 0 < N → StepBlames none_kept (all_stopped x) [] es E e → Stands N es I → EndStands N E J → weight N I + weight N J ≤ N → Blames e N L
  end_blamed x es E e N L I J Np d s t m =
      d N L [] Np tt s.kept t.kept (λ G. let z = held_none N es in omega arith) (omega arith) (omega arith) (let a = s.same (λ s. 1) in let b = t.same (λ x. 1) in omega arith)

  pub observe_blames : (e : Expression) (es : Entries) (E : Ended) (error : MassError) → StepBlames all_kept (stopped (value_of e)) [] es E error → OneBlames (statement_flow n r (Observe e)) es E error
  observe_blames e es E error d N L I J Np s t w m = split_blamed (value_of e) es E error N L I J Np d s t w.few_before m

  pub failed_blames : (e : Expression) (es first second : Entries) (E F : Ended) (error : MassError) → StepsTo (kept_if (holds (value_of e))) (stopped (value_of e)) [] es E first F →
      StepsTo (kept_if (fails (value_of e))) (stopped (value_of e)) [] es E second F → StepBlames none_kept (all_stopped (end_of gone_kind.Failed)) [] second F error → OneBlames (statement_flow n r (Observe e)) es E error
  failed_blames e es first second E F error d c b N L I J Np s t w m =
      let v = value_of e in
      let two = looked_second v es first second E F d c N I J Np s t in
      let g = guard_weight N v I in
      let a = amount_append N (λ x. 1) J (faults v I) in
      end_blamed failed second F error N L (only (fails v) I) (J ++ faults v I) Np b two.0 two.1 (omega arith)

  -- ---- branches
  pub branch_blames : (e : Expression) (a c : Statements) (es : Entries) (E : Ended) (error : MassError) → StepBlames all_kept (stopped (value_of e)) [] es E error → OneBlames (statement_flow n r (If e a c)) es E error
  branch_blames e a c es E error d N L I J Np s t w m = split_blamed (value_of e) es E error N L I J Np d s t w.few_before m

  module _ (e : Expression) (a c : Statements) (es first second : Entries) (E F : Ended) (d : StepsTo (kept_if (holds (value_of e))) (stopped (value_of e)) [] es E first F) (k : StepsTo (kept_if (fails (value_of e))) (stopped (value_of e)) [] es E second F) where
    pub fold_branch : (ls cs rs : Entries) (G H : Ended) → FoldsTo (block_flow n r a) first F ls G → FoldsTo (block_flow n r c) second G cs H → ((E : Ended) → StepsTo all_kept none_stopped ls cs E rs E) → FoldsOne (statement_flow n r (If e a c)) es E rs H
    fold_branch ls cs rs G H x y m N L I J Np s t w =
        let v = value_of e in
        let A = only (holds v) I in
        let C = only (fails v) I in
        let fa = block_flow n r a A in
        let fc = block_flow n r c C in
        let p = looked_first v es first second E F d k N I J Np s t in
        let q = looked_second v es first second E F d k N I J Np s t in
        let u = x N L A (J ++ faults v I) Np p.0 p.1 (both_first N L (faults v I) fa fc w.inside) in
        let o = y N L C ((J ++ faults v I) ++ fa.ended) Np q.0 u.1 (both_second N L (faults v I) fa fc w.inside) in (
          merged N ls cs rs H fa.next fc.next Np (m H) o.1.kept u.0 o.0,
          end_along N H _ _ (λ K. regroup K N (J ++ faults v I) fa.ended fc.ended ∙ regroup K N J (faults v I) (fa.ended ++ fc.ended)) o.1,
        )

    pub first_blames : (error : MassError) → FoldBlames (block_flow n r a) first F error → OneBlames (statement_flow n r (If e a c)) es E error
    first_blames error x N L I J Np s t w m =
        let v = value_of e in
        let p = looked_first v es first second E F d k N I J Np s t in
        let g = guard_weight N v I in
        let o = amount_append N (λ x. 1) J (faults v I) in
        x N L (only (holds v) I) (J ++ faults v I) Np p.0 p.1 (both_first N L (faults v I) (block_flow n r a (only (holds v) I)) (block_flow n r c (only (fails v) I)) w.inside) (omega arith)

    module _ (ls : Entries) (G : Ended) (x : FoldsTo (block_flow n r a) first F ls G) (wa : BlockIsWeighed a) where
      pub second_blames : (error : MassError) → FoldBlames (block_flow n r c) second G error → OneBlames (statement_flow n r (If e a c)) es E error
      second_blames error y N L I J Np s t w m =
          let v = value_of e in
          let A = only (holds v) I in
          let C = only (fails v) I in
          let fa = block_flow n r a A in
          let fc = block_flow n r c C in
          let p = looked_first v es first second E F d k N I J Np s t in
          let q = looked_second v es first second E F d k N I J Np s t in
          let wf = both_first N L (faults v I) fa fc w.inside in
          let u = x N L A (J ++ faults v I) Np p.0 p.1 wf in
          let g = guard_weight N v I in
          let o = amount_append N (λ x. 1) J (faults v I) in
          let i = amount_append N (λ x. 1) (J ++ faults v I) fa.ended in
          let z = kept_all n r N L a wa A wf in
          y N L C ((J ++ faults v I) ++ fa.ended) Np q.0 u.1 (both_second N L (faults v I) fa fc w.inside) (omega arith)

      pub both_blame : (cs : Entries) (H : Ended) (error : MassError) → BlockIsWeighed c → FoldsTo (block_flow n r c) second G cs H → ((E : Ended) → StepBlames all_kept none_stopped ls cs E error) → OneBlames (statement_flow n r (If e a c)) es E error
      both_blame cs H error wc y b N L I J Np s t w m =
          let v = value_of e in
          let A = only (holds v) I in
          let C = only (fails v) I in
          let fa = block_flow n r a A in
          let fc = block_flow n r c C in
          let p = looked_first v es first second E F d k N I J Np s t in
          let q = looked_second v es first second E F d k N I J Np s t in
          let u = x N L A (J ++ faults v I) Np p.0 p.1 (both_first N L (faults v I) fa fc w.inside) in
          let o = y N L C ((J ++ faults v I) ++ fa.ended) Np q.0 u.1 (both_second N L (faults v I) fa fc w.inside) in
          let z = kept_one n r N L (If e a c) I (wa, wc) w.before w.after w.inside in
          merge_blamed N L ls cs E error fa.next fc.next (fa.next ++ fc.next) J Np (b E) t u.0 o.0 (λ G. let i = amount_append N G fa.next fc.next in omega arith) (omega arith) w.few_after (omega arith)

  -- ---- uniform draws
  module _ (x : ℕ) (e : Expression) (es : Entries) (E : Ended) (o : IsStrictlySortedBy order (keys_of es)) where
    drawn_shares : (N L : ℕ) (I : Table) → 0 < N → Stands N es I → Around N L I (statement_flow n r (Uniform x e) I) →
        (Shares N (part_at (value_of e) r) es × ((G : State → ℕ) → shared N (part_at (value_of e) r) G es ≡ amount N G (multiplied (part_at (value_of e) r) I)))
        × (Shares N (rest_at (value_of e) r) es × ((G : State → ℕ) → shared N (rest_at (value_of e) r) G es ≡ amount N G (multiplied (rest_at (value_of e) r) I)))
    drawn_shares N L I Np s w =
        let v = value_of e in
        let q = by_lists fractions_kind r x v I in
        let m = drawn_whole x v r N I w.before (subst (λ f. Wholes N f.next) q w.after) (subst (λ f. Wholes N f.ended) q w.inside.ended) in
        (shares_stand (part_at v r) (part_above v r) N es I Np o w.before m.0 s, shares_stand (rest_at v r) (rest_above v r) N es I Np o w.before m.1 s)

    pub fold_draw : (fs : Entries) (F : Ended) → UniformTo x (value_of e) r es E fs F → FoldsOne (statement_flow n r (Uniform x e)) es E fs F
    fold_draw fs F d N L I J Np s t w =
        let v = value_of e in
        let h = drawn_shares N L I Np s w in
        let u = d N Np s.kept t.kept h.0.0 h.1.0 in rw (by_lists fractions_kind r x v I) (
          record { kept = u.kept; same = λ G. let a = u.going G in let b = h.0.1 (drawn x v G) in let c = drawn_next x v r N G I in omega arith },
          record { kept = u.ended; same = λ G. let a = u.stopping G in let b = h.1.1 (undrawn v G) in let c = drawn_ended x v r N G I in let k = t.same G in let i = amount_append N G J (not_drawn v r I) in omega arith },
        )

    pub draw_blames : (error : MassError) → UniformBlames x (value_of e) r es E error → OneBlames (statement_flow n r (Uniform x e)) es E error
    draw_blames error d N L I J Np s t w m =
        let v = value_of e in
        let f = statement_flow n r (Uniform x e) I in
        let q = by_lists fractions_kind r x v I in
        let h = drawn_shares N L I Np s w in
        let k = kept_one n r N L (Uniform x e) I tt w.before w.after w.inside in
        let dr = each_state (BothWhole N (part_at v r) (rest_at v r)) N es I Np s (draws_in N v r I (subst (λ f. AllWhole N f.draws) q w.inside.draws)) in
        d N L f.next Np s.kept t.kept h.0.0 h.1.0 dr (λ G. let b = h.0.1 (drawn x v G) in let c = ap (λ f. amount N G f.next) q ∙ drawn_next x v r N G I in omega arith) (omega arith) w.few_after
        (let b = h.1.1 (undrawn v (λ x. 1)) in let c = ap (λ f. amount N (λ x. 1) f.ended) q ∙ drawn_ended x v r N (λ x. 1) I in let z = t.same (λ x. 1) in omega arith)
