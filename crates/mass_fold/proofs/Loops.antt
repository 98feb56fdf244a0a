-- Loops and choices of a fold.
use Rattle.std.proofs.Common.{◌≡◌, ℕ, zero, suc, ◌+◌, ◌≤◌, ◌<◌, [], ◌++◌, Option, refl, sym, ap, ◌∙◌, subst, arith}
use Rattle.gcl_core.specs.declared.answers.Limit.TheVariants as limit_kind
use Rattle.gcl_core.specs.meaning.Syntax.{Expression, Statements}
use Rattle.gcl_core.specs.meaning.Bounds.{BlockIsWeighed}
use Rattle.gcl_core.specs.meaning.Value.{State, Value, value_of}
use Rattle.gcl_core.specs.meaning.Blocks.{End, limit}
use Rattle.gcl_core.specs.weighing.WeightedEnds.{Weighted}
use Rattle.table_flow.specs.Tables.{Table, Flow, holds, fails, only, faults, all_end, block_flow, states}
use Rattle.table_flow.specs.Scale.{Within, amount, weight}
use Rattle.table_flow.specs.Counts.{stopped, kept_if, none_kept, none_stopped, all_kept, all_stopped}
use Rattle.table_flow.proofs.FlowWords.{loop_flow}
use Rattle.table_flow.proofs.Amounts.{amount_append, amount_all_end}
use Rattle.table_flow.proofs.InsideFlows.{turn_inside, turns_inside}
use Rattle.table_flow.proofs.Kept.{kept_all, kept_turns, guard_weight}
use Rattle.table_flow.proofs.NoneReached.{none_counts}
use Rattle.mass_fold.specs.declared.error.MassError.{MassError}
use Rattle.mass_fold.specs.declared.ended.Gone.TheVariants as gone_kind
use Rattle.mass_fold.specs.declared.ended.Ended.{Ended}
use Rattle.mass_fold.specs.Amounts.{held}
use Rattle.mass_fold.specs.inner.Amounts.{Entries}
use Rattle.mass_fold.specs.inner.Ended.{end_of}
use Rattle.mass_fold.specs.inner.Steps.{StepsTo, StepBlames}
use Rattle.mass_fold.specs.inner.Fold.{Stands, FoldsTo, FoldBlames, FoldsOne, OneBlames, LoopAt, LoopsOn}
use Rattle.mass_fold.proofs.Folds.{stands_along, end_along, merged, merge_blamed, split_blamed, end_blamed, looked_first, looked_second}

-- ---- loops
module _ (n : ℕ) (r : Option ℕ) (e : Expression) (b : Statements) (es : Entries) (E : Ended) where
  abbrev v : State → Value
  v = value_of e

  abbrev body : Table → Flow
  body = block_flow n r b

  abbrev pub turns : ℕ → Table → Flow
  turns t I = loop_flow (value_of e) (block_flow n r b) t I

  pub loop_start : (exits : Entries) → exits ≡ [] → LoopsOn turns n n es E es exits E
  loop_start exits p N L I J Np s t w = record {
    table = I;
    out = [];
    gone = J;
    stands = s;
    collected = subst (λ x. Stands N x []) (sym p) (record { kept = tt; same = λ G. refl });
    stopped = t;
    inside = w;
    going = λ G. omega arith;
    stopping = λ G. refl;
  }

  head_turn : (N L t : ℕ) (I : Table) → Within N L (turns t I) → states I ≤ L
  head_turn N L zero I w = w.tables.1
  head_turn N L (suc t) I w = w.tables.1

  -- what stands of weight in the midst of a loop
  weighs : (N L t : ℕ) (I : Table) (J : Weighted End) (now exits : Entries) (F : Ended) → BlockIsWeighed b → Within N L (turns n I) → (at : LoopAt turns n t now exits F N L I J) → weight N at.table + (weight N at.out + weight N at.gone) ≡ weight N I + weight N J
  weighs N L t I J now exits F wb w at =
      let k = kept_turns n r N L v b (kept_all n r N L b wb) n I w in
      let m = kept_turns n r N L v b (kept_all n r N L b wb) t at.table at.inside in
      let x = at.going (λ s. 1) in
      let y = at.stopping (λ x. 1) in
      omega arith

  module _ (t : ℕ) (now exits : Entries) (F : Ended) (l : LoopsOn turns n t es E now exits F) where
    -- the guard is refused
    pub guard_blames : (error : MassError) → BlockIsWeighed b → StepBlames all_kept (stopped v) [] now F error → OneBlames (turns n) es E error
    guard_blames error wb d N L I J Np s u w m =
        let at = l N L I J Np s u w.inside in
        let k = weighs N L t I J now exits F wb w.inside at in
        split_blamed n r v now F error N L at.table at.gone Np d at.stands at.stopped (head_turn N L t at.table at.inside) (omega arith)

    -- where nothing stands, what is left of the loop gives nothing
    pub loop_dry : BlockIsWeighed b → now ≡ [] → FoldsOne (turns n) es E exits F
    loop_dry wb e N L I J Np s u w =
        let at = l N L I J Np s u w.inside in
        let rest = turns t at.table in
        let k = kept_turns n r N L v b (kept_all n r N L b wb) t at.table at.inside in
        let z : weight N at.table ≡ 0 = sym (at.stands.same (λ s. 1)) ∙ ap (held N (λ s. 1)) e in (
          stands_along N exits at.out (turns n I).next (λ U. let a = at.going U in let c = none_counts N U rest.next (omega arith) in omega arith) at.collected,
          end_along N F at.gone (J ++ (turns n I).ended) (λ U. let a = at.stopping U in let c = none_counts N U rest.ended (omega arith) in let o = amount_append N U J (turns n I).ended in omega arith) at.stopped,
        )

    module _ (first second : Entries) (G : Ended) (d : StepsTo (kept_if (holds v)) (stopped v) [] now F first G) (c : StepsTo (kept_if (fails v)) (stopped v) [] now F second G) where
      -- what leaves the loop is refused
      pub exits_blame : (error : MassError) → BlockIsWeighed b → ((E : Ended) → StepBlames all_kept none_stopped exits second E error) → OneBlames (turns n) es E error
      exits_blame error wb x N L I J Np s u w m =
          let at = l N L I J Np s u w.inside in
          let q = looked_second n r v now first second F G d c N at.table at.gone Np at.stands at.stopped in
          let k = kept_turns n r N L v b (kept_all n r N L b wb) n I w.inside in
          merge_blamed N L exits second E error at.out (only (fails v) at.table) (turns n I).next J Np (x E) u at.collected q.0 (λ U. exits_in t at.table U _ _ (at.going U)) (omega arith) w.few_after (omega arith)
        where
          exits_in : (t : ℕ) (K : Table) (U : State → ℕ) (o y : ℕ) → o + amount N U (turns t K).next ≡ y → o + amount N U (only (fails v) K) ≤ y
          exits_in zero K U o y h = omega arith
          exits_in (suc t) K U o y h = let a = amount_append N U (only (fails v) K) (turns t (body (only (holds v) K)).next).next in omega arith

  module _ (t : ℕ) (now exits : Entries) (F : Ended) (first second : Entries) (G : Ended)
      (d : StepsTo (kept_if (holds v)) (stopped v) [] now F first G) (c : StepsTo (kept_if (fails v)) (stopped v) [] now F second G) where
    -- from what stands before a turn to what stands after it
    abbrev pub turned : (exits' now' : Entries) (H : Ended) → ((E : Ended) → StepsTo all_kept none_stopped exits second E exits' E) → FoldsTo body first G now' H →
        (N L : ℕ) (I : Table) (J : Weighted End) → 0 < N → LoopAt turns n (suc t) now exits F N L I J → LoopAt turns n t now' exits' H N L I J
    turned exits' now' H m x N L I J Np at =
        let K = at.table in
        let A = only (holds v) K in
        let f = body A in
        let g = turns t f.next in
        let p = looked_first n r v now first second F G d c N K at.gone Np at.stands at.stopped in
        let q = looked_second n r v now first second F G d c N K at.gone Np at.stands at.stopped in
        let z = x N L A (at.gone ++ faults v K) Np p.0 p.1 (turn_inside n r N L v b t K at.inside) in
        record {
          table = f.next;
          out = at.out ++ only (fails v) K;
          gone = (at.gone ++ faults v K) ++ f.ended;
          stands = z.0;
          collected = merged N exits second exits' G at.out (only (fails v) K) Np (m G) p.1.kept at.collected q.0;
          stopped = z.1;
          inside = turns_inside n r N L v b t K at.inside;
          going = λ U. let p = at.going U in let q = amount_append N U at.out (only (fails v) K) in let o = amount_append N U (only (fails v) K) g.next in omega arith;
          stopping = λ U. let p = at.stopping U in let q = amount_append N U (at.gone ++ faults v K) f.ended in let o = amount_append N U at.gone (faults v K) in
              let x = amount_append N U (faults v K) (f.ended ++ g.ended) in let y = amount_append N U f.ended g.ended in omega arith;
        }

  module _ (t : ℕ) (now exits : Entries) (F : Ended) (l : LoopsOn turns n (suc t) es E now exits F) (first second : Entries) (G : Ended)
      (d : StepsTo (kept_if (holds v)) (stopped v) [] now F first G) (c : StepsTo (kept_if (fails v)) (stopped v) [] now F second G) where
    pub loop_turn : (exits' now' : Entries) (H : Ended) → ((E : Ended) → StepsTo all_kept none_stopped exits second E exits' E) → FoldsTo body first G now' H → LoopsOn turns n t es E now' exits' H
    loop_turn exits' now' H m x N L I J Np s u w = turned t now exits F first second G d c exits' now' H m x N L I J Np (l N L I J Np s u w)

    pub body_blames : (error : MassError) → BlockIsWeighed b → FoldBlames body first G error → OneBlames (turns n) es E error
    body_blames error wb x N L I J Np s u w m =
        let at = l N L I J Np s u w.inside in
        let K = at.table in
        let k = weighs N L (suc t) I J now exits F wb w.inside at in
        let p = looked_first n r v now first second F G d c N K at.gone Np at.stands at.stopped in
        let g = guard_weight N v K in
        let o = amount_append N (λ x. 1) at.gone (faults v K) in
        x N L (only (holds v) K) (at.gone ++ faults v K) Np p.0 p.1 (turn_inside n r N L v b t K at.inside) (omega arith)

  module _ (now exits : Entries) (F : Ended) (l : LoopsOn turns n 0 es E now exits F) (first second : Entries) (G : Ended)
      (d : StepsTo (kept_if (holds v)) (stopped v) [] now F first G) (c : StepsTo (kept_if (fails v)) (stopped v) [] now F second G) where
    pub loop_end : (exits' : Entries) (H : Ended) → ((E : Ended) → StepsTo all_kept none_stopped exits second E exits' E) → StepsTo none_kept (all_stopped (end_of gone_kind.Turns)) [] first G [] H → FoldsOne (turns n) es E exits' H
    loop_end exits' H m x N L I J Np s u w =
        let at = l N L I J Np s u w.inside in
        let K = at.table in
        let A = only (holds v) K in
        let p = looked_first n r v now first second F G d c N K at.gone Np at.stands at.stopped in
        let q = looked_second n r v now first second F G d c N K at.gone Np at.stands at.stopped in
        let z = x N Np tt p.0.kept p.1.kept in (
          stands_along N exits' _ _ (λ U. let p = at.going U in let q = amount_append N U at.out (only (fails v) K) in omega arith) (merged N exits second exits' G at.out (only (fails v) K) Np (m G) p.1.kept at.collected q.0),
          record {
            kept = z.ended;
            same = λ U. let o = at.stopping U in let i = z.stopping U in let k = p.1.same U in let x = amount_append N U at.gone (faults v K) in
                let c = p.0.same (all_stopped (end_of gone_kind.Turns) U) in let a = amount_all_end N U (limit limit_kind.Turns) A in let y = amount_append N U (faults v K) (all_end (limit limit_kind.Turns) A) in
                let u = amount_append N U J (turns n I).ended in omega arith;
          },
        )

    pub turns_blame : (error : MassError) → BlockIsWeighed b → StepBlames none_kept (all_stopped (end_of gone_kind.Turns)) [] first G error → OneBlames (turns n) es E error
    turns_blame error wb x N L I J Np s u w m =
        let at = l N L I J Np s u w.inside in
        let K = at.table in
        let k = weighs N L 0 I J now exits F wb w.inside at in
        let p = looked_first n r v now first second F G d c N K at.gone Np at.stands at.stopped in
        let g = guard_weight N v K in
        let o = amount_append N (λ x. 1) at.gone (faults v K) in
        end_blamed n r (limit limit_kind.Turns) first G error N L (only (holds v) K) (at.gone ++ faults v K) Np x p.0 p.1 (omega arith)

pub loops_at : (flow : ℕ → Table → Flow) (n t t' : ℕ) (es now exits : Entries) (E F : Ended) → t ≡ t' → LoopsOn flow n t es E now exits F → LoopsOn flow n t' es E now exits F
loops_at flow n t t' es now exits E F p l = subst (λ t. LoopsOn flow n t es E now exits F) p l
