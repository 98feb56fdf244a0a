-- What a meter counts in a loop, turn by turn.
use Rattle.std.proofs.Common.{◌≡◌, ℕ, zero, suc, ◌+◌, ◌*◌, ◌<◌, [], ◌++◌, Option, refl, sym, ap, ◌∙◌, subst, arith}
use Rattle.gcl_core.specs.meaning.Syntax.{Expression, Statements}
use Rattle.gcl_core.specs.meaning.Bounds.{BlockIsWeighed}
use Rattle.gcl_core.specs.meaning.Value.{value_of}
use Rattle.gcl_core.specs.meaning.Blocks.{End}
use Rattle.gcl_core.specs.weighing.WeightedEnds.{Weighted}
use Rattle.table_flow.specs.Tables.{Table, Flow, holds, fails, only, faults, block_flow, ReachedDraws}
use Rattle.table_flow.specs.Scale.{Within, amount, weight}
use Rattle.table_flow.specs.Counts.{stopped, kept_if, none_stopped, all_kept}
use Rattle.table_flow.proofs.FlowWords.{loop_flow, loop_draws, block_draws}
use Rattle.table_flow.proofs.Amounts.{amount_append}
use Rattle.table_flow.proofs.NoneReached.{none_turns}
use Rattle.mass_fold.specs.declared.ended.Ended.{Ended}
use Rattle.mass_fold.specs.declared.meter.Meter.{Meter}
use Rattle.mass_fold.specs.Amounts.{held}
use Rattle.mass_fold.specs.inner.Amounts.{Entries}
use Rattle.mass_fold.specs.inner.Steps.{StepsTo}
use Rattle.mass_fold.specs.inner.Fold.{Stands, EndStands, FoldsTo, LoopAt}
use Rattle.mass_fold.specs.Metering.{Priced, price}
use Rattle.mass_fold.specs.inner.Metering.{Counted, Meters, MetersOne}
use Rattle.mass_fold.proofs.Folds.{looked_first, looked_second}
use Rattle.mass_fold.proofs.Loops.{turned}
use Rattle.table_flow.proofs.InsideFlows.{turn_inside}
use Rattle.mass_fold.proofs.Meters.{counted_none, counted_then, counted_as}
use Rattle.mass_fold.proofs.MeterFolds.{priced_first, priced_second}

-- a loop with t turns left: what stands, and the draws that are counted and those that are left
pub record MeterAt (r : Option ℕ) (flow : ℕ → Table → Flow) (draws : ℕ → Table → ReachedDraws) (n t : ℕ) (now exits : Entries) (F : Ended) (m mid : Meter) (N M L : ℕ) (I : Table) (J : Weighted End) : Type 0 where
  pub at : LoopAt flow n t now exits F N L I J
  pub many : ℕ
  pub counted : Counted (N * M) many m mid
  pub all : many + amount N (price r M) (draws t at.table) ≡ amount N (price r M) (draws n I)
  pub left : Priced r M (draws t at.table)

abbrev pub MetersLoop : Option ℕ → (ℕ → Table → Flow) → (ℕ → Table → ReachedDraws) → ℕ → ℕ → Entries → Ended → Entries → Entries → Ended → Meter → Meter → Type 0
MetersLoop r flow draws n t es E now exits F m mid = (N M L : ℕ) (I : Table) (J : Weighted End) → 0 < N → 0 < M → Stands N es I → EndStands N E J → Within N L (flow n I) → Priced r M (draws n I) → MeterAt r flow draws n t now exits F m mid N M L I J

module _ (n : ℕ) (r : Option ℕ) (e : Expression) (b : Statements) (es : Entries) (E : Ended) (m : Meter) where
  abbrev turns : ℕ → Table → Flow
  turns t I = loop_flow (value_of e) (block_flow n r b) t I

  abbrev pub draws : ℕ → Table → ReachedDraws
  draws t I = loop_draws (value_of e) (block_flow n r b) t I

  pub meter_start : (exits : Entries) → exits ≡ [] → MetersLoop r turns draws n n es E es exits E m m
  meter_start exits p N M L I J Np Mp s t w k = record {
    at = record {
      table = I;
      out = [];
      gone = J;
      stands = s;
      collected = subst (λ x. Stands N x []) (sym p) (record { kept = tt; same = λ G. refl });
      stopped = t;
      inside = w;
      going = λ G. omega arith;
      stopping = λ G. refl;
    };
    many = 0;
    counted = counted_none (N * M) m;
    all = omega arith;
    left = k;
  }

  module _ (t : ℕ) (now exits : Entries) (F : Ended) (mid : Meter) (l : MetersLoop r turns draws n (suc t) es E now exits F m mid) (first second : Entries) (G : Ended)
      (d : StepsTo (kept_if (holds (value_of e))) (stopped (value_of e)) [] now F first G) (c : StepsTo (kept_if (fails (value_of e))) (stopped (value_of e)) [] now F second G) where
    pub meter_turn : (exits' now' : Entries) (H : Ended) (mid' : Meter) → ((E : Ended) → StepsTo all_kept none_stopped exits second E exits' E) → FoldsTo (block_flow n r b) first G now' H →
        Meters r (block_flow n r b) (block_draws n r b) first G mid mid' → MetersLoop r turns draws n t es E now' exits' H m mid'
    meter_turn exits' now' H mid' k x y N M L I J Np Mp s u w pr =
        let a = l N M L I J Np Mp s u w pr in
        let v = value_of e in
        let K = a.at.table in
        let A = only (holds v) K in
        let f = block_flow n r b A in
        let p = looked_first n r v now first second F G d c N K a.at.gone Np a.at.stands a.at.stopped in
        let q = looked_second n r v now first second F G d c N K a.at.gone Np a.at.stands a.at.stopped in
        let o = amount_append N (price r M) (block_draws n r b A) (draws t f.next) in
        let z = y N M L A (a.at.gone ++ faults v K) Np Mp p.0 p.1 (turn_inside n r N L v b t K a.at.inside) (priced_first r M (block_draws n r b A) (draws t f.next) a.left) in
        record {
          at = turned n r e b es E t now exits F first second G d c exits' now' H k x N L I J Np a.at;
          many = a.many + amount N (price r M) (block_draws n r b A);
          counted = counted_then (N * M) a.many (amount N (price r M) (block_draws n r b A)) m mid mid' a.counted z;
          all = let y = a.all in omega arith;
          left = priced_second r M (block_draws n r b A) (draws t f.next) a.left;
        }

  -- where nothing stands, nothing is left to count
  pub meter_dry : (t : ℕ) (now exits : Entries) (F : Ended) (mid : Meter) → BlockIsWeighed b → now ≡ [] → MetersLoop r turns draws n t es E now exits F m mid → MetersOne r (turns n) (draws n) es E m mid
  meter_dry t now exits F mid wb q l N M L I J Np Mp s u w pr =
      let a = l N M L I J Np Mp s u w.inside pr in
      let z : weight N a.at.table ≡ 0 = sym (a.at.stands.same (λ s. 1)) ∙ ap (held N (λ s. 1)) q in
      let none = none_turns N Np n r L (price r M) (value_of e) b t a.at.table a.at.inside z in
      counted_as (N * M) a.many _ m mid (let y = a.all in omega arith) a.counted

  pub meter_end : (t : ℕ) (now exits : Entries) (F : Ended) (mid : Meter) → t ≡ 0 → MetersLoop r turns draws n t es E now exits F m mid → MetersOne r (turns n) (draws n) es E m mid
  meter_end zero now exits F mid e l N M L I J Np Mp s u w pr =
      let a = l N M L I J Np Mp s u w.inside pr in
      counted_as (N * M) a.many _ m mid (let y = a.all in omega arith) a.counted
  meter_end (suc t) now exits F mid e l N M L I J Np Mp s u w pr = absurd (omega arith)

pub meters_at : (r : Option ℕ) (flow : ℕ → Table → Flow) (draws : ℕ → Table → ReachedDraws) (n t t' : ℕ) (es now exits : Entries) (E F : Ended) (m mid : Meter) → t ≡ t' → MetersLoop r flow draws n t es E now exits F m mid → MetersLoop r flow draws n t' es E now exits F m mid
meters_at r flow draws n t t' es now exits E F m mid p l = subst (λ t. MetersLoop r flow draws n t es E now exits F m mid) p l
