-- From two tables together a block settles to what it settles to from each, together.
use Rattle.std.proofs.Common.{ℕ, zero, suc, ◌≡◌, ◌-◌, ◌≤◌, true, List, [], ◌∷◌, ◌++◌, inl, inr, ⊎_elim, None, arith}
use Rattle.std.specs.List.{sum}
use Rattle.gcl_core.specs.meaning.Arms.{parts_of}
use Rattle.gcl_core.specs.meaning.Bounds.{StatementIsWeighed, BlockIsWeighed, ArmsAreWeighed}
use Rattle.gcl_core.specs.meaning.Blocks.{End}
use Rattle.gcl_core.specs.meaning.Syntax.{Statement, Skip, Set, If, While, Choice, Choose, Uniform, Observe, Statements, done, ◌▸◌, ArmList, no_arm, arm}
use Rattle.gcl_core.specs.meaning.Value.{State, Value, value_of}
use Rattle.gcl_core.specs.weighing.Fractions.{Fraction}
use Rattle.gcl_core.specs.weighing.WeightedEnds.{sure, scaled, class_weight, statement_weighted}
use Rattle.table_flow.specs.Tables.{Table, holds, fails, only, statement_flow}
use Rattle.table_flow.proofs.Linear.{no_one}
use Rattle.table_flow.proofs.Positive.{p_one}
use Rattle.unlimited_law.specs.Alike.{Alike}
use Rattle.unlimited_law.specs.Settling.{Outflow, total, EachState, StandsIn, Within, SettlesAlone, LoopSettles, StatementSettles, BlockSettles, ArmsSettle}
use Rattle.unlimited_law.proofs.Numbers.{Rational, ◌≃◌}
use Rattle.unlimited_law.proofs.Integrals.{integral}
use Rattle.unlimited_law.proofs.FlowIntegrals.{counted, skip_counted, set_counted, seen_counted, drawn_counted}
use Rattle.unlimited_law.proofs.BlockLimits.{all_fractions, all_positive, behind_fractions}
use Rattle.linear_settling.specs.Mixed.{mixed}
use Rattle.linear_settling.proofs.Mixtures.{front_fractions, Mixes, mixes_joined, mixes_none, mixes_same, mixes_append, mixes_scaled, mixes_only, mixes_faults}
use Rattle.linear_settling.proofs.MixedFlows.{next_mixes, ended_mixes}
use Rattle.linear_settling.proofs.MixedOutflows.{Fair, outflow_fair, costs_nothing, costs_plus, costs_total, outflow_mixes, next_joined, ended_joined, turns_joined, both_mixes}

-- ---- all weights are fractions
statement_fair : (st : Statement) (I : Table) (f : Outflow) → StatementSettles Alike Alike st I f → Fair f
statement_fair Skip I f o = outflow_fair o
statement_fair (Set x e) I f o = outflow_fair o
statement_fair (Observe e) I f o = outflow_fair o
statement_fair (Uniform x e) I f o = outflow_fair o
statement_fair (If e a c) I f o = outflow_fair o.4
statement_fair (Choice p a c) I f o = outflow_fair o.4
statement_fair (Choose no_arm) I f o = outflow_fair o
statement_fair (Choose (arm p a arms)) I f o = outflow_fair o.4
statement_fair (While e a) I f o = outflow_fair o.8

pub block_fair : (b : Statements) (I : Table) (f : Outflow) → BlockSettles Alike Alike b I f → Fair f
block_fair done I f o = outflow_fair o
block_fair (st ▸ b) I f o = outflow_fair o.4

arms_fair : (b : ℕ) (arms : ArmList) (I : Table) (f : Outflow) → ArmsSettle Alike Alike b arms I f → Fair f
arms_fair b no_arm I f o = outflow_fair o
arms_fair b (arm p a arms) I f o = outflow_fair o.4

-- ---- sets of states
stands_first : (D D' : List State) (s : State) → StandsIn D s → StandsIn (D ++ D') s
stands_first [] D' s h = absurd h
stands_first (t ∷ D) D' s h = ⊎_elim (λ (e : s ≡ t). inl e) (λ (r : StandsIn D s). inr (stands_first D D' s r)) h

stands_second : (D D' : List State) (s : State) → StandsIn D' s → StandsIn (D ++ D') s
stands_second [] D' s h = h
stands_second (t ∷ D) D' s h = inr (stands_second D D' s h)

within_more : (D D' : List State) → ((s : State) → StandsIn D s → StandsIn D' s) → (J : Table) → Within D J → Within D' J
within_more D D' more [] h = tt
within_more D D' more (e ∷ J) h = (more e.1 h.0, within_more D D' more J h.1)

within_append : (D : List State) (J K : Table) → Within D J → Within D K → Within D (J ++ K)
within_append D [] K h k = k
within_append D (e ∷ J) K h k = (h.0, within_append D J K h.1 k)

within_scaled : (D : List State) (w : Fraction) (J : Table) → Within D J → Within D (scaled w J)
within_scaled D (zero, d) J h = tt
within_scaled D (suc n, d) [] h = tt
within_scaled D (suc n, d) (e ∷ J) h = (h.0, within_scaled D (suc n, d) J h.1)

each_more : (Fact Other : State → Type 0) (D : List State) → ((s : State) → Fact s → Other s) → EachState Fact D → EachState Other D
each_more Fact Other [] more h = tt
each_more Fact Other (s ∷ D) more h = (more s h.0, each_more Fact Other D more h.1)

each_both : (Fact : State → Type 0) (D D' : List State) → EachState Fact D → EachState Fact D' → EachState Fact (D ++ D')
each_both Fact [] D' h k = k
each_both Fact (s ∷ D) D' h k = (h.0, each_both Fact D D' h.1 k)

-- from a state of these nothing leaves them
abbrev Stays : (State → Value) → (Table → Outflow → Type 0) → List State → State → Type 0
Stays v Body D s = (holds v s ≡ true) × (h : Outflow) × Body (sure s) h × Alike h.ended [] × Within D h.next

stays_more : (v : State → Value) (Body : Table → Outflow → Type 0) (D D' : List State) → ((s : State) → StandsIn D s → StandsIn D' s) → (s : State) → Stays v Body D s → Stays v Body D' s
stays_more v Body D D' more s o = (o.0, o.1, o.2, o.3, within_more D D' more o.1.next o.4)

closed_both : (v : State → Value) (Body : Table → Outflow → Type 0) (D D' : List State) → EachState (Stays v Body D) D → EachState (Stays v Body D') D' → EachState (Stays v Body (D ++ D')) (D ++ D')
closed_both v Body D D' h k =
    each_both (Stays v Body (D ++ D')) D D'
    (each_more (Stays v Body D) (Stays v Body (D ++ D')) D (stays_more v Body D (D ++ D') (stands_first D D')) h)
    (each_more (Stays v Body D') (Stays v Body (D ++ D')) D' (stays_more v Body D' (D ++ D') (stands_second D D')) k)

module _ (w : Fraction) (some : 1 ≤ w.1) where
  abbrev Joins : (Table → Outflow → Type 0) → Type 0
  Joins Settle = (I J K : Table) (f g : Outflow) → Mixes w I J K → Settle I f → Settle J g → Settle K (mixed w f g)

  -- ---- a statement of which no other is a part
  alone_mixes : (st : Statement) → StatementIsWeighed st → ((H : End → Rational) (M : Table) → integral (λ s. integral H (statement_weighted 0 None st s)) M ≃ counted H (statement_flow 0 None st M).next (statement_flow 0 None st M).ended) →
      Joins (SettlesAlone Alike Alike st)
  alone_mixes st x same I J K f g h o q =
      let i = p_one 0 None st I x (all_positive I h.first) in
      let j = p_one 0 None st J x (all_positive J h.second) in
      let k = p_one 0 None st K x (all_positive K h.fractions) in
      let step = statement_weighted 0 None st in
      let flow = statement_flow 0 None st in
      outflow_mixes w some o q
      (next_mixes w h step flow same (all_fractions _ i.next) (all_fractions _ j.next) (all_fractions _ k.next))
      (ended_mixes w h step flow same (no_one 0 None st I) (no_one 0 None st J) (no_one 0 None st K) (all_fractions _ i.ended) (all_fractions _ j.ended) (all_fractions _ k.ended))
      (costs_nothing w some)

  -- ---- a loop
  loop_mixes : (v : State → Value) (Body : Table → Outflow → Type 0) → Joins Body → ((I : Table) (f : Outflow) → Body I f → Fair f) → Joins (LoopSettles Alike Alike v Body)
  loop_mixes v Body joins fair I J K f f' h o q =
      let V = o.0 in
      let E = o.1 in
      let D = o.2 in
      let g = o.3 in
      let V' = q.0 in
      let E' = q.1 in
      let D' = q.2 in
      let g' = q.3 in
      let visits = mixes_joined w V V' some (front_fractions V E (o.5).first) (front_fractions V' E' (q.5).first) in
      let endless = mixes_joined w E E' some (behind_fractions V E (o.5).first) (behind_fractions V' E' (q.5).first) in
      let a = fair _ g o.4 in
      let b = fair _ g' q.4 in
      let next = next_joined w some a b in (
        scaled w V ++ V',
        scaled w E ++ E',
        D ++ D',
        mixed w g g',
        joins (only (holds v) V) (only (holds v) V') _ g g' (mixes_only w (holds v) visits) o.4 q.4,
        mixes_same w (mixes_append w visits endless) (mixes_append w h next) o.5 q.5,
        closed_both v Body D D' o.6 q.6,
        within_append (D ++ D') (scaled w E) E' (within_scaled (D ++ D') w E (within_more D (D ++ D') (stands_first D D') E o.7)) (within_more D' (D ++ D') (stands_second D D') E' q.7),
        outflow_mixes w some o.8 q.8 (mixes_only w (fails v) visits) (mixes_append w (mixes_faults w v visits) (ended_joined w some a b))
            (costs_plus w some (total g.next) (total g'.next) (total (mixed w g g').next) g.turns g'.turns (mixed w g g').turns (costs_total w some next) (turns_joined w some a b)),
      )

  -- ---- statements
  mutual
    pub statement_mixes : (st : Statement) → StatementIsWeighed st → Joins (StatementSettles Alike Alike st)
    statement_mixes Skip x I J K f g h o q = alone_mixes Skip x skip_counted I J K f g h o q
    statement_mixes (Set y e) x I J K f g h o q = alone_mixes (Set y e) x (λ H M. set_counted H y (value_of e) M) I J K f g h o q
    statement_mixes (Observe e) x I J K f g h o q = alone_mixes (Observe e) x (λ H M. seen_counted H (value_of e) M) I J K f g h o q
    statement_mixes (Uniform y e) x I J K f g h o q = alone_mixes (Uniform y e) x (λ H M. drawn_counted H y (value_of e) M) I J K f g h o q
    statement_mixes (If e a c) x I J K f g h o q =
        let v = value_of e in (
          mixed w o.0 q.0,
          mixed w o.1 q.1,
          block_mixes a x.0 _ _ _ o.0 q.0 (mixes_only w (holds v) h) o.2 q.2,
          block_mixes c x.1 _ _ _ o.1 q.1 (mixes_only w (fails v) h) o.3 q.3,
          both_mixes w some (block_fair a _ _ o.2) (block_fair c _ _ o.3) (block_fair a _ _ q.2) (block_fair c _ _ q.3) (mixes_faults w v h) o.4 q.4,
        )
    statement_mixes (Choice p a c) x I J K f g h o q =
        let b : 1 ≤ p.den = let z = x.0.positive in omega arith in (
          mixed w o.0 q.0,
          mixed w o.1 q.1,
          block_mixes a x.1 _ _ _ o.0 q.0 (mixes_scaled w (class_weight p.den None p.num) b h) o.2 q.2,
          block_mixes c x.2 _ _ _ o.1 q.1 (mixes_scaled w (class_weight p.den None (p.den - p.num)) b h) o.3 q.3,
          both_mixes w some (block_fair a _ _ o.2) (block_fair c _ _ o.3) (block_fair a _ _ q.2) (block_fair c _ _ q.3) (mixes_none w) o.4 q.4,
        )
    statement_mixes (Choose arms) x I J K f g h o q = arms_mix (sum (parts_of arms)) (let z = x.0.positive in omega arith) arms x.1 I J K f g h o q
    statement_mixes (While e a) x I J K f g h o q = loop_mixes (value_of e) (BlockSettles Alike Alike a) (block_mixes a x) (λ M k d. block_fair a M k d) I J K f g h o q

    pub block_mixes : (b : Statements) → BlockIsWeighed b → Joins (BlockSettles Alike Alike b)
    block_mixes done x I J K f g h o q = outflow_mixes w some o q h (mixes_none w) (costs_nothing w some)
    block_mixes (st ▸ b) x I J K f g h o q =
        let a = statement_fair st _ _ o.2 in
        let c = statement_fair st _ _ q.2 in
        let d = block_fair b _ _ o.3 in
        let e = block_fair b _ _ q.3 in (
          mixed w o.0 q.0,
          mixed w o.1 q.1,
          statement_mixes st x.0 I J K o.0 q.0 h o.2 q.2,
          block_mixes b x.1 _ _ _ o.1 q.1 (next_joined w some a c) o.3 q.3,
          outflow_mixes w some o.4 q.4 (next_joined w some d e) (mixes_append w (ended_joined w some a c) (ended_joined w some d e))
              (costs_plus w some o.0.turns q.0.turns (mixed w o.0 q.0).turns o.1.turns q.1.turns (mixed w o.1 q.1).turns (turns_joined w some a c) (turns_joined w some d e)),
        )

    arms_mix : (b : ℕ) → 1 ≤ b → (arms : ArmList) → ArmsAreWeighed arms → Joins (ArmsSettle Alike Alike b arms)
    arms_mix b z no_arm x I J K f g h o q = outflow_mixes w some o q (mixes_none w) (mixes_none w) (costs_nothing w some)
    arms_mix b z (arm p a arms) x I J K f g h o q = (
      mixed w o.0 q.0,
      mixed w o.1 q.1,
      block_mixes a x.0 _ _ _ o.0 q.0 (mixes_scaled w (class_weight b None p) z h) o.2 q.2,
      arms_mix b z arms x.1 I J K o.1 q.1 h o.3 q.3,
      both_mixes w some (block_fair a _ _ o.2) (arms_fair b arms _ _ o.3) (block_fair a _ _ q.2) (arms_fair b arms _ _ q.3) (mixes_none w) o.4 q.4,
    )
