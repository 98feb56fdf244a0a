-- A block that settles is near what it settles to, at each limit of turns: nothing has more, and an n-th of its turns is what is short.
use Rattle.std.proofs.Common.{◌≡◌, ℕ, zero, suc, ◌-◌, ◌<◌, Bool, true, false, not, cond, ⊎_elim, List, [], ◌∷◌, ◌++◌, Ok, Err, None, sym, subst, arith}
use Rattle.std.specs.List.{sum}
use Rattle.gcl_core.specs.declared.answers.Limit.TheVariants.{Turns}
use Rattle.gcl_core.specs.meaning.Arms.{parts_of}
use Rattle.gcl_core.specs.meaning.Bounds.{StatementIsWeighed, BlockIsWeighed, ArmsAreWeighed}
use Rattle.gcl_core.specs.meaning.Syntax.{Statement, Skip, Set, If, While, Choice, Choose, Uniform, Observe, Statements, done, ◌▸◌, ArmList, no_arm, arm}
use Rattle.gcl_core.specs.meaning.Value.{State, Value, value_of, is_zero}
use Rattle.gcl_core.specs.meaning.Blocks.{End, on, failed, fault, limit, by_value, by_truth, by_end}
use Rattle.gcl_core.specs.weighing.Fractions.{Fraction, zero_share, plus}
use Rattle.gcl_core.specs.weighing.WeightedEnds.{Weighted, sure, scaled, class_weight, end_weighted, statement_weighted, weighted_ends}
use Rattle.table_flow.specs.Tables.{Table, holds, fails, only, faults}
use Rattle.table_flow.proofs.ArmEnds.{arm_ends, choose_weighted}
use Rattle.table_flow.proofs.WeightedParts.{value_weighted, loop_weighted}
use Rattle.unlimited_law.specs.Settling.{Outflow, total, EachState, StandsIn, Within, IsOutflow, SettlesBoth, StatementSettles, BlockSettles, ArmsSettle}
use Rattle.weighing_law.proofs.Shares.{product_pos}
use Rattle.unlimited_law.proofs.Numbers.{Rational, ◌⊕◌, ◌⊗◌, ◌⊑◌, ◌≃◌, nought, unit, below_refl, same_refl, below_trans, same_sym, same_trans, add_below, add_same, add_assoc, times_below, times_same, times_sum, times_nought, nought_below, nought_add, add_nought}
use Rattle.unlimited_law.proofs.OneScale.{Each, none, next, together, le_to, le_from, eq_from, at_sum}
use Rattle.unlimited_law.proofs.FractionNumbers.{of, of_plus}
use Rattle.unlimited_law.proofs.Integrals.{integral, integral_append, integral_below, integral_same, integral_sum, integral_nought, integral_scaled, integral_sure, integral_taken, stop}
use Rattle.unlimited_law.proofs.FlowIntegrals.{counted, each_sure, weighed, guard_parts, skip_counted, set_counted, seen_counted, drawn_counted}
use Rattle.unlimited_law.proofs.Bounded.{KeepsSmall, onward, turns_small, block_small}
use Rattle.unlimited_law.proofs.Rising.{IsTest, onward_test, loop_rises}
use Rattle.unlimited_law.proofs.Turning.{below_limit, above_limit}
use Rattle.unlimited_law.proofs.Near.{Near, near_exact, near_cost, near_same, near_beside, near_both, near_then}

-- what an outflow counts
abbrev pub worth : (End → Rational) → Outflow → Rational
worth H f = counted H f.next f.ended

-- what the two notions have to say
pub record Means (SameTable : Table → Table → Type 0) (SameEnds : Weighted End → Weighted End → Type 0) : Type 0 where
  pub tables : (I J : Table) → SameTable I J → (K : State → Rational) → integral K I ≃ integral K J
  pub ends : (m o : Weighted End) → SameEnds m o → (H : End → Rational) → integral (stop H) m ≃ integral (stop H) o
  pub back : (V I J : Table) → SameTable V (I ++ J) → integral (λ s. unit) J ⊑ of (total J)
  pub back_some : (V I J : Table) → SameTable V (I ++ J) → 0 < (total J).1

stop_onward : (H : End → Rational) (k : State → Weighted End) (e : End) → stop (onward H k) e ≃ stop H e
stop_onward H k (on s) = same_refl nought
stop_onward H k failed = integral_sure H failed
stop_onward H k (fault f) = integral_sure H (fault f)
stop_onward H k (limit l) = integral_sure H (limit l)

guard_holds : (H : End → Rational) (v : State → Value) (s : State) (a c : Weighted End) → holds v s ≡ true → integral H (value_weighted (v s) (λ z. by_truth z a c)) ≃ integral H a
guard_holds H v s a c h = by (v s) h
  where
    by_test : (b : Bool) → not b ≡ true → integral H (cond b c a) ≃ integral H a
    by_test true h = absurd (cc)
    by_test false h = same_refl _

    by : (o : Value) → by_value o (λ f. false) (λ z. not (is_zero z)) ≡ true → integral H (value_weighted o (λ z. by_truth z a c)) ≃ integral H a
    by (Err f) h = absurd (cc)
    by (Ok z) h = by_test (is_zero z) h

-- ---- states in a set
stands : (Fact : State → Type 0) (D : List State) (s : State) → StandsIn D s → EachState Fact D → Fact s
stands Fact [] s x h = absurd x
stands Fact (t ∷ D) s x h = ⊎_elim (λ (e : s ≡ t). subst Fact (sym e) h.0) (λ (r : StandsIn D s). stands Fact D s r h.1) x

each_state : (Fact Other : State → Type 0) (D : List State) → EachState Fact D → ((s : State) → Fact s → Other s) → EachState Other D
each_state Fact Other [] h f = tt
each_state Fact Other (s ∷ D) h f = (f s h.0, each_state Fact Other D h.1 f)

within_none : (D : List State) (K : State → Rational) → EachState (λ s. K s ⊑ nought) D → (J : Table) → Within D J → integral K J ⊑ nought
within_none D K h [] w = below_refl nought
within_none D K h (e ∷ J) w =
    below_trans (add_below (below_trans (times_below (of e.0) (stands (λ s. K s ⊑ nought) D e.1 w.0 h)) (times_nought (of e.0)).below) (within_none D K h J w.1)) (nought_add nought).below

each_onward : (H : End → Rational) (step k : State → Weighted End) (I : Table) →
    integral (λ s. integral H (end_weighted (step s) k)) I ≃ integral (λ s. integral (onward H k) (step s)) I
each_onward H step k I = integral_same (λ s. integral H (end_weighted (step s) k)) (λ s. integral (onward H k) (step s)) I (λ s. integral_taken H (step s) (λ e. by_end e sure k))

worth_onward : (H : End → Rational) (k : State → Weighted End) (g : Outflow) → worth (onward H k) g ≃ integral (λ s. integral H (k s)) g.next ⊕ integral (stop H) g.ended
worth_onward H k g = add_same (same_refl (integral (λ s. integral H (k s)) g.next)) (integral_same (stop (onward H k)) (stop H) g.ended (stop_onward H k))

-- ---- in a loop
loop_low : (b e x i' x' F c : Rational) → b ⊑ x ⊕ e → i' ⊕ x' ⊑ F ⊕ (b ⊕ c) → i' ⊕ x' ⊑ c ⊕ (F ⊕ e) ⊕ x
loop_low b e x i' x' F c h k = by (together (b ∷ e ∷ x ∷ i' ∷ x' ∷ F ∷ c ∷ [])).some (together (b ∷ e ∷ x ∷ i' ∷ x' ∷ F ∷ c ∷ [])).each
  where
    by : {N : ℕ} → 0 < N → Each N (b ∷ e ∷ x ∷ i' ∷ x' ∷ F ∷ c ∷ []) → i' ⊕ x' ⊑ c ⊕ (F ⊕ e) ⊕ x
    by n (next v1 a1 (next v2 a2 (next v3 a3 (next v4 a4 (next v5 a5 (next v6 a6 (next v7 a7 none))))))) =
        let p = le_to n a1 (at_sum a3 a2) h in
        let q = le_to n (at_sum a4 a5) (at_sum a6 (at_sum a1 a7)) k in
        le_from n (at_sum a4 a5) (at_sum (at_sum a7 (at_sum a6 a2)) a3) (omega arith)

loop_high : (b e x i' x' F c d : Rational) → x ⊕ e ⊑ b ⊕ d → F ⊕ (b ⊕ c) ⊑ i' ⊕ x' → c ⊕ (F ⊕ e) ⊕ x ⊑ i' ⊕ x' ⊕ d
loop_high b e x i' x' F c d h k = by (together (b ∷ e ∷ x ∷ i' ∷ x' ∷ F ∷ c ∷ d ∷ [])).some (together (b ∷ e ∷ x ∷ i' ∷ x' ∷ F ∷ c ∷ d ∷ [])).each
  where
    by : {N : ℕ} → 0 < N → Each N (b ∷ e ∷ x ∷ i' ∷ x' ∷ F ∷ c ∷ d ∷ []) → c ⊕ (F ⊕ e) ⊕ x ⊑ i' ⊕ x' ⊕ d
    by n (next v1 a1 (next v2 a2 (next v3 a3 (next v4 a4 (next v5 a5 (next v6 a6 (next v7 a7 (next v8 a8 none)))))))) =
        let p = le_to n (at_sum a3 a2) (at_sum a1 a8) h in
        let q = le_to n (at_sum a6 (at_sum a1 a7)) (at_sum a4 a5) k in
        le_from n (at_sum (at_sum a7 (at_sum a6 a2)) a3) (at_sum (at_sum a4 a5) a8) (omega arith)

both_regroup : (gn hn en ge he : Rational) → gn ⊕ hn ⊕ (en ⊕ (ge ⊕ he)) ≃ en ⊕ (gn ⊕ ge ⊕ (hn ⊕ he))
both_regroup gn hn en ge he = by (together (gn ∷ hn ∷ en ∷ ge ∷ he ∷ [])).some (together (gn ∷ hn ∷ en ∷ ge ∷ he ∷ [])).each
  where
    by : {N : ℕ} → 0 < N → Each N (gn ∷ hn ∷ en ∷ ge ∷ he ∷ []) → gn ⊕ hn ⊕ (en ⊕ (ge ⊕ he)) ≃ en ⊕ (gn ⊕ ge ⊕ (hn ⊕ he))
    by n (next v1 a1 (next v2 a2 (next v3 a3 (next v4 a4 (next v5 a5 none))))) =
        eq_from n (at_sum (at_sum a1 a2) (at_sum a3 (at_sum a4 a5))) (at_sum a3 (at_sum (at_sum a1 a4) (at_sum a2 a5))) (omega arith)

then_regroup : (hn ge he : Rational) → hn ⊕ (ge ⊕ he) ≃ hn ⊕ he ⊕ ge
then_regroup hn ge he = by (together (hn ∷ ge ∷ he ∷ [])).some (together (hn ∷ ge ∷ he ∷ [])).each
  where
    by : {N : ℕ} → 0 < N → Each N (hn ∷ ge ∷ he ∷ []) → hn ⊕ (ge ⊕ he) ≃ hn ⊕ he ⊕ ge
    by n (next v1 a1 (next v2 a2 (next v3 a3 none))) = eq_from n (at_sum a1 (at_sum a2 a3)) (at_sum (at_sum a1 a3) a2) (omega arith)

both_worth : (H : End → Rational) (ended : Weighted End) (g h : Outflow) →
    integral (λ s. H (on s)) (g.next ++ h.next) ⊕ integral (stop H) (ended ++ (g.ended ++ h.ended)) ≃ integral (stop H) ended ⊕ (worth H g ⊕ worth H h)
both_worth H ended g h =
    same_trans (add_same (integral_append (λ s. H (on s)) g.next h.next)
    (same_trans (integral_append (stop H) ended (g.ended ++ h.ended)) (add_same (same_refl (integral (stop H) ended)) (integral_append (stop H) g.ended h.ended))))
    (both_regroup (integral (λ s. H (on s)) g.next) (integral (λ s. H (on s)) h.next) (integral (stop H) ended) (integral (stop H) g.ended) (integral (stop H) h.ended))

-- a weighed list from each entry, and another
two_weighed : (H : End → Rational) (u : Fraction) (a c : State → Weighted End) (I : Table) →
    integral (λ s. integral H (scaled u (a s) ++ c s)) I ≃ integral (λ s. integral H (a s)) (scaled u I) ⊕ integral (λ s. integral H (c s)) I
two_weighed H u a c I =
    same_trans
    (integral_same (λ s. integral H (scaled u (a s) ++ c s)) (λ s. of u ⊗ integral H (a s) ⊕ integral H (c s)) I
    (λ s. same_trans (integral_append H (scaled u (a s)) (c s)) (add_same (integral_scaled u H (a s)) (same_refl (integral H (c s))))))
    (same_trans (integral_sum (λ s. of u ⊗ integral H (a s)) (λ s. integral H (c s)) I) (add_same (weighed u (λ s. integral H (a s)) I) (same_refl (integral (λ s. integral H (c s)) I))))

no_more : (H : End → Rational) (a : State → Weighted End) (I : Table) → integral (λ s. integral H (a s ++ [])) I ≃ integral (λ s. integral H (a s)) I
no_more H a I = integral_same (λ s. integral H (a s ++ [])) (λ s. integral H (a s)) I (λ s. same_trans (integral_append H (a s) []) (add_nought (integral H (a s))))

module _ (SameTable : Table → Table → Type 0) (SameEnds : Weighted End → Weighted End → Type 0) (means : Means SameTable SameEnds) (n : ℕ) (some : 0 < n) where
  abbrev Outflows : Outflow → Table → Weighted End → Fraction → Type 0
  Outflows f after gone cost = IsOutflow SameTable SameEnds f after gone cost

  -- near, for each test
  abbrev pub Tends : (State → Weighted End) → Table → Outflow → Type 0
  Tends step I f = (H : End → Rational) → IsTest H → Near n (integral (λ s. integral H (step s)) I) (worth H f) f.turns

  near_outflow : (H : End → Rational) (f : Outflow) (after : Table) (gone : Weighted End) (cost : Fraction) (x : Rational) → Outflows f after gone cost →
      Near n x (counted H after gone) cost → Near n x (worth H f) f.turns
  near_outflow H f after gone cost x o h =
      near_cost n (let z = o.fraction in omega arith) o.turns
      (near_same n (same_refl x) (add_same (means.tables f.next after o.next (λ s. H (on s))) (means.ends f.ended gone o.ended H)) h)

  near_split : (H : End → Rational) (ended : Weighted End) (g h f : Outflow) (x y : Rational) → SettlesBoth SameTable SameEnds ended g h f →
      Near n x (worth H g) g.turns → Near n y (worth H h) h.turns → Near n (integral (stop H) ended ⊕ (x ⊕ y)) (worth H f) f.turns
  near_split H ended g h f x y o p q =
      near_outflow H f (g.next ++ h.next) (ended ++ (g.ended ++ h.ended)) (plus g.turns h.turns) (integral (stop H) ended ⊕ (x ⊕ y)) o
      (near_same n (same_refl (integral (stop H) ended ⊕ (x ⊕ y))) (both_worth H ended g h) (near_beside n (integral (stop H) ended) (near_both n p q)))

  -- ---- a loop
  module _ (v : State → Value) (body : State → Weighted End) (small : (s : State) → KeepsSmall (body s)) (Body : Table → Outflow → Type 0) (tends : (J : Table) (h : Outflow) → Body J h → Tends body J h)
      (I V W : Table) (D : List State) (g : Outflow) (settled : Body (only (holds v) V) g) (bal : SameTable (V ++ W) (I ++ g.next))
      (closed : EachState (λ s. (holds v s ≡ true) × (h : Outflow) × Body (sure s) h × SameEnds h.ended [] × Within D h.next) D) (inside : Within D W)
      (H : End → Rational) (test : IsTest H) where
    abbrev L : ℕ → State → Rational
    L t s = integral H (loop_weighted v body t s)

    -- ---- what is never left
    body_worth : (J : Table) (h : Outflow) (t : ℕ) → Body J h → Near n (integral (λ s. integral (onward H (loop_weighted v body t)) (body s)) J) (integral (L t) h.next ⊕ integral (stop H) h.ended) h.turns
    body_worth J h t o =
        near_same n (same_refl _) (same_sym (worth_onward H (loop_weighted v body t) h))
        (tends J h o (onward H (loop_weighted v body t)) (onward_test H (loop_weighted v body t) test (λ s. turns_small v body small t s H test.small)))

    no_turn : (t : ℕ) → EachState (λ s. L t s ⊑ nought) D → (s : State) → (holds v s ≡ true) × (h : Outflow) × Body (sure s) h × SameEnds h.ended [] × Within D h.next → L (suc t) s ⊑ nought
    no_turn t quiet s o =
        below_trans (guard_holds H v s (end_weighted (body s) (loop_weighted v body t)) (sure (on s)) o.0).below
        (below_trans (integral_taken H (body s) (λ e. by_end e sure (loop_weighted v body t))).below
        (below_trans (integral_sure (λ s. integral (onward H (loop_weighted v body t)) (body s)) s).above
        (below_trans (body_worth (sure s) o.1 t o.2).low
        (below_trans (add_below (within_none D (L t) quiet o.1.next o.4) (means.ends o.1.ended [] o.3 H).below) (nought_add nought).below))))

    stays : (t : ℕ) → EachState (λ s. L t s ⊑ nought) D
    stays zero = each_state _ (λ s. L 0 s ⊑ nought) D closed (λ s o. below_trans (guard_holds H v s (sure (limit Turns)) (sure (on s)) o.0).below (below_trans (integral_sure H (limit Turns)).below test.spared))
    stays (suc t) = each_state _ (λ s. L (suc t) s ⊑ nought) D closed (no_turn t (stays t))

    abbrev comes : ℕ → Rational
    comes t = integral (L t) I

    abbrev returns : ℕ → Rational
    returns t = integral (L t) g.next

    abbrev F : Rational
    F = integral (stop H) (faults v V)

    abbrev leaves : Rational
    leaves = integral (λ s. H (on s)) (only (fails v) V)

    abbrev E : Rational
    E = integral (stop H) g.ended

    abbrev goes : ℕ → Rational
    goes t = integral (λ s. integral (onward H (loop_weighted v body t)) (body s)) (only (holds v) V)

    abbrev less : Rational
    less = of (1, n) ⊗ of g.turns

    visited : (t : ℕ) → comes t ⊕ returns t ≃ integral (L t) V
    visited t =
        same_trans (same_sym (integral_append (L t) I g.next))
        (same_trans (same_sym (means.tables (V ++ W) (I ++ g.next) bal (L t)))
        (same_trans (integral_append (L t) V W) (same_trans (add_same (same_refl (integral (L t) V)) (record { below = within_none D (L t) (stays t) W inside; above = nought_below _ })) (add_nought (integral (L t) V)))))

    turn : (t : ℕ) → comes (suc t) ⊕ returns (suc t) ≃ F ⊕ (goes t ⊕ leaves)
    turn t =
        same_trans (visited (suc t))
        (same_trans (guard_parts H v (λ s. end_weighted (body s) (loop_weighted v body t)) (λ s. sure (on s)) V)
        (add_same (same_refl F) (add_same (each_onward H body (loop_weighted v body t) (only (holds v) V)) (each_sure H (only (fails v) V)))))

    body_near : (t : ℕ) → Near n (goes t) (returns t ⊕ E) g.turns
    body_near t = body_worth (only (holds v) V) g t settled

    low : (t : ℕ) → comes (suc t) ⊕ returns (suc t) ⊑ leaves ⊕ (F ⊕ E) ⊕ returns t
    low t = loop_low (goes t) E (returns t) (comes (suc t)) (returns (suc t)) F leaves (body_near t).low (turn t).below

    high : (t : ℕ) → leaves ⊕ (F ⊕ E) ⊕ returns t ⊑ comes (suc t) ⊕ returns (suc t) ⊕ less
    high t = loop_high (goes t) E (returns t) (comes (suc t)) (returns (suc t)) F leaves less (body_near t).high (turn t).above

    rises : (J : Table) (t : ℕ) → integral (L t) J ⊑ integral (L (suc t)) J
    rises J t = integral_below (L t) (L (suc t)) J (loop_rises H test.spared v body t)

    top : returns n ⊑ of (total g.next)
    top = below_trans (integral_below (L n) (λ s. unit) g.next (λ s. turns_small v body small n s H test.small)) (means.back (V ++ W) I g.next bal)

    near_loop : Near n (comes n) (leaves ⊕ (F ⊕ E)) (plus (total g.next) g.turns)
    near_loop = record {
      some = product_pos (total g.next).1 g.turns.1 (means.back_some (V ++ W) I g.next bal) (body_near 0).some;
      low = below_limit comes returns (leaves ⊕ (F ⊕ E)) less (of (total g.next)) (rises I) (rises g.next) low n;
      high = below_trans (above_limit comes returns (leaves ⊕ (F ⊕ E)) less (of (total g.next)) (rises I) (rises g.next) high n some top) paid;
    }
      where
        paid : comes n ⊕ of (1, n) ⊗ of (total g.next) ⊕ less ⊑ comes n ⊕ of (1, n) ⊗ of (plus (total g.next) g.turns)
        paid =
            below_trans (add_assoc (comes n) (of (1, n) ⊗ of (total g.next)) less).below
            (add_below (below_refl (comes n))
            (same_trans (times_same (of (1, n)) (of_plus (total g.next) g.turns (means.back_some (V ++ W) I g.next bal) (body_near 0).some)) (times_sum (of (1, n)) (of (total g.next)) (of g.turns))).above)

  -- ---- statements
  mutual
    pub statement_tends : (st : Statement) → StatementIsWeighed st → (I : Table) (f : Outflow) → StatementSettles SameTable SameEnds st I f → Tends (statement_weighted n None st) I f
    statement_tends Skip w I f o H t = near_outflow H f _ _ zero_share _ o (near_exact n (skip_counted H I))
    statement_tends (Set x e) w I f o H t = near_outflow H f _ _ zero_share _ o (near_exact n (set_counted H x (value_of e) I))
    statement_tends (Observe e) w I f o H t = near_outflow H f _ _ zero_share _ o (near_exact n (seen_counted H (value_of e) I))
    statement_tends (Uniform x e) w I f o H t = near_outflow H f _ _ zero_share _ o (near_exact n (drawn_counted H x (value_of e) I))
    statement_tends (If e a c) w I f o H t =
        near_same n (guard_parts H (value_of e) (weighted_ends n None a) (weighted_ends n None c) I) (same_refl (worth H f))
        (near_split H (faults (value_of e) I) o.0 o.1 f _ _ o.4
        (block_tends a w.0 (only (holds (value_of e)) I) o.0 o.2 H t) (block_tends c w.1 (only (fails (value_of e)) I) o.1 o.3 H t))
    statement_tends (Choice p a c) w I f o H t =
        let u = class_weight p.den None p.num in
        let q : p.num ≡ p.num - 0 = omega arith in
        let l = class_weight p.den None (p.den - p.num) in
        let apart = nought ⊕ (integral (λ s. integral H (weighted_ends n None a s)) (scaled u I) ⊕ integral (λ s. integral H (weighted_ends n None c s)) (scaled l I)) in
        let sides : integral (λ s. integral H (scaled u (weighted_ends n None a s) ++ (scaled l (weighted_ends n None c s) ++ []))) I ≃ apart
        = same_trans (two_weighed H u (weighted_ends n None a) (λ s. scaled l (weighted_ends n None c s) ++ []) I)
        (same_trans (add_same (same_refl _) (same_trans (two_weighed H l (weighted_ends n None c) (λ s. []) I) (same_trans (add_same (same_refl _) (integral_nought I)) (add_nought _)))) (same_sym (nought_add _))) in
        let same : integral (λ s. integral H (statement_weighted n None (Choice p a c) s)) I ≃ apart
        = subst (λ m. integral (λ s. integral H (scaled (class_weight p.den None m) (weighted_ends n None a s) ++ (scaled l (weighted_ends n None c s) ++ []))) I ≃ apart) q sides in
        near_same n same (same_refl (worth H f)) (near_split H [] o.0 o.1 f _ _ o.4 (block_tends a w.1 (scaled u I) o.0 o.2 H t) (block_tends c w.2 (scaled l I) o.1 o.3 H t))
    statement_tends (Choose arms) w I f o H t =
        let b = sum (parts_of arms) in
        let worded = integral_same (λ s. integral H (statement_weighted n None (Choose arms) s)) (λ s. integral H (arm_ends n None b arms s ++ [])) I
        (λ s. subst (λ m. integral H (statement_weighted n None (Choose arms) s) ≃ integral H m) (choose_weighted n None arms s) (same_refl (integral H (statement_weighted n None (Choose arms) s)))) in
        near_same n (same_trans worded (no_more H (arm_ends n None b arms) I)) (same_refl (worth H f)) (arms_tend b arms w.1 I f o H t)
    statement_tends (While e a) w I f o H t =
        let V = o.0 in
        let g = o.3 in
        near_outflow H f (only (fails (value_of e)) V) (faults (value_of e) V ++ g.ended) (plus (total g.next) g.turns) _ o.8
        (near_same n (same_refl _) (add_same (same_refl _) (integral_append (stop H) (faults (value_of e) V) g.ended))
        (near_loop (value_of e) (weighted_ends n None a) (block_small n a w) (BlockSettles SameTable SameEnds a) (block_tends a w) I V o.1 o.2 g o.4 o.5 o.6 o.7 H t))

    pub block_tends : (b : Statements) → BlockIsWeighed b → (I : Table) (f : Outflow) → BlockSettles SameTable SameEnds b I f → Tends (weighted_ends n None b) I f
    block_tends done w I f o H t =
        near_outflow H f I [] zero_share _ o (near_exact n (skip_counted H I))
    block_tends (st ▸ b) w I f o H t =
        let g = o.0 in
        let h = o.1 in
        let k = weighted_ends n None b in
        let first = near_same n (each_onward H (statement_weighted n None st) k I) (same_sym (worth_onward H k g))
        (statement_tends st w.0 I g o.2 (onward H k) (onward_test H k t (λ s. block_small n b w.1 s H t.small))) in
        near_outflow H f h.next (g.ended ++ h.ended) (plus g.turns h.turns) _ o.4
        (near_same n (same_refl _) (same_trans (add_same (same_refl _) (integral_append (stop H) g.ended h.ended)) (then_regroup _ _ _))
        (near_then n (integral (stop H) g.ended) first (block_tends b w.1 g.next h o.3 H t)))

    arms_tend : (b : ℕ) (arms : ArmList) → ArmsAreWeighed arms → (I : Table) (f : Outflow) → ArmsSettle SameTable SameEnds b arms I f → Tends (arm_ends n None b arms) I f
    arms_tend b no_arm w I f o H t = near_outflow H f [] [] zero_share _ o (near_exact n (same_trans (integral_nought I) (same_sym (nought_add nought))))
    arms_tend b (arm p a arms) w I f o H t =
        let u = class_weight b None p in
        near_same n (same_trans (two_weighed H u (weighted_ends n None a) (arm_ends n None b arms) I) (same_sym (nought_add _))) (same_refl (worth H f))
        (near_split H [] o.0 o.1 f _ _ o.4 (block_tends a w.0 (scaled u I) o.0 o.2 H t) (arms_tend b arms w.1 I o.1 o.3 H t))
