-- The tables of a block hold what the paths from each state give: a flow is linear in its table.
use Rattle.std.proofs.Common.{◌≡◌, ℕ, zero, suc, ◌+◌, ◌*◌, ◌-◌, Bool, true, false, not, cond, [], ◌∷◌, ◌++◌, Ok, Err, Option, ℤ, pos, negsuc, slice_set, refl, sym, ap, ◌∙◌, arith}
use Rattle.std.specs.List.{sum}
use Rattle.gcl_core.specs.declared.answers.Fault.TheVariants.{BadBound}
use Rattle.gcl_core.specs.declared.answers.Limit.TheVariants.{Turns, Attempts}
use Rattle.gcl_core.specs.meaning.Arms.{parts_of}
use Rattle.gcl_core.specs.meaning.Syntax.{Statement, Skip, Set, If, While, Choice, Choose, Uniform, Observe, Statements, done, ◌▸◌, ArmList, no_arm, arm}
use Rattle.gcl_core.specs.meaning.Value.{State, Value, value_of, is_zero}
use Rattle.gcl_core.specs.meaning.Blocks.{End, on, failed, fault, limit, by_value, by_bound, by_truth, by_end}
use Rattle.table_flow.specs.Scale.{Wholes, whole, amount}
use Rattle.gcl_core.specs.weighing.Fractions.{Fraction, plus, times}
use Rattle.gcl_core.specs.weighing.WeightedEnds.{Weighted, sure, scaled, taken_on, class_weight, no_class_weight, statement_weighted, weighted_ends, end_weighted}
use Rattle.table_flow.proofs.WeightedParts.{loop_weighted, value_weighted, uniform_weighted}
use Rattle.gcl_core.specs.weighing.Mass.{sum_of}
use Rattle.table_flow.specs.Tables.{Table, Flow, weighted, fractions_kind, draw_weights, draws_each, holds, fails, only, faults, all_end, statement_flow, block_flow}
use Rattle.table_flow.proofs.UniformLists.{by_lists}
use Rattle.table_flow.proofs.FlowWords.{set_to, set_below, set_drawn, not_drawn, both, loop_flow, arms_flow}
use Rattle.table_flow.proofs.EachMember.{Each, Anything, each_anything}
use Rattle.table_flow.proofs.KeptEntries.{KeepsEntries, nothing_asked, end_keeps, statement_kept, block_kept}
use Rattle.table_flow.proofs.ArmEnds.{arm_ends, choose_weighted}
use Rattle.table_flow.proofs.Amounts.{whole_zero}
use Rattle.table_flow.proofs.Spreads.{sum_of_all, after_weight, Zero, spread, sum_append, sum_none, sum_scaled, sum_taken, zero_after, times_assoc, times_one, sum_ext, spread_scaled, sure_sum, sum_ext_below, sum_set_below, draw_sum, scaled_one}

-- what goes on, counted by where it goes on to, and what ended
abbrev pub flowed : (Fraction → End → ℕ) → Flow → ℕ
flowed F f = sum_of_all (λ w s. F w (on s)) f.next + sum_of_all F f.ended

-- no entry that ended goes on
abbrev pub IsOver : Fraction × End → Type 0
IsOver (w, on s) = ⊥
IsOver (w, failed) = Unit {0}
IsOver (w, fault f) = Unit {0}
IsOver (w, limit l) = Unit {0}

abbrev pub NoOn : Weighted End → Type 0
NoOn = Each IsOver

-- one statement, then the others
abbrev pub onward : (Fraction → End → ℕ) → (State → Weighted End) → Fraction → End → ℕ
onward F k w x = sum_of_all (after_weight w F) (by_end x sure k)

onward_zero : (F : Fraction → End → ℕ) (k : State → Weighted End) → Zero F → Zero (onward F k)
onward_zero F k z d x = sum_none F d (by_end x sure k) z

onward_ended : (F : Fraction → End → ℕ) (k : State → Weighted End) (m : Weighted End) → NoOn m → sum_of_all (onward F k) m ≡ sum_of_all F m
onward_ended F k [] h = refl
onward_ended F k ((w, on s) ∷ m) h = absurd h.0
onward_ended F k ((w, failed) ∷ m) h = let i = onward_ended F k m h.1 in let a = ap (λ v. F v failed) (times_one w) in omega arith
onward_ended F k ((w, fault f) ∷ m) h = let i = onward_ended F k m h.1 in let a = ap (λ v. F v (fault f)) (times_one w) in omega arith
onward_ended F k ((w, limit l) ∷ m) h = let i = onward_ended F k m h.1 in let a = ap (λ v. F v (limit l)) (times_one w) in omega arith

onward_next : (F : Fraction → End → ℕ) (k : State → Weighted End) (m : Table) → sum_of_all (λ w s. onward F k w (on s)) m ≡ spread F m k
onward_next F k [] = refl
onward_next F k (e ∷ m) = ap (λ x. sum_of_all (after_weight e.0 F) (k e.1) + x) (onward_next F k m)

onward_taken : (F : Fraction → End → ℕ) (k : State → Weighted End) (w : Fraction) (m : Weighted End) → Zero F → sum_of_all (after_weight w F) (end_weighted m k) ≡ sum_of_all (after_weight w (onward F k)) m
onward_taken F k w [] z = refl
onward_taken F k w (e ∷ m) z =
    let a = sum_append (after_weight w F) (scaled e.0 (by_end e.1 sure k)) (end_weighted m k) in
    let b = sum_scaled (after_weight w F) e.0 (by_end e.1 sure k) (zero_after F w z) in
    let c = sum_ext (after_weight e.0 (after_weight w F)) (after_weight (times w e.0) F) (by_end e.1 sure k) (λ v x. ap (λ u. F u x) (sym (times_assoc w e.0 v))) in
    let i = onward_taken F k w m z in
    omega arith

spread_onward : (F : Fraction → End → ℕ) (k : State → Weighted End) (step : State → Weighted End) (I : Table) → Zero F → spread (onward F k) I step ≡ spread F I (λ s. end_weighted (step s) k)
spread_onward F k step [] z = refl
spread_onward F k step (e ∷ I) z = let a = onward_taken F k e.0 (step e.1) z in let i = spread_onward F k step I z in omega arith

pub flow_joined : (F : Fraction → End → ℕ) (k : State → Weighted End) (step : State → Weighted End) (I next : Table) (ended : Weighted End) → Zero F → NoOn ended →
    ((G : Fraction → End → ℕ) → Zero G → sum_of_all (λ w s. G w (on s)) next + sum_of_all G ended ≡ spread G I step) →
    spread F next k + sum_of_all F ended ≡ spread F I (λ s. end_weighted (step s) k)
flow_joined F k step I next ended z clear h =
    let a = h (onward F k) (onward_zero F k z) in
    let b = onward_next F k next in
    let c = onward_ended F k ended clear in
    let d = spread_onward F k step I z in
    omega arith

-- a guard's parts
spread_guard : (F : Fraction → End → ℕ) (v : State → Value) (a c : State → Weighted End) (I : Table) → Zero F →
    sum_of_all F (faults v I) + (spread F (only (holds v) I) a + spread F (only (fails v) I) c) ≡ spread F I (λ s. value_weighted (v s) (λ z. by_truth z (a s) (c s)))
spread_guard F v a c [] z = refl
spread_guard F v a c (e ∷ I) z = at_head (v e.1) refl (spread_guard F v a c I z)
  where
    at_head : (o : Value) → v e.1 ≡ o → sum_of_all F (faults v I) + (spread F (only (holds v) I) a + spread F (only (fails v) I) c) ≡ spread F I (λ s. value_weighted (v s) (λ z. by_truth z (a s) (c s))) →
        sum_of_all F (faults v (e ∷ I)) + (spread F (only (holds v) (e ∷ I)) a + spread F (only (fails v) (e ∷ I)) c) ≡ spread F (e ∷ I) (λ s. value_weighted (v s) (λ z. by_truth z (a s) (c s)))
    at_head (Err f) p i = rw p (let q = ap (λ u. F u (fault f)) (times_one e.0) in omega arith)
    at_head (Ok n) p i = rw p (by_zero (is_zero n) i)
      where
        by_zero : (b : Bool) → sum_of_all F (faults v I) + (spread F (only (holds v) I) a + spread F (only (fails v) I) c) ≡ spread F I (λ s. value_weighted (v s) (λ z. by_truth z (a s) (c s))) →
            sum_of_all F (faults v I) + (spread F (cond (not b) (e ∷ only (holds v) I) (only (holds v) I)) a + spread F (cond b (e ∷ only (fails v) I) (only (fails v) I)) c)
            ≡ sum_of_all (after_weight e.0 F) (cond b (c e.1) (a e.1)) + spread F I (λ s. value_weighted (v s) (λ z. by_truth z (a s) (c s)))
        by_zero true i = omega arith
        by_zero false i = omega arith

-- ---- what ended does not go on
none_goes_on : (r : Option ℕ) → KeepsEntries fractions_kind r Anything Anything Anything Anything Anything IsOver Anything Anything
none_goes_on r = record {
  asked = nothing_asked;
  tidy = λ I h. h;
  at_loop = λ I h. (h, tt);
  faulty = λ f e h. tt;
  failing = λ e h. tt;
  turns = λ v a s e h. tt;
  set = λ i v s e h z q. tt;
  drawn = λ i v s e h b q m le d g. tt;
  number = λ m. tt;
  choice = λ p a c s. tt;
  choose = λ arms s. tt;
  class = λ b d c I h. each_anything (scaled (class_weight b r c) I);
  rest = λ b d I h. end_keeps weighted Anything IsOver (limit Attempts) (λ e p. tt) (scaled (no_class_weight b r) I) (each_anything (scaled (no_class_weight b r) I));
  shown = λ b d I h. each_anything (draws_each (draw_weights b r) I);
  reached = λ ends d I h. each_anything (fractions_kind.reached ends I);
}

pub no_one : (n : ℕ) (r : Option ℕ) (st : Statement) (I : Table) → NoOn (statement_flow n r st I).ended
no_one n r st I = (statement_kept (none_goes_on r) n st tt I (each_anything I)).ended

no_all : (n : ℕ) (r : Option ℕ) (b : Statements) (I : Table) → NoOn (block_flow n r b I).ended
no_all n r b I = (block_kept (none_goes_on r) n b tt I (each_anything I)).ended

-- ---- a flow holds the paths
spread_sure : (F : Fraction → End → ℕ) (x : State → End) (I : Table) → sum_of_all (λ w s. F w (x s)) I ≡ spread F I (λ s. sure (x s))
spread_sure F x [] = refl
spread_sure F x (e ∷ I) = let i = spread_sure F x I in let q = ap (λ u. F u (x e.1)) (times_one e.0) in omega arith

flowed_both : (F : Fraction → End → ℕ) (x : Weighted End) (f g : Flow) → flowed F (both x f g) ≡ sum_of_all F x + (flowed F f + flowed F g)
flowed_both F x f g =
    let a = sum_append (λ w s. F w (on s)) f.next g.next in
    let b = sum_append F x (f.ended ++ g.ended) in
    let c = sum_append F f.ended g.ended in
    omega arith

sum_all_end : (F : Fraction → End → ℕ) (x : End) (I : Table) → sum_of_all F (all_end x I) ≡ sum_of_all (λ w s. F w x) I
sum_all_end F x [] = refl
sum_all_end F x (e ∷ I) = ap (λ y. F e.0 x + y) (sum_all_end F x I)

-- ---- statements of which no other is a part
flow_set : (F : Fraction → End → ℕ) (x : ℕ) (v : State → Value) (I : Table) →
    sum_of_all (λ w s. F w (on s)) (set_to x v I) + sum_of_all F (faults v I) ≡ spread F I (λ s. value_weighted (v s) (λ z. sure (on (slice_set s x z))))
flow_set F x v [] = refl
flow_set F x v (e ∷ I) = at_head (v e.1) refl (flow_set F x v I)
  where
    at_head : (o : Value) → v e.1 ≡ o → sum_of_all (λ w s. F w (on s)) (set_to x v I) + sum_of_all F (faults v I) ≡ spread F I (λ s. value_weighted (v s) (λ z. sure (on (slice_set s x z)))) →
        sum_of_all (λ w s. F w (on s)) (set_to x v (e ∷ I)) + sum_of_all F (faults v (e ∷ I)) ≡ spread F (e ∷ I) (λ s. value_weighted (v s) (λ z. sure (on (slice_set s x z))))
    at_head (Err f) p i = rw p (let q = sure_sum F e.0 (fault f) in omega arith)
    at_head (Ok n) p i = rw p (let q = sure_sum F e.0 (on (slice_set e.1 x n)) in omega arith)

flow_seen : (F : Fraction → End → ℕ) (v : State → Value) (I : Table) → Zero F →
    sum_of_all (λ w s. F w (on s)) (only (holds v) I) + sum_of_all F (faults v I ++ all_end failed (only (fails v) I)) ≡ spread F I (λ s. value_weighted (v s) (λ z. by_truth z (sure (on s)) (sure failed)))
flow_seen F v I z =
    let a = spread_guard F v (λ s. sure (on s)) (λ s. sure failed) I z in
    let b = spread_sure F (λ s. on s) (only (holds v) I) in
    let c = spread_sure F (λ s. failed) (only (fails v) I) in
    let d = sum_all_end F failed (only (fails v) I) in
    let o = sum_append F (faults v I) (all_end failed (only (fails v) I)) in
    omega arith

flow_drawn : (F : Fraction → End → ℕ) (x : ℕ) (v : State → Value) (r : Option ℕ) (I : Table) → Zero F →
    sum_of_all (λ w s. F w (on s)) (set_drawn x v r I) + sum_of_all F (not_drawn v r I) ≡ spread F I (λ s. value_weighted (v s) (λ z. uniform_weighted r x z s))
flow_drawn F x v r [] z = refl
flow_drawn F x v r (e ∷ I) z =
    let i = flow_drawn F x v r I z in
    let a = sum_append (λ w s. F w (on s)) (by_value (v e.1) (λ f. []) goes) (set_drawn x v r I) in
    let b = sum_append F (by_value (v e.1) (λ f. (e.0, fault f) ∷ []) stops) (not_drawn v r I) in
    let c = by_state (v e.1) in
    omega arith
  where
    goes : ℤ → Table
    goes z = by_bound z [] (λ m. set_below x m (scaled (class_weight m r 1) (e ∷ [])))

    stops : ℤ → Weighted End
    stops z = by_bound z ((e.0, fault BadBound) ∷ []) (λ m. all_end (limit Attempts) (scaled (no_class_weight m r) (e ∷ [])))

    by_sign : (z : ℤ) → sum_of_all (λ w s. F w (on s)) (goes z) + sum_of_all F (stops z) ≡ sum_of_all (after_weight e.0 F) (uniform_weighted r x z e.1)
    by_sign (pos zero) = let q = sure_sum F e.0 (fault BadBound) in omega arith
    by_sign (pos (suc m)) =
        let a = sum_set_below (λ w s. F w (on s)) x (suc m) (scaled (class_weight (suc m) r 1) (e ∷ [])) in
        let b = sum_ext_below (suc m) (λ i. sum_of_all (λ w s. F w (on (slice_set s x (pos i)))) (scaled (class_weight (suc m) r 1) (e ∷ []))) (λ i. F (times e.0 (class_weight (suc m) r 1)) (on (slice_set e.1 x (pos i))))
        (λ i. scaled_one (λ w s. F w (on (slice_set s x (pos i)))) (class_weight (suc m) r 1) e (λ d s. z d (on (slice_set s x (pos i))))) in
        let c = sum_all_end F (limit Attempts) (scaled (no_class_weight (suc m) r) (e ∷ [])) ∙ scaled_one (λ w s. F w (limit Attempts)) (no_class_weight (suc m) r) e (λ d s. z d (limit Attempts)) in
        let d = draw_sum x r (after_weight e.0 F) (suc m) e.1 (zero_after F e.0 z) in
        omega arith
    by_sign (negsuc m) = let q = sure_sum F e.0 (fault BadBound) in omega arith

    by_state : (o : Value) → sum_of_all (λ w s. F w (on s)) (by_value o (λ f. []) goes) + sum_of_all F (by_value o (λ f. (e.0, fault f) ∷ []) stops) ≡ sum_of_all (after_weight e.0 F) (value_weighted o (λ z. uniform_weighted r x z e.1))
    by_state (Ok n) = by_sign n
    by_state (Err f) = let q = sure_sum F e.0 (fault f) in omega arith

turned : (p q w : Fraction) → times p (times q w) ≡ times q (times p w)
turned p q w = let b : p.0 * (q.0 * w.0) ≡ q.0 * (p.0 * w.0) = omega arith in let d : p.1 * (q.1 * w.1) ≡ q.1 * (p.1 * w.1) = omega arith in ap (λ x. (x, p.1 * (q.1 * w.1))) b ∙ ap (λ y. (q.0 * (p.0 * w.0), y)) d

-- what each entry gives, by other words of the same
spread_ext : {A B : Type 0} (F : Fraction → B → ℕ) (I : Weighted A) (k l : A → Weighted B) → ((x : A) → k x ≡ l x) → spread F I k ≡ spread F I l
spread_ext F [] k l h = refl
spread_ext F (e ∷ I) k l h = let i = spread_ext F I k l h in let a = ap (sum_of_all (after_weight e.0 F)) (h e.1) in omega arith

spread_none : {A B : Type 0} (F : Fraction → B → ℕ) (I : Weighted A) → spread F I (λ x. []) ≡ 0
spread_none F [] = refl
spread_none {B = B} F (e ∷ I) = let i = spread_none {B = B} F I in omega arith

-- two lists from each entry
spread_beside : {A B : Type 0} (F : Fraction → B → ℕ) (I : Weighted A) (k l : A → Weighted B) → spread F I (λ x. k x ++ l x) ≡ spread F I k + spread F I l
spread_beside F [] k l = refl
spread_beside F (e ∷ I) k l = let i = spread_beside F I k l in let a = sum_append (after_weight e.0 F) (k e.1) (l e.1) in omega arith

-- what a scaled table gives is what each entry gives, scaled
spread_weighed : {A B : Type 0} (F : Fraction → B → ℕ) (u : Fraction) (I : Weighted A) (k : A → Weighted B) → Zero F → spread F (scaled u I) k ≡ spread F I (λ x. scaled u (k x))
spread_weighed {A = A} F u I k z = spread_scaled F u I k z ∙ by_entry I
  where
    by_entry : (I : Weighted A) → spread (after_weight u F) I k ≡ spread F I (λ x. scaled u (k x))
    by_entry [] = refl
    by_entry (e ∷ I) =
        let i = by_entry I in
        let p = sum_scaled (after_weight e.0 F) u (k e.1) (zero_after F e.0 z) ∙ sum_ext _ (after_weight e.0 (after_weight u F)) (k e.1) (λ w y. ap (λ t. F t y) (turned e.0 u w)) in
        omega arith

-- all of a table end in one way, by a weight
spread_ended : (F : Fraction → End → ℕ) (l : Fraction) (x : End) (I : Table) → Zero F → sum_of_all F (all_end x (scaled l I)) ≡ spread F I (λ s. scaled l (sure x) ++ [])
spread_ended F l x I z =
    let a = sum_all_end F x (scaled l I) in
    let b = spread_sure F (λ s. x) (scaled l I) in
    let c = spread_weighed F l I (λ s. sure x) z in
    let d = spread_beside F I (λ s. scaled l (sure x)) (λ s. []) in
    let e = spread_none F I in
    omega arith

-- a list of three drawn sides
spread_drawn : (F : Fraction → End → ℕ) (u v l : Fraction) (a c : State → Weighted End) (x : End) (I : Table) → Zero F →
    sum_of_all F (all_end x (scaled l I)) + (spread F (scaled u I) a + spread F (scaled v I) c)
    ≡ spread F I (λ s. scaled u (a s) ++ (scaled v (c s) ++ (scaled l (sure x) ++ [])))
spread_drawn F u v l a c x I z =
    let p = spread_weighed F u I a z in
    let q = spread_weighed F v I c z in
    let o = spread_ended F l x I z in
    let i = spread_beside F I (λ s. scaled u (a s)) (λ s. scaled v (c s) ++ (scaled l (sure x) ++ [])) in
    let j = spread_beside F I (λ s. scaled v (c s)) (λ s. scaled l (sure x) ++ []) in
    omega arith

module _ (n : ℕ) (r : Option ℕ) where
  abbrev pub Linear : Statements → Type 0
  Linear b = (F : Fraction → End → ℕ) (I : Table) → Zero F → flowed F (block_flow n r b I) ≡ spread F I (weighted_ends n r b)

  flow_loop : (v : State → Value) (b : Statements) → Linear b → (t : ℕ) (F : Fraction → End → ℕ) (J : Table) → Zero F → flowed F (loop_flow v (block_flow n r b) t J) ≡ spread F J (loop_weighted v (weighted_ends n r b) t)
  flow_loop v b h zero F J z =
      let a = spread_guard F v (λ s. sure (limit Turns)) (λ s. sure (on s)) J z in
      let c = sum_append F (faults v J) (all_end (limit Turns) (only (holds v) J)) in
      let d = sum_all_end F (limit Turns) (only (holds v) J) ∙ spread_sure F (λ s. limit Turns) (only (holds v) J) in
      let e = spread_sure F (λ s. on s) (only (fails v) J) in
      omega arith
  flow_loop v b h (suc t) F J z =
      let k = loop_weighted v (weighted_ends n r b) t in
      let A = only (holds v) J in
      let f = block_flow n r b A in
      let a = spread_guard F v (λ s. end_weighted (weighted_ends n r b s) k) (λ s. sure (on s)) J z in
      let c = flow_joined F k (weighted_ends n r b) A f.next f.ended z (no_all n r b A) (λ G zg. h G A zg) in
      let g = flow_loop v b h t F f.next z in
      let o = sum_append (λ w s. F w (on s)) (only (fails v) J) (loop_flow v (block_flow n r b) t f.next).next in
      let p = sum_append F (faults v J) (f.ended ++ (loop_flow v (block_flow n r b) t f.next).ended) in
      let q = sum_append F f.ended (loop_flow v (block_flow n r b) t f.next).ended in
      let e = spread_sure F (λ s. on s) (only (fails v) J) in
      omega arith

  mutual
    pub flow_statement : (st : Statement) (F : Fraction → End → ℕ) (I : Table) → Zero F → flowed F (statement_flow n r st I) ≡ spread F I (statement_weighted n r st)
    flow_statement Skip F I z = let a = spread_sure F (λ s. on s) I in omega arith
    flow_statement (Set x e) F I z = flow_set F x (value_of e) I
    flow_statement (Observe e) F I z = flow_seen F (value_of e) I z
    flow_statement (Uniform x e) F I z = rw (by_lists fractions_kind r x (value_of e) I) (flow_drawn F x (value_of e) r I z)
    flow_statement (If e a c) F I z =
        let A = only (holds (value_of e)) I in
        let C = only (fails (value_of e)) I in
        let g = spread_guard F (value_of e) (weighted_ends n r a) (weighted_ends n r c) I z in
        let b = flowed_both F (faults (value_of e) I) (block_flow n r a A) (block_flow n r c C) in
        let x = flow_paths a F A z in
        let y = flow_paths c F C z in
        omega arith
    flow_statement (Choice p a c) F I z =
        let u = class_weight p.den r p.num in
        let v = class_weight p.den r (p.den - p.num) in
        let l = no_class_weight p.den r in
        let q : p.num ≡ p.num - 0 = omega arith in
        let g = spread_drawn F u v l (weighted_ends n r a) (weighted_ends n r c) (limit Attempts) I z in
        let k : spread F I (λ s. scaled u (weighted_ends n r a s) ++ (scaled v (weighted_ends n r c s) ++ (scaled l (sure (limit Attempts)) ++ []))) ≡ spread F I (statement_weighted n r (Choice p a c))
        = ap (λ m. spread F I (λ s. scaled (class_weight p.den r m) (weighted_ends n r a s) ++ (scaled v (weighted_ends n r c s) ++ (scaled l (sure (limit Attempts)) ++ [])))) q in
        let b = flowed_both F (all_end (limit Attempts) (scaled l I)) (block_flow n r a (scaled u I)) (block_flow n r c (scaled v I)) in
        let x = flow_paths a F (scaled u I) z in
        let y = flow_paths c F (scaled v I) z in
        omega arith
    flow_statement (Choose arms) F I z =
        let b = sum (parts_of arms) in
        let l = no_class_weight b r in
        let f = arms_flow n r b arms I in
        let a = sum_append F (all_end (limit Attempts) (scaled l I)) f.ended in
        let x = arms_paths b arms F I z in
        let o = spread_ended F l (limit Attempts) I z in
        let i = spread_beside F I (arm_ends n r b arms) (λ s. scaled l (sure (limit Attempts)) ++ []) in
        let k = spread_ext F I (statement_weighted n r (Choose arms)) (λ s. arm_ends n r b arms s ++ (scaled l (sure (limit Attempts)) ++ [])) (choose_weighted n r arms) in
        omega arith
    flow_statement (While e a) F I z = flow_loop (value_of e) a (flow_paths a) n F I z

    -- the tables of a block on I hold what MassS gives from each state of I
    pub flow_paths : (b : Statements) → Linear b
    flow_paths done F I z = let a = spread_sure F (λ s. on s) I in omega arith
    flow_paths (st ▸ b) F I z =
        let f = statement_flow n r st I in
        let g = block_flow n r b f.next in
        let a = flow_joined F (weighted_ends n r b) (statement_weighted n r st) I f.next f.ended z (no_one n r st I) (λ G zg. flow_statement st G I zg) in
        let c = flow_paths b F f.next z in
        let d = sum_append F f.ended g.ended in
        omega arith

    arms_paths : (b : ℕ) (arms : ArmList) (F : Fraction → End → ℕ) (I : Table) → Zero F → flowed F (arms_flow n r b arms I) ≡ spread F I (arm_ends n r b arms)
    arms_paths b no_arm F I z = let e = spread_none {B = End} F I in omega arith
    arms_paths b (arm p a arms) F I z =
        let u = class_weight b r p in
        let o = flowed_both F [] (block_flow n r a (scaled u I)) (arms_flow n r b arms I) in
        let x = flow_paths a F (scaled u I) z in
        let y = spread_weighed F u I (weighted_ends n r a) z in
        let i = arms_paths b arms F I z in
        let j = spread_beside F I (λ s. scaled u (weighted_ends n r a s)) (arm_ends n r b arms) in
        omega arith

-- the same at a scale
pub amount_is : {A : Type 0} (N : ℕ) (H : A → ℕ) (m : Weighted A) → amount N H m ≡ sum_of_all (λ w x. whole N w * H x) m
amount_is N H [] = refl
amount_is N H (e ∷ m) = ap (λ y. whole N e.0 * H e.1 + y) (amount_is N H m)

pub amounts_paths : (n : ℕ) (r : Option ℕ) (N : ℕ) (H : End → ℕ) (b : Statements) (I : Table) →
    amount N (λ s. H (on s)) (block_flow n r b I).next + amount N H (block_flow n r b I).ended ≡ amount N H (taken_on I (weighted_ends n r b))
amounts_paths n r N H b I =
    let F : Fraction → End → ℕ = λ w x. whole N w * H x in
    let z : Zero F = λ d x. let a = ap (λ y. y * H x) (whole_zero N d) in let c : 0 * H x ≡ 0 = omega arith in a ∙ c in
    let f = block_flow n r b I in
    let a = amount_is N (λ s. H (on s)) f.next in
    let c = amount_is N H f.ended in
    let d = amount_is N H (taken_on I (weighted_ends n r b)) in
    let e = sum_taken F I (weighted_ends n r b) z in
    let g = flow_paths n r b F I z in
    omega arith

-- the sum of the weights that are meant, from their amount
pub counted : (b : Bool) (N u v : ℕ) (e p : Fraction) → e.1 * u ≡ e.0 * N → p.1 * v ≡ p.0 * N → (cond b (plus e p) p).1 * (u * cond b 1 0 + v) ≡ (cond b (plus e p) p).0 * N
counted true N u v e p q h = let a = ap (λ x. p.1 * x) q in let b = ap (λ x. e.1 * x) h in omega arith
counted false N u v e p q h = let a : u * 0 + v ≡ v = omega arith in ap (λ x. p.1 * x) a ∙ h

pub sum_amount : {A : Type 0} (N : ℕ) (is : A → Bool) (m : Weighted A) → Wholes N m → (sum_of is m).1 * amount N (λ x. cond (is x) 1 0) m ≡ (sum_of is m).0 * N
sum_amount N is [] w = omega arith
sum_amount N is (e ∷ m) w = counted (is e.1) N (whole N e.0) (amount N (λ x. cond (is x) 1 0) m) e.0 (sum_of is m) w.0.exact (sum_amount N is m w.1)
