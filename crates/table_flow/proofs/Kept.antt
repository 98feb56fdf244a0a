-- What goes on and what ended weigh what came in.
use Rattle.std.proofs.Common.{◌≡◌, ℕ, zero, suc, ◌+◌, ◌*◌, ◌-◌, ◌≤◌, ◌<◌, ℤ, pos, negsuc, Bool, true, false, not, cond, List, [], ◌∷◌, ◌++◌, Ok, Err, Option, refl, ap, ◌∙◌, subst, arith}
use Rattle.std.specs.List.{sum}
use Rattle.std.proofs.lemmas.List.Sums.{sum_by-cons}
use Rattle.gcl_core.specs.declared.answers.Limit.TheVariants.{Turns, Attempts}
use Rattle.gcl_core.specs.declared.syntax.Weight.{Weight}
use Rattle.gcl_core.specs.meaning.Arms.{parts_of}
use Rattle.gcl_core.specs.meaning.Syntax.{Statement, Skip, Set, If, While, Choice, Choose, Uniform, Observe, Statements, done, ◌▸◌, ArmList, no_arm, arm}
use Rattle.gcl_core.specs.meaning.Bounds.{IsWeight, StatementIsWeighed, BlockIsWeighed, ArmsAreWeighed, AreParts}
use Rattle.gcl_core.specs.meaning.Value.{State, Value, value_of, is_zero}
use Rattle.gcl_core.specs.meaning.Blocks.{End, failed, limit, by_value, by_bound}
use Rattle.gcl_core.specs.weighing.Fractions.{Fraction, times, one}
use Rattle.gcl_core.specs.weighing.WeightedEnds.{Weighted, scaled, class_weight, no_class_weight}
use Rattle.table_flow.specs.Tables.{Table, Flow, fractions_kind, holds, fails, only, faults, all_end, statement_flow, block_flow}
use Rattle.table_flow.specs.Scale.{amount, weight, whole, Whole, Wholes, Within}
use Rattle.table_flow.specs.Counts.{sum_below, part_at, rest_at, drawn, undrawn}
use Rattle.table_flow.proofs.UniformLists.{by_lists}
use Rattle.table_flow.proofs.FlowWords.{set_to, both, loop_flow, arms_flow, multiplied}
use Rattle.table_flow.proofs.InsideFlows.{head_whole, first_inside, others_inside, turn_inside, turns_inside, side_first, side_second, undecided_whole, choose_inside, first_arm, other_arms}
use Rattle.table_flow.proofs.Amounts.{ends_whole, amount_append, both_first, both_second, ends_first}
use Rattle.table_flow.proofs.Spreads.{times_swap}
use Rattle.table_flow.proofs.Draws.{draw_kept, parts_add_up, each_part, no_part, all_parts, all_parts_pos, share_of, class_pos, no_class_pos, class_share, no_class_share}
use Rattle.table_flow.proofs.Uniforms.{drawn_next, drawn_ended, drawn_whole}
use Rattle.numbers.proofs.Divisors.{cancel}

pub guard_weight : (N : ℕ) (v : State → Value) (I : Table) → weight N (only (holds v) I) + (weight N (only (fails v) I) + weight N (faults v I)) ≡ weight N I
guard_weight N v [] = refl
guard_weight N v (e ∷ I) = at_head (v e.1) refl (guard_weight N v I)
  where
    at_head : (o : Value) → v e.1 ≡ o → weight N (only (holds v) I) + (weight N (only (fails v) I) + weight N (faults v I)) ≡ weight N I →
        weight N (only (holds v) (e ∷ I)) + (weight N (only (fails v) (e ∷ I)) + weight N (faults v (e ∷ I))) ≡ weight N (e ∷ I)
    at_head (Err f) p i = rw p (omega arith)
    at_head (Ok n) p i = rw p (by_zero (is_zero n) i)
      where
        by_zero : (b : Bool) → weight N (only (holds v) I) + (weight N (only (fails v) I) + weight N (faults v I)) ≡ weight N I →
            weight N (cond (not b) (e ∷ only (holds v) I) (only (holds v) I)) + (weight N (cond b (e ∷ only (fails v) I) (only (fails v) I)) + weight N (faults v I)) ≡ weight N (e ∷ I)
        by_zero true i = omega arith
        by_zero false i = omega arith

pub all_end_weight : (N : ℕ) (x : End) (I : Table) → weight N (all_end x I) ≡ weight N I
all_end_weight N x [] = refl
all_end_weight N x (e ∷ I) = let i = all_end_weight N x I in omega arith

-- a table with each weight multiplied by one fraction
pub amount_scaled : {A : Type 0} (N : ℕ) (G : A → ℕ) (w : Fraction) (n d : ℕ) (I : Weighted A) → 0 < w.1 → w.0 * d ≡ n * w.1 → Wholes N I → Wholes N (scaled w I) → d * amount N G (scaled w I) ≡ n * amount N G I
amount_scaled N G (zero, v) n d I pv e a b = by_zero n (none n (let q : n * v ≡ 0 = omega arith in q))
  where
    none : (n : ℕ) → n * v ≡ 0 → n ≡ 0
    none zero e = refl
    none (suc n) e = absurd (omega arith)

    by_zero : (n : ℕ) → n ≡ 0 → d * 0 ≡ n * amount N G I
    by_zero n e = rw e (omega arith)
amount_scaled N G (suc u, v) n d [] pv e a b = omega arith
amount_scaled N G (suc u, v) n d (e ∷ I) pv q a b =
    let i = amount_scaled N G (suc u, v) n d I pv q a.1 b.1 in
    let t = times_swap (suc u, v) e.0 in
    let x = share_of N e.0 (suc u, v) n d pv q a.0 (subst (Whole N) t b.0) in
    let y : whole N (times (suc u, v) e.0) ≡ whole N (times e.0 (suc u, v)) = ap (whole N) t in
    added d n (whole N (times (suc u, v) e.0)) (whole N (times e.0 (suc u, v))) (whole N e.0) (G e.1) _ _ y x i
  where
    added : (d n V V' U g A B : ℕ) → V ≡ V' → d * V' ≡ n * U → d * A ≡ n * B → d * (V * g + A) ≡ n * (U * g + B)
    added d n V V' U g A B e x i = let z = ap (λ y. y * g) x in rw e (omega arith)

pub both_weight : (N : ℕ) (x : Weighted End) (f g : Flow) → weight N (both x f g).next + weight N (both x f g).ended ≡ weight N x + ((weight N f.next + weight N f.ended) + (weight N g.next + weight N g.ended))
both_weight N x f g =
    let a = amount_append N (λ s. 1) f.next g.next in
    let b = amount_append N (λ s. 1) x (f.ended ++ g.ended) in
    let c = amount_append N (λ s. 1) f.ended g.ended in
    omega arith

set_weight : (N x : ℕ) (v : State → Value) (I : Table) → weight N (set_to x v I) + weight N (faults v I) ≡ weight N I
set_weight N x v [] = refl
set_weight N x v (e ∷ I) = at_head (v e.1) refl (set_weight N x v I)
  where
    at_head : (o : Value) → v e.1 ≡ o → weight N (set_to x v I) + weight N (faults v I) ≡ weight N I → weight N (set_to x v (e ∷ I)) + weight N (faults v (e ∷ I)) ≡ weight N (e ∷ I)
    at_head (Ok z) p i = rw p (omega arith)
    at_head (Err f) p i = rw p (omega arith)

-- ---- choices
sides : (a b S Q D A C L W : ℕ) → a ≤ b → 0 < D → b * S + Q ≡ D → D * A ≡ a * S * W → D * C ≡ (b - a) * S * W → D * L ≡ Q * W → L + (A + C) ≡ W
sides a b S Q D A C L W h d0 e x y z =
    let f : a * S * W + (b - a) * S * W ≡ b * S * W = let k : a + (b - a) ≡ b = omega arith in let m = ap (λ t. t * (S * W)) k in omega arith in
    let g : b * S * W + Q * W ≡ D * W = let m = ap (λ t. t * W) e in omega arith in
    cancel D _ _ d0 (let o : D * (L + (A + C)) ≡ D * L + (D * A + D * C) = omega arith in omega arith)

pub choice_kept : (N a b : ℕ) (r : Option ℕ) (I : Table) → a ≤ b → 0 < b → Wholes N I → Wholes N (scaled (class_weight b r a) I) → Wholes N (scaled (class_weight b r (b - a)) I) → Wholes N (scaled (no_class_weight b r) I) →
    weight N (scaled (no_class_weight b r) I) + (weight N (scaled (class_weight b r a) I) + weight N (scaled (class_weight b r (b - a)) I)) ≡ weight N I
choice_kept N a b r I h b0 w x y z =
    sides a b (each_part b r) (no_part b r) (all_parts b r) _ _ _ (weight N I) h (all_parts_pos b r b0) (parts_add_up b r)
    (amount_scaled N (λ s. 1) (class_weight b r a) (a * each_part b r) (all_parts b r) I (class_pos b r a b0) (class_share b r a) w x)
    (amount_scaled N (λ s. 1) (class_weight b r (b - a)) ((b - a) * each_part b r) (all_parts b r) I (class_pos b r (b - a) b0) (class_share b r (b - a)) w y)
    (amount_scaled N (λ s. 1) (no_class_weight b r) (no_part b r) (all_parts b r) I (no_class_pos b r) (no_class_share b r) w z)

-- ---- choices among several

-- a table by each of these parts of a draw with b
abbrev pub ArmsWhole : ℕ → ℕ → Option ℕ → List ℕ → Table → Type 0
ArmsWhole N b r [] I = Unit {0}
ArmsWhole N b r (p ∷ ps) I = Wholes N (scaled (class_weight b r p) I) × ArmsWhole N b r ps I

abbrev pub arms_weight : ℕ → ℕ → Option ℕ → List ℕ → Table → ℕ
arms_weight N b r [] I = 0
arms_weight N b r (p ∷ ps) I = weight N (scaled (class_weight b r p) I) + arms_weight N b r ps I

arms_weigh : (N b : ℕ) (r : Option ℕ) (ps : List ℕ) (I : Table) → 0 < b → Wholes N I → ArmsWhole N b r ps I → all_parts b r * arms_weight N b r ps I ≡ sum ps * each_part b r * weight N I
arms_weigh N b r [] I b0 w x = omega arith
arms_weigh N b r (p ∷ ps) I b0 w x =
    let a = amount_scaled N (λ s. 1) (class_weight b r p) (p * each_part b r) (all_parts b r) I (class_pos b r p b0) (class_share b r p) w x.0 in
    more (all_parts b r) (each_part b r) (weight N I) p (sum ps) (sum (p ∷ ps)) _ _ (sum_by-cons (λ x. x) p ps) a (arms_weigh N b r ps I b0 w x.1)
  where
    more : (D S W p q t A B : ℕ) → t ≡ p + q → D * A ≡ p * S * W → D * B ≡ q * S * W → D * (A + B) ≡ t * S * W
    more D S W p q t A B e x y = rw e (omega arith)

pub choose_kept : (N : ℕ) (r : Option ℕ) (ps : List ℕ) (I : Table) → 1 ≤ sum ps → Wholes N I → ArmsWhole N (sum ps) r ps I → Wholes N (scaled (no_class_weight (sum ps) r) I) →
    weight N (scaled (no_class_weight (sum ps) r) I) + arms_weight N (sum ps) r ps I ≡ weight N I
choose_kept N r ps I least w x z =
    let b = sum ps in
    let b0 : 0 < b = omega arith in
    added b (each_part b r) (no_part b r) (all_parts b r) _ _ (weight N I) (all_parts_pos b r b0) (parts_add_up b r) (arms_weigh N b r ps I b0 w x)
    (amount_scaled N (λ s. 1) (no_class_weight b r) (no_part b r) (all_parts b r) I (no_class_pos b r) (no_class_share b r) w z)
  where
    added : (b S Q D A L W : ℕ) → 0 < D → b * S + Q ≡ D → D * A ≡ b * S * W → D * L ≡ Q * W → L + A ≡ W
    added b S Q D A L W d0 e x y = cancel D _ _ d0 (let z = ap (λ t. t * W) e in omega arith)

-- ---- uniform draws
pub sum_ones : (m : ℕ) → sum_below m (λ i. 1) ≡ m
sum_ones zero = refl
sum_ones (suc m) = let i = sum_ones m in omega arith

state_kept : (N x : ℕ) (v : State → Value) (r : Option ℕ) (w : Fraction) (s : State) → Whole N w → Whole N (times w (part_at v r s)) → Whole N (times w (rest_at v r s)) →
    whole N (times w (part_at v r s)) * drawn x v (λ s. 1) s + whole N (times w (rest_at v r s)) * undrawn v (λ x. 1) s ≡ whole N w
state_kept N x v r w s h k l = by_state (v s) k l
  where
    alone : whole N (times w one) * 0 + whole N (times w one) * 1 ≡ whole N w
    alone = let a : w.0 * 1 ≡ w.0 = omega arith in let b : w.1 * 1 ≡ w.1 = omega arith in let c = ap (λ n. whole N (n, w.1 * 1)) a ∙ ap (λ d. whole N (w.0, d)) b in omega arith

    by_sign : (z : ℤ) → Whole N (times w (by_bound z one (λ m. class_weight m r 1))) → Whole N (times w (by_bound z one (λ m. no_class_weight m r))) →
        whole N (times w (by_bound z one (λ m. class_weight m r 1))) * by_bound z 0 (λ m. sum_below m (λ i. 1)) + whole N (times w (by_bound z one (λ m. no_class_weight m r))) * by_bound z 1 (λ m. 1) ≡ whole N w
    by_sign (pos zero) k l = alone
    by_sign (pos (suc m)) k l = let a = draw_kept N (suc m) r w (omega arith) h k l in let b = ap (λ n. whole N (times w (class_weight (suc m) r 1)) * n) (sum_ones (suc m)) in omega arith
    by_sign (negsuc m) k l = alone

    by_state : (o : Value) → Whole N (times w (by_value o (λ f. one) (λ z. by_bound z one (λ m. class_weight m r 1)))) → Whole N (times w (by_value o (λ f. one) (λ z. by_bound z one (λ m. no_class_weight m r)))) →
        whole N (times w (by_value o (λ f. one) (λ z. by_bound z one (λ m. class_weight m r 1)))) * by_value o (λ f. 0) (λ z. by_bound z 0 (λ m. sum_below m (λ i. 1)))
        + whole N (times w (by_value o (λ f. one) (λ z. by_bound z one (λ m. no_class_weight m r)))) * by_value o (λ f. 1) (λ z. by_bound z 1 (λ m. 1)) ≡ whole N w
    by_state (Ok z) k l = by_sign z k l
    by_state (Err f) k l = alone

drawn_kept : (N x : ℕ) (v : State → Value) (r : Option ℕ) (I : Table) → Wholes N I → Wholes N (multiplied (part_at v r) I) → Wholes N (multiplied (rest_at v r) I) →
    amount N (drawn x v (λ s. 1)) (multiplied (part_at v r) I) + amount N (undrawn v (λ x. 1)) (multiplied (rest_at v r) I) ≡ weight N I
drawn_kept N x v r [] h k l = refl
drawn_kept N x v r (e ∷ I) h k l = let i = drawn_kept N x v r I h.1 k.1 l.1 in let a = state_kept N x v r e.0 e.1 h.0 k.0 l.0 in omega arith

module _ (n : ℕ) (r : Option ℕ) (N L : ℕ) where
  pub arms_whole : (b : ℕ) (arms : ArmList) (I : Table) → Within N L (arms_flow n r b arms I) → ArmsWhole N b r (parts_of arms) I
  arms_whole b no_arm I s = tt
  arms_whole b (arm p a arms) I s = (head_whole n r N L a (scaled (class_weight b r p) I) (first_arm n r N L b p a arms I s).tables, arms_whole b arms I (other_arms n r N L b p a arms I s))

  pub arms_kept : (arms : ArmList) (I : Table) → AreParts (parts_of arms) → Wholes N I → Within N L (statement_flow n r (Choose arms) I) →
      weight N (all_end (limit Attempts) (scaled (no_class_weight (sum (parts_of arms)) r) I)) + arms_weight N (sum (parts_of arms)) r (parts_of arms) I ≡ weight N I
  arms_kept arms I p w s =
      let b = sum (parts_of arms) in
      let Z = scaled (no_class_weight b r) I in
      let z = all_end_weight N (limit Attempts) Z in
      let k = choose_kept N r (parts_of arms) I p.positive w (arms_whole b arms I (choose_inside n r N L arms I s)) (ends_whole N (limit Attempts) Z (ends_first N (all_end (limit Attempts) Z) (arms_flow n r b arms I).ended s.ended)) in
      omega arith

  pub sides_kept : (q : Weight) (a c : Statements) (I : Table) → IsWeight q → Wholes N I → Within N L (statement_flow n r (Choice q a c) I) →
      weight N (scaled (no_class_weight q.den r) I) + (weight N (scaled (class_weight q.den r q.num) I) + weight N (scaled (class_weight q.den r (q.den - q.num)) I)) ≡ weight N I
  sides_kept q a c I is w s =
      choice_kept N q.num q.den r I is.at_most_one (let o = is.positive in omega arith) w (head_whole n r N L a _ (side_first n r N L q a c I s).tables)
      (head_whole n r N L c _ (side_second n r N L q a c I s).tables) (undecided_whole n r N L q a c I s)

  abbrev pub KeepsAll : Statements → Type 0
  KeepsAll b = (I : Table) → Within N L (block_flow n r b I) → weight N (block_flow n r b I).next + weight N (block_flow n r b I).ended ≡ weight N I

  pub kept_turns : (v : State → Value) (b : Statements) → KeepsAll b → (t : ℕ) (J : Table) → Within N L (loop_flow v (block_flow n r b) t J) →
      weight N (loop_flow v (block_flow n r b) t J).next + weight N (loop_flow v (block_flow n r b) t J).ended ≡ weight N J
  kept_turns v b h zero J s =
      let a = guard_weight N v J in
      let c = amount_append N (λ s. 1) (faults v J) (all_end (limit Turns) (only (holds v) J)) in
      let d = all_end_weight N (limit Turns) (only (holds v) J) in
      omega arith
  kept_turns v b h (suc t) J s =
      let A = only (holds v) J in
      let f = block_flow n r b A in
      let g = loop_flow v (block_flow n r b) t f.next in
      let a = guard_weight N v J in
      let x = h A (turn_inside n r N L v b t J s) in
      let y = kept_turns v b h t f.next (turns_inside n r N L v b t J s) in
      let o = amount_append N (λ s. 1) (only (fails v) J) g.next in
      let p = amount_append N (λ s. 1) (faults v J) (f.ended ++ g.ended) in
      let q = amount_append N (λ s. 1) f.ended g.ended in
      omega arith

  mutual
    pub kept_one : (st : Statement) (I : Table) → StatementIsWeighed st → Wholes N I → Wholes N (statement_flow n r st I).next → Within N L (statement_flow n r st I) →
        weight N (statement_flow n r st I).next + weight N (statement_flow n r st I).ended ≡ weight N I
    kept_one Skip I p w x s = omega arith
    kept_one (Set x e) I p w y s = set_weight N x (value_of e) I
    kept_one (Observe e) I p w x s =
        let v = value_of e in
        let a = guard_weight N v I in
        let c = amount_append N (λ s. 1) (faults v I) (all_end failed (only (fails v) I)) in
        let d = all_end_weight N failed (only (fails v) I) in
        omega arith
    kept_one (Uniform x e) I p w y s =
        let v = value_of e in
        let q = by_lists fractions_kind r x v I in
        let k = drawn_whole x v r N I w (subst (λ f. Wholes N f.next) q y) (subst (λ f. Wholes N f.ended) q s.ended) in
        let a = drawn_next x v r N (λ s. 1) I in
        let b = drawn_ended x v r N (λ x. 1) I in
        let c = drawn_kept N x v r I w k.0 k.1 in
        rw q (omega arith)
    kept_one (If e a c) I p w x s =
        let A = only (holds (value_of e)) I in
        let C = only (fails (value_of e)) I in
        let f = block_flow n r a A in
        let g = block_flow n r c C in
        let b = both_weight N (faults (value_of e) I) f g in
        let h = guard_weight N (value_of e) I in
        let x = kept_all a p.0 A (both_first N L (faults (value_of e) I) f g s) in
        let y = kept_all c p.1 C (both_second N L (faults (value_of e) I) f g s) in
        omega arith
    kept_one (Choice q a c) I p w x s =
        let A = scaled (class_weight q.den r q.num) I in
        let C = scaled (class_weight q.den r (q.den - q.num)) I in
        let Z = scaled (no_class_weight q.den r) I in
        let f = block_flow n r a A in
        let g = block_flow n r c C in
        let b = both_weight N (all_end (limit Attempts) Z) f g in
        let x = kept_all a p.1 A (side_first n r N L q a c I s) in
        let y = kept_all c p.2 C (side_second n r N L q a c I s) in
        let z = all_end_weight N (limit Attempts) Z in
        let k = sides_kept q a c I p.0 w s in
        b ∙ joined _ _ _ _ _ _ _ z x y k
      where
        joined : (l l' f f' g g' W : ℕ) → l ≡ l' → f ≡ f' → g ≡ g' → l' + (f' + g') ≡ W → l + (f + g) ≡ W
        joined l l' f f' g g' W p q r e = rw (p, q, r) e
    kept_one (Choose arms) I p w x s =
        let b = sum (parts_of arms) in
        let f = arms_flow n r b arms I in
        let Z = all_end (limit Attempts) (scaled (no_class_weight b r) I) in
        let a = amount_append N (λ s. 1) Z f.ended in
        let y = kept_arms b arms p.1 I (choose_inside n r N L arms I s) in
        let k = arms_kept arms I p.0 w s in
        omega arith
    kept_one (While e a) I p w x s = kept_turns (value_of e) a (kept_all a p) n I s

    pub kept_all : (b : Statements) → BlockIsWeighed b → KeepsAll b
    kept_all done p I s = omega arith
    kept_all (st ▸ b) p I s =
        let f = statement_flow n r st I in
        let g = block_flow n r b f.next in
        let others = others_inside n r N L st b I s in
        let x = kept_one st I p.0 s.tables.0 (head_whole n r N L b f.next others.tables) (first_inside n r N L st b I s) in
        let y = kept_all b p.1 f.next others in
        let c = amount_append N (λ s. 1) f.ended g.ended in
        omega arith

    -- each arm weighs what its part of the table does
    pub kept_arms : (b : ℕ) (arms : ArmList) → ArmsAreWeighed arms → (I : Table) → Within N L (arms_flow n r b arms I) →
        weight N (arms_flow n r b arms I).next + weight N (arms_flow n r b arms I).ended ≡ arms_weight N b r (parts_of arms) I
    kept_arms b no_arm p I s = refl
    kept_arms b (arm q a arms) p I s =
        let A = scaled (class_weight b r q) I in
        let o = both_weight N [] (block_flow n r a A) (arms_flow n r b arms I) in
        let x = kept_all a p.0 A (first_arm n r N L b q a arms I s) in
        let y = kept_arms b arms p.1 I (other_arms n r N L b q a arms I s) in
        omega arith
