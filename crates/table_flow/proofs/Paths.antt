-- The weighted ends of a block have denominators of at least 1, and so has each sum of them.
use Rattle.std.proofs.Common.{ℕ, zero, suc, ◌<◌, Bool, true, false, cond, [], ◌∷◌, Ok, Err, Option, None, Some, arith}
use Rattle.gcl_core.specs.declared.answers.Limit.TheVariants.{Turns, Attempts}
use Rattle.gcl_core.specs.meaning.Syntax.{Statement, Skip, Set, If, While, Choice, Choose, Uniform, Observe, Statements, done, ◌▸◌, ArmList, no_arm, arm}
use Rattle.gcl_core.specs.meaning.Bounds.{StatementIsWeighed, BlockIsWeighed, ArmsAreWeighed}
use Rattle.gcl_core.specs.meaning.Arms.{parts_of}
use Rattle.gcl_core.specs.meaning.Draw.{last_end, choice_ends}
use Rattle.gcl_core.specs.meaning.Parts.{partial_sums}
use Rattle.gcl_core.specs.meaning.Value.{State, Value, value_of, is_zero}
use Rattle.gcl_core.specs.meaning.Blocks.{End, on, failed, fault, limit, by_truth, by_class, by_side, by_end}
use Rattle.gcl_core.specs.weighing.Fractions.{plus}
use Rattle.gcl_core.specs.weighing.Mass.{sum_of}
use Rattle.gcl_core.specs.weighing.WeightedEnds.{Weighted, sure, weighted_classes, statement_weighted, weighted_ends}
use Rattle.table_flow.proofs.WeightedParts.{loop_weighted, arm_weighted, value_weighted}
use Rattle.numbers.proofs.Divisors.{product_pos}
use Rattle.gcl_core.proofs.PartialSums.{last_is}
use Rattle.table_flow.proofs.Positive.{Positive, p_taken, p_sure, p_draw, p_set, p_seen, p_drawn, alone}

go_on : (e : End) (k : State → Weighted End) → ((s : State) → Positive (k s)) → Positive (by_end e sure k)
go_on (on s) k h = h s
go_on failed k h = alone
go_on (fault f) k h = alone
go_on (limit l) k h = alone

by_test : (b : Bool) (m o : Weighted End) → Positive m → Positive o → Positive (cond b o m)
by_test true m o h k = k
by_test false m o h k = h

by_guard : (v : Value) (m o : Weighted End) → Positive m → Positive o → Positive (value_weighted v (λ z. by_truth z m o))
by_guard (Ok z) m o h k = by_test (is_zero z) m o h k
by_guard (Err f) m o h k = alone

by_number : (i : ℕ) (m o : Weighted End) → Positive m → Positive o → Positive (by_side i m o)
by_number zero m o h k = h
by_number (suc i) m o h k = k

by_classes : (class : Option ℕ) (k : ℕ → Weighted End) → ((i : ℕ) → Positive (k i)) → Positive (by_class class (sure (limit Attempts)) k)
by_classes None k h = alone
by_classes (Some i) k h = h i

module _ (n : ℕ) (r : Option ℕ) where
  turns_positive : (v : State → Value) (body : State → Weighted End) → ((s : State) → Positive (body s)) → (t : ℕ) (s : State) → Positive (loop_weighted v body t s)
  turns_positive v body h zero s = by_guard (v s) _ _ (p_sure (limit Turns)) (p_sure (on s))
  turns_positive v body h (suc t) s =
      by_guard (v s) _ _ (p_taken (body s) _ (h s) (λ e. go_on e (loop_weighted v body t) (turns_positive v body h t))) (p_sure (on s))

  mutual
    pub statement_positive : (st : Statement) (s : State) → StatementIsWeighed st → Positive (statement_weighted n r st s)
    statement_positive Skip s w = p_sure (on s)
    statement_positive (Set x e) s w = p_set n r x (value_of e s) s
    statement_positive (Observe e) s w = p_seen n r (value_of e s) s
    statement_positive (Uniform x e) s w = p_drawn n r x (value_of e s) s
    statement_positive (If e a c) s w = by_guard (value_of e s) _ _ (ends_positive a s w.0) (ends_positive c s w.1)
    statement_positive (Choice q a c) s w =
        let h : 0 < q.den = let o = w.0.positive in omega arith in
        p_taken (weighted_classes (choice_ends q) r) _ (p_draw (choice_ends q) r h)
        (λ class. by_classes class _ (λ i. by_number i (weighted_ends n r a s) (weighted_ends n r c s) (ends_positive a s w.1) (ends_positive c s w.2)))
    statement_positive (Choose arms) s w =
        let ends = partial_sums (parts_of arms) in
        let h : 0 < last_end ends = let o = w.0.positive in let e = last_is (parts_of arms) in omega arith in
        p_taken (weighted_classes ends r) _ (p_draw ends r h) (λ class. by_classes class (λ i. arm_weighted n r arms i s) (λ i. arm_positive arms i s w.1))
    statement_positive (While e a) s w = turns_positive (value_of e) (weighted_ends n r a) (λ s. ends_positive a s w) n s

    pub ends_positive : (b : Statements) (s : State) → BlockIsWeighed b → Positive (weighted_ends n r b s)
    ends_positive done s w = p_sure (on s)
    ends_positive (st ▸ b) s w = p_taken (statement_weighted n r st s) _ (statement_positive st s w.0) (λ e. go_on e (weighted_ends n r b) (λ s. ends_positive b s w.1))

    arm_positive : (arms : ArmList) (i : ℕ) (s : State) → ArmsAreWeighed arms → Positive (arm_weighted n r arms i s)
    arm_positive no_arm i s w = p_sure (on s)
    arm_positive (arm p b arms) zero s w = ends_positive b s w.0
    arm_positive (arm p b arms) (suc i) s w = arm_positive arms i s w.1

pub sum_positive : {A : Type 0} (is : A → Bool) (m : Weighted A) → Positive m → 0 < (sum_of is m).1
sum_positive is [] h = omega arith
sum_positive is (e ∷ m) h = by (is e.1) (sum_positive is m h.1)
  where
    by : (b : Bool) → 0 < (sum_of is m).1 → 0 < (cond b (plus e.0 (sum_of is m)) (sum_of is m)).1
    by true i = product_pos e.0.1 (sum_of is m).1 h.0 i
    by false i = i
