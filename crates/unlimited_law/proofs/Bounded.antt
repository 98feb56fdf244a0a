-- Without a limit of attempts the ends of a block weigh at most 1, and what counts at most 1 for each end counts at most 1 of a block.
use Rattle.std.proofs.Common.{◌≡◌, ℕ, zero, suc, ◌+◌, ◌-◌, ◌≤◌, ◌<◌, ℤ, pos, negsuc, Bool, true, false, cond, List, [], ◌∷◌, Ok, Err, Option, Some, None, sym, arith, subst}
use Rattle.std.specs.Prelude.{slice_set}
use Rattle.gcl_core.specs.declared.answers.Fault.TheVariants.{BadBound}
use Rattle.gcl_core.specs.declared.answers.Limit.TheVariants.{Turns, Attempts}
use Rattle.gcl_core.specs.meaning.Arms.{parts_of}
use Rattle.gcl_core.specs.meaning.Bounds.{StatementIsWeighed, BlockIsWeighed, ArmsAreWeighed}
use Rattle.gcl_core.specs.meaning.Draw.{last_from, last_end, choice_ends, uniform_ends}
use Rattle.gcl_core.specs.meaning.Parts.{partial_sums}
use Rattle.gcl_core.specs.meaning.Syntax.{Statement, Skip, Set, If, While, Choice, Choose, Uniform, Observe, Statements, done, ◌▸◌, ArmList, no_arm, arm}
use Rattle.gcl_core.specs.meaning.Value.{State, Value, value_of, is_zero}
use Rattle.gcl_core.specs.meaning.Blocks.{End, on, failed, fault, limit, by_truth, by_class, by_side, by_end}
use Rattle.gcl_core.specs.weighing.OneDraw.{Ascends}
use Rattle.gcl_core.specs.weighing.WeightedEnds.{Weighted, sure, taken_on, class_weight, classes_from, weighted_classes, end_weighted, statement_weighted, weighted_ends}
use Rattle.gcl_core.proofs.EqualClasses.{last_of_equal}
use Rattle.gcl_core.proofs.PartialSums.{last_is, sums_ascend}
use Rattle.gcl_core.proofs.Uniform.{range_ascends}
use Rattle.table_flow.proofs.WeightedParts.{value_weighted, uniform_weighted, loop_weighted, arm_weighted}
use Rattle.unlimited_law.proofs.Numbers.{Rational, ◌⊕◌, ◌⊗◌, ◌⊑◌, ◌≃◌, nought, unit, below_trans, same_trans, add_below, times_below, factor_same, nought_below, nought_times, times_unit, add_nought}
use Rattle.unlimited_law.proofs.FractionNumbers.{of, of_zero, of_join, of_full}
use Rattle.unlimited_law.proofs.Integrals.{integral, integral_append, integral_sure, integral_taken}

abbrev pub Small : {A : Type 0} → (A → Rational) → Type 0
Small {A} F = (a : A) → F a ⊑ unit

-- what follows an end, counted
abbrev pub onward : (End → Rational) → (State → Weighted End) → End → Rational
onward H k e = integral H (by_end e sure k)

-- ---- a draw
last_above : (c : ℕ) (ends : List ℕ) → Ascends c ends → c ≤ last_from c ends
last_above c [] up = omega arith
last_above c (d ∷ ends) up = let h = last_above d ends up.1 in let k = up.0 in omega arith

classes_small : (b i c : ℕ) (ends : List ℕ) → 0 < b → Ascends c ends → (F : Option ℕ → Rational) → Small F →
    integral F (classes_from (class_weight b None) i c ends) ⊑ of (last_from c ends - c, b)
classes_small b i c [] some up F h = nought_below _
classes_small b i c (d ∷ ends) some up F h =
    let rest = classes_small b (i + 1) d ends some up.1 F h in
    let first : of (d - c, b) ⊗ F (Some i) ⊑ of (d - c, b) = below_trans (times_below (of (d - c, b)) (h (Some i))) (times_unit (of (d - c, b))).below in
    let e : d - c + (last_from d ends - d) ≡ last_from d ends - c = let l = last_above d ends up.1 in let k = up.0 in omega arith in
    below_trans (add_below first rest) (subst (λ x. of (d - c, b) ⊕ of (last_from d ends - d, b) ⊑ of (x, b)) e (of_join (d - c) (last_from d ends - d) b some).below)

pub draw_small : (ends : List ℕ) → 0 < last_end ends → Ascends 0 ends → (F : Option ℕ → Rational) → Small F → integral F (weighted_classes ends None) ⊑ unit
draw_small ends some up F h =
    let b = last_end ends in
    let a = integral_append F (classes_from (class_weight b None) 0 0 ends) (((0, 1), None) ∷ []) in
    let last : integral F (((0, 1), None) ∷ []) ≃ nought = same_trans (add_nought (of (0, 1) ⊗ F None)) (same_trans (factor_same (F None) (of_zero 1)) (nought_times (F None))) in
    let e : b - 0 ≡ b = omega arith in
    let all : integral F (classes_from (class_weight b None) 0 0 ends) ⊑ unit =
    below_trans (classes_small b 0 0 ends some up F h) (subst (λ x. of (x, b) ⊑ unit) (sym e) (of_full b some).below) in
    below_trans a.below (below_trans (add_below all last.below) (add_nought unit).below)

-- ---- going on by cases
module _ (H : End → Rational) (small : Small H) where
  pub sure_small : (x : End) → integral H (sure x) ⊑ unit
  sure_small x = below_trans (integral_sure H x).below (small x)

  pub value_small : (v : Value) (k : ℤ → Weighted End) → ((z : ℤ) → integral H (k z) ⊑ unit) → integral H (value_weighted v k) ⊑ unit
  value_small (Ok z) k h = h z
  value_small (Err f) k h = sure_small (fault f)

  pub truth_small : (z : ℤ) (m n : Weighted End) → integral H m ⊑ unit → integral H n ⊑ unit → integral H (by_truth z m n) ⊑ unit
  truth_small z m n p q = by_test (is_zero z)
    where
      by_test : (b : Bool) → integral H (cond b n m) ⊑ unit
      by_test true = q
      by_test false = p

  pub onward_small : (k : State → Weighted End) → ((s : State) → integral H (k s) ⊑ unit) → Small (onward H k)
  onward_small k h (on s) = h s
  onward_small k h failed = sure_small failed
  onward_small k h (fault f) = sure_small (fault f)
  onward_small k h (limit l) = sure_small (limit l)

  side_small : (i : ℕ) (m n : Weighted End) → integral H m ⊑ unit → integral H n ⊑ unit → integral H (by_side i m n) ⊑ unit
  side_small zero m n p q = p
  side_small (suc i) m n p q = q

  class_small : (o : Option ℕ) (k : ℕ → Weighted End) → ((i : ℕ) → integral H (k i) ⊑ unit) → integral H (by_class o (sure (limit Attempts)) k) ⊑ unit
  class_small None k h = sure_small (limit Attempts)
  class_small (Some i) k h = h i

  drawn_small : (ends : List ℕ) → 0 < last_end ends → Ascends 0 ends → (k : ℕ → Weighted End) → ((i : ℕ) → integral H (k i) ⊑ unit) →
      integral H (taken_on (weighted_classes ends None) (λ class. by_class class (sure (limit Attempts)) k)) ⊑ unit
  drawn_small ends some up k h =
      below_trans (integral_taken H (weighted_classes ends None) (λ class. by_class class (sure (limit Attempts)) k)).below
      (draw_small ends some up (λ class. integral H (by_class class (sure (limit Attempts)) k)) (λ o. class_small o k h))

  uniform_small : (x : ℕ) (z : ℤ) (s : State) → integral H (uniform_weighted None x z s) ⊑ unit
  uniform_small x (pos zero) s = sure_small (fault BadBound)
  uniform_small x (negsuc m) s = sure_small (fault BadBound)
  uniform_small x (pos (suc m)) s =
      let e = last_of_equal (suc m) in
      drawn_small (uniform_ends (suc m)) (omega arith) (range_ascends 0 (suc m)) (λ i. sure (on (slice_set s x (pos i)))) (λ i. sure_small (on (slice_set s x (pos i))))

-- whatever counts at most 1 for each end
abbrev pub KeepsSmall : Weighted End → Type 0
KeepsSmall m = (H : End → Rational) → Small H → integral H m ⊑ unit

pub then_small : (m : Weighted End) (k : State → Weighted End) → KeepsSmall m → ((s : State) → KeepsSmall (k s)) → KeepsSmall (end_weighted m k)
then_small m k p q H h = below_trans (integral_taken H m (λ e. by_end e sure k)).below (p (onward H k) (onward_small H h k (λ s. q s H h)))

pub turns_small : (v : State → Value) (body : State → Weighted End) → ((s : State) → KeepsSmall (body s)) → (t : ℕ) (s : State) → KeepsSmall (loop_weighted v body t s)
turns_small v body p zero s H h = value_small H h (v s) _ (λ z. truth_small H h z _ _ (sure_small H h (limit Turns)) (sure_small H h (on s)))
turns_small v body p (suc t) s H h =
    value_small H h (v s) _ (λ z. truth_small H h z _ _ (then_small (body s) (loop_weighted v body t) (p s) (turns_small v body p t) H h) (sure_small H h (on s)))

-- ---- statements
module _ (n : ℕ) where
  mutual
    pub statement_small : (st : Statement) → StatementIsWeighed st → (s : State) → KeepsSmall (statement_weighted n None st s)
    statement_small Skip w s H h = sure_small H h (on s)
    statement_small (Set x e) w s H h = value_small H h (value_of e s) _ (λ z. sure_small H h (on (slice_set s x z)))
    statement_small (Observe e) w s H h = value_small H h (value_of e s) _ (λ z. truth_small H h z _ _ (sure_small H h (on s)) (sure_small H h failed))
    statement_small (Uniform x e) w s H h = value_small H h (value_of e s) _ (λ z. uniform_small H h x z s)
    statement_small (If e a c) w s H h = value_small H h (value_of e s) _ (λ z. truth_small H h z _ _ (block_small a w.0 s H h) (block_small c w.1 s H h))
    statement_small (Choice q a c) w s H h =
        let some : 0 < q.den = let o = w.0.positive in omega arith in
        drawn_small H h (choice_ends q) some (omega arith, (w.0.at_most_one, tt)) (λ i. by_side i (weighted_ends n None a s) (weighted_ends n None c s))
        (λ i. side_small H h i _ _ (block_small a w.1 s H h) (block_small c w.2 s H h))
    statement_small (Choose arms) w s H h =
        let ends = partial_sums (parts_of arms) in
        let some : 0 < last_end ends = let o = w.0.positive in let e = last_is (parts_of arms) in omega arith in
        drawn_small H h ends some (sums_ascend 0 (parts_of arms)) (λ i. arm_weighted n None arms i s) (λ i. arm_small arms i s w.1 H h)
    statement_small (While e a) w s H h = turns_small (value_of e) (weighted_ends n None a) (block_small a w) n s H h

    pub block_small : (b : Statements) → BlockIsWeighed b → (s : State) → KeepsSmall (weighted_ends n None b s)
    block_small done w s H h = sure_small H h (on s)
    block_small (st ▸ b) w s H h = then_small (statement_weighted n None st s) (weighted_ends n None b) (statement_small st w.0 s) (block_small b w.1) H h

    arm_small : (arms : ArmList) (i : ℕ) (s : State) → ArmsAreWeighed arms → KeepsSmall (arm_weighted n None arms i s)
    arm_small no_arm i s w H h = sure_small H h (on s)
    arm_small (arm p b arms) zero s w H h = block_small b w.0 s H h
    arm_small (arm p b arms) (suc i) s w H h = arm_small arms i s w.1 H h
