-- No end of a block has weight 0, and no entry of a table, nor of a point.
use Rattle.std.proofs.Common.{ℕ, zero, suc, ◌-◌, ◌<◌, Bool, true, false, cond, List, [], ◌∷◌, ◌++◌, Ok, Err, Option, None, Some, arith}
use Rattle.std.specs.List.{sum}
use Rattle.gcl_core.specs.declared.answers.Limit.TheVariants.{Attempts}
use Rattle.gcl_core.specs.meaning.Arms.{parts_of}
use Rattle.gcl_core.specs.meaning.Blocks.{End, on, failed, fault, limit, by_value, by_truth, by_class, by_side, by_end}
use Rattle.gcl_core.specs.meaning.Draw.{choice_ends, uniform_ends}
use Rattle.gcl_core.specs.meaning.Parts.{partial_sums}
use Rattle.gcl_core.specs.meaning.Syntax.{Statement, Skip, Set, If, While, Choice, Choose, Uniform, Observe, Statements, done, ◌▸◌, ArmList, no_arm, arm}
use Rattle.gcl_core.specs.meaning.Value.{State, Value, value_of, is_zero}
use Rattle.gcl_core.specs.weighing.Fractions.{Fraction}
use Rattle.gcl_core.specs.weighing.WeightedEnds.{Weighted, sure, scaled, taken_on, class_weight, no_class_weight, weighted_classes, statement_weighted, weighted_ends}
use Rattle.std.specs.Prelude.{ℤ, pos, negsuc, slice_set}
use Rattle.numbers.proofs.Divisors.{product_pos}
use Rattle.table_flow.specs.Tables.{Table, weighted, fractions_kind, draw_weights, draws_each, block_flow}
use Rattle.table_flow.proofs.EachMember.{Each, Anything, each_append, each_anything}
use Rattle.table_flow.proofs.KeptEntries.{KeepsEntries, nothing_asked, only_keeps, end_keeps, block_kept}
use Rattle.table_flow.proofs.WeightedParts.{loop_weighted, arm_weighted, value_weighted, uniform_weighted}
use Rattle.units_law.specs.Points.{Point, going_on, those, where_true, loop_points, statement_points, block_points, arms_points}

abbrev pub HasWeight : {A : Type 0} → Fraction × A → Type 0
HasWeight e = 0 < e.0.0

abbrev pub HaveWeight : {A : Type 0} → Weighted A → Type 0
HaveWeight = Each HasWeight

joined : {A : Type 0} (m n : Weighted A) → HaveWeight m → HaveWeight n → HaveWeight (m ++ n)
joined = each_append HasWeight

scaled_have : {A : Type 0} (w : Fraction) (m : Weighted A) → HaveWeight m → HaveWeight (scaled w m)
scaled_have (zero, d) m h = tt
scaled_have (suc n, d) [] h = tt
scaled_have (suc n, d) (e ∷ m) h = (product_pos (suc n) e.0.0 (omega arith) h.0, scaled_have (suc n, d) m h.1)

taken_have : {A B : Type 0} (m : Weighted A) (k : A → Weighted B) → ((a : A) → HaveWeight (k a)) → HaveWeight (taken_on m k)
taken_have [] k h = tt
taken_have (e ∷ m) k h = joined (scaled e.0 (k e.1)) (taken_on m k) (scaled_have e.0 (k e.1) (h e.1)) (taken_have m k h)

alone : (0 < 1) × Unit {0}
alone = (omega arith, tt)

-- ---- the ends of a block
go_on : (e : End) (k : State → Weighted End) → ((s : State) → HaveWeight (k s)) → HaveWeight (by_end e sure k)
go_on (on s) k h = h s
go_on failed k h = alone
go_on (fault f) k h = alone
go_on (limit l) k h = alone

by_test : (b : Bool) (m o : Weighted End) → HaveWeight m → HaveWeight o → HaveWeight (cond b o m)
by_test true m o h k = k
by_test false m o h k = h

by_number_of : (v : Value) (k : ℤ → Weighted End) → ((z : ℤ) → HaveWeight (k z)) → HaveWeight (value_weighted v k)
by_number_of (Ok z) k h = h z
by_number_of (Err f) k h = alone

by_guard : (v : Value) (m o : Weighted End) → HaveWeight m → HaveWeight o → HaveWeight (value_weighted v (λ z. by_truth z m o))
by_guard v m o h k = by_number_of v (λ z. by_truth z m o) (λ z. by_test (is_zero z) m o h k)

by_number : (i : ℕ) (m o : Weighted End) → HaveWeight m → HaveWeight o → HaveWeight (by_side i m o)
by_number zero m o h k = h
by_number (suc i) m o h k = k

by_classes : (class : Option ℕ) (k : ℕ → Weighted End) → ((i : ℕ) → HaveWeight (k i)) → HaveWeight (by_class class (sure (limit Attempts)) k)
by_classes None k h = alone
by_classes (Some i) k h = h i

module _ (n : ℕ) (r : Option ℕ) where
  draw_has : (ends : List ℕ) (k : ℕ → Weighted End) → ((i : ℕ) → HaveWeight (k i)) → HaveWeight (taken_on (weighted_classes ends r) (λ class. by_class class (sure (limit Attempts)) k))
  draw_has ends k h = taken_have (weighted_classes ends r) (λ class. by_class class (sure (limit Attempts)) k) (λ class. by_classes class k h)

  uniform_has : (x : ℕ) (z : ℤ) (s : State) → HaveWeight (uniform_weighted r x z s)
  uniform_has x (pos zero) s = alone
  uniform_has x (pos (suc m)) s = draw_has (uniform_ends (suc m)) (λ i. sure (on (slice_set s x (pos i)))) (λ i. alone)
  uniform_has x (negsuc m) s = alone

  turns_have : (v : State → Value) (body : State → Weighted End) (t : ℕ) (s : State) → HaveWeight (loop_weighted v body t s)
  turns_have v body zero s = by_guard (v s) _ _ alone alone
  turns_have v body (suc t) s = by_guard (v s) _ _ (taken_have (body s) _ (λ e. go_on e (loop_weighted v body t) (turns_have v body t))) alone

  mutual
    pub statement_has : (st : Statement) (s : State) → HaveWeight (statement_weighted n r st s)
    statement_has Skip s = alone
    statement_has (Set x e) s = by_number_of (value_of e s) _ (λ z. alone)
    statement_has (Observe e) s = by_guard (value_of e s) _ _ alone alone
    statement_has (Uniform x e) s = by_number_of (value_of e s) _ (λ z. uniform_has x z s)
    statement_has (If e a c) s = by_guard (value_of e s) _ _ (block_has a s) (block_has c s)
    statement_has (Choice q a c) s = draw_has (choice_ends q) _ (λ i. by_number i (weighted_ends n r a s) (weighted_ends n r c s) (block_has a s) (block_has c s))
    statement_has (Choose arms) s = draw_has (partial_sums (parts_of arms)) (λ i. arm_weighted n r arms i s) (λ i. arm_has arms i s)
    statement_has (While e a) s = turns_have (value_of e) (weighted_ends n r a) n s

    pub block_has : (b : Statements) (s : State) → HaveWeight (weighted_ends n r b s)
    block_has done s = alone
    block_has (st ▸ b) s = taken_have (statement_weighted n r st s) _ (λ e. go_on e (weighted_ends n r b) (λ s. block_has b s))

    arm_has : (arms : ArmList) (i : ℕ) (s : State) → HaveWeight (arm_weighted n r arms i s)
    arm_has no_arm i s = alone
    arm_has (arm p b arms) zero s = block_has b s
    arm_has (arm p b arms) (suc i) s = arm_has arms i s

-- ---- points
going_have : (m : Weighted End) → HaveWeight m → HaveWeight (going_on m)
going_have [] h = tt
going_have ((w, on s) ∷ m) h = (h.0, going_have m h.1)
going_have ((w, failed) ∷ m) h = going_have m h.1
going_have ((w, fault f) ∷ m) h = going_have m h.1
going_have ((w, limit l) ∷ m) h = going_have m h.1

next_has : (I : Point) (k : State → Weighted End) → ((s : State) → HaveWeight (k s)) → HaveWeight (going_on (taken_on I k))
next_has I k h = going_have (taken_on I k) (taken_have I k h)

those_have : (test : ℤ → Bool) (v : State → Value) (I : Point) → HaveWeight I → HaveWeight (those test v I)
those_have test v = only_keeps weighted HasWeight (λ s. by_value (v s) (λ f. false) test)

abbrev pub AllHaveWeight : List Point → Type 0
AllHaveWeight = Each HaveWeight

all_joined : (Is Js : List Point) → AllHaveWeight Is → AllHaveWeight Js → AllHaveWeight (Is ++ Js)
all_joined = each_append HaveWeight

module _ (n : ℕ) (r : Option ℕ) where
  loop_points_have : (v : State → Value) (b : Statements) → ((I : Point) → HaveWeight I → AllHaveWeight (block_points n r b I)) → (t : ℕ) (I : Point) → HaveWeight I →
      AllHaveWeight (loop_points v (block_points n r b) (weighted_ends n r b) t I)
  loop_points_have v b g zero I h = (h, tt)
  loop_points_have v b g (suc t) I h =
      let J = where_true v I in (
        h,
        all_joined (block_points n r b J) _ (g J (those_have _ v I h))
            (loop_points_have v b g t (going_on (taken_on J (weighted_ends n r b))) (next_has J (weighted_ends n r b) (block_has n r b))),
      )

  mutual
    statement_points_have : (st : Statement) (I : Point) → HaveWeight I → AllHaveWeight (statement_points n r st I)
    statement_points_have Skip I h = tt
    statement_points_have (Set x e) I h = tt
    statement_points_have (Observe e) I h = tt
    statement_points_have (Uniform x e) I h = tt
    statement_points_have (If e a c) I h =
        all_joined (block_points n r a (where_true (value_of e) I)) _ (block_points_have a _ (those_have _ (value_of e) I h)) (block_points_have c _ (those_have is_zero (value_of e) I h))
    statement_points_have (Choice p a c) I h =
        all_joined (block_points n r a (scaled (class_weight p.den r p.num) I)) _ (block_points_have a _ (scaled_have (class_weight p.den r p.num) I h))
        (block_points_have c _ (scaled_have (class_weight p.den r (p.den - p.num)) I h))
    statement_points_have (Choose arms) I h = arms_points_have (sum (parts_of arms)) arms I h
    statement_points_have (While e a) I h = loop_points_have (value_of e) a (block_points_have a) n I h

    pub block_points_have : (b : Statements) (I : Point) → HaveWeight I → AllHaveWeight (block_points n r b I)
    block_points_have done I h = (h, tt)
    block_points_have (st ▸ b) I h = (
      h,
      all_joined (statement_points n r st I) _ (statement_points_have st I h)
          (block_points_have b (going_on (taken_on I (statement_weighted n r st))) (next_has I (statement_weighted n r st) (statement_has n r st))),
    )

    arms_points_have : (b : ℕ) (arms : ArmList) (I : Point) → HaveWeight I → AllHaveWeight (arms_points n r b arms I)
    arms_points_have b no_arm I h = tt
    arms_points_have b (arm p a arms) I h =
        all_joined (block_points n r a (scaled (class_weight b r p) I)) _ (block_points_have a _ (scaled_have (class_weight b r p) I h)) (arms_points_have b arms I h)

-- ---- tables
weight_kept : (r : Option ℕ) → KeepsEntries fractions_kind r Anything Anything Anything Anything HasWeight Anything Anything Anything
weight_kept r = record {
  asked = nothing_asked;
  tidy = λ I h. h;
  at_loop = λ I h. (h, tt);
  faulty = λ f e h. tt;
  failing = λ e h. tt;
  turns = λ v a s e h. tt;
  set = λ i v s e h z q. h;
  drawn = λ i v s e h b q m le d g. g;
  number = λ m. tt;
  choice = λ p a c s. tt;
  choose = λ arms s. tt;
  class = λ b d c I h. scaled_have (class_weight b r c) I h;
  rest = λ b d I h. end_keeps weighted Anything Anything (limit Attempts) (λ e p. tt) (scaled (no_class_weight b r) I) (each_anything (scaled (no_class_weight b r) I));
  shown = λ b d I h. each_anything (draws_each (draw_weights b r) I);
  reached = λ ends d I h. each_anything (fractions_kind.reached ends I);
}

pub tables_have : (n : ℕ) (r : Option ℕ) (b : Statements) (I : Table) → HaveWeight I → AllHaveWeight (block_flow n r b I).tables
tables_have n r b I h = (block_kept (weight_kept r) n b tt I h).tables
