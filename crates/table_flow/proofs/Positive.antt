-- The fractions of a flow have denominators of at least 1.
use Rattle.std.proofs.Common.{ℕ, zero, suc, ◌+◌, ◌-◌, ◌<◌, ℤ, pos, negsuc, Bool, true, false, cond, List, [], ◌∷◌, ◌++◌, Ok, Err, Option, None, Some, sym, subst, arith, slice_set}
use Rattle.gcl_core.specs.declared.answers.Limit.TheVariants.{Attempts}
use Rattle.gcl_core.specs.meaning.Syntax.{Statement, Statements, ArmList}
use Rattle.gcl_core.specs.meaning.Bounds.{StatementIsWeighed, BlockIsWeighed, ArmsAreWeighed}
use Rattle.gcl_core.specs.meaning.Value.{State, Value, is_zero}
use Rattle.gcl_core.specs.meaning.Draw.{last_end, uniform_ends}
use Rattle.gcl_core.specs.meaning.Blocks.{on, failed, limit, by_truth, by_class}
use Rattle.gcl_core.specs.weighing.Fractions.{Fraction}
use Rattle.gcl_core.specs.weighing.WeightedEnds.{Weighted, sure, scaled, taken_on, class_weight, no_class_weight, classes_from, weighted_classes}
use Rattle.table_flow.proofs.WeightedParts.{uniform_weighted, value_weighted}
use Rattle.gcl_core.proofs.EqualClasses.{last_of_equal}
use Rattle.numbers.proofs.Divisors.{product_pos}
use Rattle.table_flow.specs.Tables.{Table, Flow, weighted, fractions_kind, only, statement_flow, block_flow, draws_each, draw_weights}
use Rattle.table_flow.specs.Width.{weights, table_weights, fractions}
use Rattle.table_flow.proofs.FlowWords.{arms_flow, drawn_each}
use Rattle.table_flow.proofs.Denominators.{AllPositive}
use Rattle.table_flow.proofs.EachMember.{Each, each_append}
use Rattle.table_flow.proofs.KeptEntries.{FlowHas, KeepsEntries, only_keeps, end_keeps, statement_kept, block_kept, arms_kept}
use Rattle.table_flow.proofs.Draws.{class_pos, no_class_pos}

abbrev pub HasPositive : {A : Type 0} → Fraction × A → Type 0
HasPositive e = 0 < e.0.1

abbrev pub Positive : {A : Type 0} → Weighted A → Type 0
Positive = Each HasPositive

-- and the draw has a part
abbrev pub IsPositiveDraw : Fraction × List ℕ → Type 0
IsPositiveDraw d = (0 < d.0.1) × (0 < last_end d.1)

abbrev pub FlowPositive : Flow → Type 0
FlowPositive = FlowHas HasPositive HasPositive (λ w. 0 < w.1) IsPositiveDraw

pub p_append : {A : Type 0} (m n : Weighted A) → Positive m → Positive n → Positive (m ++ n)
p_append = each_append HasPositive

pub a_append : (m n : List Fraction) → AllPositive m → AllPositive n → AllPositive (m ++ n)
a_append = each_append (λ w. 0 < w.1)

pub p_scaled : {A : Type 0} (w : Fraction) (m : Weighted A) → 0 < w.1 → Positive m → Positive (scaled w m)
p_scaled (zero, d) m h k = tt
p_scaled (suc n, d) [] h k = tt
p_scaled (suc n, d) (e ∷ m) h k = (product_pos d e.0.1 h k.0, p_scaled (suc n, d) m h k.1)

pub p_taken : {A B : Type 0} (m : Weighted A) (k : A → Weighted B) → Positive m → ((a : A) → Positive (k a)) → Positive (taken_on m k)
p_taken [] k h g = tt
p_taken (e ∷ m) k h g = p_append (scaled e.0 (k e.1)) (taken_on m k) (p_scaled e.0 (k e.1) h.0 (g e.1)) (p_taken m k h.1 g)

pub p_sure : {A : Type 0} (x : A) → Positive (sure x)
p_sure x = (omega arith, tt)

pub p_only : (test : State → Bool) (I : Table) → Positive I → Positive (only test I)
p_only = only_keeps weighted HasPositive

p_classes : (weight : ℕ → Fraction) (i c : ℕ) (ends : List ℕ) → ((a : ℕ) → 0 < (weight a).1) → Positive (classes_from weight i c ends)
p_classes weight i c [] h = tt
p_classes weight i c (d ∷ ends) h = (h (d - c), p_classes weight (i + 1) d ends h)

pub p_draw : (ends : List ℕ) (r : Option ℕ) → 0 < last_end ends → Positive (weighted_classes ends r)
p_draw ends r h = p_append (classes_from (class_weight (last_end ends) r) 0 0 ends) _ (p_classes (class_weight (last_end ends) r) 0 0 ends (λ a. class_pos (last_end ends) r a h)) (no_class_pos (last_end ends) r, tt)

draws_positive : (b : ℕ) (r : Option ℕ) → 0 < b → AllPositive (draw_weights b r)
draws_positive b r h = (class_pos b r 1 h, (no_class_pos b r, tt))

each_positive : (ws : List Fraction) (I : Table) → AllPositive ws → AllPositive (draws_each ws I)
each_positive ws [] h = tt
each_positive ws (e ∷ I) h = a_append ws (draws_each ws I) h (each_positive ws I h)

each_reached : (ends : List ℕ) → 0 < last_end ends → (I : Table) → Positive I → Each IsPositiveDraw (drawn_each ends I)
each_reached ends some [] h = tt
each_reached ends some (e ∷ I) h = ((h.0, some), each_reached ends some I h.1)

pub alone : (0 < 1) × Unit {0}
alone = (omega arith, tt)

module _ (n : ℕ) (r : Option ℕ) where
  pub p_set : (x : ℕ) (v : Value) (s : State) → Positive (value_weighted v (λ z. sure (on (slice_set s x z))))
  p_set x (Ok z) s = alone
  p_set x (Err f) s = alone

  p_truth : (b : Bool) (s : State) → Positive (cond b (sure failed) (sure (on s)))
  p_truth true s = alone
  p_truth false s = alone

  pub p_seen : (v : Value) (s : State) → Positive (value_weighted v (λ z. by_truth z (sure (on s)) (sure failed)))
  p_seen (Ok z) s = p_truth (is_zero z) s
  p_seen (Err f) s = alone

  p_class : (x : ℕ) (s : State) (class : Option ℕ) → Positive (by_class class (sure (limit Attempts)) (λ i. sure (on (slice_set s x (pos i)))))
  p_class x s None = alone
  p_class x s (Some i) = alone

  p_uniform : (x : ℕ) (z : ℤ) (s : State) → Positive (uniform_weighted r x z s)
  p_uniform x (pos zero) s = alone
  p_uniform x (pos (suc m)) s =
      p_taken (weighted_classes (uniform_ends (suc m)) r) _ (p_draw (uniform_ends (suc m)) r (subst (λ k. 0 < k) (sym (last_of_equal (suc m))) (omega arith))) (p_class x s)
  p_uniform x (negsuc m) s = alone

  pub p_drawn : (x : ℕ) (v : Value) (s : State) → Positive (value_weighted v (λ z. uniform_weighted r x z s))
  p_drawn x (Ok z) s = p_uniform x z s
  p_drawn x (Err f) s = alone

-- ---- flows
positive_kept : (r : Option ℕ) → KeepsEntries fractions_kind r StatementIsWeighed BlockIsWeighed ArmsAreWeighed (λ b. 0 < b) HasPositive HasPositive (λ w. 0 < w.1) IsPositiveDraw
positive_kept r = record {
  asked = record {
    block = λ st b h. h;
    guarded = λ e a c h. h;
    choice = λ p a c h. (h.1, h.2);
    choose = λ arms h. h.1;
    arms = λ p a arms h. h;
    loop = λ e a h. h;
  };
  tidy = λ I h. h;
  at_loop = λ I h. (h, tt);
  faulty = λ f e h. h;
  failing = λ e h. h;
  turns = λ v a w e h. h;
  set = λ i v w e h z q. h;
  drawn = λ i v w e h b q m le d g. g;
  number = λ m. omega arith;
  choice = λ p a c w. let o = w.0.positive in omega arith;
  choose = λ arms w. let o = w.0.positive in omega arith;
  class = λ b d c I h. p_scaled (class_weight b r c) I (class_pos b r c d) h;
  rest = λ b d I h. end_keeps weighted HasPositive HasPositive (limit Attempts) (λ e p. p) (scaled (no_class_weight b r) I) (p_scaled (no_class_weight b r) I (no_class_pos b r) h);
  shown = λ b d I h. each_positive (draw_weights b r) I (draws_positive b r d);
  reached = λ ends d I h. each_reached ends d I h;
}

pub p_one : (n : ℕ) (r : Option ℕ) (st : Statement) (I : Table) → StatementIsWeighed st → Positive I → FlowPositive (statement_flow n r st I)
p_one n r st I w = statement_kept (positive_kept r) n st w I

pub p_all : (n : ℕ) (r : Option ℕ) (b : Statements) (I : Table) → BlockIsWeighed b → Positive I → FlowPositive (block_flow n r b I)
p_all n r b I w = block_kept (positive_kept r) n b w I

pub p_arms : (n : ℕ) (r : Option ℕ) (b : ℕ) → 0 < b → (arms : ArmList) (I : Table) → ArmsAreWeighed arms → Positive I → FlowPositive (arms_flow n r b arms I)
p_arms n r b d arms I w = arms_kept (positive_kept r) n b d arms w I

pub weights_positive : {A : Type 0} (m : Weighted A) → Positive m → AllPositive (weights m)
weights_positive [] h = tt
weights_positive (e ∷ m) h = (h.0, weights_positive m h.1)

tables_positive : (Is : List Table) → Each Positive Is → AllPositive (table_weights Is)
tables_positive [] h = tt
tables_positive (I ∷ Is) h = a_append (weights I) (table_weights Is) (weights_positive I h.0) (tables_positive Is h.1)

pub fractions_positive : (f : Flow) → FlowPositive f → AllPositive (fractions f)
fractions_positive f h = a_append (table_weights f.tables) _ (tables_positive f.tables h.tables) (a_append (weights f.ended) f.draws (weights_positive f.ended h.ended) h.draws)
