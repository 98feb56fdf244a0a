-- The bits of the draws that a table reaches, with those read after it in the table that it leaves, are those that the statements let
-- expect.
use Rattle.std.proofs.Common.{◌≡◌, ℕ, zero, suc, ◌+◌, ◌-◌, ◌*◌, ◌<◌, ℤ, pos, negsuc, Bool, true, false, cond, List, [], ◌∷◌, ◌++◌, map, Ok, Err, Option, Some, None, refl, sym, ap, ◌∙◌, subst, arith}
use Rattle.std.specs.Prelude.{slice_set}
use Rattle.std.proofs.Math.Path.{fun_ext}
use Rattle.std.specs.List.{sum}
use Rattle.gcl_core.specs.meaning.Syntax.{Statement, Skip, Set, If, While, Choice, Choose, Uniform, Observe, Statements, done, ◌▸◌, ArmList, no_arm, arm}
use Rattle.gcl_core.specs.meaning.Arms.{parts_of}
use Rattle.gcl_core.specs.meaning.Draw.{last_end, choice_ends, uniform_ends}
use Rattle.gcl_core.specs.meaning.Parts.{sums_from, partial_sums}
use Rattle.gcl_core.specs.meaning.Value.{State, Value, value_of, is_zero}
use Rattle.gcl_core.specs.declared.answers.Fault.TheVariants.{BadBound}
use Rattle.gcl_core.specs.declared.answers.Limit.TheVariants.{Turns, Attempts}
use Rattle.gcl_core.specs.meaning.Blocks.{End, on, failed, fault, limit, by_value, by_truth, by_bound, by_class, statement_in, arm_in, loop_in, value_in, uniform_in}
use Rattle.gcl_core.specs.meaning.Bounds.{StatementIsWeighed, BlockIsWeighed, ArmsAreWeighed}
use Rattle.gcl_core.specs.weighing.Fractions.{Fraction, zero_share, one, plus, times}
use Rattle.gcl_core.specs.weighing.WeightedEnds.{Weighted, sure, scaled, taken_on, class_weight, no_class_weight, classes_from, weighted_classes}
use Rattle.gcl_core.proofs.PartialSums.{last_is}
use Rattle.gcl_core.proofs.Plays.{Play, ended, drawing, block_play}
use Rattle.cost_law.specs.ExpectedBits.{draw_bits, on_average, Bits, end_bits, then_bits, class_bits, block_bits}
use Rattle.cost_law.proofs.BlockCosts.{play_bits, play_block}
use Rattle.cost_law.proofs.DrawBits.{draw_bits_pos}
use Rattle.numbers.specs.Fraction.{IsEqual}
use Rattle.numbers.proofs.Divisors.{product_pos, equal_trans}
use Rattle.table_flow.specs.Tables.{Table, holds, fails, only, statement_flow, block_flow, ReachedDraws, fractions_kind}
use Rattle.table_flow.proofs.FlowWords.{set_to, set_below, set_drawn, loop_flow, arms_flow, drawn_each, drawn_bound, loop_draws, statement_draws, block_draws, arms_draws}
use Rattle.table_flow.proofs.DrawnLists.{all_on, draw_list}
use Rattle.table_flow.proofs.WeightedParts.{value_weighted, uniform_weighted}
use Rattle.table_flow.proofs.Draws.{class_pos, no_class_pos}
use Rattle.table_flow.proofs.Paths.{statement_positive}
use Rattle.table_flow.proofs.Positive.{Positive, p_taken, p_scaled, p_only, p_one, p_all}
use Rattle.table_flow.proofs.EqualFractions.{equal_plus, equal_times}
use Rattle.table_flow.proofs.UniformLists.{by_lists, reached_by_list}
use Rattle.weighing_law.proofs.Shares.{factor_pos}
use Rattle.cost_fold.proofs.Equal.{plus_assoc, nothing_plus, average_positive, average_append, average_equal, average_nothing, average_scaled, average_within, average_taken, average_sum, average_guard}

-- the bits of a draw
abbrev pub cost_of : ℕ → List ℕ → Fraction
cost_of r ends = draw_bits ends r

-- ---- fractions of one value
pub record Same (p q : Fraction) : Type 0 where
  pub equal : IsEqual p q
  pub left : 0 < p.1
  pub right : 0 < q.1

same_self : (p : Fraction) → 0 < p.1 → Same p p
same_self p h = record { equal = refl; left = h; right = h }

same_turn : (p q : Fraction) → Same p q → Same q p
same_turn p q a = record { equal = sym a.equal; left = a.right; right = a.left }

same_trans : (p q t : Fraction) → Same p q → Same q t → Same p t
same_trans p q t a b = record { equal = equal_trans p q t a.right a.equal b.equal; left = a.left; right = b.right }

same_plus : (p q s t : Fraction) → Same p q → Same s t → Same (plus p s) (plus q t)
same_plus p q s t a b = record { equal = equal_plus p q s t a.equal b.equal; left = product_pos p.1 s.1 a.left b.left; right = product_pos q.1 t.1 a.right b.right }

same_times : (w p q : Fraction) → 0 < w.1 → Same p q → Same (times w p) (times w q)
same_times w p q h a = record { equal = equal_times w w p q refl a.equal; left = product_pos w.1 p.1 h a.left; right = product_pos w.1 q.1 h a.right }

plus_left : (p q : Fraction) → 0 < (plus p q).1 → 0 < p.1
plus_left p q h = factor_pos p.1 q.1 (p.1 * q.1) refl h

plus_right : (p q : Fraction) → 0 < (plus p q).1 → 0 < q.1
plus_right p q h = factor_pos q.1 p.1 (p.1 * q.1) (omega arith) h

nothing_more : (p q : Fraction) → 0 < p.1 → 0 < q.1 → q.0 ≡ 0 → Same (plus p q) p
nothing_more p q h k e = record { equal = none p.0 p.1 q.0 q.1 e; left = product_pos p.1 q.1 h k; right = h }
  where
    none : (a b c d : ℕ) → c ≡ 0 → (a * d + c * b) * b ≡ a * (b * d)
    none a b c d e = rw e (omega arith)

pair_is : (a b c d : ℕ) → a ≡ c → b ≡ d → ◌≡◌ {A = Fraction} (a, b) (c, d)
pair_is a b c d e f = ap (λ x. (x, b)) e ∙ ap (λ y. (c, y)) f

four : (a b x y : Fraction) → plus (plus a b) (plus x y) ≡ plus (plus a x) (plus b y)
four a b x y = pair_is _ _ _ _ (omega arith) (omega arith)

plus_turned : (p q : Fraction) → plus p q ≡ plus q p
plus_turned p q = pair_is _ _ _ _ (omega arith) (omega arith)

-- an entry that counts nothing
none_first : (w X A : Fraction) → 0 < w.1 → Same X A → Same X (plus (times w zero_share) A)
none_first w X A h i =
    let none = times w zero_share in
    same_trans X A (plus none A) i (same_turn (plus none A) A (subst (λ q. Same q A) (plus_turned A none) (nothing_more A none i.right (product_pos w.1 1 h (omega arith)) (omega arith))))

-- ---- averages
module _ {A : Type 0} (m : Weighted A) (pm : Positive m) where
  same_average : (f g : A → Fraction) → ((a : A) → Same (f a) (g a)) → Same (on_average m f) (on_average m g)
  same_average f g h = record { equal = average_equal m f g (λ a. (h a).equal); left = average_positive m f pm (λ a. (h a).left); right = average_positive m g pm (λ a. (h a).right) }

  same_sum : (f g : A → Fraction) → ((a : A) → 0 < (f a).1) → ((a : A) → 0 < (g a).1) → Same (plus (on_average m f) (on_average m g)) (on_average m (λ a. plus (f a) (g a)))
  same_sum f g pf pg = record {
    equal = sym (average_sum m f g);
    left = product_pos (on_average m f).1 (on_average m g).1 (average_positive m f pm pf) (average_positive m g pm pg);
    right = average_positive m (λ a. plus (f a) (g a)) pm (λ a. product_pos (f a).1 (g a).1 (pf a) (pg a));
  }

  same_scaled : (w : Fraction) → 0 < w.1 → (g : A → Fraction) → ((a : A) → 0 < (g a).1) → Same (on_average (scaled w m) g) (on_average m (λ a. times w (g a)))
  same_scaled w h g pg =
      let a = on_average m g in
      let x = average_positive (scaled w m) g (p_scaled w m h pm) pg in
      let y = average_positive m (λ a. times w (g a)) pm (λ a. product_pos w.1 (g a).1 h (pg a)) in
      record {
        equal = equal_trans (on_average (scaled w m) g) (times w a) (on_average m (λ a. times w (g a))) (product_pos w.1 a.1 h (average_positive m g pm pg)) (average_scaled w m g) (sym (average_within w m g));
        left = x;
        right = y;
      }

-- ---- second numbers
end_bits_pos : (e : End) (more : State → Fraction) → ((s : State) → 0 < (more s).1) → 0 < (end_bits e more).1
end_bits_pos (on s) more h = h s
end_bits_pos failed more h = omega arith
end_bits_pos (fault f) more h = omega arith
end_bits_pos (limit l) more h = omega arith

classes_positive : (r : ℕ) (b i c : ℕ) (ends : List ℕ) → Positive (classes_from (class_weight b (Some r)) i c ends ++ (no_class_weight b (Some r), None) ∷ [])
classes_positive r b i c [] = (no_class_pos b (Some r), tt)
classes_positive r b i c (d ∷ ends) = (no_class_pos b (Some r), classes_positive r b (i + 1) d ends)

play_positive : (r : ℕ) (p : Play) (more : State → Fraction) → ((s : State) → 0 < (more s).1) → 0 < (play_bits r p more).1
play_positive r (ended e) more h = end_bits_pos e more h
play_positive r (drawing cs k) more h =
    let go = λ (class : Option ℕ). by_class class zero_share (λ i. play_bits r (k i) more) in
    product_pos (draw_bits cs r).1 (on_average (weighted_classes cs (Some r)) go).1 (draw_bits_pos cs r)
    (average_positive (weighted_classes cs (Some r)) go (classes_positive r (last_end cs) 0 0 cs) (elim [ None ↦ omega arith | Some i ↦ play_positive r (k i) more h ]))

module _ (n r : ℕ) where
  block_positive : (b : Statements) (s : State) (more : State → Fraction) → ((s : State) → 0 < (more s).1) → 0 < (block_bits n r b s more).1
  block_positive b s more h = subst (λ m. 0 < (m more).1) (play_block r n b s) (play_positive r (block_play n b s) more h)

  module _ (more : State → Fraction) (pm : (s : State) → 0 < (more s).1) where
    guard_pos : (v : Value) (a c : Fraction) → 0 < a.1 → 0 < c.1 → 0 < (by_value v (λ f. zero_share) (λ z. by_truth z a c)).1
    guard_pos (Err f) a c h k = omega arith
    guard_pos (Ok z) a c h k = by_test (is_zero z)
      where
        by_test : (b : Bool) → 0 < (cond b c a).1
        by_test true = k
        by_test false = h

    guard_more : (v : Value) (a c : Bits) → by_value v (λ f. end_bits (fault f)) (λ z. by_truth z a c) more ≡ by_value v (λ f. zero_share) (λ z. by_truth z (a more) (c more))
    guard_more (Err f) a c = refl
    guard_more (Ok z) a c = by_test (is_zero z)
      where
        by_test : (b : Bool) → cond b c a more ≡ cond b (c more) (a more)
        by_test true = refl
        by_test false = refl

    guard_same : (v : State → Value) (a c : State → Bits) → ((s : State) → 0 < (a s more).1) → ((s : State) → 0 < (c s more).1) → (I : Table) → Positive I →
        Same (plus (on_average (only (holds v) I) (λ s. a s more)) (on_average (only (fails v) I) (λ s. c s more))) (on_average I (λ s. by_value (v s) (λ f. end_bits (fault f)) (λ z. by_truth z (a s) (c s)) more))
    guard_same v a c pa pc I p =
        let A = on_average (only (holds v) I) (λ s. a s more) in
        let C = on_average (only (fails v) I) (λ s. c s more) in
        subst (λ f. Same (plus A C) (on_average I f)) (sym (fun_ext (λ s. guard_more (v s) (a s) (c s))))
        (record {
          equal = sym (average_guard v (λ s. a s more) (λ s. c s more) I);
          left = product_pos A.1 C.1 (average_positive (only (holds v) I) (λ s. a s more) (p_only (holds v) I p) pa) (average_positive (only (fails v) I) (λ s. c s more) (p_only (fails v) I p) pc);
          right = average_positive I (λ s. by_value (v s) (λ f. zero_share) (λ z. by_truth z (a s more) (c s more))) p (λ s. guard_pos (v s) (a s more) (c s more) (pa s) (pc s));
        })

  -- ---- draws, the table after them, and what is read then
  abbrev pub cost : List ℕ → Fraction
  cost = cost_of r

  abbrev pub Goes : ReachedDraws → Table → (State → Fraction) → Fraction → Type 0
  Goes D N more x = Same (plus (on_average D cost) (on_average N more)) x

  goes_then : (D E : ReachedDraws) (N M : Table) (k more : State → Fraction) (x : Fraction) → Goes D N k x → Goes E M more (on_average N k) → Goes (D ++ E) M more x
  goes_then D E N M k more x a b =
      let d = on_average D cost in
      let e = on_average E cost in
      let u = on_average M more in
      let v = on_average N k in
      subst (λ y. Same y x) (sym (ap (λ y. plus y u) (average_append D E cost) ∙ plus_assoc d e u))
      (same_trans (plus d (plus e u)) (plus d v) x (same_plus d d (plus e u) v (same_self d (plus_left d v a.left)) b) a)

  goes_both : (D E : ReachedDraws) (N M : Table) (more : State → Fraction) (x y : Fraction) → Goes D N more x → Goes E M more y → Goes (D ++ E) (N ++ M) more (plus x y)
  goes_both D E N M more x y a b =
      let d = on_average D cost in
      let e = on_average E cost in
      let u = on_average N more in
      let v = on_average M more in
      subst (λ q. Same q (plus x y)) (sym (ap (λ q. plus q (on_average (N ++ M) more)) (average_append D E cost) ∙ ap (plus (plus d e)) (average_append N M more) ∙ four d e u v)) (same_plus (plus d u) x (plus e v) y a b)

  -- draws made in each state of a table, before all else
  goes_drawn : (ends : List ℕ) (I : Table) → Positive I → (D : ReachedDraws) (N : Table) (more f : State → Fraction) → ((s : State) → 0 < (f s).1) →
      Goes D N more (on_average I f) → Goes (drawn_each ends I ++ D) N more (on_average I (λ s. plus (cost ends) (f s)))
  goes_drawn ends I p D N more f pf a =
      let c = on_average I (λ s. cost ends) in
      let pc = average_positive I (λ s. cost ends) p (λ s. draw_bits_pos ends r) in
      let d = on_average D cost in
      let u = on_average N more in
      let x = on_average I f in
      subst (λ q. Same q (on_average I (λ s. plus (cost ends) (f s)))) (sym (ap (λ q. plus q u) (average_append (drawn_each ends I) D cost ∙ ap (λ q. plus q d) (each I)) ∙ plus_assoc c d u))
      (same_trans (plus c (plus d u)) (plus c x) (on_average I (λ s. plus (cost ends) (f s))) (same_plus c c (plus d u) x (same_self c pc) a) (same_sum I p (λ s. cost ends) f (λ s. draw_bits_pos ends r) pf))
    where
      each : (I : Table) → on_average (drawn_each ends I) cost ≡ on_average I (λ s. cost ends)
      each [] = refl
      each (e ∷ I) = ap (plus (times e.0 (cost ends))) (each I)

  -- ---- loops
  abbrev GoesBlock : Statements → Type 0
  GoesBlock b = (I : Table) → Positive I → (more : State → Fraction) → ((s : State) → 0 < (more s).1) →
      Goes (block_draws n (Some r) b I) (block_flow n (Some r) b I).next more (on_average I (λ s. block_bits n r b s more))

  abbrev turns : (State → Value) → Statements → ℕ → State → Bits
  turns v b t = loop_in end_bits then_bits v (block_bits n r b) t

  loop_pos : (v : State → Value) (b : Statements) (t : ℕ) (more : State → Fraction) → ((s : State) → 0 < (more s).1) → (s : State) → 0 < (turns v b t s more).1
  loop_pos v b zero more pm s = subst (λ x. 0 < x.1) (sym (guard_more more pm (v s) (end_bits (limit Turns)) (end_bits (on s)))) (guard_pos more pm (v s) zero_share (more s) (omega arith) (pm s))
  loop_pos v b (suc t) more pm s =
      let rest = λ (s : State). turns v b t s more in
      let x = block_bits n r b s rest in
      subst (λ x. 0 < x.1) (sym (guard_more more pm (v s) (then_bits (block_bits n r b s) (turns v b t)) (end_bits (on s)))) (guard_pos more pm (v s) x (more s) (block_positive b s rest (loop_pos v b t more pm)) (pm s))

  none_same : (q : Fraction) → q.0 ≡ 0 → 0 < q.1 → Same zero_share q
  none_same q e h = record { equal = rw e (omega arith); left = omega arith; right = h }

  loop_goes : (v : State → Value) (b : Statements) → BlockIsWeighed b → GoesBlock b → (t : ℕ) (I : Table) → Positive I → (more : State → Fraction) → ((s : State) → 0 < (more s).1) →
      Goes (loop_draws v (block_flow n (Some r) b) t I) (loop_flow v (block_flow n (Some r) b) t I).next more (on_average I (λ s. turns v b t s more))
  loop_goes v b w h zero I p more pm =
      let H = on_average (only (holds v) I) (λ s. zero_share) in
      let F = on_average (only (fails v) I) more in
      let pH = average_positive (only (holds v) I) (λ s. zero_share) (p_only (holds v) I p) (λ s. omega arith) in
      let g = guard_same more pm v (λ s. end_bits (limit Turns)) (λ s. end_bits (on s)) (λ s. omega arith) pm I p in
      same_trans (plus zero_share F) (plus H F) (on_average I (λ s. turns v b 0 s more))
      (same_plus zero_share H F F (none_same H (average_nothing (only (holds v) I) (λ s. zero_share) (λ s. refl)) pH) (same_self F (plus_right H F g.left))) g
  loop_goes v b w h (suc t) I p more pm =
      let A = only (holds v) I in
      let pA = p_only (holds v) I p in
      let f = block_flow n (Some r) b A in
      let pf = (p_all n (Some r) b A w pA).next in
      let rest = λ (s : State). turns v b t s more in
      let D = block_draws n (Some r) b A in
      let E = loop_draws v (block_flow n (Some r) b) t f.next in
      let M = (loop_flow v (block_flow n (Some r) b) t f.next).next in
      let first = λ (s : State). block_bits n r b s rest in
      let x = on_average A first in
      let F = on_average (only (fails v) I) more in
      let g = guard_same more pm v (λ s. then_bits (block_bits n r b s) (turns v b t)) (λ s. end_bits (on s)) (λ s. block_positive b s rest (loop_pos v b t more pm)) pm I p in
      let inside = goes_then D E f.next M rest more x (h A pA rest (loop_pos v b t more pm)) (loop_goes v b w h t f.next pf more pm) in
      let apart : Goes [] (only (fails v) I) more F = subst (λ q. Same q F) (nothing_plus F) (same_self F (plus_right x F g.left)) in
      same_trans _ (plus F x) _ (goes_both [] (D ++ E) (only (fails v) I) M more F x apart inside) (subst (λ q. Same q (on_average I (λ s. turns v b (suc t) s more))) (plus_turned x F) g)

  -- ---- statements of which no other is a part
  module _ (more : State → Fraction) (pm : (s : State) → 0 < (more s).1) where
    abbrev ongoing : End → Fraction
    ongoing e = end_bits e more

    -- where no draw is made
    goes_on : (N : Table) (x : Fraction) → Same (on_average N more) x → Goes [] N more x
    goes_on N x h = subst (λ q. Same q x) (nothing_plus (on_average N more)) h

    set_same : (x : ℕ) (v : State → Value) (I : Table) → Positive I →
        Same (on_average (set_to x v I) more) (on_average I (λ s. by_value (v s) (λ f. end_bits (fault f)) (λ z. end_bits (on (slice_set s x z))) more))
    set_same x v [] p = same_self zero_share (omega arith)
    set_same x v (e ∷ I) p = at_head (v e.1) (set_same x v I p.1)
      where
        X : Fraction
        X = on_average (set_to x v I) more

        A : Fraction
        A = on_average I (λ s. by_value (v s) (λ f. end_bits (fault f)) (λ z. end_bits (on (slice_set s x z))) more)

        at_head : (o : Value) → Same X A →
            Same (on_average (by_value o (λ f. set_to x v I) (λ z. (e.0, slice_set e.1 x z) ∷ set_to x v I)) more)
            (plus (times e.0 (by_value o (λ f. end_bits (fault f)) (λ z. end_bits (on (slice_set e.1 x z))) more)) A)
        at_head (Err f) i = none_first e.0 X A p.0 i
        at_head (Ok z) i =
            let m = more (slice_set e.1 x z) in
            let y = times e.0 m in
            same_plus y y X A (same_self y (product_pos e.0.1 m.1 p.0 (pm (slice_set e.1 x z)))) i

    seen_same : (v : State → Value) (I : Table) → Positive I →
        Same (on_average (only (holds v) I) more) (on_average I (λ s. by_value (v s) (λ f. end_bits (fault f)) (λ z. by_truth z (end_bits (on s)) (end_bits failed)) more))
    seen_same v I p =
        let H = on_average (only (holds v) I) more in
        let F = on_average (only (fails v) I) (λ s. zero_share) in
        let g = guard_same more pm v (λ s. end_bits (on s)) (λ s. end_bits failed) pm (λ s. omega arith) I p in
        same_trans H (plus H F) _ (same_turn (plus H F) H (nothing_more H F (plus_left H F g.left) (plus_right H F g.left) (average_nothing (only (fails v) I) (λ s. zero_share) (λ s. refl)))) g

    sure_average : {A : Type 0} (g : A → Fraction) (a : A) → 0 < (g a).1 → Same (on_average (sure a) g) (g a)
    sure_average g a h = let x = g a in record { equal = alone x.0 x.1; left = omega (arith, h); right = h }
      where
        alone : (a b : ℕ) → (1 * a * 1 + 0 * (1 * b)) * b ≡ a * (1 * b * 1)
        alone a b = omega arith

    sure_same : (e : End) → Same (on_average (sure e) ongoing) (ongoing e)
    sure_same e = sure_average ongoing e (end_bits_pos e more pm)

    -- ---- a uniform draw
    abbrev bound_bits : Value → Fraction
    bound_bits v = by_value v (λ f. zero_share) (λ z. by_bound z zero_share (λ m. cost (uniform_ends m)))

    bound_bits_pos : (v : Value) → 0 < (bound_bits v).1
    bound_bits_pos (Err f) = omega arith
    bound_bits_pos (Ok (pos zero)) = omega arith
    bound_bits_pos (Ok (pos (suc m))) = draw_bits_pos (uniform_ends (suc m)) r
    bound_bits_pos (Ok (negsuc m)) = omega arith

    none_and : (e : End) → ongoing e ≡ zero_share → Same (plus zero_share (on_average (sure e) ongoing)) zero_share
    none_and e q = subst (λ x. Same x zero_share) (nothing_plus (on_average (sure e) ongoing)) (subst (Same (on_average (sure e) ongoing)) q (sure_same e))

    drawn_same : (x : ℕ) (v : Value) (s : State) →
        Same (plus (bound_bits v) (on_average (value_weighted v (λ z. uniform_weighted (Some r) x z s)) ongoing))
        (value_in end_bits then_bits v (λ z. uniform_in end_bits then_bits (class_bits r) x z s) more)
    drawn_same x (Err f) s = none_and (fault f) refl
    drawn_same x (Ok (pos zero)) s = none_and (fault BadBound) refl
    drawn_same x (Ok (negsuc m)) s = none_and (fault BadBound) refl
    drawn_same x (Ok (pos (suc m))) s =
        let ends = uniform_ends (suc m) in
        let cl = weighted_classes ends (Some r) in
        let pcl = classes_positive r (last_end ends) 0 0 ends in
        let k = λ (class : Option ℕ). by_class class (sure (limit Attempts)) (λ i. sure (on (slice_set s x (pos i)))) in
        let f = λ (class : Option ℕ). by_class class zero_share (λ i. more (slice_set s x (pos i))) in
        let h : (class : Option ℕ) → Same (on_average (k class) ongoing) (f class) = elim [ None ↦ sure_same (limit Attempts) | Some i ↦ sure_same (on (slice_set s x (pos i))) ] in
        let each = same_average cl pcl (λ class. on_average (k class) ongoing) f h in
        let t = average_positive (taken_on cl k) ongoing (p_taken cl k pcl (elim [ None ↦ (omega arith, tt) | Some i ↦ (omega arith, tt) ])) (λ e. end_bits_pos e more pm) in
        same_plus (cost ends) (cost ends) (on_average (taken_on cl k) ongoing) (on_average cl f) (same_self (cost ends) (draw_bits_pos ends r))
        (same_trans (on_average (taken_on cl k) ongoing) (on_average cl (λ class. on_average (k class) ongoing)) (on_average cl f) (record { equal = average_taken cl k ongoing; left = t; right = each.left }) each)

    bound_draws : (v : State → Value) (I : Table) → Positive I → Same (on_average (drawn_bound v I) cost) (on_average I (λ s. bound_bits (v s)))
    bound_draws v [] p = same_self zero_share (omega arith)
    bound_draws v (e ∷ I) p = at_head (v e.1) (bound_draws v I p.1)
      where
        X : Fraction
        X = on_average (drawn_bound v I) cost

        A : Fraction
        A = on_average I (λ s. bound_bits (v s))

        at_head : (o : Value) → Same X A → Same (on_average (by_value o (λ f. []) (λ z. by_bound z [] (λ m. (e.0, uniform_ends m) ∷ [])) ++ drawn_bound v I) cost) (plus (times e.0 (bound_bits o)) A)
        at_head (Err f) i = none_first e.0 X A p.0 i
        at_head (Ok (pos zero)) i = none_first e.0 X A p.0 i
        at_head (Ok (negsuc m)) i = none_first e.0 X A p.0 i
        at_head (Ok (pos (suc m))) i =
            let x = times e.0 (cost (uniform_ends (suc m))) in
            same_plus x x X A (same_self x (product_pos e.0.1 (cost (uniform_ends (suc m))).1 p.0 (draw_bits_pos (uniform_ends (suc m)) r))) i

    abbrev sum_below : ℕ → (ℕ → Fraction) → Fraction
    sum_below zero F = zero_share
    sum_below (suc m) F = plus (sum_below m F) (F m)

    sum_below_pos : (m : ℕ) (F : ℕ → Fraction) → ((i : ℕ) → 0 < (F i).1) → 0 < (sum_below m F).1
    sum_below_pos zero F h = omega arith
    sum_below_pos (suc m) F h = product_pos (sum_below m F).1 (F m).1 (sum_below_pos m F h) (h m)

    -- what is read after each number below m
    abbrev numbers : ℕ → ℕ → State → Fraction
    numbers x m s = sum_below m (λ i. more (slice_set s x (pos i)))

    numbers_pos : (x m : ℕ) (s : State) → 0 < (numbers x m s).1
    numbers_pos x m s = sum_below_pos m (λ i. more (slice_set s x (pos i))) (λ i. pm (slice_set s x (pos i)))

    moved_average : (x : ℕ) (z : ℤ) (J : Table) → on_average (map (λ e. (e.0, slice_set e.1 x z)) J) more ≡ on_average J (λ s. more (slice_set s x z))
    moved_average x z [] = refl
    moved_average x z (e ∷ J) = ap (plus (times e.0 (more (slice_set e.1 x z)))) (moved_average x z J)

    below_same : (x m : ℕ) (J : Table) → Positive J → Same (on_average (set_below x m J) more) (on_average J (numbers x m))
    below_same x zero J p = none_same (on_average J (λ s. zero_share)) (average_nothing J (λ s. zero_share) (λ s. refl)) (average_positive J (λ s. zero_share) p (λ s. omega arith))
    below_same x (suc m) J p =
        let T = on_average (set_below x m J) more in
        let G = λ (s : State). more (slice_set s x (pos m)) in
        let pG = λ (s : State). pm (slice_set s x (pos m)) in
        let next = on_average J G in
        subst (λ q. Same q (on_average J (numbers x (suc m)))) (sym (average_append (set_below x m J) (map (λ e. (e.0, slice_set e.1 x (pos m))) J) more ∙ ap (plus T) (moved_average x (pos m) J)))
        (same_trans (plus T next) (plus (on_average J (numbers x m)) next) (on_average J (numbers x (suc m)))
        (same_plus T (on_average J (numbers x m)) next next (below_same x m J p) (same_self next (average_positive J G p pG))) (same_sum J p (numbers x m) G (numbers_pos x m) pG))

    -- a table by one weight
    part_same : (x m : ℕ) (u : Fraction) → 0 < u.1 → (J : Table) → Positive J → Same (on_average (set_below x m (scaled u J)) more) (on_average J (λ s. times u (numbers x m s)))
    part_same x m u h J p =
        same_trans _ (on_average (scaled u J) (numbers x m)) _ (below_same x m (scaled u J) (p_scaled u J h p)) (same_scaled J p u h (numbers x m) (numbers_pos x m))

    on_average_on : (J : Table) → on_average (all_on J) ongoing ≡ on_average J more
    on_average_on [] = refl
    on_average_on (e ∷ J) = ap (plus (times e.0 (more e.1))) (on_average_on J)

    stop_none : (l : Fraction) → (on_average (scaled l (sure (limit Attempts))) ongoing).0 ≡ 0
    stop_none (zero, d) = refl
    stop_none (suc n, d) = omega arith

    -- a draw of bound m from a state
    draw_same : (x m : ℕ) (s : State) → Same (on_average (uniform_weighted (Some r) x (pos (suc m)) s) ongoing) (times (class_weight (suc m) (Some r) 1) (numbers x (suc m) s))
    draw_same x m s =
        let u = class_weight (suc m) (Some r) 1 in
        let l = no_class_weight (suc m) (Some r) in
        let pu = class_pos (suc m) (Some r) 1 (omega arith) in
        let J = set_below x (suc m) (scaled u (sure s)) in
        let T = on_average J more in
        let stop = on_average (scaled l (sure (limit Attempts))) ongoing in
        let some = average_positive (scaled l (sure (limit Attempts))) ongoing (p_scaled l (sure (limit Attempts)) (no_class_pos (suc m) (Some r)) (omega arith, tt)) (λ e. end_bits_pos e more pm) in
        let y = times u (numbers x (suc m) s) in
        let py = product_pos u.1 (numbers x (suc m) s).1 pu (numbers_pos x (suc m) s) in
        let each = same_trans T _ y (part_same x (suc m) u pu (sure s) (omega arith, tt)) (sure_average (λ s. times u (numbers x (suc m) s)) s py) in
        subst (λ q. Same q y) (sym (ap (λ l. on_average l ongoing) (draw_list x s (suc m) (Some r)) ∙ average_append (all_on J) (scaled l (sure (limit Attempts))) ongoing ∙ ap (λ q. plus q stop) (on_average_on J)))
        (same_trans (plus T stop) T y (nothing_more T stop each.left some (stop_none l)) each)

    drawn_average : (x : ℕ) (v : State → Value) (I : Table) → Positive I → Same (on_average (set_drawn x v (Some r) I) more) (on_average I (λ s. on_average (value_weighted (v s) (λ z. uniform_weighted (Some r) x z s)) ongoing))
    drawn_average x v [] p = same_self zero_share (omega arith)
    drawn_average x v (e ∷ I) p =
        subst (λ q. Same q (on_average (e ∷ I) (λ s. on_average (value_weighted (v s) (λ z. uniform_weighted (Some r) x z s)) ongoing))) (sym (average_append (by_value (v e.1) (λ f. []) goes) (set_drawn x v (Some r) I) more))
        (same_plus _ _ _ _ (by_state (v e.1)) (drawn_average x v I p.1))
      where
        goes : ℤ → Table
        goes z = by_bound z [] (λ m. set_below x m (scaled (class_weight m (Some r) 1) (e ∷ [])))

        ends : (y : End) → ongoing y ≡ zero_share → Same zero_share (times e.0 (on_average (sure y) ongoing))
        ends y q = subst (λ f. Same zero_share (times e.0 (plus (times one f) zero_share))) (sym q) (none_same _ (omega arith) (product_pos e.0.1 1 p.0 (omega arith)))

        by_sign : (z : ℤ) → Same (on_average (goes z) more) (times e.0 (on_average (uniform_weighted (Some r) x z e.1) ongoing))
        by_sign (pos zero) = ends (fault BadBound) refl
        by_sign (negsuc m) = ends (fault BadBound) refl
        by_sign (pos (suc m)) =
            let u = class_weight (suc m) (Some r) 1 in
            let d = draw_same x m e.1 in
            let y = times u (numbers x (suc m) e.1) in
            let w = times e.0 y in
            let pw = product_pos e.0.1 y.1 p.0 d.right in
            same_trans _ w _
            (same_trans _ (plus w zero_share) w (part_same x (suc m) u (class_pos (suc m) (Some r) 1 (omega arith)) (e ∷ []) (p.0, tt)) (nothing_more w zero_share pw (omega arith) refl))
            (same_times e.0 y _ p.0 (same_turn _ y d))

        by_state : (o : Value) → Same (on_average (by_value o (λ f. []) goes) more) (times e.0 (on_average (value_weighted o (λ z. uniform_weighted (Some r) x z e.1)) ongoing))
        by_state (Ok z) = by_sign z
        by_state (Err f) = ends (fault f) refl

    uniform_goes : (x : ℕ) (v : State → Value) → ((s : State) → Positive (value_weighted (v s) (λ z. uniform_weighted (Some r) x z s))) → (I : Table) → Positive I →
        Goes (drawn_bound v I) (set_drawn x v (Some r) I) more (on_average I (λ s. value_in end_bits then_bits (v s) (λ z. uniform_in end_bits then_bits (class_bits r) x z s) more))
    uniform_goes x v pk I p =
        let g = λ (s : State). on_average (value_weighted (v s) (λ z. uniform_weighted (Some r) x z s)) ongoing in
        let f = λ (s : State). bound_bits (v s) in
        let pg = λ (s : State). average_positive (value_weighted (v s) (λ z. uniform_weighted (Some r) x z s)) ongoing (pk s) (λ e. end_bits_pos e more pm) in
        let D = on_average (drawn_bound v I) cost in
        let N = on_average (set_drawn x v (Some r) I) more in
        let all = λ (s : State). value_in end_bits then_bits (v s) (λ z. uniform_in end_bits then_bits (class_bits r) x z s) more in
        same_trans (plus D N) (plus (on_average I f) (on_average I g)) (on_average I all) (same_plus D (on_average I f) N (on_average I g) (bound_draws v I p) (drawn_average x v I p))
        (same_trans (plus (on_average I f) (on_average I g)) (on_average I (λ s. plus (f s) (g s))) (on_average I all) (same_sum I p f g (λ s. bound_bits_pos (v s)) pg) (same_average I p (λ s. plus (f s) (g s)) all (λ s. drawn_same x (v s) s)))

    -- ---- choices
    side_goes : (u : Fraction) → 0 < u.1 → (b : Statements) → GoesBlock b → (I : Table) → Positive I →
        Goes (block_draws n (Some r) b (scaled u I)) (block_flow n (Some r) b (scaled u I)).next more (on_average I (λ s. times u (block_bits n r b s more)))
    side_goes u pu b h I p =
        let go = λ (s : State). block_bits n r b s more in
        same_trans _ (on_average (scaled u I) go) _ (h (scaled u I) (p_scaled u I pu p) more pm) (same_scaled I p u pu go (λ s. block_positive b s more pm))

    weighed_pos : (u : Fraction) → 0 < u.1 → (b : Statements) (s : State) → 0 < (times u (block_bits n r b s more)).1
    weighed_pos u pu b s = product_pos u.1 (block_bits n r b s more).1 pu (block_positive b s more pm)

    -- what no attempt gives reads no more
    no_class : (x q o : Fraction) → 0 < x.1 → 0 < q.1 → 0 < o.1 → Same (plus x q) (plus x (plus q (plus (times o zero_share) zero_share)))
    no_class x q o hx hq ho =
        let none = plus (times o zero_share) zero_share in
        same_plus x x q (plus q none) (same_self x hx) (same_turn (plus q none) q (nothing_more q none hq (product_pos (o.1 * 1) 1 (product_pos o.1 1 ho (omega arith)) (omega arith)) (omega arith)))

    abbrev bits_of_arms : ℕ → ArmList → State → Fraction
    bits_of_arms b no_arm s = zero_share
    bits_of_arms b (arm q a arms) s = plus (times (class_weight b (Some r) q) (block_bits n r a s more)) (bits_of_arms b arms s)

    abbrev arm_bits : ArmList → ℕ → State → Bits
    arm_bits = arm_in end_bits then_bits (class_bits r) (λ m. m) n

    bits_of_arms_pos : (b : ℕ) → 0 < b → (arms : ArmList) (s : State) → 0 < (bits_of_arms b arms s).1
    bits_of_arms_pos b h no_arm s = omega arith
    bits_of_arms_pos b h (arm q a arms) s =
        let u = class_weight b (Some r) q in
        product_pos (times u (block_bits n r a s more)).1 (bits_of_arms b arms s).1 (weighed_pos u (class_pos b (Some r) q h) a s) (bits_of_arms_pos b h arms s)

    -- classes that are numbered from one more
    classes_shifted : (weight : ℕ → Fraction) (i d : ℕ) (ends : List ℕ) (k : ℕ → Fraction) →
        on_average (classes_from weight (i + 1) d ends) (λ class. by_class class zero_share k) ≡ on_average (classes_from weight i d ends) (λ class. by_class class zero_share (λ j. k (suc j)))
    classes_shifted weight i d [] k = refl
    classes_shifted weight i d (e ∷ ends) k =
        let next : i + 1 ≡ suc i = omega arith in
        ap (λ j. plus (times (weight (e - d)) (k j)) (on_average (classes_from weight (i + 1 + 1) e ends) (λ class. by_class class zero_share k))) next
        ∙ ap (plus (times (weight (e - d)) (k (suc i)))) (classes_shifted weight (i + 1) e ends k)

    arm_by_arm : (b d : ℕ) (arms : ArmList) (s : State) →
        on_average (classes_from (class_weight b (Some r)) 0 d (sums_from d (parts_of arms))) (λ class. by_class class zero_share (λ i. arm_bits arms i s more)) ≡ bits_of_arms b arms s
    arm_by_arm b d no_arm s = refl
    arm_by_arm b d (arm q a arms) s =
        let size : d + q - d ≡ q = omega arith in
        let rest = classes_shifted (class_weight b (Some r)) 0 (d + q) (sums_from (d + q) (parts_of arms)) (λ i. arm_bits (arm q a arms) i s more) in
        ap (λ k. plus (times (class_weight b (Some r) k) (block_bits n r a s more)) (on_average (classes_from (class_weight b (Some r)) 1 (d + q) (sums_from (d + q) (parts_of arms))) (λ class. by_class class zero_share (λ i. arm_bits (arm q a arms) i s more)))) size
        ∙ ap (plus (times (class_weight b (Some r) q) (block_bits n r a s more))) (rest ∙ arm_by_arm b (d + q) arms s)

  abbrev statement_bits : Statement → State → Bits
  statement_bits = statement_in end_bits then_bits (class_bits r) (λ m. m) n

  abbrev GoesStatement : Statement → Type 0
  GoesStatement st = (I : Table) → Positive I → (more : State → Fraction) → ((s : State) → 0 < (more s).1) →
      Goes (statement_draws n (Some r) st I) (statement_flow n (Some r) st I).next more (on_average I (λ s. statement_bits st s more))

  mutual
    statement_goes : (st : Statement) → StatementIsWeighed st → GoesStatement st
    statement_goes Skip w I p more pm = goes_on more pm I (on_average I more) (same_self (on_average I more) (average_positive I more p pm))
    statement_goes (Set x e) w I p more pm = goes_on more pm (set_to x (value_of e) I) _ (set_same more pm x (value_of e) I p)
    statement_goes (Observe e) w I p more pm = goes_on more pm (only (holds (value_of e)) I) _ (seen_same more pm (value_of e) I p)
    statement_goes (Uniform x e) w I p more pm =
        rw (reached_by_list fractions_kind (Some r) x (value_of e) I) (rw (by_lists fractions_kind (Some r) x (value_of e) I)
        (uniform_goes more pm x (value_of e) (λ s. statement_positive n (Some r) (Uniform x e) s w) I p))
    statement_goes (If e a b) w I p more pm =
        let A = only (holds (value_of e)) I in
        let C = only (fails (value_of e)) I in
        let x = on_average A (λ s. block_bits n r a s more) in
        let y = on_average C (λ s. block_bits n r b s more) in
        same_trans _ (plus x y) _
        (goes_both _ _ _ _ more x y (block_goes a w.0 A (p_only (holds (value_of e)) I p) more pm) (block_goes b w.1 C (p_only (fails (value_of e)) I p) more pm))
        (guard_same more pm (value_of e) (block_bits n r a) (block_bits n r b) (λ s. block_positive a s more pm) (λ s. block_positive b s more pm) I p)
    statement_goes (Choice q a b) w I p more pm =
        let h : 0 < q.den = let o = w.0.positive in omega arith in
        let u = class_weight q.den (Some r) q.num in
        let k = class_weight q.den (Some r) (q.den - q.num) in
        let pu = class_pos q.den (Some r) q.num h in
        let pk = class_pos q.den (Some r) (q.den - q.num) h in
        let A = λ (s : State). times u (block_bits n r a s more) in
        let B = λ (s : State). times k (block_bits n r b s more) in
        let pA = λ (s : State). weighed_pos more pm u pu a s in
        let pB = λ (s : State). weighed_pos more pm k pk b s in
        let f = λ (s : State). plus (A s) (B s) in
        let pf = λ (s : State). product_pos (A s).1 (B s).1 (pA s) (pB s) in
        let x = on_average I A in
        let y = on_average I B in
        let two = same_trans _ (plus x y) (on_average I f) (goes_both _ _ _ _ more x y (side_goes more pm u pu a (block_goes a w.1) I p) (side_goes more pm k pk b (block_goes b w.2) I p)) (same_sum I p A B pA pB) in
        let ends = choice_ends q in
        let made = λ (s : State). plus (cost ends) (f s) in
        let o = no_class_weight q.den (Some r) in
        let size : q.num ≡ q.num - 0 = omega arith in
        let each : (s : State) → Same (made s) (statement_bits (Choice q a b) s more)
        = λ s. subst (λ m. Same (made s) (plus (cost ends) (plus (times (class_weight q.den (Some r) m) (block_bits n r a s more)) (plus (B s) (plus (times o zero_share) zero_share))))) size
        (subst (λ v. Same (made s) (plus (cost ends) v)) (plus_assoc (A s) (B s) (plus (times o zero_share) zero_share)) (no_class more pm (cost ends) (f s) o (draw_bits_pos ends r) (pf s) (no_class_pos q.den (Some r)))) in
        same_trans _ (on_average I made) _ (goes_drawn ends I p _ _ more f pf two) (same_average I p made (λ s. statement_bits (Choice q a b) s more) each)
    statement_goes (Choose arms) w I p more pm =
        let b = sum (parts_of arms) in
        let h : 0 < b = let o = w.0.positive in omega arith in
        let ends = partial_sums (parts_of arms) in
        let f = λ (s : State). bits_of_arms more pm b arms s in
        let pf = λ (s : State). bits_of_arms_pos more pm b h arms s in
        let made = λ (s : State). plus (cost ends) (f s) in
        let o = no_class_weight b (Some r) in
        let each : (s : State) → Same (made s) (statement_bits (Choose arms) s more)
        = λ s. let go = λ (class : Option ℕ). by_class class zero_share (λ i. arm_bits more pm arms i s more) in
        let all : on_average (weighted_classes ends (Some r)) go ≡ plus (f s) (plus (times o zero_share) zero_share)
        = ap (λ b. on_average (classes_from (class_weight b (Some r)) 0 0 ends ++ (no_class_weight b (Some r), None) ∷ []) go) (last_is (parts_of arms))
        ∙ average_append (classes_from (class_weight b (Some r)) 0 0 ends) ((o, None) ∷ []) go ∙ ap (λ x. plus x (plus (times o zero_share) zero_share)) (arm_by_arm more pm b 0 arms s) in
        subst (λ v. Same (made s) (plus (cost ends) v)) (sym all) (no_class more pm (cost ends) (f s) o (draw_bits_pos ends r) (pf s) (no_class_pos b (Some r))) in
        same_trans _ (on_average I made) _ (goes_drawn ends I p _ _ more f pf (arms_go b h arms w.1 I p more pm)) (same_average I p made (λ s. statement_bits (Choose arms) s more) each)
    statement_goes (While e a) w I p more pm = loop_goes (value_of e) a w (block_goes a w) n I p more pm

    pub block_goes : (b : Statements) → BlockIsWeighed b → GoesBlock b
    block_goes done w I p more pm = goes_on more pm I (on_average I more) (same_self (on_average I more) (average_positive I more p pm))
    block_goes (st ▸ b) w I p more pm =
        let k = λ (s : State). block_bits n r b s more in
        let pk = λ (s : State). block_positive b s more pm in
        let f = statement_flow n (Some r) st I in
        goes_then _ _ f.next _ k more _ (statement_goes st w.0 I p k pk) (block_goes b w.1 f.next (p_one n (Some r) st I w.0 p).next more pm)

    arms_go : (b : ℕ) → 0 < b → (arms : ArmList) → ArmsAreWeighed arms → (I : Table) → Positive I → (more : State → Fraction) → (pm : (s : State) → 0 < (more s).1) →
        Goes (arms_draws n (Some r) b arms I) (arms_flow n (Some r) b arms I).next more (on_average I (λ s. bits_of_arms more pm b arms s))
    arms_go b h no_arm w I p more pm =
        let x = on_average I (λ s. zero_share) in
        none_same x (average_nothing I (λ s. zero_share) (λ s. refl)) (average_positive I (λ s. zero_share) p (λ s. omega arith))
    arms_go b h (arm q a arms) w I p more pm =
        let u = class_weight b (Some r) q in
        let pu = class_pos b (Some r) q h in
        let A = λ (s : State). times u (block_bits n r a s more) in
        let B = λ (s : State). bits_of_arms more pm b arms s in
        let x = on_average I A in
        let y = on_average I B in
        same_trans _ (plus x y) _ (goes_both _ _ _ _ more x y (side_goes more pm u pu a (block_goes a w.0) I p) (arms_go b h arms w.1 I p more pm))
        (same_sum I p A B (λ s. weighed_pos more pm u pu a s) (λ s. bits_of_arms_pos more pm b h arms s))

  -- where nothing more is read
  pub block_reached : (b : Statements) → BlockIsWeighed b → (I : Table) → Positive I → IsEqual (on_average (block_draws n (Some r) b I) cost) (on_average I (λ s. block_bits n r b s (λ s. zero_share)))
  block_reached b w I p =
      let D = on_average (block_draws n (Some r) b I) cost in
      let N = on_average (block_flow n (Some r) b I).next (λ s. zero_share) in
      let g = block_goes b w I p (λ s. zero_share) (λ s. omega arith) in
      (same_trans D (plus D N) _ (same_turn (plus D N) D (nothing_more D N (plus_left D N g.left) (plus_right D N g.left) (average_nothing (block_flow n (Some r) b I).next (λ s. zero_share) (λ s. refl)))) g).equal
