-- What the states of a table read, each by its weight, by the parts of the table.
use Rattle.std.proofs.Common.{◌≡◌, ℕ, zero, suc, ◌+◌, ◌-◌, ◌*◌, ◌^◌, ◌<◌, pos, negsuc, Bool, true, false, not, cond, List, [], ◌∷◌, ◌++◌, Ok, Err, Option, Some, None, sym, subst, arith}
use Rattle.std.specs.Prelude.{slice_set}
use Rattle.std.specs.List.{sum}
use Rattle.std.proofs.lemmas.Nat.{pow_pos}
use Rattle.gcl_core.specs.declared.answers.Fault.TheVariants.{BadBound}
use Rattle.gcl_core.specs.declared.answers.Limit.TheVariants.{Attempts}
use Rattle.gcl_core.specs.declared.syntax.Weight.{Weight}
use Rattle.gcl_core.specs.meaning.Arms.{parts_of}
use Rattle.gcl_core.specs.meaning.Draw.{bits_for, last_end, choice_ends, uniform_ends, rejected_numbers}
use Rattle.gcl_core.specs.meaning.Parts.{sums_from, partial_sums}
use Rattle.gcl_core.specs.meaning.Syntax.{Skip, ArmList, no_arm, arm}
use Rattle.gcl_core.specs.meaning.Value.{State, Value, is_zero}
use Rattle.gcl_core.specs.meaning.Blocks.{End, on, failed, fault, limit, by_value, by_truth, by_bound, by_class, by_side}
use Rattle.gcl_core.specs.weighing.Fractions.{Fraction, zero_share, times}
use Rattle.gcl_core.specs.weighing.WeightedEnds.{Weighted, sure, taken_on, class_weight, classes_from, weighted_classes, statement_weighted}
use Rattle.gcl_core.proofs.Classes.{bits_enough}
use Rattle.gcl_core.proofs.EqualClasses.{last_of_equal}
use Rattle.gcl_core.proofs.PartialSums.{last_is}
use Rattle.cost_law.specs.ExpectedBits.{on_average}
use Rattle.table_flow.specs.Tables.{Table, holds, fails, only, faults}
use Rattle.table_flow.proofs.FlowWords.{drawn_each, drawn_bound}
use Rattle.table_flow.proofs.Positive.{Positive}
use Rattle.weighing_law.proofs.Shares.{product_pos}
use Rattle.unlimited_law.proofs.Numbers.{Rational, ◌⊕◌, ◌⊗◌, ◌≃◌, nought, same_refl, same_sym, same_trans, add_same, times_nought, nought_add, add_nought}
use Rattle.unlimited_law.proofs.FractionNumbers.{of, of_plus, of_times, of_zero, of_equal}
use Rattle.unlimited_law.proofs.Integrals.{integral, integral_append, integral_same, integral_nought, integral_sure, integral_taken, integral_sum, stop, guarded, integral_guard}
use Rattle.unlimited_law.proofs.FlowIntegrals.{counted}
use Rattle.unlimited_law.proofs.SameWeights.{alike_integral}
use Rattle.bits_law.specs.Price.{Price, price_of_draw, price_of_draws}
use Rattle.bits_law.specs.Reading.{Comes}
use Rattle.bits_law.proofs.Readers.{Reads, quiet, end_reads, value_reads, class_costs, uniform_costs, block_costs, arm_costs}

-- ---- ends that read no more
silent : (m : Weighted End) (H : End → Rational) → ((e : End) → stop H e ≃ nought) → integral (stop H) m ≃ nought
silent m H h = same_trans (integral_same (stop H) (λ e. nought) m h) (integral_nought m)

no_more : (F : State → Rational) (e : End) → stop (λ e. end_reads e F) e ≃ nought
no_more F (on s) = same_refl nought
no_more F failed = same_refl nought
no_more F (fault f) = same_refl nought
no_more F (limit l) = same_refl nought

quiet_stops : (e : End) → stop quiet e ≃ nought
quiet_stops (on s) = same_refl nought
quiet_stops failed = same_refl nought
quiet_stops (fault f) = same_refl nought
quiet_stops (limit l) = same_refl nought

-- ---- a guard's parts
pub guard_at : (v : Value) (a c : Reads) (F : State → Rational) → value_reads v (λ z. by_truth z a c) F ≃ by_value v (λ f. nought) (λ z. by_truth z (a F) (c F))
guard_at (Err f) a c F = same_refl nought
guard_at (Ok z) a c F = by_test (is_zero z)
  where
    by_test : (b : Bool) → cond b c a F ≃ cond b (c F) (a F)
    by_test true = same_refl _
    by_test false = same_refl _

pub guarded_parts : (v : State → Value) (A C : State → Rational) (I : Table) → integral (guarded v quiet A C) I ≃ integral A (only (holds v) I) ⊕ integral C (only (fails v) I)
guarded_parts v A C I = same_trans (integral_guard v quiet A C I) (same_trans (add_same (silent (faults v I) quiet quiet_stops) (same_refl _)) (nought_add _))

pub guard_reads : (v : State → Value) (a c : State → Reads) (F : State → Rational) (I : Table) →
    integral (λ s. value_reads (v s) (λ z. by_truth z (a s) (c s)) F) I ≃ integral (λ s. a s F) (only (holds v) I) ⊕ integral (λ s. c s F) (only (fails v) I)
guard_reads v a c F I =
    same_trans (integral_same (λ s. value_reads (v s) (λ z. by_truth z (a s) (c s)) F) (guarded v quiet (λ s. a s F) (λ s. c s F)) I (λ s. guard_at (v s) (a s) (c s) F))
    (guarded_parts v (λ s. a s F) (λ s. c s F) I)

pub guard_holds : (v : State → Value) (s : State) (a c : Reads) (F : State → Rational) → holds v s ≡ true → value_reads (v s) (λ z. by_truth z a c) F ≃ a F
guard_holds v s a c F h = by (v s) h
  where
    by_test : (b : Bool) → not b ≡ true → cond b c a F ≃ a F
    by_test true h = absurd (cc)
    by_test false h = same_refl _

    by : (o : Value) → by_value o (λ f. false) (λ z. not (is_zero z)) ≡ true → value_reads o (λ z. by_truth z a c) F ≃ a F
    by (Err f) h = absurd (cc)
    by (Ok z) h = by_test (is_zero z) h

-- ---- statements that take each state by itself
-- what goes on reads what follows, and what ended nothing
counted_reads : (F : State → Rational) (next : Table) (ended : Weighted End) → counted (λ e. end_reads e F) next ended ≃ integral F next
counted_reads F next ended = same_trans (add_same (same_refl (integral F next)) (silent ended (λ e. end_reads e F) (no_more F))) (add_nought _)

-- what comes of a table
pub came : (J : Table) (bits : Fraction) (after : Table) (read : Fraction) → Comes J bits after read → 0 < read.1 → (F : State → Rational) → of read ⊕ integral F after ≃ of bits ⊕ integral F J
came J bits after read o some F =
    add_same (same_sym (of_equal bits read (let z = o.fraction in omega arith) some o.equal)) (same_sym (alike_integral J after o.next F))

module _ (m : State → Reads) (step : State → Weighted End) (I J next : Table) (ended : Weighted End) (bits : Fraction) where
  -- the flow counts what each entry counts by itself
  abbrev pub IsFlow : Type 0
  IsFlow = (F : State → Rational) → integral (λ s. integral (λ e. end_reads e F) (step s)) I ≃ counted (λ e. end_reads e F) next ended

  taken_is : IsFlow → (F : State → Rational) → integral (λ s. integral (λ e. end_reads e F) (step s)) I ≃ integral F next
  taken_is flow F = same_trans (flow F) (counted_reads F next ended)

  pub alone : IsFlow → Comes J bits next zero_share → ((s : State) (F : State → Rational) → m s F ≃ integral (λ e. end_reads e F) (step s)) → (F : State → Rational) →
      integral (λ s. m s F) I ≃ of bits ⊕ integral F J
  alone flow o h F =
      same_trans (integral_same (λ s. m s F) (λ s. integral (λ e. end_reads e F) (step s)) I (λ s. h s F))
      (same_trans (taken_is flow F)
      (same_trans (same_sym (nought_add _)) (same_trans (add_same (same_sym (of_zero 1)) (same_refl (integral F next))) (came J bits _ zero_share o (omega arith) F))))

  -- where each state reads something first
  pub alone_after : IsFlow → (read : Fraction) (first : State → Rational) → 0 < read.1 → of read ≃ integral first I → Comes J bits next read →
      ((s : State) (F : State → Rational) → m s F ≃ first s ⊕ integral (λ e. end_reads e F) (step s)) → (F : State → Rational) → integral (λ s. m s F) I ≃ of bits ⊕ integral F J
  alone_after flow read first some is o h F =
      same_trans (integral_same (λ s. m s F) (λ s. first s ⊕ integral (λ e. end_reads e F) (step s)) I (λ s. h s F))
      (same_trans (integral_sum first (λ s. integral (λ e. end_reads e F) (step s)) I)
      (same_trans (add_same (same_sym is) (taken_is flow F)) (came J bits _ read o some F)))

sure_is : (e : End) (F : State → Rational) → end_reads e F ≃ integral (λ e. end_reads e F) (sure e)
sure_is e F = same_sym (integral_sure (λ e. end_reads e F) e)

module _ (s : State) (F : State → Rational) where
  abbrev IsStep : Reads → Weighted End → Type 0
  IsStep m w = m F ≃ integral (λ e. end_reads e F) w

  pub skip_is : IsStep (end_reads (on s)) (statement_weighted 0 None Skip s)
  skip_is = sure_is (on s) F

  pub set_is : (x : ℕ) (v : Value) → IsStep (value_reads v (λ z. end_reads (on (slice_set s x z)))) (by_value v (λ f. sure (fault f)) (λ z. sure (on (slice_set s x z))))
  set_is x (Ok z) = sure_is (on (slice_set s x z)) F
  set_is x (Err f) = sure_is (fault f) F

  pub observe_is : (v : Value) → IsStep (value_reads v (λ z. by_truth z (end_reads (on s)) (end_reads failed))) (by_value v (λ f. sure (fault f)) (λ z. by_truth z (sure (on s)) (sure failed)))
  observe_is (Err f) = sure_is (fault f) F
  observe_is (Ok z) = by_test (is_zero z)
    where
      by_test : (b : Bool) → cond b (end_reads failed) (end_reads (on s)) F ≃ integral (λ e. end_reads e F) (cond b (sure failed) (sure (on s)))
      by_test true = sure_is failed F
      by_test false = sure_is (on s) F

-- fractions above 0, of which one is given for each entry
abbrev pub Counted : {A : Type 0} → (A → Fraction) → Weighted A → Type 0
Counted f [] = Unit {0}
Counted f (e ∷ m) = (0 < e.0.1) × (0 < (f e.1).1) × Counted f m

pub average_some : {A : Type 0} (f : A → Fraction) (m : Weighted A) → Counted f m → 0 < (on_average m f).1
average_some f [] h = omega arith
average_some f (e ∷ m) h = product_pos (e.0.1 * (f e.1).1) (on_average m f).1 (product_pos e.0.1 (f e.1).1 h.0 h.1) (average_some f m h.2)

pub average_is : {A : Type 0} (f : A → Fraction) (m : Weighted A) → Counted f m → of (on_average m f) ≃ integral (λ a. of (f a)) m
average_is f [] h = of_zero 1
average_is f (e ∷ m) h =
    same_trans (of_plus (times e.0 (f e.1)) (on_average m f) (product_pos e.0.1 (f e.1).1 h.0 h.1) (average_some f m h.2)) (add_same (of_times e.0 (f e.1)) (average_is f m h.2))

-- ---- classes
-- classes that are numbered from one more
classes_shifted : (weight : ℕ → Fraction) (i c : ℕ) (ends : List ℕ) (k : ℕ → Rational) →
    integral (λ class. by_class class nought k) (classes_from weight (i + 1) c ends) ≃ integral (λ class. by_class class nought (λ j. k (suc j))) (classes_from weight i c ends)
classes_shifted weight i c [] k = same_refl nought
classes_shifted weight i c (d ∷ ends) k =
    let e : i + 1 ≡ suc i = omega arith in
    add_same (subst (λ j. of (weight (d - c)) ⊗ k j ≃ of (weight (d - c)) ⊗ k (suc i)) (sym e) (same_refl _)) (classes_shifted weight (i + 1) d ends k)

nothing_first : (e : End) (F : State → Rational) → end_reads e F ≃ nought ⊕ integral (λ e. end_reads e F) (sure e)
nothing_first e F = same_trans (sure_is e F) (same_sym (nought_add _))

-- ---- draws, by their price
module _ (price : Price) where
  pub draw_some : (ends : List ℕ) → 0 < last_end ends → 0 < (price_of_draw price None ends).1
  draw_some ends some =
      let k = bits_for (last_end ends) in
      let p = pow_pos k in
      let h = bits_enough (last_end ends) in
      let left : 2 ^ k - (2 ^ k - last_end ends) ≡ last_end ends = omega arith in
      product_pos (2 ^ k) (2 ^ k - rejected_numbers (last_end ends)) p (subst (λ x. 0 < x) (sym left) some)

  pub each_counted : (ends : List ℕ) → 0 < last_end ends → (I : Table) → Positive I → Counted (price_of_draw price None) (drawn_each ends I)
  each_counted ends some [] p = tt
  each_counted ends some (e ∷ I) p = (p.0, draw_some ends some, each_counted ends some I p.1)

  each_drawn : (ends : List ℕ) (I : Table) → integral (λ ends. of (price_of_draw price None ends)) (drawn_each ends I) ≃ integral (λ s. of (price_of_draw price None ends)) I
  each_drawn ends [] = same_refl nought
  each_drawn ends (e ∷ I) = add_same (same_refl _) (each_drawn ends I)

  module _ (ends : List ℕ) (some : 0 < last_end ends) (I : Table) (p : Positive I) where
    pub each_some : 0 < (price_of_draws price (drawn_each ends I)).1
    each_some = average_some (price_of_draw price None) (drawn_each ends I) (each_counted ends some I p)

    pub each_is : of (price_of_draws price (drawn_each ends I)) ≃ integral (λ s. of (price_of_draw price None ends)) I
    each_is = same_trans (average_is (price_of_draw price None) (drawn_each ends I) (each_counted ends some I p)) (each_drawn ends I)

  -- ---- a uniform draw
  abbrev pub bound_reads : Value → Rational
  bound_reads v = by_value v (λ f. nought) (λ z. by_bound z nought (λ m. of (price_of_draw price None (uniform_ends m))))

  pub bound_counted : (v : State → Value) (I : Table) → Positive I → Counted (price_of_draw price None) (drawn_bound v I)
  bound_counted v [] p = tt
  bound_counted v (e ∷ I) p = by (v e.1) (bound_counted v I p.1)
    where
      by : (o : Value) → Counted (price_of_draw price None) (drawn_bound v I) → Counted (price_of_draw price None) (by_value o (λ f. []) (λ z. by_bound z [] (λ m. (e.0, uniform_ends m) ∷ [])) ++ drawn_bound v I)
      by (Err f) h = h
      by (Ok (pos zero)) h = h
      by (Ok (negsuc m)) h = h
      by (Ok (pos (suc m))) h = (p.0, draw_some (uniform_ends (suc m)) (let l = last_of_equal (suc m) in omega arith), h)

  bound_drawn : (v : State → Value) (I : Table) → integral (λ ends. of (price_of_draw price None ends)) (drawn_bound v I) ≃ integral (λ s. bound_reads (v s)) I
  bound_drawn v [] = same_refl nought
  bound_drawn v (e ∷ I) = by (v e.1) (bound_drawn v I)
    where
      X : Rational
      X = integral (λ ends. of (price_of_draw price None ends)) (drawn_bound v I)

      A : Rational
      A = integral (λ s. bound_reads (v s)) I

      none : X ≃ A → X ≃ of e.0 ⊗ nought ⊕ A
      none i = same_trans i (same_sym (same_trans (add_same (times_nought (of e.0)) (same_refl A)) (nought_add A)))

      by : (o : Value) → X ≃ A → integral (λ ends. of (price_of_draw price None ends)) (by_value o (λ f. []) (λ z. by_bound z [] (λ m. (e.0, uniform_ends m) ∷ [])) ++ drawn_bound v I) ≃ of e.0 ⊗ bound_reads o ⊕ A
      by (Err f) i = none i
      by (Ok (pos zero)) i = none i
      by (Ok (negsuc m)) i = none i
      by (Ok (pos (suc m))) i = add_same (same_refl _) i

  module _ (v : State → Value) (I : Table) (p : Positive I) where
    pub bound_some : 0 < (price_of_draws price (drawn_bound v I)).1
    bound_some = average_some (price_of_draw price None) (drawn_bound v I) (bound_counted v I p)

    pub bound_is : of (price_of_draws price (drawn_bound v I)) ≃ integral (λ s. bound_reads (v s)) I
    bound_is = same_trans (average_is (price_of_draw price None) (drawn_bound v I) (bound_counted v I p)) (bound_drawn v I)

  pub uniform_is : (x : ℕ) (v : Value) (s : State) (F : State → Rational) →
      value_reads v (λ z. uniform_costs price None x z s) F
      ≃ bound_reads v
      ⊕ integral (λ e. end_reads e F) (by_value v (λ f. sure (fault f)) (λ z. by_bound z (sure (fault BadBound)) (λ m. taken_on (weighted_classes (uniform_ends m) None) (λ class. by_class class (sure (limit Attempts)) (λ i. sure (on (slice_set s x (pos i))))))))
  uniform_is x (Err f) s F = nothing_first (fault f) F
  uniform_is x (Ok (pos zero)) s F = nothing_first (fault BadBound) F
  uniform_is x (Ok (negsuc m)) s F = nothing_first (fault BadBound) F
  uniform_is x (Ok (pos (suc m))) s F =
      let cl = weighted_classes (uniform_ends (suc m)) None in
      let k = λ (class : Option ℕ). by_class class (sure (limit Attempts)) (λ i. sure (on (slice_set s x (pos i)))) in
      let f = λ (class : Option ℕ). by_class class nought (λ i. end_reads (on (slice_set s x (pos i))) F) in
      let h : (class : Option ℕ) → f class ≃ integral (λ e. end_reads e F) (k class) = elim [ None ↦ sure_is (limit Attempts) F | Some i ↦ sure_is (on (slice_set s x (pos i))) F ] in
      add_same (same_refl _) (same_trans (integral_same f (λ class. integral (λ e. end_reads e F) (k class)) cl h) (same_sym (integral_taken (λ e. end_reads e F) cl k)))

  -- ---- choices
  pub sides_are : (p : Weight) (a c : Reads) (F : State → Rational) →
      class_costs price None (choice_ends p) (λ i. by_side i a c) F
      ≃ of (price_of_draw price None (choice_ends p)) ⊕ (of (class_weight p.den None p.num) ⊗ a F ⊕ of (class_weight p.den None (p.den - p.num)) ⊗ c F)
  sides_are p a c F =
      let q : p.num - 0 ≡ p.num = omega arith in
      let l = of (class_weight p.den None (p.den - p.num)) ⊗ c F in
      let last : of zero_share ⊗ nought ⊕ nought ≃ nought = same_trans (add_nought _) (times_nought _) in
      add_same (same_refl (of (price_of_draw price None (choice_ends p))))
      (add_same (subst (λ x. of (x, p.den) ⊗ a F ≃ of (class_weight p.den None p.num) ⊗ a F) (sym q) (same_refl _)) (same_trans (add_same (same_refl l) last) (add_nought l)))

  module _ (n : ℕ) (F : State → Rational) where
    -- what each arm reads, where the parts are b together
    abbrev pub arms_read : ℕ → ArmList → State → Rational
    arms_read b no_arm s = nought
    arms_read b (arm p a arms) s = of (class_weight b None p) ⊗ block_costs price None n a s F ⊕ arms_read b arms s

    arm_by_arm : (b c : ℕ) (arms : ArmList) (s : State) →
        integral (λ class. by_class class nought (λ i. arm_costs price None n arms i s F)) (classes_from (class_weight b None) 0 c (sums_from c (parts_of arms))) ≃ arms_read b arms s
    arm_by_arm b c no_arm s = same_refl nought
    arm_by_arm b c (arm p a arms) s =
        let size : c + p - c ≡ p = omega arith in
        let x = block_costs price None n a s F in
        add_same (subst (λ k. of (class_weight b None k) ⊗ x ≃ of (class_weight b None p) ⊗ x) (sym size) (same_refl _))
        (same_trans (classes_shifted (class_weight b None) 0 (c + p) (sums_from (c + p) (parts_of arms)) (λ i. arm_costs price None n (arm p a arms) i s F)) (arm_by_arm b (c + p) arms s))

    pub choose_is : (arms : ArmList) (s : State) →
        class_costs price None (partial_sums (parts_of arms)) (λ i. arm_costs price None n arms i s) F ≃ of (price_of_draw price None (partial_sums (parts_of arms))) ⊕ arms_read (sum (parts_of arms)) arms s
    choose_is arms s =
        let ends = partial_sums (parts_of arms) in
        let go = λ (class : Option ℕ). by_class class nought (λ i. arm_costs price None n arms i s F) in
        let last : of zero_share ⊗ nought ⊕ nought ≃ nought = same_trans (add_nought _) (times_nought _) in
        add_same (same_refl (of (price_of_draw price None ends)))
        (same_trans (integral_append go (classes_from (class_weight (last_end ends) None) 0 0 ends) ((zero_share, None) ∷ []))
        (same_trans (add_same (same_refl _) last)
        (same_trans (add_nought _) (subst (λ b. integral go (classes_from (class_weight b None) 0 0 ends) ≃ arms_read (sum (parts_of arms)) arms s) (sym (last_is (parts_of arms))) (arm_by_arm (sum (parts_of arms)) 0 arms s)))))
