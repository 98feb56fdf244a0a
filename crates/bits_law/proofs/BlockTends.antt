-- What a block reads from a table, by as many attempts as each draw takes, tends to what is said of it as turns grow.
use Rattle.std.proofs.Common.{ℕ, ◌-◌, ◌<◌, [], ◌++◌, None, arith, subst}
use Rattle.std.specs.List.{sum}
use Rattle.gcl_core.specs.meaning.Arms.{parts_of}
use Rattle.gcl_core.specs.meaning.Bounds.{StatementIsWeighed, BlockIsWeighed, ArmsAreWeighed}
use Rattle.gcl_core.specs.meaning.Draw.{last_end, choice_ends}
use Rattle.gcl_core.specs.meaning.Parts.{partial_sums}
use Rattle.gcl_core.specs.meaning.Syntax.{Statement, Skip, Set, If, While, Choice, Choose, Uniform, Observe, Statements, done, ◌▸◌, ArmList, no_arm, arm}
use Rattle.gcl_core.specs.meaning.Value.{State, value_of}
use Rattle.gcl_core.specs.weighing.Fractions.{Fraction, zero_share, plus}
use Rattle.gcl_core.specs.weighing.WeightedEnds.{scaled, class_weight, statement_weighted}
use Rattle.gcl_core.proofs.PartialSums.{last_is}
use Rattle.table_flow.specs.Tables.{Table, holds, fails, only, statement_flow, fractions_kind}
use Rattle.table_flow.proofs.FlowWords.{drawn_each, drawn_bound}
use Rattle.table_flow.proofs.Positive.{Positive, p_only, p_scaled}
use Rattle.table_flow.proofs.UniformLists.{reached_by_list}
use Rattle.weighing_law.proofs.Shares.{product_pos}
use Rattle.unlimited_law.proofs.Numbers.{Rational, ◌⊕◌, ◌⊗◌, ◌≃◌, nought, below_refl, same_refl, same_sym, same_trans, add_below, add_same, add_assoc, times_below, nought_add}
use Rattle.unlimited_law.proofs.FractionNumbers.{of, of_plus, of_zero}
use Rattle.unlimited_law.proofs.Integrals.{integral, integral_append, integral_below, integral_same, integral_sum, integral_nought, regroup4}
use Rattle.unlimited_law.proofs.FlowIntegrals.{weighed, skip_counted, set_counted, seen_counted, drawn_counted}
use Rattle.unlimited_law.proofs.BlockLimits.{all_positive}
use Rattle.bits_law.specs.Price.{Price, price_of_draw, price_of_draws}
use Rattle.bits_law.specs.Reading.{Comes, TurnCosts, StatementCosts, BlockCosts, ArmsCost}
use Rattle.bits_law.proofs.Readers.{Reads, end_reads, turn_reads, statement_costs, block_costs, statement_rises, block_rises}
use Rattle.bits_law.proofs.Tends.{Rising, Tends, tends_exact, tends_same, tends_both, tends_beside, tends_then}
use Rattle.bits_law.proofs.TableReads.{guard_reads, came, alone, alone_after, skip_is, set_is, observe_is, each_some, each_is, bound_reads, bound_some, bound_is, uniform_is, sides_are, arms_read, choose_is}
use Rattle.bits_law.proofs.LoopTends.{loop_tends}
use Rattle.bits_law.proofs.TurnTends.{turned_rising, turn_some, turn_tends}

left_positive : (J : Table) (bits : Fraction) (after : Table) (read : Fraction) → Comes J bits after read → Positive J
left_positive J bits after read o = all_positive J o.next.first

-- ---- parts together
joined : (y z : Fraction) → 0 < y.1 → 0 < z.1 → (K L : Table) (F : State → Rational) → of y ⊕ integral F K ⊕ (of z ⊕ integral F L) ≃ of (plus y z) ⊕ integral F (K ++ L)
joined y z h g K L F = same_trans (regroup4 (of y) (integral F K) (of z) (integral F L)) (add_same (same_sym (of_plus y z h g)) (same_sym (integral_append F K L)))

before : (d y : Fraction) → 0 < d.1 → 0 < y.1 → (x : Rational) → of d ⊕ (of y ⊕ x) ≃ of (plus d y) ⊕ x
before d y h g x = same_trans (same_sym (add_assoc (of d) (of y) x)) (add_same (same_sym (of_plus d y h g)) (same_refl x))

rising_table : (m : ℕ → State → Reads) (I : Table) → ((s : State) → Rising (λ n. m n s)) → Rising (λ n F. integral (λ s. m n s F) I)
rising_table m I h = record { rises = λ n k le F G g. integral_below (λ s. m n s F) (λ s. m k s G) I (λ s. (h s).rises n k le F G g) }

abbrev pub Reach : (ℕ → State → Reads) → Table → Table → Fraction → Type 0
Reach m I J bits = Tends (λ n F. integral (λ s. m n s F) I) (λ F. of bits ⊕ integral F J)

-- ---- by a price
module _ (price : Price) where
  pub block_some : (b : Statements) (I J : Table) (bits : Fraction) → BlockCosts price b I J bits → 0 < bits.1
  block_some done I J bits o = let z = o.fraction in omega arith
  block_some (st ▸ b) I J bits o = let z = o.6.fraction in omega arith

  pub arms_some : (b : ℕ) (arms : ArmList) (I J : Table) (bits : Fraction) → ArmsCost price b arms I J bits → 0 < bits.1
  arms_some b no_arm I J bits o = let z = o.fraction in omega arith
  arms_some b (arm p a arms) I J bits o = let z = o.6.fraction in omega arith

  pub statement_left : (st : Statement) (I J : Table) (bits : Fraction) → StatementCosts price st I J bits → Positive J
  statement_left Skip I J bits o = left_positive J bits _ _ o
  statement_left (Set x e) I J bits o = left_positive J bits _ _ o
  statement_left (Observe e) I J bits o = left_positive J bits _ _ o
  statement_left (Uniform x e) I J bits o = left_positive J bits _ _ o
  statement_left (If e a c) I J bits o = left_positive J bits _ _ o.6
  statement_left (Choice p a c) I J bits o = left_positive J bits _ _ o.6
  statement_left (Choose arms) I J bits o = left_positive J bits _ _ o.3
  statement_left (While e a) I J bits o = left_positive J bits _ _ o.6

  pub statement_some : (st : Statement) (I J : Table) (bits : Fraction) → StatementCosts price st I J bits → 0 < bits.1
  statement_some Skip I J bits o = let z = o.fraction in omega arith
  statement_some (Set x e) I J bits o = let z = o.fraction in omega arith
  statement_some (Observe e) I J bits o = let z = o.fraction in omega arith
  statement_some (Uniform x e) I J bits o = let z = o.fraction in omega arith
  statement_some (If e a c) I J bits o = let z = o.6.fraction in omega arith
  statement_some (Choice p a c) I J bits o = let z = o.6.fraction in omega arith
  statement_some (Choose arms) I J bits o = let z = o.3.fraction in omega arith
  statement_some (While e a) I J bits o = let z = o.6.fraction in omega arith

  statement_rising : (st : Statement) (s : State) → Rising (λ n. statement_costs price None n st s)
  statement_rising st s = record { rises = λ n k le F G g. statement_rises price None n k le st s F G g }

  pub block_rising : (b : Statements) (s : State) → Rising (λ n. block_costs price None n b s)
  block_rising b s = record { rises = λ n k le F G g. block_rises price None n k le b s F G g }

  arms_rise : (b : ℕ) (arms : ArmList) (s : State) → Rising (λ n F. arms_read price n F b arms s)
  arms_rise b no_arm s = record { rises = λ n k le F G g. below_refl nought }
  arms_rise b (arm p a arms) s = record {
    rises = λ n k le F G g. add_below (times_below (of (class_weight b None p)) (block_rises price None n k le a s F G g)) ((arms_rise b arms s).rises n k le F G g);
  }

  mutual
    pub statement_tends : (st : Statement) → StatementIsWeighed st → (I J : Table) (bits : Fraction) → Positive I → StatementCosts price st I J bits → Reach (λ n. statement_costs price None n st) I J bits
    statement_tends Skip w I J bits p o =
        tends_exact _ _ (λ n F. alone (statement_costs price None n Skip) (statement_weighted 0 None Skip) I J (statement_flow 0 None Skip I).next (statement_flow 0 None Skip I).ended bits (λ F. skip_counted (λ e. end_reads e F) I) o (λ s F. skip_is s F) F)
    statement_tends (Set x e) w I J bits p o =
        tends_exact _ _
        (λ n F. alone (statement_costs price None n (Set x e)) (statement_weighted 0 None (Set x e)) I J (statement_flow 0 None (Set x e) I).next (statement_flow 0 None (Set x e) I).ended bits (λ F. set_counted (λ e. end_reads e F) x (value_of e) I) o (λ s F. set_is s F x (value_of e s)) F)
    statement_tends (Observe e) w I J bits p o =
        tends_exact _ _
        (λ n F. alone (statement_costs price None n (Observe e)) (statement_weighted 0 None (Observe e)) I J (statement_flow 0 None (Observe e) I).next (statement_flow 0 None (Observe e) I).ended bits (λ F. seen_counted (λ e. end_reads e F) (value_of e) I) o (λ s F. observe_is s F (value_of e s)) F)
    statement_tends (Uniform x e) w I J bits p o =
        tends_exact _ _
        (λ n F. alone_after (statement_costs price None n (Uniform x e)) (statement_weighted 0 None (Uniform x e)) I J (statement_flow 0 None (Uniform x e) I).next (statement_flow 0 None (Uniform x e) I).ended bits (λ F. drawn_counted (λ e. end_reads e F) x (value_of e) I) (price_of_draws price (drawn_bound (value_of e) I)) (λ s. bound_reads price (value_of e s))
        (bound_some price (value_of e) I p) (bound_is price (value_of e) I p)
        (subst (λ d. Comes J bits (statement_flow 0 None (Uniform x e) I).next (price_of_draws price d)) (reached_by_list fractions_kind None x (value_of e) I) o) (λ s F. uniform_is price x (value_of e s) s F) F)
    statement_tends (If e a c) w I J bits p o =
        let A = only (holds (value_of e)) I in
        let C = only (fails (value_of e)) I in
        let X = λ (n : ℕ) (F : State → Rational). integral (λ s. block_costs price None n a s F) A in
        let Y = λ (n : ℕ) (F : State → Rational). integral (λ s. block_costs price None n c s F) C in
        let y = block_some a A o.0 o.2 o.4 in
        let z = block_some c C o.1 o.3 o.5 in
        tends_same (λ n F. X n F ⊕ Y n F) (λ n F. integral (λ s. statement_costs price None n (If e a c) s F) I) (λ F. of o.2 ⊕ integral F o.0 ⊕ (of o.3 ⊕ integral F o.1)) (λ F. of bits ⊕ integral F J)
        (λ n F. same_sym (guard_reads (value_of e) (block_costs price None n a) (block_costs price None n c) F I))
        (λ F. same_trans (joined o.2 o.3 y z o.0 o.1 F) (came J bits (o.0 ++ o.1) (plus o.2 o.3) o.6 (product_pos o.2.1 o.3.1 y z) F))
        (tends_both X Y _ _ (rising_table (λ n. block_costs price None n a) A (block_rising a)) (rising_table (λ n. block_costs price None n c) C (block_rising c))
        (block_tends a w.0 A o.0 o.2 (p_only (holds (value_of e)) I p) o.4) (block_tends c w.1 C o.1 o.3 (p_only (fails (value_of e)) I p) o.5))
    statement_tends (Choice q a c) w I J bits p o =
        let ends = choice_ends q in
        let some : 0 < q.den = let h = w.0.positive in omega arith in
        let u = class_weight q.den None q.num in
        let l = class_weight q.den None (q.den - q.num) in
        let A = scaled u I in
        let C = scaled l I in
        let d = price_of_draws price (drawn_each ends I) in
        let X = λ (n : ℕ) (F : State → Rational). integral (λ s. block_costs price None n a s F) A in
        let Y = λ (n : ℕ) (F : State → Rational). integral (λ s. block_costs price None n c s F) C in
        let y = block_some a A o.0 o.2 o.4 in
        let z = block_some c C o.1 o.3 o.5 in
        let yz = product_pos o.2.1 o.3.1 y z in
        let ds = each_some price ends some I p in
        tends_same (λ n F. of d ⊕ (X n F ⊕ Y n F)) (λ n F. integral (λ s. statement_costs price None n (Choice q a c) s F) I) (λ F. of d ⊕ (of o.2 ⊕ integral F o.0 ⊕ (of o.3 ⊕ integral F o.1)))
        (λ F. of bits ⊕ integral F J)
        (λ n F. same_sym
        (same_trans
        (integral_same (λ s. statement_costs price None n (Choice q a c) s F) (λ s. of (price_of_draw price None ends) ⊕ (of u ⊗ block_costs price None n a s F ⊕ of l ⊗ block_costs price None n c s F)) I
        (λ s. sides_are price q (block_costs price None n a s) (block_costs price None n c s) F))
        (same_trans (integral_sum (λ s. of (price_of_draw price None ends)) (λ s. of u ⊗ block_costs price None n a s F ⊕ of l ⊗ block_costs price None n c s F) I)
        (add_same (same_sym (each_is price ends some I p))
        (same_trans (integral_sum (λ s. of u ⊗ block_costs price None n a s F) (λ s. of l ⊗ block_costs price None n c s F) I)
        (add_same (weighed u (λ s. block_costs price None n a s F) I) (weighed l (λ s. block_costs price None n c s F) I)))))))
        (λ F. same_trans (add_same (same_refl (of d)) (joined o.2 o.3 y z o.0 o.1 F))
        (same_trans (before d (plus o.2 o.3) ds yz (integral F (o.0 ++ o.1))) (came J bits (o.0 ++ o.1) (plus d (plus o.2 o.3)) o.6 (product_pos d.1 (plus o.2 o.3).1 ds yz) F)))
        (tends_beside (of d) (λ n F. X n F ⊕ Y n F) _
        (tends_both X Y _ _ (rising_table (λ n. block_costs price None n a) A (block_rising a)) (rising_table (λ n. block_costs price None n c) C (block_rising c))
        (block_tends a w.1 A o.0 o.2 (p_scaled u I some p) o.4) (block_tends c w.2 C o.1 o.3 (p_scaled l I some p) o.5)))
    statement_tends (Choose arms) w I J bits p o =
        let b = sum (parts_of arms) in
        let ends = partial_sums (parts_of arms) in
        let some : 0 < b = let h = w.0.positive in omega arith in
        let last : 0 < last_end ends = let e = last_is (parts_of arms) in omega arith in
        let d = price_of_draws price (drawn_each ends I) in
        let ds = each_some price ends last I p in
        let y = arms_some b arms I o.0 o.1 o.2 in
        tends_same (λ n F. of d ⊕ integral (λ s. arms_read price n F b arms s) I) (λ n F. integral (λ s. statement_costs price None n (Choose arms) s F) I) (λ F. of d ⊕ (of o.1 ⊕ integral F o.0)) (λ F. of bits ⊕ integral F J)
        (λ n F. same_sym
        (same_trans (integral_same (λ s. statement_costs price None n (Choose arms) s F) (λ s. of (price_of_draw price None ends) ⊕ arms_read price n F b arms s) I (λ s. choose_is price n F arms s))
        (same_trans (integral_sum (λ s. of (price_of_draw price None ends)) (λ s. arms_read price n F b arms s) I) (add_same (same_sym (each_is price ends last I p)) (same_refl _)))))
        (λ F. same_trans (before d o.1 ds y (integral F o.0)) (came J bits o.0 (plus d o.1) o.3 (product_pos d.1 o.1.1 ds y) F))
        (tends_beside (of d) (λ n F. integral (λ s. arms_read price n F b arms s) I) _ (arms_tend b some arms w.1 I o.0 o.1 p o.2))
    statement_tends (While e a) w I J bits p o =
        let turns = price.turns in
        let B = λ (n : ℕ). block_costs price None n a in
        let Body = BlockCosts price a in
        loop_tends (value_of e) (λ n s. turn_reads turns (B n s)) (turned_rising turns B (block_rising a)) (TurnCosts turns Body) (turn_some Body turns (block_some a)) (turn_tends Body B (block_some a) (block_tends a w) turns) I J bits o

    pub block_tends : (b : Statements) → BlockIsWeighed b → (I J : Table) (bits : Fraction) → Positive I → BlockCosts price b I J bits → Reach (λ n. block_costs price None n b) I J bits
    block_tends done w I J bits p o =
        tends_exact _ _ (λ n F. same_trans (same_trans (same_sym (nought_add (integral F I))) (add_same (same_sym (of_zero 1)) (same_refl (integral F I)))) (came J bits I zero_share o (omega arith) F))
    block_tends (st ▸ b) w I J bits p o =
        let y = statement_some st I o.0 o.2 o.4 in
        let z = block_some b o.0 o.1 o.3 o.5 in
        tends_then (λ n F. integral (λ s. statement_costs price None n st s F) I) (λ F. of o.2 ⊕ integral F o.0) (λ n. block_costs price None n b) (λ n F. integral (λ s. block_costs price None n b s F) o.0) (λ F. of o.3 ⊕ integral F o.1)
        (λ F. of bits ⊕ integral F J) (of o.2) (rising_table (λ n. statement_costs price None n st) I (statement_rising st)) (block_rising b) (statement_tends st w.0 I o.0 o.2 p o.4)
        (block_tends b w.1 o.0 o.1 o.3 (statement_left st I o.0 o.2 o.4) o.5) (λ n F. same_refl _)
        (λ F. same_trans (before o.2 o.3 y z (integral F o.1)) (came J bits o.1 (plus o.2 o.3) o.6 (product_pos o.2.1 o.3.1 y z) F))

    arms_tend : (b : ℕ) → 0 < b → (arms : ArmList) → ArmsAreWeighed arms → (I J : Table) (bits : Fraction) → Positive I → ArmsCost price b arms I J bits →
        Tends (λ n F. integral (λ s. arms_read price n F b arms s) I) (λ F. of bits ⊕ integral F J)
    arms_tend b some no_arm w I J bits p o =
        tends_exact _ _
        (λ n F. same_trans (integral_nought I) (same_trans (same_sym (nought_add nought)) (same_trans (add_same (same_sym (of_zero 1)) (same_refl nought)) (came J bits [] zero_share o (omega arith) F))))
    arms_tend b some (arm q a arms) w I J bits p o =
        let u = class_weight b None q in
        let A = scaled u I in
        let X = λ (n : ℕ) (F : State → Rational). integral (λ s. block_costs price None n a s F) A in
        let Y = λ (n : ℕ) (F : State → Rational). integral (λ s. arms_read price n F b arms s) I in
        let y = block_some a A o.0 o.2 o.4 in
        let z = arms_some b arms I o.1 o.3 o.5 in
        tends_same (λ n F. X n F ⊕ Y n F) (λ n F. integral (λ s. arms_read price n F b (arm q a arms) s) I) (λ F. of o.2 ⊕ integral F o.0 ⊕ (of o.3 ⊕ integral F o.1)) (λ F. of bits ⊕ integral F J)
        (λ n F. same_sym (same_trans (integral_sum (λ s. of u ⊗ block_costs price None n a s F) (λ s. arms_read price n F b arms s) I) (add_same (weighed u (λ s. block_costs price None n a s F) I) (same_refl _))))
        (λ F. same_trans (joined o.2 o.3 y z o.0 o.1 F) (came J bits (o.0 ++ o.1) (plus o.2 o.3) o.6 (product_pos o.2.1 o.3.1 y z) F))
        (tends_both X Y _ _ (rising_table (λ n. block_costs price None n a) A (block_rising a)) (rising_table (λ n s F. arms_read price n F b arms s) I (arms_rise b arms))
        (block_tends a w.0 A o.0 o.2 (p_scaled u I some p) o.4) (arms_tend b some arms w.1 I o.1 o.3 p o.5))
