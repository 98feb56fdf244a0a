-- At a limit of turns a table reads the bits of the draws that it reaches, and goes on as its flow does.
use Rattle.std.proofs.Common.{ℕ, zero, suc, ◌-◌, ◌<◌, List, [], ◌∷◌, ◌++◌, None, refl, arith}
use Rattle.std.specs.List.{sum}
use Rattle.gcl_core.specs.declared.answers.Limit.TheVariants.{Turns}
use Rattle.gcl_core.specs.meaning.Arms.{parts_of}
use Rattle.gcl_core.specs.meaning.Bounds.{StatementIsWeighed, BlockIsWeighed, ArmsAreWeighed}
use Rattle.gcl_core.specs.meaning.Blocks.{limit, on}
use Rattle.gcl_core.specs.meaning.Draw.{last_end, choice_ends}
use Rattle.gcl_core.specs.meaning.Parts.{partial_sums}
use Rattle.gcl_core.specs.meaning.Syntax.{Statement, Skip, Set, If, While, Choice, Choose, Uniform, Observe, Statements, done, ◌▸◌, ArmList, no_arm, arm}
use Rattle.gcl_core.specs.meaning.Value.{State, Value, value_of}
use Rattle.gcl_core.specs.weighing.Fractions.{Fraction, zero_share}
use Rattle.gcl_core.specs.weighing.WeightedEnds.{scaled, class_weight, statement_weighted}
use Rattle.gcl_core.proofs.PartialSums.{last_is}
use Rattle.table_flow.specs.Tables.{Table, holds, fails, only, statement_flow, block_flow, ReachedDraws, fractions_kind}
use Rattle.table_flow.proofs.FlowWords.{loop_flow, arms_flow, drawn_each, drawn_bound, loop_draws, statement_draws, block_draws, arms_draws}
use Rattle.table_flow.proofs.Positive.{Positive, p_scaled, p_only, p_one, p_all, IsPositiveDraw}
use Rattle.table_flow.proofs.EachMember.{Each}
use Rattle.table_flow.proofs.UniformLists.{reached_by_list}
use Rattle.unlimited_law.proofs.Numbers.{Rational, ◌⊕◌, ◌⊗◌, ◌≃◌, nought, same_refl, same_sym, same_trans, add_same, add_assoc, add_turned, nought_add, add_nought}
use Rattle.unlimited_law.proofs.FractionNumbers.{of, of_zero}
use Rattle.unlimited_law.proofs.FreeBlocks.{alike_itself}
use Rattle.unlimited_law.proofs.FlowIntegrals.{weighed, skip_counted, set_counted, seen_counted, drawn_counted}
use Rattle.unlimited_law.proofs.Integrals.{integral, integral_append, integral_same, integral_sum, integral_nought, regroup4}
use Rattle.bits_law.specs.Draws.{bits_of_draw, bits_of_draws}
use Rattle.bits_law.specs.Reading.{Comes}
use Rattle.bits_law.proofs.Readers.{Reads, end_reads, then_reads, loop_reads, statement_reads, block_reads}
use Rattle.bits_law.proofs.TableReads.{guard_reads, alone, alone_after, skip_is, set_is, observe_is, Counted, average_is, each_counted, each_is, bound_counted, bound_reads, bound_some, bound_is, uniform_is, sides_are, arms_read, choose_is, draw_some}
use Rattle.bits_law.specs.Price.{bits_price}

abbrev pub cost : List ℕ → Rational
cost ends = of (bits_of_draw None ends)

-- ---- draws that count
counted_draws : (D : ReachedDraws) → Each IsPositiveDraw D → Counted (bits_of_draw None) D
counted_draws [] h = tt
counted_draws (d ∷ D) h = (h.0.0, draw_some bits_price d.1 h.0.1, counted_draws D h.1)

pub statement_counted : (n : ℕ) (st : Statement) → StatementIsWeighed st → (I : Table) → Positive I → Counted (bits_of_draw None) (statement_draws n None st I)
statement_counted n st w I h = counted_draws (statement_draws n None st I) (p_one n None st I w h).reached

pub block_counted : (n : ℕ) (b : Statements) → BlockIsWeighed b → (I : Table) → Positive I → Counted (bits_of_draw None) (block_draws n None b I)
block_counted n b w I h = counted_draws (block_draws n None b I) (p_all n None b I w h).reached

-- ---- parts together
pub draws_joined : (D E : ReachedDraws) (K L : Table) (F : State → Rational) →
    integral cost D ⊕ integral F K ⊕ (integral cost E ⊕ integral F L) ≃ integral cost (D ++ E) ⊕ integral F (K ++ L)
draws_joined D E K L F =
    same_trans (regroup4 (integral cost D) (integral F K) (integral cost E) (integral F L)) (add_same (same_sym (integral_append cost D E)) (same_sym (integral_append F K L)))

draws_before : (D E : ReachedDraws) (x : Rational) → integral cost D ⊕ (integral cost E ⊕ x) ≃ integral cost (D ++ E) ⊕ x
draws_before D E x = same_trans (same_sym (add_assoc (integral cost D) (integral cost E) x)) (add_same (same_sym (integral_append cost D E)) (same_refl x))

-- each entry counts nothing, or the same
nothing_read : (J : Table) (F : State → Rational) → of zero_share ⊕ integral F J ≃ nought ⊕ integral F J
nothing_read J F = add_same (of_zero 1) (same_refl (integral F J))

as_it_is : (J : Table) (bits : Fraction) → Positive J → 0 < bits.1 → Comes J bits J bits
as_it_is J bits h some = record { next = alike_itself J h; equal = refl; fraction = let z = some in omega arith }

module _ (n : ℕ) where
  -- what the entries of a table read, and what follows counts
  abbrev pub ReadsDraws : (State → Reads) → Table → ReachedDraws → Table → Type 0
  ReadsDraws m I D K = (F : State → Rational) → integral (λ s. m s F) I ≃ integral cost D ⊕ integral F K

  loop_is : (v : State → Value) (a : Statements) → BlockIsWeighed a → ((I : Table) → Positive I → ReadsDraws (block_reads None n a) I (block_draws n None a I) (block_flow n None a I).next) → (t : ℕ) (I : Table) → Positive I →
      ReadsDraws (loop_reads v (block_reads None n a) t) I (loop_draws v (block_flow n None a) t I) (loop_flow v (block_flow n None a) t I).next
  loop_is v a w body zero I h F =
      same_trans (guard_reads v (λ s. end_reads (limit Turns)) (λ s. end_reads (on s)) F I) (add_same (integral_nought (only (holds v) I)) (same_refl (integral F (only (fails v) I))))
  loop_is v a w body (suc t) I h F =
      let A = only (holds v) I in
      let C = only (fails v) I in
      let p = p_only (holds v) I h in
      let f = block_flow n None a A in
      let rest = loop_reads v (block_reads None n a) t in
      let D = block_draws n None a A in
      let E = loop_draws v (block_flow n None a) t f.next in
      let K = (loop_flow v (block_flow n None a) t f.next).next in
      let X = integral F K in
      let Y = integral F C in
      same_trans (guard_reads v (λ s. then_reads (block_reads None n a s) rest) (λ s. end_reads (on s)) F I)
      (same_trans (add_same (same_trans (body A p (λ s. rest s F)) (same_trans (add_same (same_refl (integral cost D)) (loop_is v a w body t f.next (p_all n None a A w p).next F)) (draws_before D E X))) (same_refl Y))
      (same_trans (add_assoc (integral cost (D ++ E)) X Y) (add_same (same_refl (integral cost (D ++ E))) (same_trans (add_turned X Y) (same_sym (integral_append F C K))))))

  -- the draw of each entry
  first : (ends : List ℕ) → 0 < last_end ends → (I : Table) → Positive I → integral (λ s. cost ends) I ≃ integral cost (drawn_each ends I)
  first ends some I h = same_trans (same_sym (each_is bits_price ends some I h)) (average_is (bits_of_draw None) (drawn_each ends I) (each_counted bits_price ends some I h))

  mutual
    statement_is : (st : Statement) → StatementIsWeighed st → (I : Table) → Positive I → ReadsDraws (statement_reads None n st) I (statement_draws n None st I) (statement_flow n None st I).next
    statement_is Skip w I h F =
        let f = statement_flow 0 None Skip I in
        same_trans (alone (statement_reads None n Skip) (statement_weighted 0 None Skip) I f.next f.next f.ended zero_share (λ F. skip_counted (λ e. end_reads e F) I) (as_it_is f.next zero_share (p_one n None Skip I w h).next (omega arith)) (λ s F. skip_is s F) F) (nothing_read f.next F)
    statement_is (Set x e) w I h F =
        let f = statement_flow 0 None (Set x e) I in
        same_trans
        (alone (statement_reads None n (Set x e)) (statement_weighted 0 None (Set x e)) I f.next f.next f.ended zero_share (λ F. set_counted (λ e. end_reads e F) x (value_of e) I) (as_it_is f.next zero_share (p_one n None (Set x e) I w h).next (omega arith)) (λ s F. set_is s F x (value_of e s)) F)
        (nothing_read f.next F)
    statement_is (Observe e) w I h F =
        let f = statement_flow 0 None (Observe e) I in
        same_trans
        (alone (statement_reads None n (Observe e)) (statement_weighted 0 None (Observe e)) I f.next f.next f.ended zero_share (λ F. seen_counted (λ e. end_reads e F) (value_of e) I) (as_it_is f.next zero_share (p_one n None (Observe e) I w h).next (omega arith)) (λ s F. observe_is s F (value_of e s)) F)
        (nothing_read f.next F)
    statement_is (Uniform x e) w I h F =
        let f = statement_flow 0 None (Uniform x e) I in
        let D = drawn_bound (value_of e) I in
        let some = bound_some bits_price (value_of e) I h in
        rw (reached_by_list fractions_kind None x (value_of e) I) (same_trans
        (alone_after (statement_reads None n (Uniform x e)) (statement_weighted 0 None (Uniform x e)) I f.next f.next f.ended (bits_of_draws D) (λ F. drawn_counted (λ e. end_reads e F) x (value_of e) I) (bits_of_draws D) (λ s. bound_reads bits_price (value_of e s))
        some (bound_is bits_price (value_of e) I h) (as_it_is f.next (bits_of_draws D) (p_one n None (Uniform x e) I w h).next some) (λ s F. uniform_is bits_price x (value_of e s) s F) F)
        (add_same (average_is (bits_of_draw None) D (bound_counted bits_price (value_of e) I h)) (same_refl (integral F f.next))))
    statement_is (If e a c) w I h F =
        let A = only (holds (value_of e)) I in
        let C = only (fails (value_of e)) I in
        same_trans (guard_reads (value_of e) (block_reads None n a) (block_reads None n c) F I)
        (same_trans (add_same (block_is a w.0 A (p_only (holds (value_of e)) I h) F) (block_is c w.1 C (p_only (fails (value_of e)) I h) F))
        (draws_joined (block_draws n None a A) (block_draws n None c C) (block_flow n None a A).next (block_flow n None c C).next F))
    statement_is (Choice p a c) w I h F =
        let ends = choice_ends p in
        let some : 0 < p.den = let z = w.0.positive in omega arith in
        let u = class_weight p.den None p.num in
        let l = class_weight p.den None (p.den - p.num) in
        let A = scaled u I in
        let C = scaled l I in
        let D = block_draws n None a A in
        let E = block_draws n None c C in
        same_trans
        (integral_same (λ s. statement_reads None n (Choice p a c) s F) (λ s. cost ends ⊕ (of u ⊗ block_reads None n a s F ⊕ of l ⊗ block_reads None n c s F)) I (λ s. sides_are bits_price p (block_reads None n a s) (block_reads None n c s) F))
        (same_trans (integral_sum (λ s. cost ends) (λ s. of u ⊗ block_reads None n a s F ⊕ of l ⊗ block_reads None n c s F) I)
        (same_trans
        (add_same (first ends some I h)
        (same_trans (integral_sum (λ s. of u ⊗ block_reads None n a s F) (λ s. of l ⊗ block_reads None n c s F) I)
        (same_trans (add_same (weighed u (λ s. block_reads None n a s F) I) (weighed l (λ s. block_reads None n c s F) I))
        (same_trans (add_same (block_is a w.1 A (p_scaled u I some h) F) (block_is c w.2 C (p_scaled l I some h) F)) (draws_joined D E (block_flow n None a A).next (block_flow n None c C).next F)))))
        (draws_before (drawn_each ends I) (D ++ E) (integral F (statement_flow n None (Choice p a c) I).next))))
    statement_is (Choose arms) w I h F =
        let b = sum (parts_of arms) in
        let ends = partial_sums (parts_of arms) in
        let some : 0 < b = let z = w.0.positive in omega arith in
        let last : 0 < last_end ends = let e = last_is (parts_of arms) in omega arith in
        same_trans (integral_same (λ s. statement_reads None n (Choose arms) s F) (λ s. cost ends ⊕ arms_read bits_price n F b arms s) I (λ s. choose_is bits_price n F arms s))
        (same_trans (integral_sum (λ s. cost ends) (λ s. arms_read bits_price n F b arms s) I)
        (same_trans (add_same (first ends last I h) (arms_are b some arms w.1 I h F)) (draws_before (drawn_each ends I) (arms_draws n None b arms I) (integral F (arms_flow n None b arms I).next))))
    statement_is (While e a) w I h F = loop_is (value_of e) a w (block_is a w) n I h F

    pub block_is : (b : Statements) → BlockIsWeighed b → (I : Table) → Positive I → ReadsDraws (block_reads None n b) I (block_draws n None b I) (block_flow n None b I).next
    block_is done w I h F = same_sym (nought_add (integral F I))
    block_is (st ▸ b) w I h F =
        let f = statement_flow n None st I in
        same_trans (statement_is st w.0 I h (λ s. block_reads None n b s F))
        (same_trans (add_same (same_refl (integral cost (statement_draws n None st I))) (block_is b w.1 f.next (p_one n None st I w.0 h).next F))
        (draws_before (statement_draws n None st I) (block_draws n None b f.next) (integral F (block_flow n None b f.next).next)))

    arms_are : (b : ℕ) → 0 < b → (arms : ArmList) → ArmsAreWeighed arms → (I : Table) → Positive I → ReadsDraws (λ s F. arms_read bits_price n F b arms s) I (arms_draws n None b arms I) (arms_flow n None b arms I).next
    arms_are b some no_arm w I h F = same_trans (integral_nought I) (same_sym (nought_add nought))
    arms_are b some (arm p a arms) w I h F =
        let u = class_weight b None p in
        let A = scaled u I in
        same_trans (integral_sum (λ s. of u ⊗ block_reads None n a s F) (λ s. arms_read bits_price n F b arms s) I)
        (same_trans (add_same (same_trans (weighed u (λ s. block_reads None n a s F) I) (block_is a w.0 A (p_scaled u I some h) F)) (arms_are b some arms w.1 I h F))
        (draws_joined (block_draws n None a A) (arms_draws n None b arms I) (block_flow n None a A).next (arms_flow n None b arms I).next F))

  -- a table reads its draws, where nothing follows
  pub draws_alone : (b : Statements) → BlockIsWeighed b → (I : Table) → Positive I → integral cost (block_draws n None b I) ≃ integral (λ s. block_reads None n b s (λ s. nought)) I
  draws_alone b w I h =
      same_sym (same_trans (block_is b w I h (λ s. nought)) (same_trans (add_same (same_refl (integral cost (block_draws n None b I))) (integral_nought (block_flow n None b I).next)) (add_nought (integral cost (block_draws n None b I)))))
