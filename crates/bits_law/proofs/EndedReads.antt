-- A block in which no run is out of turns at a limit reads the bits of the draws that a table reaches there, and leaves the table of its
-- flow: the visits of a loop are the tables of its turns together.
use Rattle.std.proofs.Common.{◌≡◌, ℕ, zero, suc, ◌+◌, ◌*◌, ◌-◌, ◌<◌, [], ◌∷◌, ◌++◌, None, refl, arith}
use Rattle.std.specs.List.{sum}
use Rattle.gcl_core.specs.declared.answers.Limit.TheVariants.{Turns}
use Rattle.gcl_core.specs.meaning.Arms.{parts_of}
use Rattle.gcl_core.specs.meaning.Blocks.{End, limit}
use Rattle.gcl_core.specs.meaning.Bounds.{StatementIsWeighed, BlockIsWeighed, ArmsAreWeighed}
use Rattle.gcl_core.specs.meaning.Draw.{last_end, choice_ends}
use Rattle.gcl_core.specs.meaning.Parts.{partial_sums}
use Rattle.gcl_core.specs.meaning.Syntax.{Expression, Statement, Skip, Set, If, While, Choice, Choose, Uniform, Observe, Statements, done, ◌▸◌, ArmList, no_arm, arm}
use Rattle.gcl_core.specs.meaning.Value.{State, Value, value_of}
use Rattle.gcl_core.specs.weighing.Fractions.{Fraction, zero_share, plus}
use Rattle.gcl_core.specs.weighing.WeightedEnds.{Weighted, scaled, class_weight}
use Rattle.gcl_core.proofs.PartialSums.{last_is}
use Rattle.table_flow.specs.Tables.{Table, holds, fails, only, faults, all_end, statement_flow, block_flow, ReachedDraws, fractions_kind}
use Rattle.table_flow.proofs.FlowWords.{loop_flow, arms_flow, drawn_each, drawn_bound, loop_draws, statement_draws, block_draws, arms_draws}
use Rattle.table_flow.proofs.Positive.{Positive, p_append, p_scaled, p_only, p_one, p_all, p_arms}
use Rattle.table_flow.proofs.Spreads.{sum_of_all, Zero, sum_append}
use Rattle.table_flow.proofs.UniformLists.{reached_by_list}
use Rattle.weighing_law.proofs.Shares.{product_pos}
use Rattle.unlimited_law.proofs.BlockLimits.{all_fractions}
use Rattle.unlimited_law.proofs.EndedLoops.{out_of_turns, out_zero, Suffice, only_append, visits, visits_positive, turn_adds, ends_add, loop_next, balances, turns_suffice}
use Rattle.unlimited_law.proofs.FractionNumbers.{of, of_zero, equal_of}
use Rattle.unlimited_law.proofs.Integrals.{integral, integral_append}
use Rattle.unlimited_law.proofs.LinearFlows.{alike_sums}
use Rattle.unlimited_law.proofs.Numbers.{Rational, ◌≃◌, nought, same_refl, same_sym, same_trans, add_same, factor_same, nought_times, nought_add}
use Rattle.bits_law.specs.Draws.{bits_of_draw, bits_of_draws}
use Rattle.bits_law.specs.Reading.{AreVisits, StatementReads, BlockReads, ArmsRead}
use Rattle.bits_law.proofs.BlockTends.{block_some, arms_some, statement_some}
use Rattle.bits_law.proofs.FreeReads.{draws_both, draws_three, comes}
use Rattle.bits_law.proofs.LimitedDraws.{cost, statement_counted, block_counted, draws_alone}
use Rattle.bits_law.proofs.Readers.{block_reads}
use Rattle.bits_law.proofs.TableReads.{Counted, average_some, average_is, each_some, bound_some}
use Rattle.bits_law.specs.Price.{bits_price}

-- entries that weigh nothing, since none of them is out of turns
none_counts : (R : State → Rational) (I : Table) → Suffice (all_end (limit Turns) I) → integral R I ≃ nought
none_counts R [] h = same_refl nought
none_counts R (((zero, d), s) ∷ I) h = same_trans (add_same (same_trans (factor_same (R s) (of_zero d)) (nought_times (R s))) (none_counts R I (omega arith))) (nought_add nought)
none_counts R (((suc k, d), s) ∷ I) h = absurd (omega arith)

module _ (n : ℕ) (v : State → Value) (a : Statements) where
  abbrev turn : Table → Table
  turn J = (block_flow n None a (only (holds v) J)).next

  abbrev ends : Table → Weighted End
  ends J = (block_flow n None a (only (holds v) J)).ended

  abbrev loop_from : ℕ → Table → Weighted End
  loop_from t J = (loop_flow v (block_flow n None a) t J).ended

  later_suffice : (t : ℕ) (J : Table) → Suffice (loop_from (suc t) J) → Suffice (loop_from t (turn J))
  later_suffice t J h =
      let b = sum_append out_of_turns (faults v J) (ends J ++ loop_from t (turn J)) in
      let c = sum_append out_of_turns (ends J) (loop_from t (turn J)) in
      omega arith

  -- ---- the draws of all turns are those of the visits
  module _ (R : State → Rational) (body : (J : Table) → Positive J → integral cost (block_draws n None a J) ≃ integral R J) (keeps : (J : Table) → Positive J → Positive (block_flow n None a J).next) where
    turns_draw : (t : ℕ) (J : Table) → Positive J → Suffice (loop_from t J) →
        integral cost (loop_draws v (block_flow n None a) t J) ≃ integral R (only (holds v) (visits n v a t J))
    turns_draw zero J h suffice = same_sym (none_counts R (only (holds v) J) (let b = sum_append out_of_turns (faults v J) (all_end (limit Turns) (only (holds v) J)) in omega arith))
    turns_draw (suc t) J h suffice =
        let A = only (holds v) J in
        let p = p_only (holds v) J h in
        same_trans (integral_append cost (block_draws n None a A) (loop_draws v (block_flow n None a) t (turn J)))
        (same_trans (add_same (body A p) (turns_draw t (turn J) (keeps A p) (later_suffice t J suffice)))
        (same_trans (same_sym (integral_append R A (only (holds v) (visits n v a t (turn J))))) (as_one A (only (holds v) (visits n v a t (turn J))) (only (holds v) (J ++ visits n v a t (turn J))) (only_append (holds v) J (visits n v a t (turn J))))))
      where
        as_one : (A B C : Table) → C ≡ A ++ B → integral R (A ++ B) ≃ integral R C
        as_one A B C e = rw e (same_refl (integral R (A ++ B)))

  -- ---- the visits of the loop begun with its visits
  abbrev again : ℕ → Table → Table
  again zero J = J
  again (suc t) J = visits n v a (suc t) J ++ again t (turn J)

  again_positive : ((J : Table) → Positive J → Positive (block_flow n None a J).next) → (t : ℕ) (J : Table) → Positive J → Positive (again t J)
  again_positive keeps zero J h = h
  again_positive keeps (suc t) J h =
      p_append (visits n v a (suc t) J) (again t (turn J)) (visits_positive n v a keeps (suc t) J h) (again_positive keeps t (turn J) (keeps (only (holds v) J) (p_only (holds v) J h)))

  again_balances : (t : ℕ) (J : Table) → Suffice (loop_from t J) → (G : Fraction → State → ℕ) → Zero G → sum_of_all G (again t J) ≡ sum_of_all G (visits n v a t J) + sum_of_all G (turn (again t J))
  again_balances zero J suffice G z = balances n v a zero J suffice G z
  again_balances (suc t) J suffice G z =
      let V = visits n v a (suc t) J in
      let W = visits n v a t (turn J) in
      let B = again t (turn J) in
      let i = again_balances t (turn J) (later_suffice t J suffice) G z in
      let b = balances n v a (suc t) J suffice G z in
      let c = turn_adds n v a G z V B in
      let d = sum_append G V B in
      let e = sum_append G J W in
      omega arith

  again_suffices : (t : ℕ) (J : Table) → Suffice (loop_from t J) → Suffice (ends (again t J))
  again_suffices zero J suffice = turns_suffice n v a zero J suffice
  again_suffices (suc t) J suffice =
      let i = again_suffices t (turn J) (later_suffice t J suffice) in
      let b = turns_suffice n v a (suc t) J suffice in
      let c = ends_add n v a out_of_turns out_zero (visits n v a (suc t) J) (again t (turn J)) in
      omega arith

module _ (n : ℕ) where
  abbrev OneReads : Statement → Table → Type 0
  OneReads st I = StatementReads st I (statement_flow n None st I).next (bits_of_draws (statement_draws n None st I))

  abbrev pub AllRead : Statements → Table → Type 0
  AllRead b I = BlockReads b I (block_flow n None b I).next (bits_of_draws (block_draws n None b I))

  abbrev ArmsReadAll : ℕ → ArmList → Table → Type 0
  ArmsReadAll b arms I = ArmsRead b arms I (arms_flow n None b arms I).next (bits_of_draws (arms_draws n None b arms I))

  both_suffice : (ended m o : Weighted End) → Suffice (ended ++ (m ++ o)) → Suffice m × Suffice o
  both_suffice ended m o h = let a = sum_append out_of_turns ended (m ++ o) in let b = sum_append out_of_turns m o in (omega arith, omega arith)

  -- ---- a loop
  module _ (e : Expression) (a : Statements) (w : BlockIsWeighed a) (body : (J : Table) → Positive J → Suffice (block_flow n None a J).ended → AllRead a J) (I : Table) (h : Positive I)
      (suffice : Suffice (statement_flow n None (While e a) I).ended) where
    abbrev v : State → Value
    v = value_of e

    abbrev V : Table
    V = visits n v a n I

    abbrev B : Table
    B = again n v a n I

    keeps : (J : Table) → Positive J → Positive (block_flow n None a J).next
    keeps J k = (p_all n None a J w k).next

    visited : Positive V
    visited = visits_positive n v a keeps n I h

    more_visited : Positive B
    more_visited = again_positive n v a keeps n I h

    -- one turn of the body from a table
    module _ (T : Table) (k : Positive T) where
      abbrev A : Table
      A = only (holds v) T

      abbrev next : Table
      next = (block_flow n None a A).next

      abbrev read : Fraction
      read = bits_of_draws (block_draws n None a A)

      A_positive : Positive A
      A_positive = p_only (holds v) T k

      back_positive : Positive next
      back_positive = keeps A A_positive

      are_visits : (E : Table) → Positive E → Suffice (block_flow n None a A).ended → ((G : Fraction → State → ℕ) → Zero G → sum_of_all G T ≡ sum_of_all G E + sum_of_all G next) → AreVisits v (BlockReads a) [] E T read
      are_visits E p ends_suffice balance = (
        next,
        [],
        body A A_positive ends_suffice,
        alike_sums (T ++ []) (E ++ next) (all_fractions (T ++ []) (p_append T [] k tt)) (all_fractions (E ++ next) (p_append E next p back_positive))
            (λ G z. let b = balance G z in let c = sum_append G T [] in let d = sum_append G E next in omega arith),
        tt,
      )

    abbrev D : ReachedDraws
    D = statement_draws n None (While e a) I

    abbrev visit_draws : ReachedDraws
    visit_draws = block_draws n None a (only (holds v) V)

    loop_counted : Counted (bits_of_draw None) D
    loop_counted = statement_counted n (While e a) w I h

    turn_counted : Counted (bits_of_draw None) visit_draws
    turn_counted = block_counted n a w (only (holds v) V) (p_only (holds v) V visited)

    same_bits : of (bits_of_draws D) ≃ of (bits_of_draws visit_draws)
    same_bits =
        same_trans (average_is (bits_of_draw None) D loop_counted)
        (same_trans (turns_draw n v a (λ s. block_reads None n a s (λ s. nought)) (λ J k. draws_alone n a w J k) keeps n I h suffice)
        (same_trans (same_sym (draws_alone n a w (only (holds v) V) (p_only (holds v) V visited))) (same_sym (average_is (bits_of_draw None) visit_draws turn_counted))))

    loop_reads_all : OneReads (While e a) I
    loop_reads_all =
        let p = p_one n None (While e a) I w h in
        let some = average_some (bits_of_draw None) D loop_counted in
        let one = average_some (bits_of_draw None) visit_draws turn_counted in (
          [],
          V,
          bits_of_draws visit_draws,
          tt,
          are_visits V visited I h (turns_suffice n v a n I suffice) (balances n v a n I suffice),
          (
            [],
            B,
            bits_of_draws (block_draws n None a (only (holds v) B)),
            are_visits B more_visited (V ++ []) (p_append V [] visited tt) (again_suffices n v a n I suffice) (λ G z. let b = again_balances n v a n I suffice G z in let c = sum_append G V [] in omega arith),
          ),
          record {
            next = alike_sums (loop_flow v (block_flow n None a) n I).next (only (fails v) V) (all_fractions _ p.next) (all_fractions _ (p_only (fails v) V visited)) (λ F z. loop_next n v a F n I);
            equal = equal_of (bits_of_draws D) (bits_of_draws visit_draws) some one same_bits;
            fraction = let z = some in omega arith;
          },
        )

  mutual
    statement_ended : (st : Statement) → StatementIsWeighed st → (I : Table) → Positive I → Suffice (statement_flow n None st I).ended → OneReads st I
    statement_ended Skip w I h none = comes _ _ zero_share (p_one n None Skip I w h).next refl (omega arith)
    statement_ended (Set x e) w I h none = comes _ _ zero_share (p_one n None (Set x e) I w h).next refl (omega arith)
    statement_ended (Observe e) w I h none = comes _ _ zero_share (p_one n None (Observe e) I w h).next refl (omega arith)
    statement_ended (Uniform x e) w I h none =
        rw (reached_by_list fractions_kind None x (value_of e) I) (comes _ _ (bits_of_draws (drawn_bound (value_of e) I)) (p_one n None (Uniform x e) I w h).next refl (bound_some bits_price (value_of e) I h))
    statement_ended (If e a c) w I h none =
        let A = only (holds (value_of e)) I in
        let C = only (fails (value_of e)) I in
        let D = block_draws n None a A in
        let E = block_draws n None c C in
        let parts = both_suffice (faults (value_of e) I) (block_flow n None a A).ended (block_flow n None c C).ended none in
        let x = block_ended a w.0 A (p_only (holds (value_of e)) I h) parts.0 in
        let y = block_ended c w.1 C (p_only (fails (value_of e)) I h) parts.1 in
        let xs = block_some bits_price a A (block_flow n None a A).next (bits_of_draws D) x in
        let ys = block_some bits_price c C (block_flow n None c C).next (bits_of_draws E) y in (
          (block_flow n None a A).next,
          (block_flow n None c C).next,
          bits_of_draws D,
          bits_of_draws E,
          x,
          y,
          comes _ _ (plus (bits_of_draws D) (bits_of_draws E)) (p_one n None (If e a c) I w h).next (draws_both D E) (product_pos (bits_of_draws D).1 (bits_of_draws E).1 xs ys),
        )
    statement_ended (Choice p a c) w I h none =
        let ends = choice_ends p in
        let A = scaled (class_weight p.den None p.num) I in
        let C = scaled (class_weight p.den None (p.den - p.num)) I in
        let some : 0 < p.den = let z = w.0.positive in omega arith in
        let D = block_draws n None a A in
        let E = block_draws n None c C in
        let M = drawn_each ends I in
        let parts = both_suffice [] (block_flow n None a A).ended (block_flow n None c C).ended none in
        let x = block_ended a w.1 A (p_scaled (class_weight p.den None p.num) I some h) parts.0 in
        let y = block_ended c w.2 C (p_scaled (class_weight p.den None (p.den - p.num)) I some h) parts.1 in
        let xs = block_some bits_price a A (block_flow n None a A).next (bits_of_draws D) x in
        let ys = block_some bits_price c C (block_flow n None c C).next (bits_of_draws E) y in
        let ms = each_some bits_price ends some I h in (
          (block_flow n None a A).next,
          (block_flow n None c C).next,
          bits_of_draws D,
          bits_of_draws E,
          x,
          y,
          comes _ _ (plus (bits_of_draws M) (plus (bits_of_draws D) (bits_of_draws E))) (p_one n None (Choice p a c) I w h).next (draws_three M D E)
              (product_pos (bits_of_draws M).1 ((bits_of_draws D).1 * (bits_of_draws E).1) ms (product_pos (bits_of_draws D).1 (bits_of_draws E).1 xs ys)),
        )
    statement_ended (Choose arms) w I h none =
        let b = sum (parts_of arms) in
        let ends = partial_sums (parts_of arms) in
        let some : 0 < b = let z = w.0.positive in omega arith in
        let last : 0 < last_end ends = let e = last_is (parts_of arms) in omega arith in
        let D = arms_draws n None b arms I in
        let M = drawn_each ends I in
        let x = arms_ended b some arms w.1 I h none in
        let xs = arms_some bits_price b arms I (arms_flow n None b arms I).next (bits_of_draws D) x in (
          (arms_flow n None b arms I).next,
          bits_of_draws D,
          x,
          comes _ _ (plus (bits_of_draws M) (bits_of_draws D)) (p_one n None (Choose arms) I w h).next (draws_both M D) (product_pos (bits_of_draws M).1 (bits_of_draws D).1 (each_some bits_price ends last I h) xs),
        )
    statement_ended (While e a) w I h none = loop_reads_all e a w (block_ended a w) I h none

    pub block_ended : (b : Statements) → BlockIsWeighed b → (I : Table) → Positive I → Suffice (block_flow n None b I).ended → AllRead b I
    block_ended done w I h none = comes I zero_share zero_share h refl (omega arith)
    block_ended (st ▸ b) w I h none =
        let f = statement_flow n None st I in
        let g = block_flow n None b f.next in
        let D = statement_draws n None st I in
        let E = block_draws n None b f.next in
        let parts = both_suffice [] f.ended g.ended none in
        let x = statement_ended st w.0 I h parts.0 in
        let y = block_ended b w.1 f.next (p_one n None st I w.0 h).next parts.1 in
        let xs = statement_some bits_price st I f.next (bits_of_draws D) x in
        let ys = block_some bits_price b f.next g.next (bits_of_draws E) y in (
          f.next,
          g.next,
          bits_of_draws D,
          bits_of_draws E,
          x,
          y,
          comes _ _ (plus (bits_of_draws D) (bits_of_draws E)) (p_all n None (st ▸ b) I w h).next (draws_both D E) (product_pos (bits_of_draws D).1 (bits_of_draws E).1 xs ys),
        )

    arms_ended : (b : ℕ) → 0 < b → (arms : ArmList) → ArmsAreWeighed arms → (I : Table) → Positive I → Suffice (arms_flow n None b arms I).ended → ArmsReadAll b arms I
    arms_ended b some no_arm w I h none = comes [] zero_share zero_share tt refl (omega arith)
    arms_ended b some (arm p a arms) w I h none =
        let A = scaled (class_weight b None p) I in
        let D = block_draws n None a A in
        let E = arms_draws n None b arms I in
        let parts = both_suffice [] (block_flow n None a A).ended (arms_flow n None b arms I).ended none in
        let x = block_ended a w.0 A (p_scaled (class_weight b None p) I some h) parts.0 in
        let y = arms_ended b some arms w.1 I h parts.1 in
        let xs = block_some bits_price a A (block_flow n None a A).next (bits_of_draws D) x in
        let ys = arms_some bits_price b arms I (arms_flow n None b arms I).next (bits_of_draws E) y in (
          (block_flow n None a A).next,
          (arms_flow n None b arms I).next,
          bits_of_draws D,
          bits_of_draws E,
          x,
          y,
          comes _ _ (plus (bits_of_draws D) (bits_of_draws E)) (p_arms n None b some (arm p a arms) I w h).next (draws_both D E) (product_pos (bits_of_draws D).1 (bits_of_draws E).1 xs ys),
        )
