-- What a block counts by at most r attempts for each draw rises with r to what it counts by as many as it takes.
use Rattle.std.proofs.Common.{◌≡◌, ⊎_elim, ℕ, zero, suc, ◌+◌, ◌-◌, ◌*◌, ◌≤◌, ◌<◌, max, ℤ, pos, negsuc, Bool, true, false, cond, List, [], ◌∷◌, length, Ok, Err, Option, Some, None, subst, arith}
use Rattle.std.specs.Prelude.{slice_set}
use Rattle.std.proofs.lemmas.Bool.{cases_lt}
use Rattle.gcl_core.specs.declared.answers.Fault.TheVariants.{BadBound}
use Rattle.gcl_core.specs.declared.answers.Limit.TheVariants.{Turns}
use Rattle.gcl_core.specs.meaning.Arms.{parts_of}
use Rattle.gcl_core.specs.meaning.Bounds.{StatementIsWeighed, BlockIsWeighed, ArmsAreWeighed}
use Rattle.gcl_core.specs.meaning.Blocks.{End, on, failed, fault, limit, by_truth, by_side, by_class, value_in, loop_in, uniform_in, statement_in, block_in, arm_in}
use Rattle.gcl_core.specs.meaning.Draw.{last_end, choice_ends, uniform_ends, rejected_numbers}
use Rattle.gcl_core.specs.meaning.Parts.{partial_sums}
use Rattle.gcl_core.specs.meaning.Syntax.{Statement, Skip, Set, If, While, Choice, Choose, Uniform, Observe, Statements, done, ◌▸◌, ArmList, no_arm, arm}
use Rattle.gcl_core.specs.meaning.Value.{State, Value, value_of, is_zero}
use Rattle.gcl_core.specs.weighing.Fractions.{Fraction}
use Rattle.gcl_core.specs.weighing.OneDraw.{Ascends}
use Rattle.gcl_core.specs.weighing.WeightedEnds.{class_weight, no_class_weight, classes_from, weighted_classes}
use Rattle.gcl_core.proofs.EqualClasses.{last_of_equal}
use Rattle.gcl_core.proofs.PartialSums.{last_is, sums_ascend}
use Rattle.gcl_core.proofs.Uniform.{range_ascends}
use Rattle.unlimited_law.proofs.Numbers.{Rational, ◌⊕◌, ◌⊗◌, ◌⊑◌, ◌≃◌, nought, unit, below_refl, same_refl, below_trans, same_sym, same_trans, add_below, add_same, times_below, factor_below, times_turned, times_sum, times_unit, unit_times, nought_below, add_nought}
use Rattle.unlimited_law.proofs.FractionNumbers.{of}
use Rattle.unlimited_law.proofs.Integrals.{integral, integral_append, integral_same, integral_sum, integral_times}
use Rattle.unlimited_law.proofs.Bounded.{draw_small}
use Rattle.unlimited_law.proofs.OneScale.{Each, none, next, together, le_from, at_sum}
use Rattle.bits_law.proofs.Readers.{Reads, AtMostReads, end_counts, then_reads, turn_reads, turn_rises, class_counts}
use Rattle.bits_law.proofs.Tends.{two_halves, then_near, beside, left_max, right_max}
use Rattle.bits_law.proofs.LoopTends.{small_part}
use Rattle.bits_law.proofs.Shares.{share, share_small, share_rises, share_near, weighted_share}

-- what r attempts count: never less with more, and as near as is wanted to what is counted without limit, whatever follows is so, too
pub record Closes (X : ℕ → Reads) (T : Reads) : Type 0 where
  pub rises : (r t : ℕ) → r ≤ t → AtMostReads (X r) (X t)
  pub most : (r : ℕ) → AtMostReads (X r) T
  pub near : (F : State → Rational) (G : ℕ → State → Rational) → ((r t : ℕ) → r ≤ t → (s : State) → G r s ⊑ G t s) →
      ((s : State) (k : ℕ) → 0 < k → (r : ℕ) × (F s ⊑ G r s ⊕ of (1, k))) → (k : ℕ) → 0 < k → (r : ℕ) × (T F ⊑ X r (G r) ⊕ of (1, k))

-- ---- numbers
still : (x : Rational) (k : ℕ) → x ⊑ x ⊕ of (1, k)
still x k = below_trans (add_nought x).above (add_below (below_refl x) (nought_below (of (1, k))))

times_both : (p q x y : Rational) → p ⊑ q → x ⊑ y → p ⊗ x ⊑ q ⊗ y
times_both p q x y h g = below_trans (factor_below x h) (times_below q g)

-- ---- only the classes of a draw count
classes_below : (weight : ℕ → Fraction) (G K : Option ℕ → Rational) (N i c : ℕ) (ends : List ℕ) → i + length ends ≤ N → ((j : ℕ) → j < N → G (Some j) ⊑ K (Some j)) →
    integral G (classes_from weight i c ends) ⊑ integral K (classes_from weight i c ends)
classes_below weight G K N i c [] le h = below_refl nought
classes_below weight G K N i c (d ∷ ends) le h = add_below (times_below (of (weight (d - c))) (h i (omega arith))) (classes_below weight G K N (i + 1) d ends (omega arith) h)

weighted_below : (cs : List ℕ) (G K : Option ℕ → Rational) → G None ⊑ K None → ((j : ℕ) → j < length cs → G (Some j) ⊑ K (Some j)) →
    integral G (weighted_classes cs None) ⊑ integral K (weighted_classes cs None)
weighted_below cs G K h g =
    let all : 0 + length cs ≤ length cs = omega arith in
    let m = classes_from (class_weight (last_end cs) None) 0 0 cs in
    let o = (no_class_weight (last_end cs) None, None) ∷ [] in
    below_trans (integral_append G m o).below
    (below_trans (add_below (classes_below (class_weight (last_end cs) None) G K (length cs) 0 0 cs all g) (add_below (times_below (of (no_class_weight (last_end cs) None)) h) (below_refl nought)))
    (integral_append K m o).above)

-- ---- ends, guards and sequences
module _ (H : End → Rational) where
  closes_end : (e : End) → Closes (λ r. end_counts H e) (end_counts H e)
  closes_end (on s) = record { rises = λ r t le F G h. h s; most = λ r F G h. h s; near = λ F G up close. close s }
  closes_end failed = record { rises = λ r t le F G h. below_refl _; most = λ r F G h. below_refl _; near = λ F G up close k some. (0, still _ k) }
  closes_end (fault f) = record { rises = λ r t le F G h. below_refl _; most = λ r F G h. below_refl _; near = λ F G up close k some. (0, still _ k) }
  closes_end (limit l) = record { rises = λ r t le F G h. below_refl _; most = λ r F G h. below_refl _; near = λ F G up close k some. (0, still _ k) }

  closes_value : (v : Value) (k : ℕ → ℤ → Reads) (K : ℤ → Reads) → ((z : ℤ) → Closes (λ r. k r z) (K z)) → Closes (λ r. value_in (end_counts H) then_reads v (k r)) (value_in (end_counts H) then_reads v K)
  closes_value (Ok z) k K h = h z
  closes_value (Err f) k K h = closes_end (fault f)

closes_truth : (z : ℤ) (a c : ℕ → Reads) (A C : Reads) → Closes a A → Closes c C → Closes (λ r. by_truth z (a r) (c r)) (by_truth z A C)
closes_truth z a c A C p q = by (is_zero z)
  where
    by : (b : Bool) → Closes (λ r. cond b (c r) (a r)) (cond b C A)
    by true = q
    by false = p

closes_side : (i : ℕ) (a c : ℕ → Reads) (A C : Reads) → Closes a A → Closes c C → Closes (λ r. by_side i (a r) (c r)) (by_side i A C)
closes_side zero a c A C p q = p
closes_side (suc i) a c A C p q = q

closes_then : (X : ℕ → Reads) (T : Reads) (Y : ℕ → State → Reads) (Z : State → Reads) → Closes X T → ((s : State) → Closes (λ r. Y r s) (Z s)) → Closes (λ r. then_reads (X r) (Y r)) (then_reads T Z)
closes_then X T Y Z x y = record {
  rises = λ r t le F G h. x.rises r t le (λ s. Y r s F) (λ s. Y t s G) (λ s. (y s).rises r t le F G h);
  most = λ r F G h. x.most r (λ s. Y r s F) (λ s. Z s G) (λ s. (y s).most r F G h);
  near = λ F G up close k some.
      x.near (λ s. Z s F) (λ r s. Y r s (G r)) (λ r t le s. (y s).rises r t le (G r) (G t) (up r t le)) (λ s j any. (y s).near F G up close j any) k some;
}

closes_turn : (turns : Bool) (X : ℕ → Reads) (T : Reads) → Closes X T → Closes (λ r. turn_reads turns (X r)) (turn_reads turns T)
closes_turn false X T x = x
closes_turn true X T x = record {
  rises = λ r t le. turn_rises true (X r) (X t) (x.rises r t le);
  most = λ r. turn_rises true (X r) T (x.most r);
  near = λ F G up close k some. let y = x.near F G up close k some in (y.0, beside unit (T F) (X y.0 (G y.0)) (of (1, k)) y.1);
}

-- ---- draws
module _ (cost : Option ℕ → List ℕ → Rational) (cost_share : (cs : List ℕ) (some : 0 < last_end cs) (r : ℕ) → cost (Some r) cs ≃ share cs some r ⊗ cost None cs) where
  module _ (cs : List ℕ) (some : 0 < last_end cs) (ascends : Ascends 0 cs) where
    abbrev go : (ℕ → Reads) → (State → Rational) → Option ℕ → Rational
    go k F class = by_class class nought (λ i. k i F)

    -- what the draw would count if its classes were given by as many attempts as it takes
    abbrev freely : (ℕ → Reads) → Reads
    freely k F = cost None cs ⊕ integral (go k F) (weighted_classes cs None)

    shared : (r : ℕ) (k : ℕ → Reads) (F : State → Rational) → class_counts (cost (Some r)) (Some r) cs k F ≃ share cs some r ⊗ freely k F
    shared r k F =
        same_trans (add_same (cost_share cs some r) (weighted_share cs some r (go k F) (same_refl nought)))
        (same_sym (times_sum (share cs some r) (cost None cs) (integral (go k F) (weighted_classes cs None))))

    freely_below : (k l : ℕ → Reads) (F G : State → Rational) → ((i : ℕ) → i < length cs → k i F ⊑ l i G) → freely k F ⊑ freely l G
    freely_below k l F G h = add_below (below_refl (cost None cs)) (weighted_below cs (go k F) (go l G) (below_refl nought) h)

    share_more : (r t : ℕ) → r ≤ t → share cs some r ⊑ share cs some t
    share_more r t le = let e : r + (t - r) ≡ t = omega arith in subst (λ x. share cs some r ⊑ share cs some x) e (share_rises cs some r (t - r))

    constant : (c : Rational) → integral (λ (class : Option ℕ). c) (weighted_classes cs None) ⊑ c
    constant c =
        let m = weighted_classes cs None in
        below_trans (integral_same (λ class. c) (λ class. c ⊗ unit) m (λ class. same_sym (times_unit c))).below
        (below_trans (integral_times c (λ class. unit) m).below (below_trans (times_below c (draw_small cs some ascends (λ class. unit) (λ class. below_refl unit))) (times_unit c).below))

    enough_share : (j : ℕ) → 0 < j → (U : Rational) (r : ℕ) → (j * U.num + 1) * rejected_numbers (last_end cs) + 1 ≤ r → U ⊑ share cs some r ⊗ U ⊕ of (1, j)
    enough_share j any U r le =
        let M = j * U.num + 1 in
        let x = share cs some r in
        below_trans (unit_times U).above
        (below_trans (factor_below U (share_near cs some M r (omega arith) le))
        (below_trans (times_turned (x ⊕ of (1, M)) U).below
        (below_trans (times_sum U x (of (1, M))).below (add_below (times_turned U x).below (below_trans (times_turned U (of (1, M))).below (small_part j any U))))))

    apart : (c x d : Rational) → c ⊕ (x ⊕ d) ⊑ c ⊕ x ⊕ d
    apart c x d = by (together (c ∷ x ∷ d ∷ [])).some (together (c ∷ x ∷ d ∷ [])).each
      where
        by : {N : ℕ} → 0 < N → Each N (c ∷ x ∷ d ∷ []) → c ⊕ (x ⊕ d) ⊑ c ⊕ x ⊕ d
        by n (next v1 a1 (next v2 a2 (next v3 a3 none))) = le_from n (at_sum a1 (at_sum a2 a3)) (at_sum (at_sum a1 a2) a3) (omega arith)

    module _ (k : ℕ → ℕ → Reads) (K : ℕ → Reads) (h : (i : ℕ) → Closes (λ r. k r i) (K i)) where
      module _ (F : State → Rational) (G : ℕ → State → Rational) (up : (r t : ℕ) → r ≤ t → (s : State) → G r s ⊑ G t s) (close : (s : State) (j : ℕ) → 0 < j → (r : ℕ) × (F s ⊑ G r s ⊕ of (1, j))) where
        -- the first m classes, together
        picked : (j : ℕ) → 0 < j → (m : ℕ) → (r : ℕ) × ((i : ℕ) → i < m → K i F ⊑ k r i (G r) ⊕ of (1, j))
        picked j any zero = (0, λ i lt. absurd (omega arith))
        picked j any (suc m) =
            let x = picked j any m in
            let y = (h m).near F G up close j any in
            let r = max x.0 y.0 in
            let le = left_max x.0 y.0 in
            let le2 = right_max x.0 y.0 in (
              r,
              λ i lt. ⊎_elim (λ (a : i < m). below_trans (x.1 i a) (add_below ((h i).rises x.0 r le (G x.0) (G r) (up x.0 r le)) (below_refl (of (1, j)))))
                  (λ (a : m ≤ i). let e : m ≡ i = omega arith in subst (λ i. K i F ⊑ k r i (G r) ⊕ of (1, j)) e (below_trans y.1 (add_below ((h m).rises y.0 r le2 (G y.0) (G r) (up y.0 r le2)) (below_refl (of (1, j))))))
                  (cases_lt i m),
            )

        near : (j : ℕ) → 0 < j → (r : ℕ) × (class_counts (cost None) None cs K F ⊑ class_counts (cost (Some r)) (Some r) cs (k r) (G r) ⊕ of (1, j))
        near j any =
            let two : 0 < 2 * j = omega arith in
            let D = of (1, 2 * j) in
            let x = picked (2 * j) two (length cs) in
            let U = freely (k x.0) (G x.0) in
            let y = (2 * j * U.num + 1) * rejected_numbers (last_end cs) + 1 in
            let r = max x.0 y in
            let le = left_max x.0 y in
            let m = weighted_classes cs None in
            let first : freely K F ⊑ U ⊕ D =
            below_trans (add_below (below_refl (cost None cs))
            (below_trans (weighted_below cs (go K F) (λ class. go (k x.0) (G x.0) class ⊕ D) (nought_below _) x.1)
            (below_trans (integral_sum (go (k x.0) (G x.0)) (λ class. D) m).below (add_below (below_refl (integral (go (k x.0) (G x.0)) m)) (constant D)))))
            (apart (cost None cs) (integral (go (k x.0) (G x.0)) m) D) in
            let second : U ⊑ class_counts (cost (Some r)) (Some r) cs (k r) (G r) ⊕ D =
            below_trans (enough_share (2 * j) two U r (right_max x.0 y))
            (add_below (below_trans (times_below (share cs some r) (freely_below (k x.0) (k r) (G x.0) (G r) (λ i lt. (h i).rises x.0 r le (G x.0) (G r) (up x.0 r le)))) (shared r (k r) (G r)).above) (below_refl D)) in
            (r, then_near (freely K F) U (class_counts (cost (Some r)) (Some r) cs (k r) (G r)) D (of (1, j)) first second (two_halves j any))

      closes_class : Closes (λ r. class_counts (cost (Some r)) (Some r) cs (k r)) (class_counts (cost None) None cs K)
      closes_class = record {
        rises = λ r t le F G g.
            below_trans (shared r (k r) F).below
            (below_trans (times_both (share cs some r) (share cs some t) (freely (k r) F) (freely (k t) G) (share_more r t le) (freely_below (k r) (k t) F G (λ i lt. (h i).rises r t le F G g))) (shared t (k t) G).above);
        most = λ r F G g.
            below_trans (shared r (k r) F).below
            (below_trans (times_both (share cs some r) unit (freely (k r) F) (freely K G) (share_small cs some r) (freely_below (k r) K F G (λ i lt. (h i).most r F G g))) (unit_times (freely K G)).below);
        near = near;
      }

  -- ---- statements
  module _ (H : End → Rational) (turns : Bool) (n : ℕ) where
    abbrev draws : Option ℕ → List ℕ → (ℕ → Reads) → Reads
    draws r = class_counts (cost r) r

    abbrev blocks : Option ℕ → Statements → State → Reads
    blocks r = block_in (end_counts H) then_reads (draws r) (turn_reads turns) n

    closes_uniform : (x : ℕ) (z : ℤ) (s : State) → Closes (λ r. uniform_in (end_counts H) then_reads (draws (Some r)) x z s) (uniform_in (end_counts H) then_reads (draws None) x z s)
    closes_uniform x (pos zero) s = closes_end H (fault BadBound)
    closes_uniform x (negsuc m) s = closes_end H (fault BadBound)
    closes_uniform x (pos (suc m)) s =
        let k = λ (i : ℕ). end_counts H (on (slice_set s x (pos i))) in
        closes_class (uniform_ends (suc m)) (let l = last_of_equal (suc m) in omega arith) (range_ascends 0 (suc m)) (λ r. k) k (λ i. closes_end H (on (slice_set s x (pos i))))

    closes_loop : (v : State → Value) (B : ℕ → State → Reads) (T : State → Reads) → ((s : State) → Closes (λ r. B r s) (T s)) → (t : ℕ) (s : State) →
        Closes (λ r. loop_in (end_counts H) then_reads v (B r) t s) (loop_in (end_counts H) then_reads v T t s)
    closes_loop v B T h zero s =
        closes_value H (v s) _ _ (λ z. closes_truth z (λ r. end_counts H (limit Turns)) (λ r. end_counts H (on s)) _ _ (closes_end H (limit Turns)) (closes_end H (on s)))
    closes_loop v B T h (suc t) s =
        closes_value H (v s) _ _
        (λ z. closes_truth z (λ r. then_reads (B r s) (loop_in (end_counts H) then_reads v (B r) t)) (λ r. end_counts H (on s)) _ _
        (closes_then (λ r. B r s) (T s) (λ r. loop_in (end_counts H) then_reads v (B r) t) (loop_in (end_counts H) then_reads v T t) (h s) (closes_loop v B T h t)) (closes_end H (on s)))

    mutual
      closes_statement : (st : Statement) → StatementIsWeighed st → (s : State) →
          Closes (λ r. statement_in (end_counts H) then_reads (draws (Some r)) (turn_reads turns) n st s) (statement_in (end_counts H) then_reads (draws None) (turn_reads turns) n st s)
      closes_statement Skip w s = closes_end H (on s)
      closes_statement (Set x e) w s = closes_value H (value_of e s) _ _ (λ z. closes_end H (on (slice_set s x z)))
      closes_statement (Observe e) w s = closes_value H (value_of e s) _ _ (λ z. closes_truth z (λ r. end_counts H (on s)) (λ r. end_counts H failed) _ _ (closes_end H (on s)) (closes_end H failed))
      closes_statement (Uniform x e) w s = closes_value H (value_of e s) _ _ (λ z. closes_uniform x z s)
      closes_statement (If e a c) w s =
          closes_value H (value_of e s) _ _ (λ z. closes_truth z (λ r. blocks (Some r) a s) (λ r. blocks (Some r) c s) _ _ (closes_block a w.0 s) (closes_block c w.1 s))
      closes_statement (Choice p a c) w s =
          let d = w.0 in
          closes_class (choice_ends p) (let z = d.positive in omega arith) (omega arith, (d.at_most_one, tt)) (λ r i. by_side i (blocks (Some r) a s) (blocks (Some r) c s)) (λ i. by_side i (blocks None a s) (blocks None c s))
          (λ i. closes_side i (λ r. blocks (Some r) a s) (λ r. blocks (Some r) c s) _ _ (closes_block a w.1 s) (closes_block c w.2 s))
      closes_statement (Choose arms) w s =
          let d = w.0 in
          closes_class (partial_sums (parts_of arms)) (let l = last_is (parts_of arms) in let z = d.positive in omega arith) (sums_ascend 0 (parts_of arms)) (λ r i. arm_in (end_counts H) then_reads (draws (Some r)) (turn_reads turns) n arms i s)
          (λ i. arm_in (end_counts H) then_reads (draws None) (turn_reads turns) n arms i s) (λ i. closes_arm arms w.1 i s)
      closes_statement (While e a) w s =
          closes_loop (value_of e) (λ r s. turn_reads turns (blocks (Some r) a s)) (λ s. turn_reads turns (blocks None a s)) (λ s. closes_turn turns (λ r. blocks (Some r) a s) (blocks None a s) (closes_block a w s)) n s

      pub closes_block : (b : Statements) → BlockIsWeighed b → (s : State) → Closes (λ r. blocks (Some r) b s) (blocks None b s)
      closes_block done w s = closes_end H (on s)
      closes_block (st ▸ b) w s =
          closes_then (λ r. statement_in (end_counts H) then_reads (draws (Some r)) (turn_reads turns) n st s) _ (λ r. blocks (Some r) b) (blocks None b) (closes_statement st w.0 s) (closes_block b w.1)

      closes_arm : (arms : ArmList) → ArmsAreWeighed arms → (i : ℕ) (s : State) →
          Closes (λ r. arm_in (end_counts H) then_reads (draws (Some r)) (turn_reads turns) n arms i s) (arm_in (end_counts H) then_reads (draws None) (turn_reads turns) n arms i s)
      closes_arm no_arm w i s = closes_end H (on s)
      closes_arm (arm p b arms) w zero s = closes_block b w.0 s
      closes_arm (arm p b arms) w (suc i) s = closes_arm arms w.1 i s
