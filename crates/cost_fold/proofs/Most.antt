-- The draws that a table reaches read no more than the longest reading, by the weight of the table.
use Rattle.std.proofs.Common.{◌≡◌, ℕ, zero, suc, ◌+◌, ◌-◌, ◌*◌, ◌^◌, ◌≤◌, ◌<◌, max, ℤ, pos, negsuc, true, List, [], ◌∷◌, ◌++◌, Ok, Err, Some, refl, subst, arith}
use Rattle.std.proofs.Math.Nat.{mul-le-mul_left, mul-le-mul_right}
use Rattle.std.proofs.lemmas.Bool.{ltb-true}
use Rattle.gcl_core.specs.meaning.Syntax.{Expression, Statement, Skip, Set, If, While, Choice, Choose, Uniform, Observe, Statements, done, ◌▸◌, ArmList, no_arm, arm}
use Rattle.std.specs.List.{sum}
use Rattle.gcl_core.specs.meaning.Arms.{parts_of}
use Rattle.gcl_core.specs.meaning.Parts.{partial_sums}
use Rattle.gcl_core.specs.meaning.Bounds.{StatementIsWeighed, BlockIsWeighed, ArmsAreWeighed, ExpressionFits, StatementFits, BlockFits, ArmsFit}
use Rattle.gcl_core.specs.meaning.Draw.{bits_for, last_end, choice_ends, uniform_ends}
use Rattle.gcl_core.specs.weighing.LongestReading.{longest_statement, longest, longest_arm}
use Rattle.gcl_core.specs.meaning.Value.{State, Value, value_of, fits_64}
use Rattle.gcl_core.specs.meaning.Blocks.{by_value, by_bound}
use Rattle.gcl_core.specs.weighing.WeightedEnds.{scaled, class_weight}
use Rattle.gcl_core.proofs.PartialSums.{last_is}
use Rattle.gcl_core.proofs.Classes.{bits_le}
use Rattle.gcl_core.proofs.FittingValues.{value_fits}
use Rattle.gcl_core.proofs.EqualClasses.{last_of_equal}
use Rattle.cost_law.specs.ExpectedBits.{number_bits}
use Rattle.table_flow.specs.Tables.{Table, weighted, fractions_kind, holds, fails, only, faults, statement_flow, block_flow, ReachedDraws}
use Rattle.table_flow.specs.Scale.{whole, amount, weight, Wholes, Within}
use Rattle.table_flow.proofs.FlowWords.{loop_flow, arms_flow, drawn_each, drawn_bound, loop_draws, statement_draws, block_draws, arms_draws}
use Rattle.table_flow.proofs.Amounts.{amount_append, both_first, both_second}
use Rattle.table_flow.proofs.InsideFlows.{head_whole, first_inside, others_inside, turn_inside, turns_inside, side_first, side_second, choose_inside, first_arm, other_arms}
use Rattle.table_flow.proofs.Kept.{guard_weight, arms_weight, arms_kept, kept_one, kept_all, sides_kept}
use Rattle.table_flow.proofs.FittingTables.{AllFit, fit_only, fractions_keep_states, statement_fit, block_fit}
use Rattle.table_flow.proofs.UniformLists.{reached_by_list}
use Rattle.mass_fold.specs.Metering.{Priced, price}
use Rattle.mass_fold.proofs.MeterFolds.{priced_first, priced_second}
use Rattle.cost_fold.proofs.Prices.{price_most}

-- ---- states of 64 bits
abbrev StatesFit : Table → Type 0
StatesFit = AllFit weighted

-- ---- lists of draws
-- draws of the weight W, at the scale N, of at most so many bits each, in parts of M
pub record DrawsMost (r N M : ℕ) (D : ReachedDraws) (W bits : ℕ) : Type 0 where
  pub most : amount N (price (Some r) M) D ≤ W * (M * bits)

module _ (r N M : ℕ) where
  none_most : (W bits : ℕ) → DrawsMost r N M [] W bits
  none_most W bits = record { most = omega arith }

  most_up : (D : ReachedDraws) (W V a b : ℕ) → W ≤ V → a ≤ b → DrawsMost r N M D W a → DrawsMost r N M D V b
  most_up D W V a b h k d =
      let x = mul-le-mul_right (M * a) h in
      let y = mul-le-mul_left (V * M) k in
      record { most = let z = d.most in omega arith }

  -- one part of the weight, and another
  most_beside : (D E : ReachedDraws) (W V a : ℕ) → DrawsMost r N M D W a → DrawsMost r N M E V a → DrawsMost r N M (D ++ E) (W + V) a
  most_beside D E W V a d e = record { most = let x = amount_append N (price (Some r) M) D E in let y = d.most in let z = e.most in omega arith }

  -- one after the other
  most_after : (D E : ReachedDraws) (W a b : ℕ) → DrawsMost r N M D W a → DrawsMost r N M E W b → DrawsMost r N M (D ++ E) W (a + b)
  most_after D E W a b d e = record { most = let x = amount_append N (price (Some r) M) D E in let y = d.most in let z = e.most in omega arith }

  most_each : (ends : List ℕ) (I : Table) → Wholes N I → Priced (Some r) M (drawn_each ends I) → DrawsMost r N M (drawn_each ends I) (weight N I) (number_bits ends * r)
  most_each ends [] w p = none_most 0 (number_bits ends * r)
  most_each ends (e ∷ I) w p =
      let i = most_each ends I w.1 p.1 in
      let x = mul-le-mul_left (whole N e.0) (price_most ends r M p.0) in
      record { most = let y = i.most in omega arith }

  most_bound : (e : Expression) (I : Table) → ExpressionFits e → StatesFit I → Wholes N I → Priced (Some r) M (drawn_bound (value_of e) I) → DrawsMost r N M (drawn_bound (value_of e) I) (weight N I) (63 * r)
  most_bound e [] f a w p = none_most 0 (63 * r)
  most_bound e (d ∷ I) f a w p =
      let v = value_of e in
      let one : ReachedDraws = by_value (v d.1) (λ f. []) (λ z. by_bound z [] (λ m. (d.0, uniform_ends m) ∷ [])) in
      let i = most_bound e I f a.1 w.1 (priced_second (Some r) M one (drawn_bound v I) p) in
      let h : amount N (price (Some r) M) one ≤ U * (M * (63 * r)) = by_state (v d.1) refl (priced_first (Some r) M one (drawn_bound v I) p) in
      let x : amount N (price (Some r) M) (drawn_bound v (d ∷ I)) ≡ amount N (price (Some r) M) one + amount N (price (Some r) M) (drawn_bound v I) = amount_append N (price (Some r) M) one (drawn_bound v I) in
      record { most = sum_most _ _ _ U (weight N I) (M * (63 * r)) x h i.most }
    where
      U : ℕ
      U = whole N d.0

      sum_most : (all a b U W B : ℕ) → all ≡ a + b → a ≤ U * B → b ≤ W * B → all ≤ (U * 1 + W) * B
      sum_most all a b U W B e h k = omega arith

      few : (m : ℕ) → suc m < 2 ^ 63 → number_bits (uniform_ends (suc m)) ≤ 63
      few m lt = bits_le (last_end (uniform_ends (suc m))) 63 (omega (arith, last_of_equal (suc m)))

      by_sign : (z : ℤ) → fits_64 z ≡ true → Priced (Some r) M (by_bound z [] (λ m. (d.0, uniform_ends m) ∷ [])) → amount N (price (Some r) M) (by_bound z [] (λ m. (d.0, uniform_ends m) ∷ [])) ≤ U * (M * (63 * r))
      by_sign (pos zero) f k = omega arith
      by_sign (pos (suc m)) f k =
          let x = mul-le-mul_left U (price_most (uniform_ends (suc m)) r M k.0) in
          let y = mul-le-mul_right r (few m (ltb-true _ _ f)) in
          let z = mul-le-mul_left (U * M) y in
          omega arith
      by_sign (negsuc m) f k = omega arith

      by_state : (o : Value) → value_of e d.1 ≡ o → Priced (Some r) M (by_value o (λ f. []) (λ z. by_bound z [] (λ m. (d.0, uniform_ends m) ∷ []))) → amount N (price (Some r) M) (by_value o (λ f. []) (λ z. by_bound z [] (λ m. (d.0, uniform_ends m) ∷ []))) ≤ U * (M * (63 * r))
      by_state (Ok z) q k = by_sign z (value_fits e d.1 z f a.0 q) k
      by_state (Err g) q k = omega arith

-- ---- statements and blocks
module _ (n r N L M : ℕ) where
  abbrev StatementMost : Statement → Type 0
  StatementMost st = (I : Table) → Wholes N I → StatesFit I → Wholes N (statement_flow n (Some r) st I).next → Within N L (statement_flow n (Some r) st I) → Priced (Some r) M (statement_draws n (Some r) st I) →
      DrawsMost r N M (statement_draws n (Some r) st I) (weight N I) (longest_statement n r st)

  abbrev BlockMost : Statements → Type 0
  BlockMost b = (I : Table) → Wholes N I → StatesFit I → Within N L (block_flow n (Some r) b I) → Priced (Some r) M (block_draws n (Some r) b I) →
      DrawsMost r N M (block_draws n (Some r) b I) (weight N I) (longest n r b)

  turns_most : (v : State → Value) (b : Statements) → BlockIsWeighed b → BlockFits b → BlockMost b → (t : ℕ) (I : Table) → Wholes N I → StatesFit I → Within N L (loop_flow v (block_flow n (Some r) b) t I) →
      Priced (Some r) M (loop_draws v (block_flow n (Some r) b) t I) →
      DrawsMost r N M (loop_draws v (block_flow n (Some r) b) t I) (weight N I) (t * longest n r b)
  turns_most v b w f h zero I wi a s k = none_most r N M (weight N I) (0 * longest n r b)
  turns_most v b w fit h (suc t) I wi a s k =
      let A = only (holds v) I in
      let f = block_flow n (Some r) b A in
      let sf = turn_inside n (Some r) N L v b t I s in
      let sg = turns_inside n (Some r) N L v b t I s in
      let D = block_draws n (Some r) b A in
      let E = loop_draws v (block_flow n (Some r) b) t f.next in
      let guard = guard_weight N v I in
      let kept = kept_all n (Some r) N L b w A sf in
      let af = fit_only weighted (holds v) I a in
      let x = h A (head_whole n (Some r) N L b A sf.tables) af sf (priced_first (Some r) M D E k) in
      let y = turns_most v b w fit h t f.next (head_turns t f.next sg) (block_fit fractions_kind fractions_keep_states n (Some r) b fit A af) sg (priced_second (Some r) M D E k) in
      let d = most_up r N M D (weight N A) (weight N I) (longest n r b) (longest n r b) (omega arith) (omega arith) x in
      let e = most_up r N M E (weight N f.next) (weight N I) (t * longest n r b) (t * longest n r b) (omega arith) (omega arith) y in
      most_up r N M (D ++ E) (weight N I) (weight N I) (longest n r b + t * longest n r b) (suc t * longest n r b) (omega arith) (omega arith) (most_after r N M D E (weight N I) (longest n r b) (t * longest n r b) d e)
    where
      head_turns : (t : ℕ) (J : Table) → Within N L (loop_flow v (block_flow n (Some r) b) t J) → Wholes N J
      head_turns zero J s = s.tables.0
      head_turns (suc t) J s = s.tables.0

  mutual
    statement_most : (st : Statement) → StatementIsWeighed st → StatementFits st → StatementMost st
    statement_most Skip w f I wi a x s k = none_most r N M (weight N I) 0
    statement_most (Set y e) w f I wi a x s k = none_most r N M (weight N I) 0
    statement_most (Observe e) w f I wi a x s k = none_most r N M (weight N I) 0
    statement_most (Uniform y e) w f I wi a x s k =
        let q = reached_by_list fractions_kind (Some r) y (value_of e) I in
        rw q (most_bound r N M e I f a wi (subst (Priced (Some r) M) q k))
    statement_most (If e p q) w f I wi a x s k =
        let v = value_of e in
        let A = only (holds v) I in
        let C = only (fails v) I in
        let F = block_flow n (Some r) p A in
        let G = block_flow n (Some r) q C in
        let sf = both_first N L (faults v I) F G s in
        let sg = both_second N L (faults v I) F G s in
        let D = block_draws n (Some r) p A in
        let E = block_draws n (Some r) q C in
        let m = max (longest n r p) (longest n r q) in
        let guard = guard_weight N v I in
        let y = block_most p w.0 f.1 A (head_whole n (Some r) N L p A sf.tables) (fit_only weighted (holds v) I a) sf (priced_first (Some r) M D E k) in
        let z = block_most q w.1 f.2 C (head_whole n (Some r) N L q C sg.tables) (fit_only weighted (fails v) I a) sg (priced_second (Some r) M D E k) in
        let d = most_up r N M D (weight N A) (weight N A) (longest n r p) m (omega arith) (omega arith) y in
        let e = most_up r N M E (weight N C) (weight N C) (longest n r q) m (omega arith) (omega arith) z in
        most_up r N M (D ++ E) (weight N A + weight N C) (weight N I) m m (omega arith) (omega arith) (most_beside r N M D E (weight N A) (weight N C) m d e)
    statement_most (Choice c p q) w f I wi a x s k =
        let A = scaled (class_weight c.den (Some r) c.num) I in
        let C = scaled (class_weight c.den (Some r) (c.den - c.num)) I in
        let sf = side_first n (Some r) N L c p q I s in
        let sg = side_second n (Some r) N L c p q I s in
        let D = block_draws n (Some r) p A in
        let E = block_draws n (Some r) q C in
        let B = drawn_each (choice_ends c) I in
        let m = max (longest n r p) (longest n r q) in
        let wa = head_whole n (Some r) N L p A sf.tables in
        let wc = head_whole n (Some r) N L q C sg.tables in
        let kept = sides_kept n (Some r) N L c p q I w.0 wi s in
        let rest = priced_second (Some r) M B (D ++ E) k in
        let y = block_most p w.1 f.0 A wa (fractions_keep_states.class c.den (Some r) c.num I a) sf (priced_first (Some r) M D E rest) in
        let z = block_most q w.2 f.1 C wc (fractions_keep_states.class c.den (Some r) (c.den - c.num) I a) sg (priced_second (Some r) M D E rest) in
        let d = most_up r N M D (weight N A) (weight N A) (longest n r p) m (omega arith) (omega arith) y in
        let e = most_up r N M E (weight N C) (weight N C) (longest n r q) m (omega arith) (omega arith) z in
        let both_sides = most_up r N M (D ++ E) (weight N A + weight N C) (weight N I) m m (omega arith) (omega arith) (most_beside r N M D E (weight N A) (weight N C) m d e) in
        most_after r N M B (D ++ E) (weight N I) (bits_for c.den * r) m (most_each r N M (choice_ends c) I wi (priced_first (Some r) M B (D ++ E) k)) both_sides
    statement_most (Choose arms) w f I wi a x s k =
        let b = sum (parts_of arms) in
        let ends = partial_sums (parts_of arms) in
        let B = drawn_each ends I in
        let D = arms_draws n (Some r) b arms I in
        let kept = arms_kept n (Some r) N L arms I w.0 wi s in
        let y = arms_most b arms w.1 f I wi a (choose_inside n (Some r) N L arms I s) (priced_second (Some r) M B D k) in
        let d = most_up r N M D (arms_weight N b (Some r) (parts_of arms) I) (weight N I) (longest_arm n r arms) (longest_arm n r arms) (omega arith) (omega arith) y in
        let each = most_each r N M ends I wi (priced_first (Some r) M B D k) in
        most_after r N M B D (weight N I) (bits_for b * r) (longest_arm n r arms) (subst (λ b. DrawsMost r N M B (weight N I) (bits_for b * r)) (last_is (parts_of arms)) each) d
    statement_most (While e p) w f I wi a x s k = turns_most (value_of e) p w f.1 (block_most p w f.1) n I wi a s k

    pub block_most : (b : Statements) → BlockIsWeighed b → BlockFits b → (I : Table) → Wholes N I → StatesFit I → Within N L (block_flow n (Some r) b I) → Priced (Some r) M (block_draws n (Some r) b I) →
        DrawsMost r N M (block_draws n (Some r) b I) (weight N I) (longest n r b)
    block_most done w f I wi a s k = none_most r N M (weight N I) 0
    block_most (st ▸ b) w f I wi a s k =
        let F = statement_flow n (Some r) st I in
        let sf = first_inside n (Some r) N L st b I s in
        let sg = others_inside n (Some r) N L st b I s in
        let D = statement_draws n (Some r) st I in
        let E = block_draws n (Some r) b F.next in
        let wn = head_whole n (Some r) N L b F.next sg.tables in
        let kept = kept_one n (Some r) N L st I w.0 wi wn sf in
        let y = statement_most st w.0 f.0 I wi a wn sf (priced_first (Some r) M D E k) in
        let z = block_most b w.1 f.1 F.next wn (statement_fit fractions_kind fractions_keep_states n (Some r) st f.0 I a) sg (priced_second (Some r) M D E k) in
        let e = most_up r N M E (weight N F.next) (weight N I) (longest n r b) (longest n r b) (omega arith) (omega arith) z in
        most_after r N M D E (weight N I) (longest_statement n r st) (longest n r b) y e

    -- the arms of a draw with b parts
    arms_most : (b : ℕ) (arms : ArmList) → ArmsAreWeighed arms → ArmsFit arms → (I : Table) → Wholes N I → StatesFit I → Within N L (arms_flow n (Some r) b arms I) → Priced (Some r) M (arms_draws n (Some r) b arms I) →
        DrawsMost r N M (arms_draws n (Some r) b arms I) (arms_weight N b (Some r) (parts_of arms) I) (longest_arm n r arms)
    arms_most b no_arm w f I wi a s k = none_most r N M 0 0
    arms_most b (arm q p arms) w f I wi a s k =
        let A = scaled (class_weight b (Some r) q) I in
        let sf = first_arm n (Some r) N L b q p arms I s in
        let D = block_draws n (Some r) p A in
        let E = arms_draws n (Some r) b arms I in
        let m = max (longest n r p) (longest_arm n r arms) in
        let V = arms_weight N b (Some r) (parts_of arms) I in
        let y = block_most p w.0 f.0 A (head_whole n (Some r) N L p A sf.tables) (fractions_keep_states.class b (Some r) q I a) sf (priced_first (Some r) M D E k) in
        let z = arms_most b arms w.1 f.1 I wi a (other_arms n (Some r) N L b q p arms I s) (priced_second (Some r) M D E k) in
        let d = most_up r N M D (weight N A) (weight N A) (longest n r p) m (omega arith) (omega arith) y in
        let e = most_up r N M E V V (longest_arm n r arms) m (omega arith) (omega arith) z in
        most_beside r N M D E (weight N A) V m d e
