-- What a block costs under limits as a fraction is what it counts as a rational number.
use Rattle.std.proofs.Common.{ℕ, zero, suc, ◌+◌, ◌^◌, ◌<◌, ℤ, pos, negsuc, Bool, true, false, cond, List, [], ◌∷◌, ◌++◌, Ok, Err, Option, Some, None, arith}
use Rattle.std.specs.Prelude.{slice_set}
use Rattle.std.proofs.lemmas.Nat.{pow_pos}
use Rattle.gcl_core.specs.declared.answers.Fault.TheVariants.{BadBound}
use Rattle.gcl_core.specs.declared.answers.Limit.TheVariants.{Turns}
use Rattle.gcl_core.specs.meaning.Arms.{parts_of}
use Rattle.gcl_core.specs.meaning.Blocks.{End, on, failed, fault, limit, by_truth, by_side, by_class, value_in, loop_in, uniform_in, statement_in, arm_in}
use Rattle.gcl_core.specs.meaning.Draw.{bits_for, last_end, choice_ends, uniform_ends}
use Rattle.gcl_core.specs.meaning.Parts.{partial_sums}
use Rattle.gcl_core.specs.meaning.Syntax.{Statement, Skip, Set, If, While, Choice, Choose, Uniform, Observe, Statements, done, ◌▸◌, ArmList, no_arm, arm}
use Rattle.gcl_core.specs.meaning.Value.{State, Value, value_of, is_zero}
use Rattle.gcl_core.specs.weighing.Fractions.{Fraction, zero_share, one, power_sum}
use Rattle.gcl_core.specs.weighing.WeightedEnds.{class_weight, no_class_weight, classes_from, weighted_classes}
use Rattle.cost_law.specs.ExpectedBits.{Bits, end_bits, then_bits, again_weight, on_average}
use Rattle.table_flow.proofs.Draws.{no_class_pos}
use Rattle.weighing_law.proofs.Shares.{product_pos, power_sum_pos}
use Rattle.unlimited_law.proofs.Numbers.{◌≃◌, nought, unit, same_refl, same_trans, add_same}
use Rattle.unlimited_law.proofs.FractionNumbers.{of, of_plus, of_zero, of_pos}
use Rattle.unlimited_law.proofs.Integrals.{integral_same}
use Rattle.bits_law.specs.Price.{Price, price_of_draw}
use Rattle.bits_law.specs.RunPrice.{turn_price, class_price, block_price}
use Rattle.bits_law.proofs.Readers.{Reads, AtMostReads, end_reads, then_reads, turn_reads, class_costs, statement_costs, block_costs, arm_costs, turn_rises, statement_rises, block_rises}
use Rattle.bits_law.proofs.TableReads.{Counted, average_some, average_is}

-- Of fractions that follow, a fraction that is the number which is counted of their numbers.
pub record Stands (m : Bits) (x : Reads) : Type 0 where
  pub some : (F : State → Fraction) → ((s : State) → 0 < (F s).1) → 0 < (m F).1
  pub is : (F : State → Fraction) → ((s : State) → 0 < (F s).1) → of (m F) ≃ x (λ s. of (F s))

stands_end : (e : End) → Stands (end_bits e) (end_reads e)
stands_end (on s) = record { some = λ F h. h s; is = λ F h. same_refl (of (F s)) }
stands_end failed = record { some = λ F h. omega arith; is = λ F h. of_zero 1 }
stands_end (fault f) = record { some = λ F h. omega arith; is = λ F h. of_zero 1 }
stands_end (limit l) = record { some = λ F h. omega arith; is = λ F h. of_zero 1 }

stands_value : (v : Value) (k : ℤ → Bits) (x : ℤ → Reads) → ((z : ℤ) → Stands (k z) (x z)) → Stands (value_in end_bits then_bits v k) (value_in end_reads then_reads v x)
stands_value (Ok z) k x h = h z
stands_value (Err f) k x h = stands_end (fault f)

stands_truth : (z : ℤ) (a c : Bits) (x y : Reads) → Stands a x → Stands c y → Stands (by_truth z a c) (by_truth z x y)
stands_truth z a c x y p q = by (is_zero z)
  where
    by : (b : Bool) → Stands (cond b c a) (cond b y x)
    by true = q
    by false = p

stands_side : (i : ℕ) (a c : Bits) (x y : Reads) → Stands a x → Stands c y → Stands (by_side i a c) (by_side i x y)
stands_side zero a c x y p q = p
stands_side (suc i) a c x y p q = q

stands_then : (m : Bits) (x : Reads) (k : State → Bits) (y : State → Reads) → AtMostReads x x → Stands m x → ((s : State) → Stands (k s) (y s)) → Stands (then_bits m k) (then_reads x y)
stands_then m x k y rises p q = record {
  some = λ F h. p.some (λ s. k s F) (λ s. (q s).some F h);
  is = λ F h.
      same_trans (p.is (λ s. k s F) (λ s. (q s).some F h))
      (record {
        below = rises (λ s. of (k s F)) (λ s. y s (λ s. of (F s))) (λ s. ((q s).is F h).below);
        above = rises (λ s. y s (λ s. of (F s))) (λ s. of (k s F)) (λ s. ((q s).is F h).above);
      });
}

one_is : of one ≃ unit
unfolding unit
one_is = let h : 0 < one.1 = omega arith in same_trans (of_pos one h) (record { below = record { le = omega arith }; above = record { le = omega arith } })

stands_turn : (turns : Bool) (m : Bits) (x : Reads) → Stands m x → Stands (turn_price turns m) (turn_reads turns x)
stands_turn false m x p = p
stands_turn true m x p = record {
  some = λ F h. product_pos one.1 (m F).1 (omega arith) (p.some F h);
  is = λ F h. same_trans (of_plus one (m F) (omega arith) (p.some F h)) (add_same one_is (p.is F h));
}

-- ---- draws
classes_counted : (r : ℕ) (go : Option ℕ → Fraction) → ((o : Option ℕ) → 0 < (go o).1) → (b i c : ℕ) (ends : List ℕ) → Counted go (classes_from (class_weight b (Some r)) i c ends ++ (no_class_weight b (Some r), None) ∷ [])
classes_counted r go h b i c [] = (no_class_pos b (Some r), h None, tt)
classes_counted r go h b i c (d ∷ ends) = (no_class_pos b (Some r), h (Some i), classes_counted r go h b (i + 1) d ends)

module _ (price : Price) (r : ℕ) where
  drawn_some : (cs : List ℕ) → 0 < (price_of_draw price (Some r) cs).1
  drawn_some cs = let k = bits_for (last_end cs) in product_pos (2 ^ k) (power_sum (again_weight cs) r).1 (pow_pos k) (power_sum_pos (again_weight cs) (pow_pos k) r)

  stands_class : (cs : List ℕ) (k : ℕ → Bits) (x : ℕ → Reads) → ((i : ℕ) → Stands (k i) (x i)) → Stands (class_price price r cs k) (class_costs price (Some r) cs x)
  stands_class cs k x q = record {
    some = λ F h. product_pos (price_of_draw price (Some r) cs).1 (on_average (weighted_classes cs (Some r)) (go F)).1 (drawn_some cs) (average_some (go F) (weighted_classes cs (Some r)) (counted F h));
    is = λ F h.
        same_trans (of_plus (price_of_draw price (Some r) cs) (on_average (weighted_classes cs (Some r)) (go F)) (drawn_some cs) (average_some (go F) (weighted_classes cs (Some r)) (counted F h)))
        (add_same (same_refl (of (price_of_draw price (Some r) cs)))
        (same_trans (average_is (go F) (weighted_classes cs (Some r)) (counted F h))
        (integral_same (λ class. of (go F class)) (λ class. by_class class nought (λ i. x i (λ s. of (F s)))) (weighted_classes cs (Some r)) (elim [ None ↦ of_zero 1 | Some i ↦ (q i).is F h ]))));
  }
    where
      go : (State → Fraction) → Option ℕ → Fraction
      go F class = by_class class zero_share (λ i. k i F)

      counted : (F : State → Fraction) → ((s : State) → 0 < (F s).1) → Counted (go F) (weighted_classes cs (Some r))
      counted F h = classes_counted r (go F) (elim [ None ↦ omega arith | Some i ↦ (q i).some F h ]) (last_end cs) 0 0 cs

  stands_uniform : (x : ℕ) (z : ℤ) (s : State) → Stands (uniform_in end_bits then_bits (class_price price r) x z s) (uniform_in end_reads then_reads (class_costs price (Some r)) x z s)
  stands_uniform x (pos zero) s = stands_end (fault BadBound)
  stands_uniform x (negsuc m) s = stands_end (fault BadBound)
  stands_uniform x (pos (suc m)) s = stands_class (uniform_ends (suc m)) (λ i. end_bits (on (slice_set s x (pos i)))) (λ i. end_reads (on (slice_set s x (pos i)))) (λ i. stands_end (on (slice_set s x (pos i))))

  -- ---- statements
  stands_loop : (v : State → Value) (m : State → Bits) (x : State → Reads) → ((s : State) → AtMostReads (x s) (x s)) → ((s : State) → Stands (m s) (x s)) → (t : ℕ) (s : State) →
      Stands (loop_in end_bits then_bits v m t s) (loop_in end_reads then_reads v x t s)
  stands_loop v m x rises h zero s = stands_value (v s) _ _ (λ z. stands_truth z _ _ _ _ (stands_end (limit Turns)) (stands_end (on s)))
  stands_loop v m x rises h (suc t) s =
      stands_value (v s) _ _
      (λ z. stands_truth z _ _ _ _ (stands_then (m s) (x s) (loop_in end_bits then_bits v m t) (loop_in end_reads then_reads v x t) (rises s) (h s) (stands_loop v m x rises h t)) (stands_end (on s)))

  module _ (n : ℕ) where
    abbrev priced : Statements → State → Bits
    priced = block_price price n r

    mutual
      stands_statement : (st : Statement) (s : State) → Stands (statement_in end_bits then_bits (class_price price r) (turn_price price.turns) n st s) (statement_costs price (Some r) n st s)
      stands_statement Skip s = stands_end (on s)
      stands_statement (Set x e) s = stands_value (value_of e s) _ _ (λ z. stands_end (on (slice_set s x z)))
      stands_statement (Observe e) s = stands_value (value_of e s) _ _ (λ z. stands_truth z _ _ _ _ (stands_end (on s)) (stands_end failed))
      stands_statement (Uniform x e) s = stands_value (value_of e s) _ _ (λ z. stands_uniform x z s)
      stands_statement (If e a c) s = stands_value (value_of e s) _ _ (λ z. stands_truth z _ _ _ _ (stands_block a s) (stands_block c s))
      stands_statement (Choice p a c) s = stands_class (choice_ends p) _ _ (λ i. stands_side i _ _ _ _ (stands_block a s) (stands_block c s))
      stands_statement (Choose arms) s = stands_class (partial_sums (parts_of arms)) _ _ (λ i. stands_arm arms i s)
      stands_statement (While e a) s =
          stands_loop (value_of e) (λ s. turn_price price.turns (priced a s)) (λ s. turn_reads price.turns (block_costs price (Some r) n a s))
          (λ s. turn_rises price.turns (block_costs price (Some r) n a s) (block_costs price (Some r) n a s) (block_rises price (Some r) n n (omega arith) a s))
          (λ s. stands_turn price.turns (priced a s) (block_costs price (Some r) n a s) (stands_block a s)) n s

      pub stands_block : (b : Statements) (s : State) → Stands (priced b s) (block_costs price (Some r) n b s)
      stands_block done s = stands_end (on s)
      stands_block (st ▸ b) s =
          stands_then (statement_in end_bits then_bits (class_price price r) (turn_price price.turns) n st s) (statement_costs price (Some r) n st s) (priced b) (block_costs price (Some r) n b)
          (statement_rises price (Some r) n n (omega arith) st s) (stands_statement st s) (stands_block b)

      stands_arm : (arms : ArmList) (i : ℕ) (s : State) → Stands (arm_in end_bits then_bits (class_price price r) (turn_price price.turns) n arms i s) (arm_costs price (Some r) n arms i s)
      stands_arm no_arm i s = stands_end (on s)
      stands_arm (arm p b arms) zero s = stands_block b s
      stands_arm (arm p b arms) (suc i) s = stands_arm arms i s
