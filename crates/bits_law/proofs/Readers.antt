-- What a block counts on average in rational numbers: each draw its cost, each end what is given for it, and each state in which it ends
-- what follows; and what it costs, by the price of draws and turns. It rises with what follows and with the limit of turns.
use Rattle.std.proofs.Common.{ℕ, zero, suc, ◌≤◌, ℤ, pos, negsuc, Bool, true, false, cond, List, Ok, Err, Option, Some, None, arith}
use Rattle.std.specs.Prelude.{slice_set}
use Rattle.gcl_core.specs.declared.answers.Fault.TheVariants.{BadBound}
use Rattle.gcl_core.specs.declared.answers.Limit.TheVariants.{Turns}
use Rattle.gcl_core.specs.meaning.Arms.{parts_of}
use Rattle.gcl_core.specs.meaning.Draw.{choice_ends, uniform_ends}
use Rattle.gcl_core.specs.meaning.Parts.{partial_sums}
use Rattle.gcl_core.specs.meaning.Syntax.{Statement, Skip, Set, If, While, Choice, Choose, Uniform, Observe, Statements, done, ◌▸◌, ArmList, no_arm, arm}
use Rattle.gcl_core.specs.meaning.Value.{State, Value, value_of, is_zero}
use Rattle.gcl_core.specs.meaning.Blocks.{End, on, failed, fault, limit, by_truth, by_side, by_class, by_end, value_in, loop_in, uniform_in, statement_in, block_in, arm_in}
use Rattle.gcl_core.specs.weighing.WeightedEnds.{weighted_classes}
use Rattle.unlimited_law.proofs.Numbers.{Rational, ◌⊕◌, ◌⊑◌, nought, unit, below_refl, below_trans, add_below, nought_below}
use Rattle.unlimited_law.proofs.FractionNumbers.{of}
use Rattle.unlimited_law.proofs.Integrals.{integral, integral_below}
use Rattle.bits_law.specs.Price.{Price, bits_price, price_of_draw}

abbrev pub Reads : Type 0
Reads = (State → Rational) → Rational

-- ---- what ends and draws count
abbrev pub end_counts : (End → Rational) → End → Reads
end_counts H e more = by_end e H more

abbrev pub then_reads : Reads → (State → Reads) → Reads
then_reads m go more = m (λ s. go s more)

abbrev pub class_counts : (List ℕ → Rational) → Option ℕ → List ℕ → (ℕ → Reads) → Reads
class_counts cost r cs go more = cost cs ⊕ integral (λ class. by_class class nought (λ i. go i more)) (weighted_classes cs r)

abbrev pub block_counts : (End → Rational) → (List ℕ → Rational) → Option ℕ → ℕ → Statements → State → Reads
block_counts H cost r n = block_in (end_counts H) then_reads (class_counts cost r) (λ m. m) n

-- ---- what costs something
abbrev pub quiet : End → Rational
quiet e = nought

abbrev pub end_reads : End → Reads
end_reads = end_counts quiet

abbrev pub value_reads : Value → (ℤ → Reads) → Reads
value_reads = value_in end_reads then_reads

abbrev pub loop_reads : (State → Value) → (State → Reads) → ℕ → State → Reads
loop_reads = loop_in end_reads then_reads

abbrev pub turn_reads : Bool → Reads → Reads
turn_reads false m = m
turn_reads true m = λ F. unit ⊕ m F

module _ (price : Price) (r : Option ℕ) where
  abbrev pub cost_of : List ℕ → Rational
  cost_of cs = of (price_of_draw price r cs)

  abbrev pub class_costs : List ℕ → (ℕ → Reads) → Reads
  class_costs = class_counts cost_of r

  abbrev pub uniform_costs : ℕ → ℤ → State → Reads
  uniform_costs = uniform_in end_reads then_reads class_costs

  module _ (n : ℕ) where
    abbrev pub statement_costs : Statement → State → Reads
    statement_costs = statement_in end_reads then_reads class_costs (turn_reads price.turns) n

    abbrev pub block_costs : Statements → State → Reads
    block_costs = block_in end_reads then_reads class_costs (turn_reads price.turns) n

    abbrev pub arm_costs : ArmList → ℕ → State → Reads
    arm_costs = arm_in end_reads then_reads class_costs (turn_reads price.turns) n

-- ---- bits
abbrev pub statement_reads : Option ℕ → ℕ → Statement → State → Reads
statement_reads = statement_costs bits_price

abbrev pub block_reads : Option ℕ → ℕ → Statements → State → Reads
block_reads = block_costs bits_price

-- ---- what counts no more, where what follows counts no more
abbrev pub AtMostReads : Reads → Reads → Type 0
AtMostReads m o = (F G : State → Rational) → ((s : State) → F s ⊑ G s) → m F ⊑ o G

side_rises : (i : ℕ) (a c a' c' : Reads) → AtMostReads a a' → AtMostReads c c' → AtMostReads (by_side i a c) (by_side i a' c')
side_rises zero a c a' c' p q F G h = p F G h
side_rises (suc i) a c a' c' p q F G h = q F G h

truth_rises : (z : ℤ) (a c a' c' : Reads) → AtMostReads a a' → AtMostReads c c' → AtMostReads (by_truth z a c) (by_truth z a' c')
truth_rises z a c a' c' p q F G h = by_test (is_zero z)
  where
    by_test : (b : Bool) → cond b c a F ⊑ cond b c' a' G
    by_test true = q F G h
    by_test false = p F G h

then_rises : (m o : Reads) (k l : State → Reads) → AtMostReads m o → ((s : State) → AtMostReads (k s) (l s)) → AtMostReads (then_reads m k) (then_reads o l)
then_rises m o k l p q F G h = p (λ s. k s F) (λ s. l s G) (λ s. q s F G h)

class_rises : (cost : List ℕ → Rational) (r : Option ℕ) (cs : List ℕ) (k l : ℕ → Reads) → ((i : ℕ) → AtMostReads (k i) (l i)) → AtMostReads (class_counts cost r cs k) (class_counts cost r cs l)
class_rises cost r cs k l h F G m =
    add_below (below_refl (cost cs))
    (integral_below (λ class. by_class class nought (λ i. k i F)) (λ class. by_class class nought (λ i. l i G)) (weighted_classes cs r) (elim [ None ↦ below_refl nought | Some i ↦ h i F G m ]))

module _ (H : End → Rational) (spared : H (limit Turns) ⊑ nought) where
  end_rises : (e : End) → AtMostReads (end_counts H e) (end_counts H e)
  end_rises (on s) F G h = h s
  end_rises failed F G h = below_refl (H failed)
  end_rises (fault f) F G h = below_refl (H (fault f))
  end_rises (limit l) F G h = below_refl (H (limit l))

  value_rises : (v : Value) (k l : ℤ → Reads) → ((z : ℤ) → AtMostReads (k z) (l z)) → AtMostReads (value_in (end_counts H) then_reads v k) (value_in (end_counts H) then_reads v l)
  value_rises (Ok z) k l h F G m = h z F G m
  value_rises (Err f) k l h F G m = below_refl (H (fault f))

  turns_rise : (v : State → Value) (a c : State → Reads) → ((s : State) → AtMostReads (a s) (c s)) → (t u : ℕ) → t ≤ u → (s : State) →
      AtMostReads (loop_in (end_counts H) then_reads v a t s) (loop_in (end_counts H) then_reads v c u s)
  turns_rise v a c h zero zero le s = value_rises (v s) _ _ (λ z. truth_rises z _ _ _ _ (λ F G m. below_refl (H (limit Turns))) (end_rises (on s)))
  turns_rise v a c h zero (suc u) le s = value_rises (v s) _ _ (λ z. truth_rises z _ _ _ _ (λ F G m. below_trans spared (nought_below _)) (end_rises (on s)))
  turns_rise v a c h (suc t) zero le s = absurd (omega arith)
  turns_rise v a c h (suc t) (suc u) le s =
      value_rises (v s) _ _
      (λ z. truth_rises z _ _ _ _ (then_rises (a s) (c s) (loop_in (end_counts H) then_reads v a t) (loop_in (end_counts H) then_reads v c u) (h s) (turns_rise v a c h t u (omega arith))) (end_rises (on s)))

  module _ (cost : List ℕ → Rational) (r : Option ℕ) where
    uniform_rises : (x : ℕ) (z : ℤ) (s : State) → AtMostReads (uniform_in (end_counts H) then_reads (class_counts cost r) x z s) (uniform_in (end_counts H) then_reads (class_counts cost r) x z s)
    uniform_rises x (pos zero) s = end_rises (fault BadBound)
    uniform_rises x (negsuc m) s = end_rises (fault BadBound)
    uniform_rises x (pos (suc m)) s =
        class_rises cost r (uniform_ends (suc m)) (λ i. end_counts H (on (slice_set s x (pos i)))) (λ i. end_counts H (on (slice_set s x (pos i)))) (λ i. end_rises (on (slice_set s x (pos i))))

    module _ (turn : Reads → Reads) (turn_rises : (m o : Reads) → AtMostReads m o → AtMostReads (turn m) (turn o)) where
      abbrev blocks : ℕ → Statements → State → Reads
      blocks n = block_in (end_counts H) then_reads (class_counts cost r) turn n

      module _ (n n' : ℕ) (le : n ≤ n') where
        mutual
          pub statement_counts_rise : (st : Statement) (s : State) → AtMostReads (statement_in (end_counts H) then_reads (class_counts cost r) turn n st s) (statement_in (end_counts H) then_reads (class_counts cost r) turn n' st s)
          statement_counts_rise Skip s = end_rises (on s)
          statement_counts_rise (Set x e) s = value_rises (value_of e s) _ _ (λ z. end_rises (on (slice_set s x z)))
          statement_counts_rise (Observe e) s = value_rises (value_of e s) _ _ (λ z. truth_rises z _ _ _ _ (end_rises (on s)) (end_rises failed))
          statement_counts_rise (Uniform x e) s = value_rises (value_of e s) _ _ (λ z. uniform_rises x z s)
          statement_counts_rise (If e a c) s = value_rises (value_of e s) _ _ (λ z. truth_rises z _ _ _ _ (block_counts_rise a s) (block_counts_rise c s))
          statement_counts_rise (Choice p a c) s = class_rises cost r (choice_ends p) _ _ (λ i. side_rises i _ _ _ _ (block_counts_rise a s) (block_counts_rise c s))
          statement_counts_rise (Choose arms) s = class_rises cost r (partial_sums (parts_of arms)) _ _ (λ i. arm_counts_rise arms i s)
          statement_counts_rise (While e a) s = turns_rise (value_of e) (λ s. turn (blocks n a s)) (λ s. turn (blocks n' a s)) (λ s. turn_rises (blocks n a s) (blocks n' a s) (block_counts_rise a s)) n n' le s

          pub block_counts_rise : (b : Statements) (s : State) → AtMostReads (blocks n b s) (blocks n' b s)
          block_counts_rise done s = end_rises (on s)
          block_counts_rise (st ▸ b) s =
              then_rises (statement_in (end_counts H) then_reads (class_counts cost r) turn n st s) (statement_in (end_counts H) then_reads (class_counts cost r) turn n' st s) (blocks n b) (blocks n' b)
              (statement_counts_rise st s) (block_counts_rise b)

          arm_counts_rise : (arms : ArmList) (i : ℕ) (s : State) → AtMostReads (arm_in (end_counts H) then_reads (class_counts cost r) turn n arms i s) (arm_in (end_counts H) then_reads (class_counts cost r) turn n' arms i s)
          arm_counts_rise no_arm i s = end_rises (on s)
          arm_counts_rise (arm p b arms) zero s = block_counts_rise b s
          arm_counts_rise (arm p b arms) (suc i) s = arm_counts_rise arms i s

-- what counts ends, where no turn costs anything
pub counts_rise : (H : End → Rational) → H (limit Turns) ⊑ nought → (cost : List ℕ → Rational) (r : Option ℕ) (n n' : ℕ) → n ≤ n' → (b : Statements) (s : State) → AtMostReads (block_counts H cost r n b s) (block_counts H cost r n' b s)
counts_rise H spared cost r n n' le b s = block_counts_rise H spared cost r (λ m. m) (λ m o h. h) n n' le b s

pub loop_rises : (v : State → Value) (a c : State → Reads) → ((s : State) → AtMostReads (a s) (c s)) → (t u : ℕ) → t ≤ u → (s : State) → AtMostReads (loop_reads v a t s) (loop_reads v c u s)
loop_rises = turns_rise quiet (below_refl nought)

pub turn_rises : (some : Bool) (m o : Reads) → AtMostReads m o → AtMostReads (turn_reads some m) (turn_reads some o)
turn_rises false m o h = h
turn_rises true m o h = λ F G k. add_below (below_refl unit) (h F G k)

module _ (price : Price) (r : Option ℕ) (n n' : ℕ) (le : n ≤ n') where
  pub statement_rises : (st : Statement) (s : State) → AtMostReads (statement_costs price r n st s) (statement_costs price r n' st s)
  statement_rises = statement_counts_rise quiet (below_refl nought) (cost_of price r) r (turn_reads price.turns) (turn_rises price.turns) n n' le

  pub block_rises : (b : Statements) (s : State) → AtMostReads (block_costs price r n b s) (block_costs price r n' b s)
  block_rises = block_counts_rise quiet (below_refl nought) (cost_of price r) r (turn_reads price.turns) (turn_rises price.turns) n n' le
