-- A program and its forgetful program cost as much, by whatever price: a block and its forgetful form do from states that agree on what matters,
-- whatever follows that looks at what matters alone.
use Rattle.std.proofs.Common.{◌≡◌, ℕ, zero, suc, ◌+◌, ◌-◌, ◌≤◌, ◌<◌, ℤ, pos, negsuc, Bool, true, false, cond, ◌&&◌, ◌∷◌, [], ◌++◌, List, Ok, Err, Option, Some, None, length, refl, sym, ap, subst, ◌∙◌, arith, true≢false}
use Rattle.std.specs.Prelude.{not, ◌==◌, slice_set, if◌then◌else◌}
use Rattle.gcl_core.specs.declared.answers.Limits.{Limits}
use Rattle.gcl_core.specs.meaning.Arms.{parts_of}
use Rattle.gcl_core.specs.meaning.Blocks.{on, by_truth, by_side, by_class, value_in, loop_in, uniform_in, statement_in, arm_in}
use Rattle.gcl_core.specs.meaning.Draw.{last_end, choice_ends, uniform_ends}
use Rattle.gcl_core.specs.meaning.Outcomes.{zeros}
use Rattle.gcl_core.specs.meaning.Parts.{partial_sums}
use Rattle.gcl_core.specs.meaning.Syntax.{Num, Statement, Skip, Set, If, While, Choice, Choose, Uniform, Observe, Statements, done, ◌▸◌, ArmList, no_arm, arm, Expression, SourceProgram}
use Rattle.gcl_core.specs.meaning.Value.{State, Value, value_of, is_zero}
use Rattle.gcl_core.specs.weighing.Fractions.{Fraction, zero_share, one, plus, times, power_sum}
use Rattle.gcl_core.specs.weighing.Mass.{failed_mass}
use Rattle.gcl_core.specs.weighing.WeightedEnds.{class_weight, no_class_weight, classes_from}
use Rattle.gcl_core.proofs.PartialSums.{as_many}
use Rattle.cost_law.specs.ExpectedBits.{Bits, end_bits, then_bits, on_average}
use Rattle.forgetting.specs.Filling.{behind_statement}
use Rattle.forgetting.specs.Forgetful.{forget, ends_with, forgetful_statement, forgetful, forgetful_arms, forgetful_of}
use Rattle.forgetting.specs.Liveness.{Names, no_names, both, reads, matters_to, matters_to_arms, before_statement, before}
use Rattle.forgetting.specs.SameMeaning.{SameMeaning}
use Rattle.forgetting.proofs.Agreeing.{Agree, agree_on, set_agrees, forgotten_agrees, value_agrees, left_or, right_or}
use Rattle.forgetting.proofs.Forgetting.{same_parts}
use Rattle.bits_law.specs.Price.{Price, price_of_draw}
use Rattle.bits_law.specs.RunPrice.{turn_price, class_price, block_price, round_price, expected_price}

-- what follows looks at what matters alone
abbrev Looks : Names → (State → Fraction) → (State → Fraction) → Type 0
Looks L f g = (s t : State) → Agree L s t → f s ≡ g t

-- two costs that are alike before all that looks at what matters alone
record Alike (L : Names) (m o : Bits) : Type 0 where
  same : (f g : State → Fraction) → Looks L f g → m f ≡ o g

-- ---- only the classes of a draw count
classes_same : (weight : ℕ → Fraction) (G K : Option ℕ → Fraction) (rest : List (Fraction × Option ℕ)) (N i c : ℕ) (ends : List ℕ) → i + length ends ≤ N → ((j : ℕ) → j < N → G (Some j) ≡ K (Some j)) → on_average rest G ≡ on_average rest K →
    on_average (classes_from weight i c ends ++ rest) G ≡ on_average (classes_from weight i c ends ++ rest) K
classes_same weight G K rest N i c [] le h r = r
classes_same weight G K rest N i c (d ∷ ends) le h r =
    ap (λ z. plus (times (weight (d - c)) z) (on_average (classes_from weight (i + 1) d ends ++ rest) G)) (h i (omega arith))
    ∙ ap (plus (times (weight (d - c)) (K (Some i)))) (classes_same weight G K rest N (i + 1) d ends (omega arith) h r)

-- ---- forms of statements
value_alike : (L : Names) (v w : Value) (k l : ℤ → Bits) → v ≡ w → ((z : ℤ) → Alike L (k z) (l z)) → Alike L (value_in end_bits then_bits v k) (value_in end_bits then_bits w l)
value_alike L v w k l e h = subst (λ w. Alike L (value_in end_bits then_bits v k) (value_in end_bits then_bits w l)) e (by v)
  where
    by : (v : Value) → Alike L (value_in end_bits then_bits v k) (value_in end_bits then_bits v l)
    by (Ok z) = h z
    by (Err f) = record { same = λ f g l. refl }

truth_alike : (L : Names) (z : ℤ) (m n m' n' : Bits) → Alike L m m' → Alike L n n' → Alike L (by_truth z m n) (by_truth z m' n')
truth_alike L z m n m' n' h k = by (is_zero z)
  where
    by : (b : Bool) → Alike L (cond b n m) (cond b n' m')
    by true = k
    by false = h

side_alike : (L : Names) (i : ℕ) (m n m' n' : Bits) → Alike L m m' → Alike L n n' → Alike L (by_side i m n) (by_side i m' n')
side_alike L zero m n m' n' h k = h
side_alike L (suc i) m n m' n' h k = k

then_alike : (L K : Names) (m o : Bits) (k l : State → Bits) → Alike K m o → ((s t : State) → Agree K s t → Alike L (k s) (l t)) → Alike L (then_bits m k) (then_bits o l)
then_alike L K m o k l h next = record { same = λ f g looks. h.same (λ s. k s f) (λ t. l t g) (λ s t a. (next s t a).same f g looks) }

on_alike : (L : Names) (s t : State) → Agree L s t → Alike L (end_bits (on s)) (end_bits (on t))
on_alike L s t a = record { same = λ f g l. l s t a }

turn_alike : (turns : Bool) (L : Names) (m o : Bits) → Alike L m o → Alike L (turn_price turns m) (turn_price turns o)
turn_alike false L m o h = h
turn_alike true L m o h = record { same = λ f g l. ap (plus one) (h.same f g l) }

loop_alike : (H L : Names) (guard : State → Value) (m o : State → Bits) → ((s t : State) → Agree H s t → guard s ≡ guard t) → ((s t : State) → Agree H s t → Alike H (m s) (o t)) → ((x : ℕ) → L x ≡ true → H x ≡ true) →
    (n : ℕ) (s t : State) → Agree H s t → Alike L (loop_in end_bits then_bits guard m n s) (loop_in end_bits then_bits guard o n t)
loop_alike H L guard m o e h k zero s t a = value_alike L _ _ _ _ (e s t a) (λ z. truth_alike L z _ _ _ _ (record { same = λ f g l. refl }) (on_alike L s t (agree_on H L s t k a)))
loop_alike H L guard m o e h k (suc n) s t a =
    value_alike L _ _ _ _ (e s t a)
    (λ z. truth_alike L z _ _ _ _ (then_alike L H (m s) (o t) (loop_in end_bits then_bits guard m n) (loop_in end_bits then_bits guard o n) (h s t a) (loop_alike H L guard m o e h k n)) (on_alike L s t (agree_on H L s t k a)))

and_left : (a b : Bool) → (a && not b) ≡ true → b ≡ false
and_left true true e = absurd (true≢false (sym e))
and_left true false e = refl
and_left false b e = absurd (true≢false (sym e))

-- what matters to the body, and at the head behind it, matters at the head
head_holds : (x : ℕ) (e : Expression) (a : Statements) (after : Names) → matters_to x a (before_statement (While e a) after x) ≡ true → before_statement (While e a) after x ≡ true
head_holds x e a after h = by (before_statement (While e a) after x) refl
  where
    by : (b : Bool) → before_statement (While e a) after x ≡ b → before_statement (While e a) after x ≡ true
    by true k = k
    by false k = right_or (reads x e) _ (right_or (after x) _ (subst (λ b. matters_to x a b ≡ true) k h))

module _ (price : Price) (n r : ℕ) where
  abbrev cost : Statements → State → Bits
  cost = block_price price n r

  abbrev statement_cost : Statement → State → Bits
  statement_cost = statement_in end_bits then_bits (class_price price r) (turn_price price.turns) n

  abbrev arm_cost : ArmList → ℕ → State → Bits
  arm_cost = arm_in end_bits then_bits (class_price price r) (turn_price price.turns) n

  draws_alike : (L : Names) (cs : List ℕ) (k l : ℕ → Bits) → ((i : ℕ) → i < length cs → Alike L (k i) (l i)) → Alike L (class_price price r cs k) (class_price price r cs l)
  draws_alike L cs k l h = record {
    same = λ f g looks.
        ap (plus (price_of_draw price (Some r) cs))
        (classes_same (class_weight (last_end cs) (Some r)) (λ class. by_class class zero_share (λ i. k i f)) (λ class. by_class class zero_share (λ i. l i g)) ((no_class_weight (last_end cs) (Some r), None) ∷ []) (length cs) 0 0 cs (omega arith)
        (λ i lt. (h i lt).same f g looks) refl);
  }

  uniform_alike : (L : Names) (x : ℕ) (z : ℤ) (s t : State) → Agree (λ y. not (y == x) && L y) s t → Alike L (uniform_in end_bits then_bits (class_price price r) x z s) (uniform_in end_bits then_bits (class_price price r) x z t)
  uniform_alike L x (pos zero) s t a = record { same = λ f g l. refl }
  uniform_alike L x (pos (suc m)) s t a =
      draws_alike L (uniform_ends (suc m)) (λ i. end_bits (on (slice_set s x (pos i)))) (λ i. end_bits (on (slice_set t x (pos i)))) (λ i lt. on_alike L _ _ (set_agrees L x (pos i) s t a))
  uniform_alike L x (negsuc m) s t a = record { same = λ f g l. refl }

  -- before a block nothing of what matters to it is forgotten
  forget_alike : (count : ℕ) (old kept L : Names) (b : Statements) (m : Bits) (s t : State) → ((t : State) → Agree kept s t → Alike L m (cost b t)) → Agree kept s t → Alike L m (cost (forget count old kept b) t)
  forget_alike zero old kept L b m s t h a = h t a
  forget_alike (suc x) old kept L b m s t h a =
      by (forget x old kept b) (old x && not (kept x)) (λ e. forget_alike x old kept L b m s (slice_set t x (pos 0)) h (forgotten_agrees kept x (pos 0) s t (and_left (old x) (kept x) e) a)) (forget_alike x old kept L b m s t h a)
    where
      by : (rest : Statements) (c : Bool) → (c ≡ true → Alike L m (cost rest (slice_set t x (pos 0)))) → Alike L m (cost rest t) → Alike L m (cost (if c then (Set x (Num (pos 0)) ▸ rest) else rest) t)
      by rest true h k = h refl
      by rest false h k = k

  mutual
    statement_alike : (count : ℕ) (st : Statement) (F L : Names) (s t : State) → Agree (before_statement st L) s t → Alike L (statement_cost st s) (statement_cost (forgetful_statement count st F L) t)
    statement_alike count Skip F L s t a = on_alike L s t a
    statement_alike count (Set x e) F L s t a =
        value_alike L _ _ _ _ (value_agrees (before_statement (Set x e) L) e s t (λ y k. left_or (reads y e) _ k) a) (λ z. on_alike L _ _ (set_agrees L x z s t (agree_on _ _ s t (λ y k. right_or (reads y e) _ k) a)))
    statement_alike count (Observe e) F L s t a =
        value_alike L _ _ _ _ (value_agrees (before_statement (Observe e) L) e s t (λ y k. left_or (reads y e) _ k) a)
        (λ z. truth_alike L z _ _ _ _ (on_alike L s t (agree_on _ _ s t (λ y k. right_or (reads y e) _ k) a)) (record { same = λ f g l. refl }))
    statement_alike count (Uniform x e) F L s t a =
        value_alike L _ _ _ _ (value_agrees (before_statement (Uniform x e) L) e s t (λ y k. left_or (reads y e) _ k) a) (λ z. uniform_alike L x z s t (agree_on _ _ s t (λ y k. right_or (reads y e) _ k) a))
    statement_alike count (If e b c) F L s t a =
        let M = before_statement (If e b c) L in
        value_alike L _ _ _ _ (value_agrees M e s t (λ y k. left_or (reads y e) _ k) a)
        (λ z. truth_alike L z _ _ _ _
        (forget_alike count (both M F) (before b L) L (forgetful count b F L) (cost b s) s t (λ t a. block_alike count b F L s t a) (agree_on _ _ s t (λ y k. right_or (reads y e) _ (left_or (matters_to y b (L y)) _ k)) a))
        (forget_alike count (both M F) (before c L) L (forgetful count c F L) (cost c s) s t (λ t a. block_alike count c F L s t a) (agree_on _ _ s t (λ y k. right_or (reads y e) _ (right_or (matters_to y b (L y)) _ k)) a)))
    statement_alike count (Choice w b c) F L s t a =
        let M = before_statement (Choice w b c) L in
        draws_alike L (choice_ends w) _ _
        (λ i lt. side_alike L i _ _ _ _
        (forget_alike count (both M F) (before b L) L (forgetful count b F L) (cost b s) s t (λ t a. block_alike count b F L s t a) (agree_on _ _ s t (λ y k. left_or (matters_to y b (L y)) _ k) a))
        (forget_alike count (both M F) (before c L) L (forgetful count c F L) (cost c s) s t (λ t a. block_alike count c F L s t a) (agree_on _ _ s t (λ y k. right_or (matters_to y b (L y)) _ k) a)))
    statement_alike count (Choose arms) F L s t a =
        let M = before_statement (Choose arms) L in
        subst (λ ps. Alike L (statement_cost (Choose arms) s) (class_price price r (partial_sums ps) (λ i. arm_cost (forgetful_arms count arms (both M F) F L) i t))) (same_parts n count arms (both M F) F L)
        (draws_alike L (partial_sums (parts_of arms)) _ _ (λ i lt. arms_alike count arms (both M F) F L i s t (let l = as_many (parts_of arms) in omega (arith, lt, l)) a))
    statement_alike count (While e b) F L s t a =
        let M = before_statement (While e b) L in
        let G = behind_statement (While e b) F in
        loop_alike M L (value_of e) (λ s. turn_price price.turns (cost b s)) _ (λ s t a. value_agrees M e s t (λ y k. left_or (reads y e) _ k) a)
        (λ s t a. turn_alike price.turns M _ _ (forget_alike count (both M G) (before b M) M (forgetful count b G M) (cost b s) s t (λ t a. block_alike count b G M s t a) (agree_on _ _ s t (λ y k. head_holds y e b L k) a)))
        (λ y k. right_or (reads y e) _ (left_or (L y) _ k)) n s t a

    block_alike : (count : ℕ) (b : Statements) (F L : Names) (s t : State) → Agree (before b L) s t → Alike L (cost b s) (cost (forgetful count b F L) t)
    block_alike count done F L s t a = on_alike L s t a
    block_alike count (st ▸ b) F L s t a =
        let K = before b L in
        let G = behind_statement st F in
        then_alike L K _ _ _ _ (statement_alike count st F K s t a)
        (λ s t a. forget_alike count (both (ends_with st K) G) K L (forgetful count b G L) (cost b s) s t (λ t a. block_alike count b G L s t a) a)

    arms_alike : (count : ℕ) (arms : ArmList) (old F L : Names) (i : ℕ) (s t : State) → i < length (parts_of arms) → Agree (λ x. matters_to_arms x arms (L x)) s t → Alike L (arm_cost arms i s) (arm_cost (forgetful_arms count arms old F L) i t)
    arms_alike count no_arm old F L i s t lt a = absurd (omega (arith, lt))
    arms_alike count (arm p b arms) old F L zero s t lt a =
        forget_alike count old (before b L) L (forgetful count b F L) (cost b s) s t (λ t a. block_alike count b F L s t a) (agree_on _ _ s t (λ y k. left_or (matters_to y b (L y)) _ k) a)
    arms_alike count (arm p b arms) old F L (suc i) s t lt a = arms_alike count arms old F L i s t (omega (arith, lt)) (agree_on _ _ s t (λ y k. right_or (matters_to y b (L y)) _ k) a)

module _ (price : Price) (p : SourceProgram) where
  round_same : (n r : ℕ) → round_price price (forgetful_of p) n r ≡ round_price price p n r
  round_same n r =
      let start = zeros (length p.names) in
      sym ((block_alike price n r (length p.names) p.body no_names (λ x. reads x p.result) start start (record { lengths = refl; values = λ x h. refl })).same (λ s. zero_share) (λ s. zero_share) (λ s t a. refl))

  pub forgotten_costs : SameMeaning p (forgetful_of p) → (l : Limits) → expected_price price (forgetful_of p) l ≡ expected_price price p l
  forgotten_costs m l =
      ap (λ c. times c (power_sum (failed_mass (forgetful_of p) l.turns (Some l.attempts)) l.rounds)) (round_same l.turns l.attempts)
      ∙ ap (λ f. times (round_price price p l.turns l.attempts) (power_sum f l.rounds)) (m.failed l.turns (Some l.attempts))
