-- Where a block reads for ever with some weight, what it reads on average has no bound.
use Rattle.std.proofs.Common.{◌≡◌, ◌⊎◌, inl, inr, ⊎_elim, ℕ, zero, suc, ◌+◌, ◌-◌, ◌*◌, ◌≤◌, ◌<◌, max, [], ◌∷◌, ◌++◌, None, arith}
use Rattle.std.specs.List.{sum}
use Rattle.std.proofs.lemmas.Bool.{cases_lt}
use Rattle.gcl_core.specs.meaning.Arms.{parts_of}
use Rattle.gcl_core.specs.meaning.Bounds.{StatementIsWeighed, BlockIsWeighed, ArmsAreWeighed}
use Rattle.gcl_core.specs.meaning.Draw.{choice_ends}
use Rattle.gcl_core.specs.meaning.Parts.{partial_sums}
use Rattle.gcl_core.specs.meaning.Syntax.{Statement, Skip, Set, If, While, Choice, Choose, Uniform, Observe, Statements, done, ◌▸◌, ArmList, no_arm, arm}
use Rattle.gcl_core.specs.meaning.Value.{State, Value, value_of}
use Rattle.gcl_core.specs.meaning.Blocks.{on}
use Rattle.gcl_core.specs.weighing.Fractions.{Fraction}
use Rattle.gcl_core.specs.weighing.WeightedEnds.{Weighted, scaled, class_weight}
use Rattle.table_flow.specs.Tables.{Table, holds, fails, only}
use Rattle.table_flow.proofs.Positive.{Positive, p_only, p_scaled}
use Rattle.unlimited_law.specs.Alike.{AreFractions}
use Rattle.unlimited_law.proofs.Numbers.{Rational, ◌⊕◌, ◌⊗◌, ◌⊑◌, ◌≃◌, nought, below_refl, below_trans, same_sym, add_below, nought_below, nought_add, add_nought}
use Rattle.unlimited_law.proofs.OneScale.{Each, none, next, together, le_to, le_from, at_sum}
use Rattle.unlimited_law.proofs.FractionNumbers.{of, of_join, of_equal, of_pos, of_zero}
use Rattle.unlimited_law.proofs.Integrals.{integral, integral_append, integral_below, integral_same, integral_sum, guarded}
use Rattle.unlimited_law.proofs.SameWeights.{alike_integral}
use Rattle.unlimited_law.proofs.BlockLimits.{all_positive}
use Rattle.bits_law.specs.Price.{Price, price_of_draw}
use Rattle.bits_law.specs.Reading.{TurnCosts, StatementCosts, BlockCosts}
use Rattle.bits_law.specs.Forever.{ComesBy, GoesRound, LoopForever, StatementEndless, BlockEndless, ArmsEndless}
use Rattle.bits_law.proofs.Readers.{Reads, AtMostReads, quiet, end_reads, then_reads, loop_reads, loop_rises, turn_reads, statement_costs, block_costs, statement_rises, block_rises}
use Rattle.bits_law.proofs.Tends.{Rising, Tends, left_max, right_max}
use Rattle.bits_law.proofs.TableReads.{guard_at, guarded_parts, guard_reads, sides_are, arms_read, choose_is}
use Rattle.unlimited_law.proofs.FlowIntegrals.{weighed}
use Rattle.bits_law.proofs.TurnTends.{turned_rising, turn_above, turn_some, turn_left, turn_tends}
use Rattle.bits_law.proofs.BlockTends.{statement_tends, block_tends, block_rising, block_some, statement_left}

-- ---- numbers
abbrev pub whole : ℕ → Rational
whole M = of (M, 1)

whole_sum : (M N : ℕ) → whole (M + N) ≃ whole M ⊕ whole N
whole_sum M N = same_sym (of_join M N 1 (omega arith))

pub left_below : (x y : Rational) → x ⊑ x ⊕ y
left_below x y = below_trans (add_nought x).above (add_below (below_refl x) (nought_below y))

right_below : (x y : Rational) → y ⊑ x ⊕ y
right_below x y = below_trans (nought_add y).above (add_below (nought_below x) (below_refl y))

-- one of two numbers is great where their sum is
one_of_two : (M N : ℕ) (x y : Rational) → whole (M + N) ⊑ x ⊕ y → (whole M ⊑ x) ⊎ (whole N ⊑ y)
one_of_two M N x y h = by (together (whole M ∷ whole N ∷ x ∷ y ∷ [])).some (together (whole M ∷ whole N ∷ x ∷ y ∷ [])).each
  where
    by : {S : ℕ} → 0 < S → Each S (whole M ∷ whole N ∷ x ∷ y ∷ []) → (whole M ⊑ x) ⊎ (whole N ⊑ y)
    by s (next v1 a1 (next v2 a2 (next v3 a3 (next v4 a4 none)))) =
        let p = le_to s (at_sum a1 a2) (at_sum a3 a4) (below_trans (whole_sum M N).above h) in
        ⊎_elim (λ (lt : v3 < v1). inr (le_from s a2 a4 (omega arith))) (λ (le : v1 ≤ v3). inl (le_from s a1 a3 le)) (cases_lt v3 v1)

-- what is left without one
pub less_one : (M : ℕ) (x y r : Rational) → whole (M + 1) ⊑ x → r ⊕ x ⊑ y ⊕ whole 1 → whole M ⊑ y
less_one M x y r h k = by (together (whole M ∷ whole 1 ∷ x ∷ y ∷ r ∷ [])).some (together (whole M ∷ whole 1 ∷ x ∷ y ∷ r ∷ [])).each
  where
    by : {S : ℕ} → 0 < S → Each S (whole M ∷ whole 1 ∷ x ∷ y ∷ r ∷ []) → whole M ⊑ y
    by s (next v1 a1 (next v2 a2 (next v3 a3 (next v4 a4 (next v5 a5 none))))) =
        let p = le_to s (at_sum a1 a2) a3 (below_trans (whole_sum M 1).above h) in
        let q = le_to s (at_sum a5 a3) (at_sum a4 a2) k in
        le_from s a1 a4 (omega arith)

-- more by a part
more_by : (g x y r : Rational) → g ⊕ g ⊑ r → r ⊕ x ⊑ y ⊕ g → g ⊕ x ⊑ y
more_by g x y r h k = by (together (g ∷ x ∷ y ∷ r ∷ [])).some (together (g ∷ x ∷ y ∷ r ∷ [])).each
  where
    by : {S : ℕ} → 0 < S → Each S (g ∷ x ∷ y ∷ r ∷ []) → g ⊕ x ⊑ y
    by s (next v1 a1 (next v2 a2 (next v3 a3 (next v4 a4 none)))) =
        let p = le_to s (at_sum a1 a1) a4 h in
        let q = le_to s (at_sum a4 a2) (at_sum a3 a1) k in
        le_from s (at_sum a1 a2) a3 (omega arith)

part_twice : (read : Fraction) → 0 < read.0 → 0 < read.1 → of (1, 2 * read.1) ⊕ of (1, 2 * read.1) ⊑ of read
part_twice read h g =
    let two : 0 < 2 * read.1 = omega arith in
    below_trans (of_join 1 1 (2 * read.1) two).below
    (below_trans (of_equal (1 + 1, 2 * read.1) (1, read.1) two g (omega arith)).below (below_trans (of_pos (1, read.1) g).below (below_trans (record { le = below read.0 read.1 h }) (of_pos read g).above)))
  where
    below : (a b : ℕ) → 0 < a → 1 * b ≤ a * b
    below zero b h = absurd (omega arith)
    below (suc a) b h = omega arith

front_some : {A : Type 0} (m o : Weighted A) → AreFractions (m ++ o) → AreFractions m
front_some [] o h = tt
front_some (e ∷ m) o h = (h.0, front_some m o h.1)

back_some : {A : Type 0} (m o : Weighted A) → AreFractions (m ++ o) → AreFractions o
back_some [] o h = h
back_some (e ∷ m) o h = back_some m o h.1

-- above each number from some limit on
abbrev pub Grows : (ℕ → Rational) → Type 0
Grows X = (M : ℕ) → (n : ℕ) × (whole M ⊑ X n)

grows_by : (X Y : ℕ → Rational) → ((n : ℕ) → X n ⊑ Y n) → Grows X → Grows Y
grows_by X Y h g = λ M. let x = g M in (x.0, below_trans x.1 (h x.0))

-- ---- loops
module _ (v : State → Value) (B : ℕ → State → Reads) (rising : (s : State) → Rising (λ n. B n s)) (Body : Table → Table → Fraction → Type 0)
    (some : (I J : Table) (bits : Fraction) → Body I J bits → 0 < bits.1)
    (tends : (I J : Table) (bits : Fraction) → Positive I → Body I J bits → Tends (λ n F. integral (λ s. B n s F) I) (λ F. of bits ⊕ integral F J))
    (left : (I J : Table) (bits : Fraction) → Body I J bits → Positive J) where
  abbrev after : State → Rational
  after s = nought

  abbrev L : ℕ → ℕ → State → Rational
  L n t s = loop_reads v (B n) t s after

  body_rises : (n m : ℕ) → n ≤ m → (s : State) → AtMostReads (B n s) (B m s)
  body_rises n m le s F G h = (rising s).rises n m le F G h

  more_turns : (n m t u : ℕ) → n ≤ m → t ≤ u → (s : State) → L n t s ⊑ L m u s
  more_turns n m t u a b s = loop_rises v (B n) (B m) (body_rises n m a) t u b s after after (λ s. below_refl nought)

  -- one turn more reads what the body does, where the guard holds
  turn_more : (n t : ℕ) (I : Table) → integral (λ s. B n s (L n t)) (only (holds v) I) ⊑ integral (L n (suc t)) I
  turn_more n t I =
      below_trans (left_below _ (integral after (only (fails v) I)))
      (below_trans (guarded_parts v (λ s. B n s (L n t)) after I).above
      (integral_below (guarded v quiet (λ s. B n s (L n t)) after) (L n (suc t)) I (λ s. (guard_at (v s) (then_reads (B n s) (loop_reads v (B n) t)) (end_reads (on s)) after).above)))

  -- the body after another limit
  turn_from : (n t m : ℕ) (I : Table) → integral (λ s. B m s (L n t)) (only (holds v) I) ⊑ integral (L (max n m) (suc t)) I
  turn_from n t m I =
      below_trans
      (integral_below (λ s. B m s (L n t)) (λ s. B (max n m) s (L (max n m) t)) (only (holds v) I)
      (λ s. body_rises m (max n m) (right_max n m) s (L n t) (L (max n m) t) (more_turns n (max n m) t t (left_max n m) (omega arith)))) (turn_more (max n m) t I)

  abbrev Reached : ℕ → Table → Type 0
  Reached M I = (n : ℕ) × (t : ℕ) × (whole M ⊑ integral (L n t) I)

  -- from the tables to which it comes back to the one where it begins
  came_from : (m : ℕ) (I T : Table) → Positive I → ComesBy v Body m I T → (M : ℕ) → (N : ℕ) × (Reached N T → Reached M I)
  came_from zero I T p o M = (M, λ r. (r.0, r.1, below_trans r.2 (alike_integral T I o (L r.0 r.1)).below))
  came_from (suc m) I T p o M =
      let rest = came_from m o.0 o.1 (left (only (holds v) I) o.0 o.2 o.3) o.4 (M + 1) in (
        M + rest.0,
        λ r.
            let G = L r.0 r.1 in
            let both = below_trans r.2 (below_trans (alike_integral T (I ++ o.1) o.5 G).below (integral_append G I o.1).below) in
            ⊎_elim (λ (a : whole M ⊑ integral G I). (r.0, r.1, a)) (λ (b : whole rest.0 ⊑ integral G o.1). from_turn (rest.1 (r.0, r.1, b))) (one_of_two M rest.0 (integral G I) (integral G o.1) both),
      )
    where
      from_turn : Reached (M + 1) o.0 → Reached M I
      from_turn r =
          let one : 0 < 1 = omega arith in
          let near = (tends (only (holds v) I) o.0 o.2 (p_only (holds v) I p) o.3).near (L r.0 r.1) 1 one in (
            max r.0 near.0,
            suc r.1,
            below_trans (less_one M (integral (L r.0 r.1) o.0) (integral (λ s. B near.0 s (L r.0 r.1)) (only (holds v) I)) (of o.2) r.2 near.1) (turn_from r.0 r.1 near.0 I),
          )

  -- what goes round reads more with each turn
  each_round : (S : Table) → Positive S → (o : GoesRound v Body S) → (j : ℕ) → (n : ℕ) × (t : ℕ) × (of (j, 2 * o.2.1) ⊑ integral (L n t) S)
  each_round S p o zero = (0, 0, below_trans (of_zero (2 * o.2.1)).below (nought_below _))
  each_round S p o (suc j) =
      let r = each_round S p o j in
      let read_some = some (only (holds v) S) o.0 o.2 o.3 in
      let c : 0 < 2 * o.2.1 = omega arith in
      let near = (tends (only (holds v) S) o.0 o.2 (p_only (holds v) S p) o.3).near (L r.0 r.1) (2 * o.2.1) c in
      let D = of (1, 2 * o.2.1) in
      let x = integral (L r.0 r.1) S in
      let again : x ⊑ integral (L r.0 r.1) o.0 = below_trans (left_below x (integral (L r.0 r.1) o.1)) (below_trans (integral_append (L r.0 r.1) S o.1).above (alike_integral o.0 (S ++ o.1) o.4 (L r.0 r.1)).above) in
      let e : 1 + j ≡ suc j = omega arith in (
        max r.0 near.0,
        suc r.1,
        below_trans (one_more j (2 * o.2.1) c)
            (below_trans (add_below (below_refl D) (below_trans r.2 again))
            (below_trans (more_by D (integral (L r.0 r.1) o.0) (integral (λ s. B near.0 s (L r.0 r.1)) (only (holds v) S)) (of o.2) (part_twice o.2 o.5 read_some) near.1) (turn_from r.0 r.1 near.0 S))),
      )
    where
      one_more : (j d : ℕ) → 0 < d → of (suc j, d) ⊑ of (1, d) ⊕ of (j, d)
      one_more j d h = below_trans (of_equal (suc j, d) (1 + j, d) h h (omega arith)).below (of_join 1 j d h).above

  round_reached : (S : Table) → Positive S → GoesRound v Body S → (M : ℕ) → Reached M S
  round_reached S p o M =
      let c : 0 < 2 * o.2.1 = let h = some (only (holds v) S) o.0 o.2 o.3 in omega arith in
      let r = each_round S p o (2 * o.2.1 * M) in
      let one : 0 < 1 = omega arith in
      (r.0, r.1, below_trans (of_equal (M, 1) (2 * o.2.1 * M, 2 * o.2.1) one c (omega arith)).below r.2)

  pub loop_grows : (Forever : Table → Type 0) → ((I : Table) → Positive I → Forever I → Grows (λ n. integral (λ s. B n s after) I)) → (I : Table) → Positive I → LoopForever v Body Forever I →
      Grows (λ n. integral (L n n) I)
  loop_grows Forever grows I p o M =
      let S = o.2 in
      let T = o.1 in
      let q = all_positive S (front_some S o.3 o.5.second) in
      let x = came_from o.0 I T p o.4 M in
      let reached : Reached x.0 S = ⊎_elim (λ (a : GoesRound v Body S). round_reached S q a x.0)
      (λ (b : Forever (only (holds v) S)).
      let y = grows (only (holds v) S) (p_only (holds v) S q) b x.0 in (
        y.0,
        1,
        below_trans y.1
            (below_trans (integral_below (λ s. B y.0 s after) (λ s. B y.0 s (L y.0 0)) (only (holds v) S) (λ s. body_rises y.0 y.0 (omega arith) s after (L y.0 0) (λ s. nought_below _))) (turn_more y.0 0 S)),
      )) o.6 in
      let r = x.1 (
        reached.0,
        reached.1,
        below_trans reached.2 (below_trans (left_below _ (integral (L reached.0 reached.1) o.3)) (below_trans (integral_append (L reached.0 reached.1) S o.3).above (alike_integral T (S ++ o.3) o.5 (L reached.0 reached.1)).above)),
      ) in
      let n = max r.0 r.1 in
      (n, below_trans r.2 (integral_below (L r.0 r.1) (L n n) I (more_turns r.0 n r.1 n (left_max r.0 r.1) (right_max r.0 r.1))))

-- ---- statements
abbrev nothing : State → Rational
nothing s = nought

choice_above : (n : ℕ) (u l d : Fraction) (a c : State → Rational) (I : Table) →
    integral a (scaled u I) ⊕ integral c (scaled l I) ⊑ integral (λ s. of d ⊕ (of u ⊗ a s ⊕ of l ⊗ c s)) I
choice_above n u l d a c I =
    below_trans (add_below (weighed u a I).above (weighed l c I).above)
    (below_trans (integral_sum (λ s. of u ⊗ a s) (λ s. of l ⊗ c s) I).above (integral_below (λ s. of u ⊗ a s ⊕ of l ⊗ c s) (λ s. of d ⊕ (of u ⊗ a s ⊕ of l ⊗ c s)) I (λ s. right_below (of d) _)))

module _ (price : Price) where
  abbrev StatementGrows : Statement → Table → Type 0
  StatementGrows st I = Grows (λ n. integral (λ s. statement_costs price None n st s nothing) I)

  abbrev pub BlockGrows : Statements → Table → Type 0
  BlockGrows b I = Grows (λ n. integral (λ s. block_costs price None n b s nothing) I)

  block_left : (b : Statements) (I J : Table) (bits : Fraction) → BlockCosts price b I J bits → Positive J
  block_left done I J bits o = all_positive J o.next.first
  block_left (st ▸ b) I J bits o = all_positive J o.6.next.first

  mutual
    statement_grows : (st : Statement) → StatementIsWeighed st → (I : Table) → Positive I → StatementEndless price st I → StatementGrows st I
    statement_grows Skip w I p o = absurd o
    statement_grows (Set x e) w I p o = absurd o
    statement_grows (Observe e) w I p o = absurd o
    statement_grows (Uniform x e) w I p o = absurd o
    statement_grows (If e a c) w I p o =
        let A = only (holds (value_of e)) I in
        let C = only (fails (value_of e)) I in
        let parts = λ (n : ℕ). (guard_reads (value_of e) (block_costs price None n a) (block_costs price None n c) nothing I).above in
        ⊎_elim
        (λ (h : BlockEndless price a A). grows_by (λ n. integral (λ s. block_costs price None n a s nothing) A) _ (λ n. below_trans (left_below _ (integral (λ s. block_costs price None n c s nothing) C)) (parts n))
        (block_grows a w.0 A (p_only (holds (value_of e)) I p) h))
        (λ (h : BlockEndless price c C). grows_by (λ n. integral (λ s. block_costs price None n c s nothing) C) _ (λ n. below_trans (right_below (integral (λ s. block_costs price None n a s nothing) A) _) (parts n))
        (block_grows c w.1 C (p_only (fails (value_of e)) I p) h)) o
    statement_grows (Choice q a c) w I p o =
        let some : 0 < q.den = let h = w.0.positive in omega arith in
        let u = class_weight q.den None q.num in
        let l = class_weight q.den None (q.den - q.num) in
        let d = price_of_draw price None (choice_ends q) in
        let A = scaled u I in
        let C = scaled l I in
        let parts = λ (n : ℕ). below_trans (choice_above n u l d (λ s. block_costs price None n a s nothing) (λ s. block_costs price None n c s nothing) I)
        (integral_same (λ s. of d ⊕ (of u ⊗ block_costs price None n a s nothing ⊕ of l ⊗ block_costs price None n c s nothing)) (λ s. statement_costs price None n (Choice q a c) s nothing) I
        (λ s. same_sym (sides_are price q (block_costs price None n a s) (block_costs price None n c s) nothing))).below in
        ⊎_elim
        (λ (h : BlockEndless price a A). grows_by (λ n. integral (λ s. block_costs price None n a s nothing) A) _ (λ n. below_trans (left_below _ (integral (λ s. block_costs price None n c s nothing) C)) (parts n))
        (block_grows a w.1 A (p_scaled u I some p) h))
        (λ (h : BlockEndless price c C). grows_by (λ n. integral (λ s. block_costs price None n c s nothing) C) _ (λ n. below_trans (right_below (integral (λ s. block_costs price None n a s nothing) A) _) (parts n))
        (block_grows c w.2 C (p_scaled l I some p) h)) o
    statement_grows (Choose arms) w I p o =
        let b = sum (parts_of arms) in
        let some : 0 < b = let h = w.0.positive in omega arith in
        let d = price_of_draw price None (partial_sums (parts_of arms)) in
        grows_by (λ n. integral (λ s. arms_read price n nothing b arms s) I) _
        (λ n. below_trans (integral_below (λ s. arms_read price n nothing b arms s) (λ s. of d ⊕ arms_read price n nothing b arms s) I (λ s. right_below (of d) _))
        (integral_same (λ s. of d ⊕ arms_read price n nothing b arms s) (λ s. statement_costs price None n (Choose arms) s nothing) I (λ s. same_sym (choose_is price n nothing arms s))).below)
        (arms_grow b some arms w.1 I p o)
    statement_grows (While e a) w I p o =
        let turns = price.turns in
        let B = λ (n : ℕ). block_costs price None n a in
        let Body = BlockCosts price a in
        loop_grows (value_of e) (λ n s. turn_reads turns (B n s)) (turned_rising turns B (block_rising price a)) (TurnCosts turns Body) (turn_some Body turns (block_some price a)) (turn_tends Body B (block_some price a) (block_tends price a w) turns)
        (turn_left Body turns (block_left a)) (BlockEndless price a)
        (λ J q h. grows_by (λ n. integral (λ s. B n s nothing) J) _ (λ n. integral_below (λ s. B n s nothing) (λ s. turn_reads turns (B n s) nothing) J (λ s. turn_above turns (B n s) nothing)) (block_grows a w J q h)) I p o

    pub block_grows : (b : Statements) → BlockIsWeighed b → (I : Table) → Positive I → BlockEndless price b I → BlockGrows b I
    block_grows done w I p o = absurd o
    block_grows (st ▸ b) w I p o =
        ⊎_elim
        (λ (h : StatementEndless price st I). grows_by (λ n. integral (λ s. statement_costs price None n st s nothing) I) _
        (λ n. integral_below (λ s. statement_costs price None n st s nothing) (λ s. statement_costs price None n st s (λ t. block_costs price None n b t nothing)) I
        (λ s. statement_rises price None n n (omega arith) st s nothing (λ t. block_costs price None n b t nothing) (λ t. nought_below _))) (statement_grows st w.0 I p h))
        (λ (h : (K : Table) × (read : Fraction) × StatementCosts price st I K read × BlockEndless price b K). second h (block_grows b w.1 h.0 (statement_left price st I h.0 h.1 h.2) h.3)) o
      where
        second : (h : (K : Table) × (read : Fraction) × StatementCosts price st I K read × BlockEndless price b K) → BlockGrows b h.0 → BlockGrows (st ▸ b) I
        second h g M =
            let one : 0 < 1 = omega arith in
            let y = g (M + 1) in
            let F = λ (t : State). block_costs price None y.0 b t nothing in
            let x = (statement_tends price st w.0 I h.0 h.1 p h.2).near F 1 one in
            let n = max x.0 y.0 in (
              n,
              below_trans (less_one M (integral F h.0) (integral (λ s. statement_costs price None x.0 st s F) I) (of h.1) y.1 x.1)
                  (integral_below (λ s. statement_costs price None x.0 st s F) (λ s. statement_costs price None n st s (λ t. block_costs price None n b t nothing)) I
                  (λ s. statement_rises price None x.0 n (left_max x.0 y.0) st s F (λ t. block_costs price None n b t nothing) (λ t. block_rises price None y.0 n (right_max x.0 y.0) b t nothing nothing (λ s. below_refl nought)))),
            )

    arms_grow : (b : ℕ) → 0 < b → (arms : ArmList) → ArmsAreWeighed arms → (I : Table) → Positive I → ArmsEndless price b arms I → Grows (λ n. integral (λ s. arms_read price n nothing b arms s) I)
    arms_grow b some no_arm w I p o = absurd o
    arms_grow b some (arm q a arms) w I p o =
        let u = class_weight b None q in
        let A = scaled u I in
        let parts = λ (n : ℕ). below_trans (add_below (weighed u (λ s. block_costs price None n a s nothing) I).above (below_refl (integral (λ s. arms_read price n nothing b arms s) I)))
        (integral_sum (λ s. of u ⊗ block_costs price None n a s nothing) (λ s. arms_read price n nothing b arms s) I).above in
        ⊎_elim
        (λ (h : BlockEndless price a A). grows_by (λ n. integral (λ s. block_costs price None n a s nothing) A) _ (λ n. below_trans (left_below _ (integral (λ s. arms_read price n nothing b arms s) I)) (parts n))
        (block_grows a w.0 A (p_scaled u I some p) h))
        (λ (h : ArmsEndless price b arms I). grows_by (λ n. integral (λ s. arms_read price n nothing b arms s) I) _ (λ n. below_trans (right_below (integral (λ s. block_costs price None n a s nothing) A) _) (parts n))
        (arms_grow b some arms w.1 I p h)) o
