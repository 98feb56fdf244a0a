-- What a loop reads tends to what its body reads from the visits.
use Rattle.std.proofs.Common.{◌≡◌, ⊎_elim, ℕ, zero, suc, ◌+◌, ◌*◌, ◌≤◌, ◌<◌, max, Bool, true, false, cond, List, [], ◌∷◌, ◌++◌, Ok, Err, sym, subst, arith}
use Rattle.std.proofs.Math.Nat.{mul-le-mul_left}
use Rattle.gcl_core.specs.declared.answers.Limit.TheVariants.{Turns}
use Rattle.gcl_core.specs.meaning.Value.{State, Value, is_zero}
use Rattle.gcl_core.specs.meaning.Blocks.{on, limit, by_value, by_truth}
use Rattle.gcl_core.specs.weighing.Fractions.{Fraction}
use Rattle.gcl_core.specs.weighing.WeightedEnds.{Weighted, sure}
use Rattle.table_flow.specs.Tables.{Table, holds, fails, only}
use Rattle.table_flow.proofs.Positive.{Positive, p_sure, p_only}
use Rattle.unlimited_law.specs.Alike.{AreFractions}
use Rattle.unlimited_law.specs.Settling.{EachState, StandsIn, Within}
use Rattle.unlimited_law.proofs.Numbers.{Rational, ◌⊕◌, ◌⊗◌, ◌⊑◌, ◌≃◌, nought, below_refl, same_refl, below_trans, same_trans, same_sym, add_below, add_same, times_below, times_nought, nought_below, nought_add, add_nought, factor_same}
use Rattle.unlimited_law.proofs.OneScale.{Each, none, next, together, le_to, le_from, at_sum}
use Rattle.unlimited_law.proofs.FractionNumbers.{of, of_zero, of_pos}
use Rattle.unlimited_law.proofs.Integrals.{integral, integral_append, integral_below, integral_sure, guarded}
use Rattle.unlimited_law.proofs.SameWeights.{alike_integral}
use Rattle.unlimited_law.proofs.BlockLimits.{all_positive}
use Rattle.unlimited_law.proofs.Turning.{below_limit, above_limit}
use Rattle.bits_law.specs.Reading.{AreSilent, AreVisits, LoopReads}
use Rattle.bits_law.proofs.Readers.{Reads, AtMostReads, quiet, end_reads, then_reads, loop_reads, loop_rises}
use Rattle.bits_law.proofs.Tends.{Rising, Tends, left_max, right_max, two_halves}
use Rattle.bits_law.proofs.TableReads.{guard_at, guarded_parts, guard_holds, came}

-- ---- states in a set
stands : (Fact : State → Type 0) (D : List State) (s : State) → StandsIn D s → EachState Fact D → Fact s
stands Fact [] s x h = absurd x
stands Fact (t ∷ D) s x h = ⊎_elim (λ (e : s ≡ t). subst Fact (sym e) h.0) (λ (r : StandsIn D s). stands Fact D s r h.1) x

each_state : (Fact Other : State → Type 0) (D : List State) → EachState Fact D → ((s : State) → Fact s → Other s) → EachState Other D
each_state Fact Other [] h f = tt
each_state Fact Other (s ∷ D) h f = (f s h.0, each_state Fact Other D h.1 f)

within_none : (D : List State) (G : State → Rational) → EachState (λ s. G s ⊑ nought) D → (J : Table) → Within D J → integral G J ⊑ nought
within_none D G h [] w = below_refl nought
within_none D G h (e ∷ J) w =
    below_trans (add_below (below_trans (times_below (of e.0) (stands (λ s. G s ⊑ nought) D e.1 w.0 h)) (times_nought (of e.0)).below) (within_none D G h J w.1)) (nought_add nought).below

zero_bits : (p : Fraction) → p.0 ≡ 0 → of p ≃ nought
zero_bits (a, d) e = subst (λ x. of (x, d) ≃ nought) (sym e) (of_zero d)

front_fractions : {A : Type 0} (m o : Weighted A) → AreFractions (m ++ o) → AreFractions m
front_fractions [] o h = tt
front_fractions (e ∷ m) o h = (h.0, front_fractions m o h.1)

-- ---- numbers
pub small_part : (k : ℕ) → 0 < k → (X : Rational) → of (1, k * X.num + 1) ⊗ X ⊑ of (1, k)
unfolding ◌⊗◌
small_part k some X =
    let N = k * X.num + 1 in
    let h : 0 < N = omega arith in
    below_trans (factor_same X (of_pos (1, N) h)).below
    (below_trans (record { le = let x = mul-le-mul_left N (let le : 1 ≤ X.den = let z = X.some in omega arith in le) in omega arith }) (of_pos (1, k) some).above)

loop_low : (i x' c f x b : Rational) → i ⊕ x' ⊑ b ⊕ f → b ⊑ c ⊕ x → i ⊕ x' ⊑ c ⊕ f ⊕ x
loop_low i x' c f x b h k = by (together (i ∷ x' ∷ c ∷ f ∷ x ∷ b ∷ [])).some (together (i ∷ x' ∷ c ∷ f ∷ x ∷ b ∷ [])).each
  where
    by : {N : ℕ} → 0 < N → Each N (i ∷ x' ∷ c ∷ f ∷ x ∷ b ∷ []) → i ⊕ x' ⊑ c ⊕ f ⊕ x
    by n (next v1 a1 (next v2 a2 (next v3 a3 (next v4 a4 (next v5 a5 (next v6 a6 none)))))) =
        let p = le_to n (at_sum a1 a2) (at_sum a6 a4) h in
        let q = le_to n a6 (at_sum a3 a5) k in
        le_from n (at_sum a1 a2) (at_sum (at_sum a3 a4) a5) (omega arith)

loop_high : (i x' c f x b d : Rational) → b ⊕ f ⊑ i ⊕ x' → c ⊕ x ⊑ b ⊕ d → c ⊕ f ⊕ x ⊑ i ⊕ x' ⊕ d
loop_high i x' c f x b d h k = by (together (i ∷ x' ∷ c ∷ f ∷ x ∷ b ∷ d ∷ [])).some (together (i ∷ x' ∷ c ∷ f ∷ x ∷ b ∷ d ∷ [])).each
  where
    by : {N : ℕ} → 0 < N → Each N (i ∷ x' ∷ c ∷ f ∷ x ∷ b ∷ d ∷ []) → c ⊕ f ⊕ x ⊑ i ⊕ x' ⊕ d
    by n (next v1 a1 (next v2 a2 (next v3 a3 (next v4 a4 (next v5 a5 (next v6 a6 (next v7 a7 none))))))) =
        let p = le_to n (at_sum a6 a4) (at_sum a1 a2) h in
        let q = le_to n (at_sum a3 a5) (at_sum a6 a7) k in
        le_from n (at_sum (at_sum a3 a4) a5) (at_sum (at_sum a1 a2) a7) (omega arith)

last_parts : (r i d e g h : Rational) → r ⊑ i ⊕ d ⊕ e → d ⊑ g → e ⊑ g → g ⊕ g ⊑ h → r ⊑ i ⊕ h
last_parts r i d e g h a b c f = by (together (r ∷ i ∷ d ∷ e ∷ g ∷ h ∷ [])).some (together (r ∷ i ∷ d ∷ e ∷ g ∷ h ∷ [])).each
  where
    by : {N : ℕ} → 0 < N → Each N (r ∷ i ∷ d ∷ e ∷ g ∷ h ∷ []) → r ⊑ i ⊕ h
    by n (next v1 a1 (next v2 a2 (next v3 a3 (next v4 a4 (next v5 a5 (next v6 a6 none)))))) =
        let p = le_to n a1 (at_sum (at_sum a2 a3) a4) a in
        let q = le_to n a3 a5 b in
        let s = le_to n a4 a5 c in
        let t = le_to n (at_sum a5 a5) a6 f in
        le_from n a1 (at_sum a2 a6) (omega arith)

guarded_rises : (v : State → Value) (A B C : State → Rational) → ((s : State) → A s ⊑ B s) → (s : State) → guarded v quiet A C s ⊑ guarded v quiet B C s
guarded_rises v A B C h s = by (v s)
  where
    by_test : (b : Bool) → cond b (C s) (A s) ⊑ cond b (C s) (B s)
    by_test true = below_refl (C s)
    by_test false = h s

    by : (o : Value) → by_value o (λ f. nought) (λ z. by_truth z (A s) (C s)) ⊑ by_value o (λ f. nought) (λ z. by_truth z (B s) (C s))
    by (Err f) = below_refl nought
    by (Ok z) = by_test (is_zero z)

-- ---- a loop, whose body tends to what it reads
-- a number of turns of the body with one limit after the other
record Turned : Type 0 where
  limit : ℕ
  reads : State → Rational

module _ (v : State → Value) (B : ℕ → State → Reads) (rising : (s : State) → Rising (λ n. B n s)) (Body : Table → Table → Fraction → Type 0)
    (some : (I J : Table) (bits : Fraction) → Body I J bits → 0 < bits.1)
    (tends : (I J : Table) (bits : Fraction) → Positive I → Body I J bits → Tends (λ n F. integral (λ s. B n s F) I) (λ F. of bits ⊕ integral F J)) where
  body_rises : (n m : ℕ) → n ≤ m → (s : State) → AtMostReads (B n s) (B m s)
  body_rises n m le s F G h = (rising s).rises n m le F G h

  module _ (D : List State) (silent : AreSilent v Body D) (F : State → Rational) where
    abbrev L : ℕ → ℕ → State → Rational
    L n t s = loop_reads v (B n) t s F

    abbrev Turn : ℕ → (State → Rational) → State → Rational
    Turn n G = guarded v quiet (λ s. B n s G) F

    turn_is : (n t : ℕ) (s : State) → L n (suc t) s ≃ Turn n (L n t) s
    turn_is n t s = guard_at (v s) (then_reads (B n s) (loop_reads v (B n) t)) (end_reads (on s)) F

    more_turns : (n m t u : ℕ) → n ≤ m → t ≤ u → (s : State) → L n t s ⊑ L m u s
    more_turns n m t u a b s = loop_rises v (B n) (B m) (body_rises n m a) t u b s F F (λ s. below_refl (F s))

    turn_rises : (n m : ℕ) → n ≤ m → (G H : State → Rational) → ((s : State) → G s ⊑ H s) → (s : State) → Turn n G s ⊑ Turn m H s
    turn_rises n m le G H h = guarded_rises v (λ s. B n s G) (λ s. B m s H) F (λ s. body_rises n m le s G H h)

    -- ---- nothing is read where it is silent
    no_turn : (n t : ℕ) → EachState (λ s. L n t s ⊑ nought) D → (s : State) → (holds v s ≡ true) × (K : Table) × (bits : Fraction) × Body (sure s) K bits × (bits.0 ≡ 0) × Within D K → L n (suc t) s ⊑ nought
    no_turn n t q s o =
        below_trans (guard_holds v s (then_reads (B n s) (loop_reads v (B n) t)) (end_reads (on s)) F o.0).below
        (below_trans (integral_sure (λ s. B n s (L n t)) s).above
        (below_trans ((tends (sure s) o.1 o.2 (p_sure s) o.3).most n (L n t))
        (below_trans (add_below (zero_bits o.2 o.4).below (within_none D (L n t) q o.1 o.5)) (nought_add nought).below)))

    stays : (n t : ℕ) → EachState (λ s. L n t s ⊑ nought) D
    stays n zero = each_state _ (λ s. L n 0 s ⊑ nought) D silent (λ s o. (guard_holds v s (end_reads (limit Turns)) (end_reads (on s)) F o.0).below)
    stays n (suc t) = each_state _ (λ s. L n (suc t) s ⊑ nought) D silent (no_turn n t (stays n t))

    -- ---- from its visits
    module _ (I V : Table) (c : Fraction) (w : AreVisits v Body D I V c) where
      abbrev back : Table
      back = w.0

      abbrev leaves : Rational
      leaves = integral F (only (fails v) V)

      abbrev all : Rational
      all = of c ⊕ leaves

      abbrev goes : ℕ → (State → Rational) → Rational
      goes n G = integral (λ s. B n s G) (only (holds v) V)

      body_tends : Tends goes (λ G. of c ⊕ integral G back)
      body_tends = tends (only (holds v) V) back c (p_only (holds v) V (all_positive V (front_fractions V w.1 w.3.first))) w.2

      visited : (G : State → Rational) → EachState (λ s. G s ⊑ nought) D → integral G I ⊕ integral G back ≃ integral G V
      visited G q =
          same_trans (same_sym (integral_append G I back))
          (same_trans (same_sym (alike_integral (V ++ w.1) (I ++ back) w.3 G))
          (same_trans (integral_append G V w.1) (same_trans (add_same (same_refl (integral G V)) (record { below = within_none D G q w.1 w.4; above = nought_below _ })) (add_nought (integral G V)))))

      rises : (n : ℕ) (J : Table) (t : ℕ) → integral (L n t) J ⊑ integral (L n (suc t)) J
      rises n J t = integral_below (L n t) (L n (suc t)) J (more_turns n n t (suc t) (omega arith) (omega arith))

      low : (n t : ℕ) → integral (L n (suc t)) I ⊕ integral (L n (suc t)) back ⊑ all ⊕ integral (L n t) back
      low n t =
          loop_low (integral (L n (suc t)) I) (integral (L n (suc t)) back) (of c) leaves (integral (L n t) back) (goes n (L n t))
          (below_trans (visited (L n (suc t)) (stays n (suc t))).below
          (below_trans (integral_below (L n (suc t)) (Turn n (L n t)) V (λ s. (turn_is n t s).below)) (guarded_parts v (λ s. B n s (L n t)) F V).below)) (body_tends.most n (L n t))

      pub loop_most : (n t : ℕ) → integral (L n t) I ⊑ all
      loop_most n t = below_limit (λ t. integral (L n t) I) (λ t. integral (L n t) back) all nought nought (rises n I) (rises n back) (low n) t

    -- ---- and near it
    module _ (I V : Table) (c : Fraction) (w : AreVisits v Body D I V c) (more V2 : Table) (c2 : Fraction) (w2 : AreVisits v Body D (V ++ more) V2 c2) where
      abbrev again : Table
      again = w.0

      abbrev most : Rational
      most = of c2 ⊕ integral F (only (fails v) V2)

      behind_below : (x y : Rational) → y ⊑ x ⊕ y
      behind_below x y = below_trans (nought_add y).above (add_below (nought_below x) (below_refl y))

      front_below : (x y : Rational) → x ⊑ x ⊕ y
      front_below x y = below_trans (add_nought x).above (add_below (below_refl x) (nought_below y))

      bounded : (n t : ℕ) → integral (L n t) again ⊑ most
      bounded n t =
          below_trans (behind_below (integral (L n t) I) (integral (L n t) again))
          (below_trans (visited I V c w (L n t) (stays n t)).below
          (below_trans (front_below (integral (L n t) V) (integral (L n t) more)) (below_trans (integral_append (L n t) V more).above (loop_most (V ++ more) V2 c2 w2 n t))))

      module _ (k : ℕ) (h : 0 < k) where
        abbrev first : Turned
        first = record { limit = 0; reads = guarded v quiet (λ s. nought) F }

        abbrev turned : Turned → Turned
        turned x =
            let m = max x.limit ((body_tends I V c w).near x.reads k h).0 in
            record { limit = m; reads = Turn m x.reads }

        abbrev steps : ℕ → Turned
        steps zero = first
        steps (suc t) = turned (steps t)

        abbrev R : ℕ → State → Rational
        R t = (steps t).reads

        abbrev M : ℕ → ℕ
        M t = (steps t).limit

        limit_rises : (t : ℕ) → M t ≤ M (suc t)
        limit_rises t = left_max (M t) ((body_tends I V c w).near (R t) k h).0

        reads_rise : (t : ℕ) (s : State) → R t s ⊑ R (suc t) s
        reads_rise zero s = guarded_rises v (λ s. nought) (λ s. B (M 1) s (R 0)) F (λ s. nought_below _) s
        reads_rise (suc t) s = turn_rises (M (suc t)) (M (suc (suc t))) (limit_rises (suc t)) (R t) (R (suc t)) (reads_rise t) s

        below_loop : (t : ℕ) (s : State) → R t s ⊑ L (M t) t s
        below_loop zero s = (guard_at (v s) (end_reads (limit Turns)) (end_reads (on s)) F).above
        below_loop (suc t) s =
            below_trans
            (turn_rises (M (suc t)) (M (suc t)) (omega arith) (R t) (L (M (suc t)) t)
            (λ s. below_trans (below_loop t s) (more_turns (M t) (M (suc t)) t t (limit_rises t) (omega arith) s)) s)
            (turn_is (M (suc t)) t s).above

        quiet_steps : (t : ℕ) → EachState (λ s. R t s ⊑ nought) D
        quiet_steps t = each_state (λ s. L (M t) t s ⊑ nought) (λ s. R t s ⊑ nought) D (stays (M t) t) (λ s q. below_trans (below_loop t s) q)

        high : (t : ℕ) → of c ⊕ integral F (only (fails v) V) ⊕ integral (R t) again ⊑ integral (R (suc t)) I ⊕ integral (R (suc t)) again ⊕ of (1, k)
        high t =
            let near = (body_tends I V c w).near (R t) k h in
            let m = M (suc t) in
            loop_high (integral (R (suc t)) I) (integral (R (suc t)) again) (of c) (integral F (only (fails v) V)) (integral (R t) again) (goes I V c w m (R t)) (of (1, k))
            (below_trans (guarded_parts v (λ s. B m s (R t)) F V).above (visited I V c w (R (suc t)) (quiet_steps (suc t))).above)
            (below_trans near.1
            (add_below (integral_below (λ s. B near.0 s (R t)) (λ s. B m s (R t)) (only (holds v) V) (λ s. body_rises near.0 m (right_max (M t) near.0) s (R t) (R t) (λ s. below_refl (R t s)))) (below_refl (of (1, k)))))

        top : (t : ℕ) → integral (R t) again ⊑ most
        top t = below_trans (integral_below (R t) (L (M t) t) again (below_loop t)) (bounded (M t) t)

        after_turns : (t : ℕ) → 0 < t → of c ⊕ integral F (only (fails v) V) ⊑ integral (R t) I ⊕ of (1, t) ⊗ most ⊕ of (1, k)
        after_turns t g =
            above_limit (λ t. integral (R t) I) (λ t. integral (R t) again) (of c ⊕ integral F (only (fails v) V)) (of (1, k)) most
            (λ t. integral_below (R t) (R (suc t)) I (reads_rise t)) (λ t. integral_below (R t) (R (suc t)) again (reads_rise t)) high t g (top t)

      pub loop_near : (k : ℕ) → 0 < k → (n : ℕ) × (of c ⊕ integral F (only (fails v) V) ⊑ integral (L n n) I ⊕ of (1, k))
      loop_near k h =
          let two : 0 < 2 * k = omega arith in
          let N = 2 * k * most.num + 1 in
          let g : 0 < N = omega arith in
          let x = steps (2 * k) two N in
          let n = max N x.limit in (
            n,
            below_trans
                (last_parts (of c ⊕ integral F (only (fails v) V)) (integral x.reads I) (of (1, N) ⊗ most) (of (1, 2 * k)) (of (1, 2 * k)) (of (1, k))
                (after_turns (2 * k) two N g) (small_part (2 * k) two most) (below_refl (of (1, 2 * k))) (two_halves k h))
                (add_below (integral_below x.reads (L n n) I (λ s. below_trans (below_loop (2 * k) two N s) (more_turns x.limit n N n (right_max N x.limit) (left_max N x.limit) s))) (below_refl (of (1, k)))),
          )

  pub loop_tends : (I J : Table) (bits : Fraction) → LoopReads v Body I J bits → Tends (λ n F. integral (λ s. loop_reads v (B n) n s F) I) (λ F. of bits ⊕ integral F J)
  loop_tends I J bits o =
      let V = o.1 in
      let w = o.4 in
      let e = λ (F : State → Rational). came J bits (only (fails v) V) o.2 o.6 (some (only (holds v) V) w.0 o.2 w.2) F in
      record {
        most = λ n F. below_trans (loop_most o.0 o.3 F I V o.2 w n n) (e F).below;
        near = λ F k h. let x = loop_near o.0 o.3 F I V o.2 w o.5.0 o.5.1 o.5.2 o.5.3 k h in (x.0, below_trans (e F).above x.1);
      }
