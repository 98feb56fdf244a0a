-- A block and its forgetful form, from tables of which the second holds the states of the first, cleared of what does not matter.
use Rattle.std.proofs.Common.{◌≡◌, ℕ, zero, suc, ℤ, pos, ◌≤◌, Bool, true, false, ◌||◌, Option, Ok, [], ◌∷◌, length, refl, sym, ap, subst, ◌∙◌, arith, true≢false}
use Rattle.std.specs.Prelude.{◌-◌, ◌==◌, slice_index_or}
use Rattle.std.specs.List.{sum}
use Rattle.std.specs.Cmp.{signed_Decides}
use Rattle.std.proofs.lemmas.List.{length-replicate}
use Rattle.std.proofs.lemmas.Bool.{eq-eqb}
use Rattle.gcl_core.specs.meaning.Arms.{parts_of}
use Rattle.gcl_core.specs.meaning.Syntax.{Expression, Num, Truth, Var, Neg, Not, Bin, Statement, Skip, Set, If, While, Choice, Choose, Uniform, Observe, Statements, done, ◌▸◌, ArmList, no_arm, arm, SourceProgram}
use Rattle.gcl_core.specs.meaning.Value.{State, value_of}
use Rattle.gcl_core.specs.meaning.Blocks.{by_value}
use Rattle.gcl_core.specs.meaning.Outcomes.{zeros}
use Rattle.gcl_core.specs.weighing.WeightedEnds.{sure, scaled, class_weight}
use Rattle.table_flow.specs.Tables.{Table, holds, fails, only, statement_flow, block_flow, peak_of, fractions_kind}
use Rattle.table_flow.proofs.FlowWords.{arms_flow}
use Rattle.table_flow.proofs.UniformLists.{by_lists}
use Rattle.forgetting.specs.Liveness.{Names, no_names, both, reads, matters_to, matters_to_arms, before_statement, before}
use Rattle.forgetting.specs.Filling.{is_nought, filled_by, filled_by_arms, behind_statement}
use Rattle.forgetting.specs.Forgetful.{forget, ends_with, forgetful_statement, forgetful, forgetful_arms, forgetful_of}
use Rattle.forgetting.proofs.Agreeing.{value_agrees, left_or, right_or, right_and}
use Rattle.forgetting.proofs.Forgetting.{same_parts}
use Rattle.forgetful_peaks.proofs.Cleared.{Cleared, cleared_once, cleared_to, cleared_set}
use Rattle.forgetful_peaks.proofs.Along.{Along, along_to, along_scaled, along_set, along_drawn}
use Rattle.forgetful_peaks.proofs.Fewer.{fewer_states, most_of_both}
use Rattle.forgetful_peaks.proofs.Tests.{set_agree, set_left, set_there, or_none, or_swap, the_other}
use Rattle.forgetful_peaks.proofs.Flows.{Follows, follows_to, holding, failing, loop_follows, both_follow}
use Rattle.forgetful_peaks.proofs.Forgets.{first_states, forget_follows}

nought_value : (e : Expression) (s : State) (z : ℤ) → is_nought e ≡ true → value_of e s ≡ Ok z → z ≡ pos 0
nought_value (Num w) s z h k = sym (ap (λ v. by_value v (λ f. pos 0) (λ z. z)) k) ∙ (signed_Decides w (pos 0)).0 h
nought_value (Truth b) s z h k = absurd (true≢false (sym h))
nought_value (Var x) s z h k = absurd (true≢false (sym h))
nought_value (Neg a) s z h k = absurd (true≢false (sym h))
nought_value (Not a) s z h k = absurd (true≢false (sym h))
nought_value (Bin op a b) s z h k = absurd (true≢false (sym h))

-- what matters to the body, and at the head behind it, matters at the head
head_matters : (x : ℕ) (e : Expression) (a : Statements) (K : Names) →
    matters_to x a (before_statement (While e a) K x) ≡ true → before_statement (While e a) K x ≡ true
head_matters x e a K h = by_test (before_statement (While e a) K x) refl
  where
    by_test : (b : Bool) → before_statement (While e a) K x ≡ b → before_statement (While e a) K x ≡ true
    by_test true k = k
    by_test false k = right_or (reads x e) _ (right_or (K x) _ (subst (λ b. matters_to x a b ≡ true) k h))

-- what a turn from the head fills may differ from 0 there
head_fills : (x : ℕ) (e : Expression) (a : Statements) (F : Names) →
    filled_by x a (behind_statement (While e a) F x) ≡ true → behind_statement (While e a) F x ≡ true
head_fills x e a F h = by_test (behind_statement (While e a) F x) refl
  where
    by_test : (b : Bool) → behind_statement (While e a) F x ≡ b → behind_statement (While e a) F x ≡ true
    by_test true k = k
    by_test false k = right_or (F x) _ (subst (λ b. filled_by x a b ≡ true) k h)

-- under a limit of n turns, and of r attempts or none, with this number of variables
module _ (n : ℕ) (r : Option ℕ) (count : ℕ) where
  -- what may differ from 0 behind a block
  abbrev behind : Statements → Names → Names
  behind b F x = filled_by x b (F x)

  -- what is kept behind a statement before anything is forgotten
  abbrev still : Statement → Names → Names
  still st K x = K x || ends_with st K x

  abbrev FollowBlock : Names → Names → Names → Statements → Table → Type 0
  FollowBlock N F L b I = (J : Table) → Along (Cleared count N F) I J → Follows (Cleared count L (behind b F)) (block_flow n r b I) (block_flow n r (forgetful count b F L) J)

  -- where a branch begins that does not need all that mattered at the fork
  branch_follows : (M F L : Names) (b : Statements) (I J : Table) → ((x : ℕ) → before b L x ≡ true → M x ≡ true) → Along (Cleared count M F) I J → FollowBlock (before b L) F L b I →
      Follows (Cleared count L (behind b F)) (block_flow n r b I) (block_flow n r (forget count (both M F) (before b L) (forgetful count b F L)) J)
  branch_follows M F L b I J fewer a h =
      forget_follows n r count count (both M F) (before b L) F (Cleared count L (behind b F)) (forgetful count b F L) (block_flow n r b I) M I J (first_states n r b I) h fewer
      (λ x l m f k. (l, right_and (M x) (F x) m f)) a

  mutual
    statement_follows : (st : Statement) (F K : Names) (I J : Table) → Along (Cleared count (before_statement st K) F) I J →
        Follows (Cleared count (still st K) (behind_statement st F)) (statement_flow n r st I) (statement_flow n r (forgetful_statement count st F K) J)
    statement_follows Skip F K I J a = record {
      next = along_to (Cleared count K F) _ I J (λ s t. cleared_to count K F _ F s t (λ x k. or_none (K x) k) (λ x k f. right_and _ _ (left_or (K x) false k) f)) a;
      few = omega arith;
    }
    statement_follows (Set y e) F K I J a =
        let M = before_statement (Set y e) K in
        let P = still (Set y e) K in
        let G = behind_statement (Set y e) F in
        record {
          next = along_set (Cleared count M F) (Cleared count P G) y (value_of e) I J (λ s t c. value_agrees M e s t (λ x k. left_or (reads x e) _ k) c.agrees)
              (λ s t z v. cleared_set count M F P G y z s t (λ x q k. set_agree (K x) (reads x e) (x == y) q k)
              (λ x q m f. set_left (K x) (reads x e) (x == y) (F x) (is_nought e) q m f)
              (λ q. nought_value e s z (set_there (K y) (reads y e) (y == y) (F y) (is_nought e) (eq-eqb y y refl) q) v)) a;
          few = omega arith;
        }
    statement_follows (Observe e) F K I J a =
        let M = before_statement (Observe e) K in
        let P = still (Observe e) K in
        record {
          next = along_to (Cleared count M F) (Cleared count P F) _ _ (λ s t. cleared_to count M F P F s t (λ x k. or_swap (K x) (reads x e) k) (λ x m f. right_and (P x) (F x) (or_swap (reads x e) (K x) m) f))
              (holding (Cleared count M F) (cleared_once count M F) (value_of e) (λ s t c. value_agrees M e s t (λ x k. left_or (reads x e) _ k) c.agrees) I J a);
          few = omega arith;
        }
    statement_follows (Uniform y e) F K I J a =
        let M = before_statement (Uniform y e) K in
        let P = still (Uniform y e) K in
        let G = behind_statement (Uniform y e) F in
        rw (by_lists fractions_kind r y (value_of e) I) (rw (by_lists fractions_kind r y (value_of e) J) (record {
          next = along_drawn (Cleared count M F) (Cleared count P G) y (value_of e) r I J (λ s t c. value_agrees M e s t (λ x k. left_or (reads x e) _ k) c.agrees)
              (λ s t z. cleared_set count M F P G y z s t (λ x q k. set_agree (K x) (reads x e) (x == y) q k)
              (λ x q m f. set_left (K x) (reads x e) (x == y) (F x) false q m f)
              (λ q. absurd (true≢false (sym (set_there (K y) (reads y e) (y == y) (F y) false (eq-eqb y y refl) q))))) a;
          few = omega arith;
        }))
    statement_follows (If e b c) F K I J a =
        let M = before_statement (If e b c) K in
        let P = still (If e b c) K in
        let G = behind_statement (If e b c) F in
        let same : (s t : State) → Cleared count M F s t → value_of e s ≡ value_of e t = λ s t c. value_agrees M e s t (λ x k. left_or (reads x e) _ k) c.agrees in
        let f = branch_follows M F K b (only (holds (value_of e)) I) (only (holds (value_of e)) J) (λ x k. right_or (reads x e) _ (left_or (matters_to x b (K x)) _ k))
        (holding (Cleared count M F) (cleared_once count M F) (value_of e) same I J a) (block_follows b F K _) in
        let g = branch_follows M F K c (only (fails (value_of e)) I) (only (fails (value_of e)) J) (λ x k. right_or (reads x e) _ (right_or (matters_to x b (K x)) _ k))
        (failing (Cleared count M F) (cleared_once count M F) (value_of e) same I J a) (block_follows c F K _) in
        let h = both_follow (Cleared count K (behind b F)) (Cleared count K (behind c F)) (Cleared count P G) _ _ _ _
        (λ s t. cleared_to count K (behind b F) P G s t (λ x k. or_none (K x) k) (λ x k f. right_and (P x) (G x) (left_or (K x) false k) (left_or (behind b F x) _ f)))
        (λ s t. cleared_to count K (behind c F) P G s t (λ x k. or_none (K x) k) (λ x k f. right_and (P x) (G x) (left_or (K x) false k) (right_or (behind b F x) _ f))) f g in
        record { next = h.0; few = h.1 }
    statement_follows (Choice w b c) F K I J a =
        let M = before_statement (Choice w b c) K in
        let P = still (Choice w b c) K in
        let G = behind_statement (Choice w b c) F in
        let f = branch_follows M F K b (scaled (class_weight w.den r w.num) I) (scaled (class_weight w.den r w.num) J) (λ x k. left_or (matters_to x b (K x)) _ k)
        (along_scaled (Cleared count M F) (class_weight w.den r w.num) I J a) (block_follows b F K _) in
        let g = branch_follows M F K c (scaled (class_weight w.den r (w.den - w.num)) I) (scaled (class_weight w.den r (w.den - w.num)) J) (λ x k. right_or (matters_to x b (K x)) _ k)
        (along_scaled (Cleared count M F) (class_weight w.den r (w.den - w.num)) I J a) (block_follows c F K _) in
        let h = both_follow (Cleared count K (behind b F)) (Cleared count K (behind c F)) (Cleared count P G) _ _ _ _
        (λ s t. cleared_to count K (behind b F) P G s t (λ x k. or_none (K x) k) (λ x k f. right_and (P x) (G x) (left_or (K x) false k) (left_or (behind b F x) _ f)))
        (λ s t. cleared_to count K (behind c F) P G s t (λ x k. or_none (K x) k) (λ x k f. right_and (P x) (G x) (left_or (K x) false k) (right_or (behind b F x) _ f))) f g in
        record { next = h.0; few = h.1 }
    statement_follows (Choose arms) F K I J a =
        let M = before_statement (Choose arms) K in
        let P = still (Choose arms) K in
        let G = behind_statement (Choose arms) F in
        let f = arms_follow (sum (parts_of arms)) arms M F K I J (λ x k. k) a in
        let g = follows_to (Cleared count K (λ x. filled_by_arms x arms (F x))) (Cleared count P G) _ _
        (λ s t. cleared_to count K (λ x. filled_by_arms x arms (F x)) P G s t (λ x k. or_none (K x) k) (λ x k f. right_and (P x) (G x) (left_or (K x) false k) f)) f in
        subst (λ ps. Follows (Cleared count P G) (statement_flow n r (Choose arms) I) (record {
          next = (arms_flow n r (sum ps) (forgetful_arms count arms (both M F) F K) J).next;
          ended = (statement_flow n r (forgetful_statement count (Choose arms) F K) J).ended;
          tables = (arms_flow n r (sum ps) (forgetful_arms count arms (both M F) F K) J).tables;
          draws = (statement_flow n r (forgetful_statement count (Choose arms) F K) J).draws;
          reached = (statement_flow n r (forgetful_statement count (Choose arms) F K) J).reached;
        })) (same_parts n count arms (both M F) F K) (record { next = g.next; few = g.few })
    statement_follows (While e b) F K I J a =
        let M = before_statement (While e b) K in
        let P = still (While e b) K in
        let G = behind_statement (While e b) F in
        follows_to (Cleared count M G) (Cleared count P G) _ _
        (λ s t. cleared_to count M G P G s t (λ x k. head_of x (K x) (M x) (λ k. right_or (reads x e) _ (left_or (K x) _ k)) k) (λ x m g. right_and (P x) (G x) (right_or (K x) (M x) m) g))
        (loop_follows (Cleared count M G) (cleared_once count M G) (value_of e) (λ s t c. value_agrees M e s t (λ x k. left_or (reads x e) _ k) c.agrees)
        (block_flow n r b) (block_flow n r (forget count (both M G) (before b M) (forgetful count b G M)))
        (λ I J a. follows_to (Cleared count M (behind b G)) (Cleared count M G) _ _
        (λ s t. cleared_to count M (behind b G) M G s t (λ x m. m) (λ x m f. right_and (M x) (G x) m (head_fills x e b F f)))
        (branch_follows M G M b I J (λ x k. head_matters x e b K k) a (block_follows b G M I)))
        n I J (along_to (Cleared count M F) (Cleared count M G) I J (λ s t. cleared_to count M F M G s t (λ x m. m) (λ x m f. right_and (M x) (G x) m (left_or (F x) _ f))) a))
      where
        head_of : (x : ℕ) (k m : Bool) → (k ≡ true → m ≡ true) → (k || m) ≡ true → m ≡ true
        head_of x true m h p = h refl
        head_of x false m h p = p

    block_follows : (b : Statements) (F L : Names) (I J : Table) → Along (Cleared count (before b L) F) I J →
        Follows (Cleared count L (behind b F)) (block_flow n r b I) (block_flow n r (forgetful count b F L) J)
    block_follows done F L I J a = record { next = a; few = let l = fewer_states (Cleared count L F) (cleared_once count L F) I J a in omega (arith, l) }
    block_follows (st ▸ b) F L I J a =
        let K = before b L in
        let G = behind_statement st F in
        let f = statement_follows st F K I J a in
        let g = forget_follows n r count count (both (ends_with st K) G) K G (Cleared count L (behind b G)) (forgetful count b G L) (block_flow n r b (statement_flow n r st I).next)
        (still st K) (statement_flow n r st I).next (statement_flow n r (forgetful_statement count st F K) J).next
        (first_states n r b (statement_flow n r st I).next) (block_follows b G L (statement_flow n r st I).next) (λ x k. left_or (K x) _ k)
        (λ x l m p k. (l, right_and (ends_with st K x) (G x) (the_other (K x) _ m k) p)) f.next in
        record {
          next = g.next;
          few = most_of_both (I ∷ []) (J ∷ []) _ _ (let l = fewer_states (Cleared count (before (st ▸ b) L) F) (cleared_once count (before (st ▸ b) L) F) I J a in omega (arith, l)) (most_of_both _ _ _ _ f.few g.few);
        }

    -- the arms of a draw with d parts, from a fork at which M matters
    arms_follow : (d : ℕ) (arms : ArmList) (M F L : Names) (I J : Table) → ((x : ℕ) → matters_to_arms x arms (L x) ≡ true → M x ≡ true) → Along (Cleared count M F) I J →
        Follows (Cleared count L (λ x. filled_by_arms x arms (F x))) (arms_flow n r d arms I) (arms_flow n r d (forgetful_arms count arms (both M F) F L) J)
    arms_follow d no_arm M F L I J fewer a = record { next = cc; few = omega arith }
    arms_follow d (arm p b arms) M F L I J fewer a =
        let G : Names = λ x. filled_by_arms x (arm p b arms) (F x) in
        let f = branch_follows M F L b (scaled (class_weight d r p) I) (scaled (class_weight d r p) J) (λ x k. fewer x (left_or (matters_to x b (L x)) _ k))
        (along_scaled (Cleared count M F) (class_weight d r p) I J a) (block_follows b F L _) in
        let g = arms_follow d arms M F L I J (λ x k. fewer x (right_or (matters_to x b (L x)) _ k)) a in
        let h = both_follow (Cleared count L (behind b F)) (Cleared count L (λ x. filled_by_arms x arms (F x))) (Cleared count L G) _ _ _ _
        (λ s t. cleared_to count L (behind b F) L G s t (λ x k. k) (λ x k f. right_and (L x) (G x) k (left_or (behind b F x) _ f)))
        (λ s t. cleared_to count L (λ x. filled_by_arms x arms (F x)) L G s t (λ x k. k) (λ x k f. right_and (L x) (G x) k (right_or (behind b F x) _ f))) f g in
        record { next = h.0; few = h.1 }

-- ---- the body of a program, from the state of zeros
zeros_are_nought : (count x : ℕ) → slice_index_or (zeros count) x (pos 0) ≡ pos 0
zeros_are_nought zero x = refl
zeros_are_nought (suc count) zero = refl
zeros_are_nought (suc count) (suc x) = zeros_are_nought count x

pub no_greater_peak : (p : SourceProgram) (n : ℕ) (r : Option ℕ) → peak_of (forgetful_of p) n r ≤ peak_of p n r
no_greater_peak p n r =
    let count = length p.names in
    let K : Names = λ x. reads x p.result in
    (block_follows n r count p.body no_names K (sure (zeros count)) (sure (zeros count))
    (record { size = length-replicate count (pos 0); agrees = record { lengths = refl; values = λ x h. refl }; nought = λ x h. zeros_are_nought count x }, cc)).few
