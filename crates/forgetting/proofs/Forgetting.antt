-- A block and its forgetful form play alike, whatever follows that looks at what matters alone. Alike are plays that are the same
-- trimmed, since an arm that a draw does not have is not forgetful.
use Rattle.std.proofs.Common.{◌≡◌, ℕ, zero, suc, ◌<◌, ℤ, pos, negsuc, Bool, true, false, cond, ◌&&◌, Ok, Err, List, ◌∷◌, length, refl, sym, ap, subst, ◌∙◌, arith, true≢false}
use Rattle.std.specs.Prelude.{not, ◌==◌, nat_lt, slice_set, if◌then◌else◌}
use Rattle.std.proofs.Math.Path.{fun_ext}
use Rattle.std.proofs.lemmas.Bool.{ltb-true}
use Rattle.gcl_core.specs.meaning.Arms.{parts_of}
use Rattle.gcl_core.specs.meaning.Parts.{partial_sums}
use Rattle.gcl_core.specs.meaning.Draw.{choice_ends, uniform_ends}
use Rattle.gcl_core.specs.meaning.Syntax.{Expression, Num, Statement, Skip, Set, If, While, Choice, Choose, Uniform, Observe, Statements, done, ◌▸◌, ArmList, no_arm, arm}
use Rattle.gcl_core.specs.meaning.Value.{State, Value, value_of, is_zero}
use Rattle.gcl_core.specs.meaning.Blocks.{on, failed, fault, limit, by_truth, by_side}
use Rattle.gcl_core.proofs.PartialSums.{as_many}
use Rattle.gcl_core.proofs.Plays.{Play, ended, drawing, with_end, with_value, uniform_play, loop_play, statement_play, block_play, arm_play}
use Rattle.forgetting.specs.Liveness.{Names, both, reads, matters_to, matters_to_arms, before_statement, before}
use Rattle.forgetting.specs.Filling.{behind_statement}
use Rattle.forgetting.specs.Forgetful.{forget, ends_with, forgetful_statement, forgetful, forgetful_arms}
use Rattle.forgetting.proofs.Agreeing.{Agree, agree_on, set_agrees, forgotten_agrees, value_agrees, left_or, right_or}
use Rattle.forgetting.proofs.Trimmed.{trimmed}

-- what follows what follows
pub then_twice : (p : Play) (f g : State → Play) → with_end (with_end p f) g ≡ with_end p (λ s. with_end (f s) g)
then_twice (ended (on s)) f g = refl
then_twice (ended failed) f g = refl
then_twice (ended (fault k)) f g = refl
then_twice (ended (limit l)) f g = refl
then_twice (drawing cs k) f g = ap (drawing cs) (fun_ext (λ i. then_twice (k i) f g))

-- what follows looks at what matters alone
abbrev pub Looks : Names → (State → Play) → (State → Play) → Type 0
Looks L f g = (s t : State) → Agree L s t → trimmed (f s) ≡ trimmed (g t)

-- two plays that are alike before all that looks at what matters alone
pub record Alike (L : Names) (p q : Play) : Type 0 where
  pub same : (f g : State → Play) → Looks L f g → trimmed (with_end p f) ≡ trimmed (with_end q g)

-- ---- forms of statements
draws_alike : (L : Names) (cs : List ℕ) (k m : ℕ → Play) → ((i : ℕ) → i < length cs → Alike L (k i) (m i)) → Alike L (drawing cs k) (drawing cs m)
draws_alike L cs k m h = record {
  same = λ f g l. ap (drawing cs) (fun_ext (λ i. by_test (nat_lt i (length cs)) _ _ (λ e. (h i (ltb-true i (length cs) e)).same f g l)));
}
  where
    by_test : (b : Bool) (p q : Play) → (b ≡ true → p ≡ q) → cond b p (ended failed) ≡ cond b q (ended failed)
    by_test true p q e = e refl
    by_test false p q e = refl

then_alike : (L K : Names) (p q : Play) (f g : State → Play) → Alike K p q → ((s t : State) → Agree K s t → Alike L (f s) (g t)) → Alike L (with_end p f) (with_end q g)
then_alike L K p q f g h next = record {
  same = λ f' g' l. ap trimmed (then_twice p f f') ∙ h.same (λ s. with_end (f s) f') (λ t. with_end (g t) g') (λ s t a. (next s t a).same f' g' l) ∙ sym (ap trimmed (then_twice q g g'));
}

value_alike : (L : Names) (v w : Value) (f g : ℤ → Play) → v ≡ w → ((z : ℤ) → Alike L (f z) (g z)) → Alike L (with_value v f) (with_value w g)
value_alike L v w f g e h = subst (λ w. Alike L (with_value v f) (with_value w g)) e (same v)
  where
    same : (v : Value) → Alike L (with_value v f) (with_value v g)
    same (Ok z) = h z
    same (Err k) = record { same = λ f g l. refl }

truth_alike : (L : Names) (z : ℤ) (p q p' q' : Play) → Alike L p p' → Alike L q q' → Alike L (by_truth z p q) (by_truth z p' q')
truth_alike L z p q p' q' h k = by_test (is_zero z)
  where
    by_test : (b : Bool) → Alike L (cond b q p) (cond b q' p')
    by_test true = k
    by_test false = h

side_alike : (L : Names) (i : ℕ) (p q p' q' : Play) → Alike L p p' → Alike L q q' → Alike L (by_side i p q) (by_side i p' q')
side_alike L zero p q p' q' h k = h
side_alike L (suc i) p q p' q' h k = k

on_alike : (L : Names) (s t : State) → Agree L s t → Alike L (ended (on s)) (ended (on t))
on_alike L s t a = record { same = λ f g l. l s t a }

uniform_alike : (L : Names) (x : ℕ) (z : ℤ) (s t : State) → Agree (λ y. not (y == x) && L y) s t → Alike L (uniform_play x z s) (uniform_play x z t)
uniform_alike L x (pos zero) s t a = record { same = λ f g l. refl }
uniform_alike L x (pos (suc m)) s t a = draws_alike L (uniform_ends (suc m)) _ _ (λ i lt. on_alike L _ _ (set_agrees L x (pos i) s t a))
uniform_alike L x (negsuc m) s t a = record { same = λ f g l. refl }

-- a guard that reads what matters at the head, a body from the head to the head, and an end
loop_alike : (H L : Names) (guard : State → Value) (p q : State → Play) →
    ((s t : State) → Agree H s t → guard s ≡ guard t) → ((s t : State) → Agree H s t → Alike H (p s) (q t)) → ((x : ℕ) → L x ≡ true → H x ≡ true) →
    (n : ℕ) (s t : State) → Agree H s t → Alike L (loop_play guard p n s) (loop_play guard q n t)
loop_alike H L guard p q e h k zero s t a =
    value_alike L _ _ _ _ (e s t a) (λ z. truth_alike L z _ _ _ _ (record { same = λ f g l. refl }) (on_alike L s t (agree_on H L s t k a)))
loop_alike H L guard p q e h k (suc n) s t a =
    value_alike L _ _ _ _ (e s t a) (λ z. truth_alike L z _ _ _ _
    (then_alike L H _ _ _ _ (h s t a) (loop_alike H L guard p q e h k n)) (on_alike L s t (agree_on H L s t k a)))

-- ---- forgetting
and_left : (a b : Bool) → (a && not b) ≡ true → b ≡ false
and_left true true e = absurd (true≢false (sym e))
and_left true false e = refl
and_left false b e = absurd (true≢false (sym e))

module _ (n : ℕ) where
  -- before a block nothing of what matters to it is forgotten
  forget_alike : (count : ℕ) (old kept L : Names) (b : Statements) (p : Play) (s t : State) →
      ((t : State) → Agree kept s t → Alike L p (block_play n b t)) → Agree kept s t → Alike L p (block_play n (forget count old kept b) t)
  forget_alike zero old kept L b p s t h a = h t a
  forget_alike (suc x) old kept L b p s t h a =
      by_test (forget x old kept b) L p (old x && not (kept x)) x t
      (λ e. forget_alike x old kept L b p s (slice_set t x (pos 0)) h (forgotten_agrees kept x (pos 0) s t (and_left (old x) (kept x) e) a))
      (forget_alike x old kept L b p s t h a)
    where
      by_test : (rest : Statements) (L : Names) (p : Play) (c : Bool) (x : ℕ) (t : State) → (c ≡ true → Alike L p (block_play n rest (slice_set t x (pos 0)))) → Alike L p (block_play n rest t) →
          Alike L p (block_play n (if c then (Set x (Num (pos 0)) ▸ rest) else rest) t)
      by_test rest L p true x t h k = h refl
      by_test rest L p false x t h k = k

  -- what matters to the body, and at the head behind it, matters at the head
  head_holds : (x : ℕ) (e : Expression) (a : Statements) (after : Names) →
      matters_to x a (before_statement (While e a) after x) ≡ true → before_statement (While e a) after x ≡ true
  head_holds x e a after h = by_test (before_statement (While e a) after x) refl
    where
      by_test : (b : Bool) → before_statement (While e a) after x ≡ b → before_statement (While e a) after x ≡ true
      by_test true k = k
      by_test false k = right_or (reads x e) _ (right_or (after x) _ (subst (λ b. matters_to x a b ≡ true) k h))

  pub same_parts : (count : ℕ) (arms : ArmList) (old F L : Names) → parts_of arms ≡ parts_of (forgetful_arms count arms old F L)
  same_parts count no_arm old F L = refl
  same_parts count (arm p b arms) old F L = ap (λ ps. p ∷ ps) (same_parts count arms old F L)

  mutual
    pub statement_alike : (count : ℕ) (st : Statement) (F L : Names) (s t : State) → Agree (before_statement st L) s t →
        Alike L (statement_play n st s) (statement_play n (forgetful_statement count st F L) t)
    statement_alike count Skip F L s t a = on_alike L s t a
    statement_alike count (Set x e) F L s t a =
        value_alike L _ _ _ _ (value_agrees (before_statement (Set x e) L) e s t (λ y k. left_or (reads y e) _ k) a)
        (λ z. on_alike L _ _ (set_agrees L x z s t (agree_on _ _ s t (λ y k. right_or (reads y e) _ k) a)))
    statement_alike count (Observe e) F L s t a =
        value_alike L _ _ _ _ (value_agrees (before_statement (Observe e) L) e s t (λ y k. left_or (reads y e) _ k) a)
        (λ z. truth_alike L z _ _ _ _ (on_alike L s t (agree_on _ _ s t (λ y k. right_or (reads y e) _ k) a)) (record { same = λ f g l. refl }))
    statement_alike count (Uniform x e) F L s t a =
        value_alike L _ _ _ _ (value_agrees (before_statement (Uniform x e) L) e s t (λ y k. left_or (reads y e) _ k) a)
        (λ z. uniform_alike L x z s t (agree_on _ _ s t (λ y k. right_or (reads y e) _ k) a))
    statement_alike count (If e b c) F L s t a =
        let M = before_statement (If e b c) L in
        value_alike L _ _ _ _ (value_agrees M e s t (λ y k. left_or (reads y e) _ k) a)
        (λ z. truth_alike L z _ _ _ _
        (forget_alike count (both M F) (before b L) L (forgetful count b F L) (block_play n b s) s t (λ t a. block_alike count b F L s t a) (agree_on _ _ s t (λ y k. right_or (reads y e) _ (left_or (matters_to y b (L y)) _ k)) a))
        (forget_alike count (both M F) (before c L) L (forgetful count c F L) (block_play n c s) s t (λ t a. block_alike count c F L s t a) (agree_on _ _ s t (λ y k. right_or (reads y e) _ (right_or (matters_to y b (L y)) _ k)) a)))
    statement_alike count (Choice w b c) F L s t a =
        let M = before_statement (Choice w b c) L in
        draws_alike L (choice_ends w) _ _ (λ i lt. side_alike L i _ _ _ _
        (forget_alike count (both M F) (before b L) L (forgetful count b F L) (block_play n b s) s t (λ t a. block_alike count b F L s t a) (agree_on _ _ s t (λ y k. left_or (matters_to y b (L y)) _ k) a))
        (forget_alike count (both M F) (before c L) L (forgetful count c F L) (block_play n c s) s t (λ t a. block_alike count c F L s t a) (agree_on _ _ s t (λ y k. right_or (matters_to y b (L y)) _ k) a)))
    statement_alike count (Choose arms) F L s t a =
        let M = before_statement (Choose arms) L in
        subst (λ ps. Alike L (statement_play n (Choose arms) s) (drawing (partial_sums ps) (λ i. arm_play n (forgetful_arms count arms (both M F) F L) i t)))
        (same_parts count arms (both M F) F L)
        (draws_alike L (partial_sums (parts_of arms)) _ _ (λ i lt. arms_alike count arms (both M F) F L i s t (let l = as_many (parts_of arms) in omega (arith, lt, l)) a))
    statement_alike count (While e b) F L s t a =
        let M = before_statement (While e b) L in
        let G = behind_statement (While e b) F in
        loop_alike M L (value_of e) (block_play n b) _ (λ s t a. value_agrees M e s t (λ y k. left_or (reads y e) _ k) a)
        (λ s t a. forget_alike count (both M G) (before b M) M (forgetful count b G M) (block_play n b s) s t (λ t a. block_alike count b G M s t a) (agree_on _ _ s t (λ y k. head_holds y e b L k) a))
        (λ y k. right_or (reads y e) _ (left_or (L y) _ k)) n s t a

    pub block_alike : (count : ℕ) (b : Statements) (F L : Names) (s t : State) → Agree (before b L) s t →
        Alike L (block_play n b s) (block_play n (forgetful count b F L) t)
    block_alike count done F L s t a = on_alike L s t a
    block_alike count (st ▸ b) F L s t a =
        let K = before b L in
        let G = behind_statement st F in
        then_alike L K _ _ _ _ (statement_alike count st F K s t a)
        (λ s t a. forget_alike count (both (ends_with st K) G) K L (forgetful count b G L) (block_play n b s) s t (λ t a. block_alike count b G L s t a) a)

    -- at each arm that there is
    arms_alike : (count : ℕ) (arms : ArmList) (old F L : Names) (i : ℕ) (s t : State) → i < length (parts_of arms) → Agree (λ x. matters_to_arms x arms (L x)) s t →
        Alike L (arm_play n arms i s) (arm_play n (forgetful_arms count arms old F L) i t)
    arms_alike count no_arm old F L i s t lt a = absurd (omega (arith, lt))
    arms_alike count (arm p b arms) old F L zero s t lt a =
        forget_alike count old (before b L) L (forgetful count b F L) (block_play n b s) s t (λ t a. block_alike count b F L s t a) (agree_on _ _ s t (λ y k. left_or (matters_to y b (L y)) _ k) a)
    arms_alike count (arm p b arms) old F L (suc i) s t lt a =
        arms_alike count arms old F L i s t (omega (arith, lt)) (agree_on _ _ s t (λ y k. right_or (matters_to y b (L y)) _ k) a)
