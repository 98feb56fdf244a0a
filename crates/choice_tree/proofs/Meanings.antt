-- The tree of a block means what the block does.
use Rattle.std.proofs.Common.{◌≡◌, ℕ, zero, suc, ℤ, Bool, List, Option, Some, None, Ok, Err, pos, negsuc, true, false, cond, refl, sym, ap, ◌∙◌}
use Rattle.std.specs.Prelude.{slice_set}
use Rattle.gcl_core.specs.declared.answers.Fault.{Fault}
use Rattle.gcl_core.specs.declared.answers.Limit.TheVariants.{Turns, Attempts}
use Rattle.gcl_core.specs.meaning.Arms.{parts_of}
use Rattle.gcl_core.specs.meaning.Syntax.{Statement, Skip, Set, If, While, Choice, Choose, Uniform, Observe, Statements, done, ◌▸◌, ArmList, no_arm, arm}
use Rattle.gcl_core.specs.meaning.Value.{State, Value, value_of, is_zero}
use Rattle.gcl_core.specs.meaning.Reading.{Reading, gives, more_bits, after}
use Rattle.gcl_core.specs.meaning.Draw.{draw_on, choice_ends}
use Rattle.gcl_core.specs.meaning.Parts.{partial_sums}
use Rattle.gcl_core.specs.meaning.Blocks.{End, on, failed, fault, limit, by_value, by_truth, by_class, by_side, by_end, class_on, end_on, block_on}
use Rattle.choice_tree.specs.OnBits.{value_on, uniform_on, repeated_on}
use Rattle.gcl_core.proofs.Plays.{Play, ended, drawing, with_value, with_end, uniform_play, loop_play, statement_play, arm_play, on_bits, block_play, block_bits}
use Rattle.choice_tree.specs.Tree.{ChoiceTree, ChoiceTrees}
use Rattle.choice_tree.specs.TreeOf.{in_front, member_of, members_of, arm_trees, tree_of}
use Rattle.choice_tree.specs.Meaning.{choice_tree_on, choice_row_on, choice_arm_on}

-- ---- going on alike

pub after_same : {A B : Type 0} (x : Reading A) (f g : A → List Bool → Reading B) → ((a : A) (w : List Bool) → f a w ≡ g a w) → after x f ≡ after x g
after_same (gives a w) f g h = h a w
after_same more_bits f g h = refl

pub end_same : {A : Type 0} (stop : End → A) (e : End) (f g : State → A) → ((s : State) → f s ≡ g s) → by_end e stop f ≡ by_end e stop g
end_same stop (on s) f g h = h s
end_same stop failed f g h = refl
end_same stop (fault x) f g h = refl
end_same stop (limit x) f g h = refl

pub value_same : {A : Type 0} (stop : Fault → A) (v : Value) (f g : ℤ → A) → ((z : ℤ) → f z ≡ g z) → by_value v stop f ≡ by_value v stop g
value_same stop (Ok z) f g h = h z
value_same stop (Err x) f g h = refl

pub truth_same : {A : Type 0} (z : ℤ) (a b c d : A) → a ≡ c → b ≡ d → by_truth z a b ≡ by_truth z c d
truth_same z a b c d p q = ap (λ x. by_truth z x b) p ∙ ap (by_truth z c) q

pub class_same : {A : Type 0} (stop : A) (o : Option ℕ) (f g : ℕ → A) → ((i : ℕ) → f i ≡ g i) → by_class o stop f ≡ by_class o stop g
class_same stop None f g h = refl
class_same stop (Some i) f g h = h i

pub side_same : {A : Type 0} (i : ℕ) (a b c d : A) → a ≡ c → b ≡ d → by_side i a b ≡ by_side i c d
side_same zero a b c d p q = p
side_same (suc i) a b c d p q = q

-- loops over bodies that do the same
pub loop_same : (guard : State → Value) (f g : State → List Bool → Reading End) (t : ℕ) (s : State) (w : List Bool) → ((s : State) (w : List Bool) → f s w ≡ g s w) → repeated_on guard f t s w ≡ repeated_on guard g t s w
loop_same guard f g zero s w h = refl
loop_same guard f g (suc t) s w h =
    value_same (λ x. gives (fault x) w) (guard s) _ _ (λ v.
    truth_same v _ _ _ _
    (ap (λ x. end_on x (repeated_on guard f t)) (h s w)
    ∙ after_same (g s w) _ _ (λ e rest. end_same (λ e. gives e rest) e _ _ (λ s. loop_same guard f g t s rest h)))
    refl)

-- ---- plays on bits
module _ (r : ℕ) where
  bits_value : (v : Value) (go : ℤ → Play) (k : ℤ → List Bool → Reading End) (w : List Bool) → ((z : ℤ) → on_bits r (go z) w ≡ k z w) → on_bits r (with_value v go) w ≡ value_on v w (λ z. k z w)
  bits_value (Ok z) go k w h = h z
  bits_value (Err f) go k w h = refl

  bits_truth : (z : ℤ) (p q : Play) (w : List Bool) (x y : Reading End) → on_bits r p w ≡ x → on_bits r q w ≡ y → on_bits r (by_truth z p q) w ≡ by_truth z x y
  bits_truth z p q w x y a b = by_test (is_zero z)
    where
      by_test : (t : Bool) → on_bits r (cond t q p) w ≡ cond t y x
      by_test true = b
      by_test false = a

  bits_side : (i : ℕ) (p q : Play) (w : List Bool) (x y : Reading End) → on_bits r p w ≡ x → on_bits r q w ≡ y → on_bits r (by_side i p q) w ≡ by_side i x y
  bits_side zero p q w x y a b = a
  bits_side (suc i) p q w x y a b = b

  bits_class : (x : Reading (Option ℕ)) (f g : ℕ → List Bool → Reading End) → ((i : ℕ) (w : List Bool) → f i w ≡ g i w) → class_on x f ≡ class_on x g
  bits_class x f g h = after_same x _ _ (λ o w. class_same (gives (limit Attempts) w) o _ _ (λ i. h i w))

  bits_end : (p : Play) (go : State → Play) (k : State → List Bool → Reading End) → ((s : State) (w : List Bool) → on_bits r (go s) w ≡ k s w) → (w : List Bool) → on_bits r (with_end p go) w ≡ end_on (on_bits r p w) k
  bits_end (ended (on s)) go k h w = h s w
  bits_end (ended failed) go k h w = refl
  bits_end (ended (fault f)) go k h w = refl
  bits_end (ended (limit l)) go k h w = refl
  bits_end (drawing cs m) go k h w = behind (draw_on cs r w) (λ i rest. bits_end (m i) go k h rest)
    where
      behind : (x : Reading (Option ℕ)) → ((i : ℕ) (rest : List Bool) → on_bits r (with_end (m i) go) rest ≡ end_on (on_bits r (m i) rest) k) →
          class_on x (λ i rest. on_bits r (with_end (m i) go) rest) ≡ end_on (class_on x (λ i rest. on_bits r (m i) rest)) k
      behind (gives None rest) q = refl
      behind (gives (Some i) rest) q = q i rest
      behind more_bits q = refl

  bits_uniform : (x : ℕ) (v : ℤ) (s : State) (w : List Bool) → on_bits r (uniform_play x v s) w ≡ uniform_on r x v s w
  bits_uniform x (pos zero) s w = refl
  bits_uniform x (pos (suc m)) s w = refl
  bits_uniform x (negsuc m) s w = refl

  bits_loop : (guard : State → Value) (body : State → Play) (k : State → List Bool → Reading End) → ((s : State) (w : List Bool) → on_bits r (body s) w ≡ k s w) → (t : ℕ) (s : State) (w : List Bool) →
      on_bits r (loop_play guard body t s) w ≡ repeated_on guard k t s w
  bits_loop guard body k h zero s w = bits_value (guard s) _ (λ z w. by_truth z (gives (limit Turns) w) (gives (on s) w)) w (λ z. bits_truth z _ _ w _ _ refl refl)
  bits_loop guard body k h (suc t) s w =
      bits_value (guard s) _ (λ z w. by_truth z (end_on (k s w) (repeated_on guard k t)) (gives (on s) w)) w (λ z. bits_truth z _ _ w _ _
      (bits_end (body s) _ (repeated_on guard k t) (bits_loop guard body k h t) w ∙ ap (λ x. end_on x (repeated_on guard k t)) (h s w)) refl)

module _ (n r : ℕ) where
  -- what a statement's tree does, where it has one
  abbrev member_on : Option ChoiceTree → State → List Bool → Reading End
  member_on None s w = gives (on s) w
  member_on (Some t) s w = choice_tree_on n r t s w

  row_in_front : (o : Option ChoiceTree) (ts : ChoiceTrees) (s : State) (w : List Bool) →
      choice_row_on n r (in_front o ts) s w ≡ end_on (member_on o s w) (choice_row_on n r ts)
  row_in_front None ts s w = refl
  row_in_front (Some t) ts s w = refl

  mutual
    member_means : (st : Statement) (s : State) (w : List Bool) → on_bits r (statement_play n st s) w ≡ member_on (member_of st) s w
    member_means Skip s w = refl
    member_means (Set x e) s w = bits_value r (value_of e s) _ (λ z w. gives (on (slice_set s x z)) w) w (λ z. refl)
    member_means (If e a c) s w =
        bits_value r (value_of e s) _ (λ z w. by_truth z (choice_row_on n r (members_of a) s w) (choice_row_on n r (members_of c) s w)) w (λ z. bits_truth r z _ _ w _ _ (members_mean a s w) (members_mean c s w))
    member_means (While e a) s w = bits_loop r (value_of e) _ (choice_row_on n r (members_of a)) (members_mean a) n s w
    member_means (Choice p a c) s w =
        bits_class r (draw_on (choice_ends p) r w) _ _ (λ i rest. bits_side r i _ _ rest _ _ (members_mean a s rest) (members_mean c s rest))
    member_means (Choose arms) s w = bits_class r (draw_on (partial_sums (parts_of arms)) r w) _ _ (λ i rest. arm_means arms i s rest)
    member_means (Uniform x e) s w = bits_value r (value_of e s) _ (λ z w. uniform_on r x z s w) w (λ z. bits_uniform r x z s w)
    member_means (Observe e) s w = bits_value r (value_of e s) _ (λ z w. by_truth z (gives (on s) w) (gives failed w)) w (λ z. bits_truth r z _ _ w _ _ refl refl)

    members_mean : (b : Statements) (s : State) (w : List Bool) → on_bits r (block_play n b s) w ≡ choice_row_on n r (members_of b) s w
    members_mean done s w = refl
    members_mean (st ▸ b) s w =
        bits_end r (statement_play n st s) _ (choice_row_on n r (members_of b)) (members_mean b) w
        ∙ ap (λ x. end_on x (choice_row_on n r (members_of b))) (member_means st s w)
        ∙ sym (row_in_front (member_of st) (members_of b) s w)

    arm_means : (arms : ArmList) (i : ℕ) (s : State) (w : List Bool) → on_bits r (arm_play n arms i s) w ≡ choice_arm_on n r (arm_trees arms) i s w
    arm_means no_arm i s w = refl
    arm_means (arm p b arms) zero s w = members_mean b s w
    arm_means (arm p b arms) (suc i) s w = arm_means arms i s w

  pub tree_means : (b : Statements) (s : State) (w : List Bool) → choice_tree_on n r (tree_of b) s w ≡ block_on n r b s w
  tree_means b s w = sym (members_mean b s w) ∙ ap (λ reader. reader w) (block_bits n r b s)
