-- The play of a block: what it does, with its draws left open. A play ends, or it draws a class and goes on with the play of that class.
-- Whatever a block is done in, it does what its play says, read by a fold of plays that keeps ends, draws and going on.
use Rattle.std.proofs.Common.{◌≡◌, ℕ, zero, suc, ℤ, pos, negsuc, Bool, true, false, cond, Option, Some, None, Ok, Err, List, refl, ap, ◌∙◌}
use Rattle.std.proofs.Math.Path.{fun_ext}
use Rattle.gcl_core.specs.declared.answers.Fault.TheVariants.{BadBound}
use Rattle.gcl_core.specs.declared.answers.Limit.TheVariants.{Turns}
use Rattle.gcl_core.specs.meaning.Arms.{parts_of}
use Rattle.gcl_core.specs.meaning.Parts.{partial_sums}
use Rattle.gcl_core.specs.meaning.Syntax.{Statement, Skip, Set, If, While, Choice, Choose, Uniform, Observe, Statements, done, ◌▸◌, ArmList, no_arm, arm}
use Rattle.gcl_core.specs.meaning.Value.{State, Value, value_of, is_zero}
use Rattle.gcl_core.specs.meaning.Reading.{Reading, gives, more_bits}
use Rattle.gcl_core.specs.meaning.Draw.{draw_on, choice_ends, uniform_ends}
use Rattle.gcl_core.specs.meaning.Blocks.{End, on, failed, fault, limit, by_truth, by_side, by_end, class_on, end_on, value_in, loop_in, uniform_in, statement_in, block_in, arm_in, go_on_bits, draw_on_bits, statement_on, block_on}

pub data Play : Type 0 where
  ended : End → Play
  drawing : List ℕ → (ℕ → Play) → Play

-- goes on where the play ends in a state; every other end of it stays
abbrev pub with_end : Play → (State → Play) → Play
with_end (ended e) go = by_end e ended go
with_end (drawing cs k) go = drawing cs (λ i. with_end (k i) go)

-- ---- statements as plays
abbrev pub with_value : Value → (ℤ → Play) → Play
with_value = value_in ended with_end

abbrev pub uniform_play : (x : ℕ) (v : ℤ) → State → Play
uniform_play = uniform_in ended with_end drawing

abbrev pub loop_play : (State → Value) → (State → Play) → ℕ → State → Play
loop_play = loop_in ended with_end

abbrev pub statement_play : ℕ → Statement → State → Play
statement_play n = statement_in ended with_end drawing (λ m. m) n

abbrev pub block_play : ℕ → Statements → State → Play
block_play n = block_in ended with_end drawing (λ m. m) n

abbrev pub arm_play : ℕ → ArmList → ℕ → State → Play
arm_play n = arm_in ended with_end drawing (λ m. m) n

-- ---- a fold of plays
module _ {M : Type 0} (end : End → M) (go_on : M → (State → M) → M) (draw : List ℕ → (ℕ → M) → M) (fold : Play → M)
    (of_end : (e : End) → fold (ended e) ≡ end e) (of_draw : (cs : List ℕ) (k : ℕ → Play) → fold (drawing cs k) ≡ draw cs (λ i. fold (k i)))
    (of_then : (p : Play) (go : State → Play) → fold (with_end p go) ≡ go_on (fold p) (λ s. fold (go s))) where
  then_folds : (p : Play) (go : State → Play) (m : M) (k : State → M) → fold p ≡ m → ((s : State) → fold (go s) ≡ k s) → fold (with_end p go) ≡ go_on m k
  then_folds p go m k e h = of_then p go ∙ ap (λ x. go_on x (λ s. fold (go s))) e ∙ ap (go_on m) (fun_ext h)

  draw_folds : (cs : List ℕ) (go : ℕ → Play) (k : ℕ → M) → ((i : ℕ) → fold (go i) ≡ k i) → fold (drawing cs go) ≡ draw cs k
  draw_folds cs go k h = of_draw cs go ∙ ap (draw cs) (fun_ext h)

  value_folds : (v : Value) (go : ℤ → Play) (k : ℤ → M) → ((z : ℤ) → fold (go z) ≡ k z) → fold (with_value v go) ≡ value_in end go_on v k
  value_folds (Ok z) go k h = h z
  value_folds (Err f) go k h = of_end (fault f)

  truth_folds : (z : ℤ) (p q : Play) (x y : M) → fold p ≡ x → fold q ≡ y → fold (by_truth z p q) ≡ by_truth z x y
  truth_folds z p q x y a b = by_test (is_zero z)
    where
      by_test : (t : Bool) → fold (cond t q p) ≡ cond t y x
      by_test true = b
      by_test false = a

  side_folds : (i : ℕ) (p q : Play) (x y : M) → fold p ≡ x → fold q ≡ y → fold (by_side i p q) ≡ by_side i x y
  side_folds zero p q x y a b = a
  side_folds (suc i) p q x y a b = b

  uniform_folds : (x : ℕ) (z : ℤ) (s : State) → fold (uniform_play x z s) ≡ uniform_in end go_on draw x z s
  uniform_folds x (pos zero) s = of_end (fault BadBound)
  uniform_folds x (pos (suc m)) s = draw_folds (uniform_ends (suc m)) _ _ (λ i. of_end _)
  uniform_folds x (negsuc m) s = of_end (fault BadBound)

  loop_folds : (guard : State → Value) (body : State → Play) (k : State → M) → ((s : State) → fold (body s) ≡ k s) → (t : ℕ) (s : State) → fold (loop_play guard body t s) ≡ loop_in end go_on guard k t s
  loop_folds guard body k h zero s = value_folds (guard s) _ _ (λ z. truth_folds z _ _ _ _ (of_end (limit Turns)) (of_end (on s)))
  loop_folds guard body k h (suc t) s = value_folds (guard s) _ _ (λ z. truth_folds z _ _ _ _ (then_folds (body s) _ _ _ (h s) (loop_folds guard body k h t)) (of_end (on s)))

  module _ (n : ℕ) where
    mutual
      pub statement_folds : (st : Statement) (s : State) → fold (statement_play n st s) ≡ statement_in end go_on draw (λ m. m) n st s
      statement_folds Skip s = of_end (on s)
      statement_folds (Set x e) s = value_folds (value_of e s) _ _ (λ z. of_end _)
      statement_folds (Observe e) s = value_folds (value_of e s) _ _ (λ z. truth_folds z _ _ _ _ (of_end (on s)) (of_end failed))
      statement_folds (If e a c) s = value_folds (value_of e s) _ _ (λ z. truth_folds z _ _ _ _ (block_folds a s) (block_folds c s))
      statement_folds (Choice p a c) s = draw_folds (choice_ends p) _ _ (λ i. side_folds i _ _ _ _ (block_folds a s) (block_folds c s))
      statement_folds (Choose arms) s = draw_folds (partial_sums (parts_of arms)) _ _ (λ i. arm_folds arms i s)
      statement_folds (Uniform x e) s = value_folds (value_of e s) _ _ (λ z. uniform_folds x z s)
      statement_folds (While e a) s = loop_folds (value_of e) _ _ (block_folds a) n s

      pub block_folds : (b : Statements) (s : State) → fold (block_play n b s) ≡ block_in end go_on draw (λ m. m) n b s
      block_folds done s = of_end (on s)
      block_folds (st ▸ b) s = then_folds (statement_play n st s) _ _ _ (statement_folds st s) (block_folds b)

      arm_folds : (arms : ArmList) (i : ℕ) (s : State) → fold (arm_play n arms i s) ≡ arm_in end go_on draw (λ m. m) n arms i s
      arm_folds no_arm i s = of_end (on s)
      arm_folds (arm p b arms) zero s = block_folds b s
      arm_folds (arm p b arms) (suc i) s = arm_folds arms i s

-- ---- on bits
abbrev pub on_bits : ℕ → Play → List Bool → Reading End
on_bits r (ended e) = gives e
on_bits r (drawing cs k) = draw_on_bits r cs (λ i. on_bits r (k i))

bits_then : (r : ℕ) (p : Play) (go : State → Play) (w : List Bool) → on_bits r (with_end p go) w ≡ end_on (on_bits r p w) (λ s. on_bits r (go s))
bits_then r (ended (on s)) go w = refl
bits_then r (ended failed) go w = refl
bits_then r (ended (fault f)) go w = refl
bits_then r (ended (limit l)) go w = refl
bits_then r (drawing cs m) go w = behind (draw_on cs r w) (λ i. bits_then r (m i) go)
  where
    behind : (x : Reading (Option ℕ)) → ((i : ℕ) (w : List Bool) → on_bits r (with_end (m i) go) w ≡ end_on (on_bits r (m i) w) (λ s. on_bits r (go s))) →
        class_on x (λ i. on_bits r (with_end (m i) go)) ≡ end_on (class_on x (λ i. on_bits r (m i))) (λ s. on_bits r (go s))
    behind (gives None rest) q = refl
    behind (gives (Some i) rest) q = q i rest
    behind more_bits q = refl

pub block_bits : (n r : ℕ) (b : Statements) (s : State) → on_bits r (block_play n b s) ≡ block_on n r b s
block_bits n r = block_folds gives go_on_bits (draw_on_bits r) (on_bits r) (λ e. refl) (λ cs k. refl) (λ p go. fun_ext (bits_then r p go)) n

pub statement_bits : (n r : ℕ) (st : Statement) (s : State) → on_bits r (statement_play n st s) ≡ statement_on n r st s
statement_bits n r = statement_folds gives go_on_bits (draw_on_bits r) (on_bits r) (λ e. refl) (λ cs k. refl) (λ p go. fun_ext (bits_then r p go)) n
