-- No play of a block ends at the limit of attempts or of rounds by itself.
use Rattle.std.proofs.Common.{◌≡◌, ℕ, zero, suc, ℤ, pos, negsuc, Bool, true, false, cond, Ok, Err, refl}
use Rattle.gcl_core.specs.declared.answers.Limit.TheVariants.{Turns, Attempts, Rounds}
use Rattle.gcl_core.specs.meaning.Syntax.{Statement, Skip, Set, If, While, Choice, Choose, Uniform, Observe, Statements, done, ◌▸◌, ArmList, no_arm, arm}
use Rattle.gcl_core.specs.meaning.Value.{State, Value, value_of, is_zero}
use Rattle.gcl_core.specs.meaning.Blocks.{End, on, failed, fault, limit, by_truth, by_side}
use Rattle.gcl_core.proofs.Plays.{Play, ended, drawing, with_value, with_end, uniform_play, loop_play, statement_play, block_play, arm_play}

-- a state, a failed observation, a fault or the limit of turns
abbrev pub is_own : End → Bool
is_own (on s) = true
is_own failed = true
is_own (fault f) = true
is_own (limit Turns) = true
is_own (limit Attempts) = false
is_own (limit Rounds) = false

abbrev pub Spares : Play → Type 0
Spares (ended e) = is_own e ≡ true
Spares (drawing cs k) = (i : ℕ) → Spares (k i)

spares_end : (p : Play) (go : State → Play) → Spares p → ((s : State) → Spares (go s)) → Spares (with_end p go)
spares_end (ended (on s)) go h g = g s
spares_end (ended failed) go h g = refl
spares_end (ended (fault f)) go h g = refl
spares_end (ended (limit l)) go h g = h
spares_end (drawing cs k) go h g = λ i. spares_end (k i) go (h i) g

spares_value : (v : Value) (k : ℤ → Play) → ((z : ℤ) → Spares (k z)) → Spares (with_value v k)
spares_value (Ok z) k h = h z
spares_value (Err f) k h = refl

spares_truth : (z : ℤ) (p q : Play) → Spares p → Spares q → Spares (by_truth z p q)
spares_truth z p q h g = by_test (is_zero z)
  where
    by_test : (b : Bool) → Spares (cond b q p)
    by_test true = g
    by_test false = h

spares_side : (i : ℕ) (p q : Play) → Spares p → Spares q → Spares (by_side i p q)
spares_side zero p q h g = h
spares_side (suc i) p q h g = g

spares_uniform : (x : ℕ) (z : ℤ) (s : State) → Spares (uniform_play x z s)
spares_uniform x (pos zero) s = refl
spares_uniform x (pos (suc m)) s = λ i. refl
spares_uniform x (negsuc m) s = refl

spares_loop : (guard : State → Value) (body : State → Play) → ((s : State) → Spares (body s)) → (t : ℕ) (s : State) → Spares (loop_play guard body t s)
spares_loop guard body h zero s = spares_value (guard s) _ (λ z. spares_truth z _ _ refl refl)
spares_loop guard body h (suc t) s = spares_value (guard s) _ (λ z. spares_truth z _ _ (spares_end (body s) _ (h s) (spares_loop guard body h t)) refl)

module _ (n : ℕ) where
  mutual
    statement_spares : (st : Statement) (s : State) → Spares (statement_play n st s)
    statement_spares Skip s = refl
    statement_spares (Set x e) s = spares_value (value_of e s) _ (λ z. refl)
    statement_spares (Observe e) s = spares_value (value_of e s) _ (λ z. spares_truth z _ _ refl refl)
    statement_spares (If e a c) s = spares_value (value_of e s) _ (λ z. spares_truth z _ _ (block_spares a s) (block_spares c s))
    statement_spares (Choice p a c) s = λ i. spares_side i _ _ (block_spares a s) (block_spares c s)
    statement_spares (Choose arms) s = λ i. arm_spares arms i s
    statement_spares (Uniform x e) s = spares_value (value_of e s) _ (λ z. spares_uniform x z s)
    statement_spares (While e a) s = spares_loop (value_of e) _ (block_spares a) n s

    pub block_spares : (b : Statements) (s : State) → Spares (block_play n b s)
    block_spares done s = refl
    block_spares (st ▸ b) s = spares_end (statement_play n st s) _ (statement_spares st s) (block_spares b)

    arm_spares : (arms : ArmList) (i : ℕ) (s : State) → Spares (arm_play n arms i s)
    arm_spares no_arm i s = refl
    arm_spares (arm p b arms) zero s = block_spares b s
    arm_spares (arm p b arms) (suc i) s = arm_spares arms i s
