-- The steps of an expression put its value on the stack.
use Rattle.std.proofs.Common.{◌≡◌, ℕ, zero, suc, ◌+◌, ◌-◌, ◌<◌, ◌≤◌, max, ℤ, pos, negsuc, neg_ℤ, not, List, [], ◌∷◌, ◌++◌, length, drop, Option, Some, Ok, Err, refl, sym, ap, ◌∙◌, subst, arith, append_assoc, length-append, lt-ltb}
use Rattle.std.specs.Prelude.{slice_index_or, if◌then◌else◌}
use Rattle.std.proofs.lemmas.List.{append-nil}
use Rattle.gcl_core.specs.declared.syntax.BinOp.{BinOp}
use Rattle.gcl_core.specs.declared.syntax.BinOp.TheVariants.{Add, Sub, Mul, Div, Rem, Eq, Ne, Lt, Le, Gt, Ge, And, Or}
use Rattle.gcl_core.specs.meaning.Syntax.{Expression}
use Rattle.gcl_core.specs.meaning.Syntax as source
use Rattle.gcl_core.specs.meaning.Value.{State, Value, value_of, truth_number, is_zero, within_64, applied, ◌>>=◌}
use Rattle.gcl_core.specs.meaning.Bounds.{ExpressionBelow}
use Rattle.formula.specs.declared.op.Op.{Op}
use Rattle.formula.specs.declared.op.Op.TheVariants.{Push, Truth, Load, Neg, Not, Bin, AndSkip, OrSkip, Settle}
use Rattle.formula.specs.Steps.{settling, steps_between, kept, joining, step_count, steps_at, steps_of, depth}
use Rattle.formula.specs.inner.OnStack.{on, stuck, with_top, pushed, on_to, move, after_move, the_one_value, run}
use Rattle.formula.proofs.Lists.{regroup, steps_length}

-- a fault, or on with the value
abbrev pub bind : Value → (ℤ → Option Value) → Option Value
bind (Ok v) go = go v
bind (Err fault) go = Some (Err fault)

bind_same : (x : Value) (f g : ℤ → Option Value) → ((v : ℤ) → f v ≡ g v) → bind x f ≡ bind x g
bind_same (Ok v) f g h = h v
bind_same (Err fault) f g h = refl

bind_bind : (x : Value) (f : ℤ → Value) (g : ℤ → Option Value) → bind x (λ v. bind (f v) g) ≡ bind (x >>= f) g
bind_bind (Ok v) f g = refl
bind_bind (Err fault) f g = refl

bind_some : (x : Value) → bind x (λ y. Some (Ok y)) ≡ Some x
bind_some (Ok v) = refl
bind_some (Err fault) = refl

top_bind : (x : Value) (s : List ℤ) (go : ℕ → List ℤ → Option Value) → after_move (with_top x s) go ≡ bind x (λ v. go 0 (v ∷ s))
top_bind (Ok v) s go = refl
top_bind (Err fault) s go = refl

-- from the left operand's value on
abbrev from_left : BinOp → ℤ → Value → Value
from_left And x right = if is_zero x then Ok (pos 0) else (right >>= λ y. applied And x y)
from_left Or x right = if is_zero x then (right >>= λ y. applied Or x y) else Ok (pos 1)
from_left op x right = right >>= λ y. applied op x y

from_both : (op : BinOp) (a b : Expression) (s : State) → (value_of a s >>= λ x. from_left op x (value_of b s)) ≡ value_of (source.Bin op a b) s
from_both And a b s = refl
from_both Or a b s = refl
from_both _ a b s = refl

module _ (room : ℕ) (vars : State) where
  pub run_drop : (k i : ℕ) (l : List Op) (s : List ℤ) → run room vars i k l s ≡ run room vars (i + k) 0 (drop k l) s
  unfolding run
  run_drop zero i [] s = refl
  run_drop zero i (op ∷ l) s = ap (λ n. run room vars n 0 (op ∷ l) s) (omega arith)
  run_drop (suc k) i [] s = refl
  run_drop (suc k) i (op ∷ l) s = run_drop k (i + 1) l s ∙ ap (λ n. run room vars n 0 (drop k l) s) (omega arith)

  run_past : (xs : List Op) (i : ℕ) (r : List Op) (s : List ℤ) → run room vars i (length xs) (xs ++ r) s ≡ run room vars (i + length xs) 0 r s
  unfolding run
  run_past [] i r s = ap (λ n. run room vars n 0 r s) (omega arith)
  run_past (x ∷ xs) i r s = run_past xs (i + 1) r s ∙ ap (λ n. run room vars n 0 r s) (omega arith)

  run_pushed : (v : ℤ) (i : ℕ) (r : List Op) (s : List ℤ) → length s < room →
      after_move (pushed room v s) (λ k t. run room vars (i + 1) k r t) ≡ run room vars (i + 1) 0 r (v ∷ s)
  run_pushed v i r s lt = ap (λ b. after_move (if b then on 0 (v ∷ s) else stuck) (λ k t. run room vars (i + 1) k r t)) (lt-ltb (length s) room lt)

  -- an operator that settles nothing
  run_plain : (op : BinOp) (x : ℤ) (b : Value) (j m n : ℕ) (B r : List Op) (s : List ℤ) → n ≡ m + 1 →
      run room vars j 0 (B ++ Bin op ∷ r) (x ∷ s) ≡ bind b (λ y. run room vars m 0 (Bin op ∷ r) (y ∷ (x ∷ s))) →
      run room vars j 0 (B ++ Bin op ∷ r) (x ∷ s) ≡ bind (b >>= λ y. applied op x y) (λ v. run room vars n 0 r (v ∷ s))
  unfolding run
  run_plain op x b j m n B r s e h =
      h
      ∙ bind_same b (λ y. run room vars m 0 (Bin op ∷ r) (y ∷ (x ∷ s))) (λ y. bind (applied op x y) (λ v. run room vars n 0 r (v ∷ s)))
      (λ y. top_bind (applied op x y) s (λ k t. run room vars (m + 1) k r t) ∙ ap (λ n. bind (applied op x y) (λ v. run room vars n 0 r (v ∷ s))) (sym e))
      ∙ bind_bind b (λ y. applied op x y) (λ v. run room vars n 0 r (v ∷ s))

  -- the left operand has settled it
  run_to : (j t n : ℕ) (v : ℤ) (B r : List Op) (s : List ℤ) → t ≡ j + 1 + length B → n ≡ t →
      after_move (on_to j t (v ∷ s)) (λ k u. run room vars (j + 1) k (B ++ r) u) ≡ run room vars n 0 r (v ∷ s)
  run_to j t n v B r s e f =
      ap (λ b. after_move (if b then on (t - (j + 1)) (v ∷ s) else stuck) (λ k u. run room vars (j + 1) k (B ++ r) u)) (lt-ltb j t (omega arith))
      ∙ ap (λ k. run room vars (j + 1) k (B ++ r) (v ∷ s)) (let d : t - (j + 1) ≡ length B = omega arith in d)
      ∙ run_past B (j + 1) r (v ∷ s)
      ∙ ap (λ n. run room vars n 0 r (v ∷ s)) (let d : j + 1 + length B ≡ n = omega arith in d)

  -- it has not
  run_settle : (b : Value) (j m n : ℕ) (B r : List Op) (s : List ℤ) → n ≡ m + 1 →
      run room vars j 0 (B ++ Settle ∷ r) s ≡ bind b (λ y. run room vars m 0 (Settle ∷ r) (y ∷ s)) →
      run room vars j 0 (B ++ Settle ∷ r) s ≡ bind (b >>= λ y. Ok (truth_number (not (is_zero y)))) (λ v. run room vars n 0 r (v ∷ s))
  unfolding run
  run_settle b j m n B r s e h =
      h
      ∙ bind_same b (λ y. run room vars m 0 (Settle ∷ r) (y ∷ s)) (λ y. run room vars n 0 r (truth_number (not (is_zero y)) ∷ s))
      (λ y. ap (λ n. run room vars n 0 r (truth_number (not (is_zero y)) ∷ s)) (sym e))
      ∙ bind_bind b (λ y. Ok (truth_number (not (is_zero y)))) (λ v. run room vars n 0 r (v ∷ s))

  -- From the right operand on. Its steps lead to its value, whatever lies below.
  abbrev RunsTo : Value → List Op → ℕ → ℕ → ℕ → Type 0
  RunsTo b B j m need = (r : List Op) (s : List ℤ) → length s + need ≤ room → run room vars j 0 (B ++ r) s ≡ bind b (λ y. run room vars m 0 r (y ∷ s))

  run_simple : (op : BinOp) (x : ℤ) (b : Value) (i t n need : ℕ) (B r : List Op) (s : List ℤ) →
      n ≡ t → t ≡ i + 0 + length B + 1 → length s + (need + 1) ≤ room → RunsTo b B (i + 0) (i + 0 + length B) need →
      run room vars i 0 (B ++ Bin op ∷ r) (x ∷ s) ≡ bind (b >>= λ y. applied op x y) (λ v. run room vars n 0 r (v ∷ s))
  run_simple op x b i t n need B r s f e le h =
      ap (λ i. run room vars i 0 (B ++ Bin op ∷ r) (x ∷ s)) (let d : i ≡ i + 0 = omega arith in d)
      ∙ run_plain op x b (i + 0) (i + 0 + length B) n B r s (omega arith) (h (Bin op ∷ r) (x ∷ s) (omega arith))

  run_right : (op : BinOp) (x : ℤ) (b : Value) (i t n need : ℕ) (B r : List Op) (s : List ℤ) →
      n ≡ t → t ≡ i + steps_between op + length B + 1 → length s + (need + kept op) ≤ room →
      RunsTo b B (i + steps_between op) (i + steps_between op + length B) need →
      run room vars i 0 (settling op t ++ (B ++ joining op ∷ r)) (x ∷ s) ≡ bind (from_left op x b) (λ v. run room vars n 0 r (v ∷ s))
  unfolding run
  run_right And (pos zero) b i t n need B r s f e le h =
      ap (λ l. run room vars i 0 (AndSkip t ∷ l) (pos 0 ∷ s)) (sym (append_assoc B (Settle ∷ []) r))
      ∙ run_to i t n (pos 0) (B ++ Settle ∷ []) r s (omega (arith, length-append B (Settle ∷ []))) f
  run_right And (pos (suc x)) b i t n need B r s f e le h =
      run_settle b (i + 1) (i + 1 + length B) n B r s (omega arith) (h (Settle ∷ r) s (omega arith))
  run_right And (negsuc x) b i t n need B r s f e le h =
      run_settle b (i + 1) (i + 1 + length B) n B r s (omega arith) (h (Settle ∷ r) s (omega arith))
  run_right Or (pos zero) b i t n need B r s f e le h =
      run_settle b (i + 1) (i + 1 + length B) n B r s (omega arith) (h (Settle ∷ r) s (omega arith))
  run_right Or (pos (suc x)) b i t n need B r s f e le h =
      ap (λ l. run room vars i 0 (OrSkip t ∷ l) (pos (suc x) ∷ s)) (sym (append_assoc B (Settle ∷ []) r))
      ∙ run_to i t n (pos 1) (B ++ Settle ∷ []) r s (omega (arith, length-append B (Settle ∷ []))) f
  run_right Or (negsuc x) b i t n need B r s f e le h =
      ap (λ l. run room vars i 0 (OrSkip t ∷ l) (negsuc x ∷ s)) (sym (append_assoc B (Settle ∷ []) r))
      ∙ run_to i t n (pos 1) (B ++ Settle ∷ []) r s (omega (arith, length-append B (Settle ∷ []))) f
  run_right Add x b i t n need B r s f e le h = run_simple Add x b i t n need B r s f e le h
  run_right Sub x b i t n need B r s f e le h = run_simple Sub x b i t n need B r s f e le h
  run_right Mul x b i t n need B r s f e le h = run_simple Mul x b i t n need B r s f e le h
  run_right Div x b i t n need B r s f e le h = run_simple Div x b i t n need B r s f e le h
  run_right Rem x b i t n need B r s f e le h = run_simple Rem x b i t n need B r s f e le h
  run_right Eq x b i t n need B r s f e le h = run_simple Eq x b i t n need B r s f e le h
  run_right Ne x b i t n need B r s f e le h = run_simple Ne x b i t n need B r s f e le h
  run_right Lt x b i t n need B r s f e le h = run_simple Lt x b i t n need B r s f e le h
  run_right Le x b i t n need B r s f e le h = run_simple Le x b i t n need B r s f e le h
  run_right Gt x b i t n need B r s f e le h = run_simple Gt x b i t n need B r s f e le h
  run_right Ge x b i t n need B r s f e le h = run_simple Ge x b i t n need B r s f e le h

  run_two : (op : BinOp) (a b : Value) (A B : List Op) (i j t n need_a need_b : ℕ) (r : List Op) (s : List ℤ) →
      j ≡ i + length A + steps_between op → t ≡ j + length B + 1 → n ≡ t → length s + max need_a (need_b + kept op) ≤ room →
      RunsTo a A i (i + length A) need_a → RunsTo b B j (j + length B) need_b →
      run room vars i 0 (A ++ (settling op t ++ (B ++ joining op ∷ r))) s
      ≡ bind (a >>= λ x. from_left op x b) (λ v. run room vars n 0 r (v ∷ s))
  run_two op a b A B i j t n na nb r s ej et en le ha hb =
      let hb' : RunsTo b B (i + length A + steps_between op) (i + length A + steps_between op + length B) nb = subst (λ j. RunsTo b B j (j + length B) nb) ej hb in
      ha (settling op t ++ (B ++ joining op ∷ r)) s (omega arith)
      ∙ bind_same a (λ x. run room vars (i + length A) 0 (settling op t ++ (B ++ joining op ∷ r)) (x ∷ s)) (λ x. bind (from_left op x b) (λ v. run room vars n 0 r (v ∷ s)))
      (λ x. run_right op x b (i + length A) t n nb B r s en (omega arith) (omega arith) hb')
      ∙ bind_bind a (λ x. from_left op x b) (λ v. run room vars n 0 r (v ∷ s))

  run_one : (op : Op) (f : ℤ → Value) (a : Value) (A : List Op) (i n need : ℕ) (r : List Op) (s : List ℤ) →
      n ≡ i + length A + 1 → length s + need ≤ room → RunsTo a A i (i + length A) need →
      ((x : ℤ) (j : ℕ) → move room vars op j (x ∷ s) ≡ with_top (f x) s) →
      run room vars i 0 ((A ++ op ∷ []) ++ r) s ≡ bind (a >>= f) (λ v. run room vars n 0 r (v ∷ s))
  unfolding run
  run_one op f a A i n need r s e le h one =
      ap (λ l. run room vars i 0 l s) (append_assoc A (op ∷ []) r)
      ∙ h (op ∷ r) s le
      ∙ bind_same a (λ x. run room vars (i + length A) 0 (op ∷ r) (x ∷ s)) (λ x. bind (f x) (λ v. run room vars n 0 r (v ∷ s)))
      (λ x. ap (λ m. after_move m (λ k t. run room vars (i + length A + 1) k r t)) (one x (i + length A))
      ∙ top_bind (f x) s (λ k t. run room vars (i + length A + 1) k r t)
      ∙ ap (λ n. bind (f x) (λ v. run room vars n 0 r (v ∷ s))) (sym e))
      ∙ bind_bind a f (λ v. run room vars n 0 r (v ∷ s))

  run_atom : (op : Op) (v : ℤ) (i n : ℕ) (r : List Op) (s : List ℤ) → n ≡ i + 1 → length s < room →
      move room vars op i s ≡ pushed room v s → run room vars i 0 (op ∷ r) s ≡ run room vars n 0 r (v ∷ s)
  unfolding run
  run_atom op v i n r s e lt h =
      ap (λ m. after_move m (λ k t. run room vars (i + 1) k r t)) h ∙ run_pushed v i r s lt ∙ ap (λ n. run room vars n 0 r (v ∷ s)) (sym e)

  loaded : (x i : ℕ) (s : List ℤ) → x < length vars → move room vars (Load x) i s ≡ pushed room (slice_index_or vars x (pos 0)) s
  loaded x i s lt = ap (λ b. if b then pushed room (slice_index_or vars x (pos 0)) s else stuck) (lt-ltb x (length vars) lt)

  pub runs : (e : Expression) (i : ℕ) → ExpressionBelow e (length vars) → RunsTo (value_of e vars) (steps_at e i) i (i + length (steps_at e i)) (depth e)
  runs (source.Num z) i h = λ r s le. run_atom (Push z) z i (i + 1) r s refl (omega arith) refl
  runs (source.Truth b) i h = λ r s le. run_atom (Truth b) (truth_number b) i (i + 1) r s refl (omega arith) refl
  runs (source.Var x) i h = λ r s le. run_atom (Load x) (slice_index_or vars x (pos 0)) i (i + 1) r s refl (omega arith) (loaded x i s h)
  runs (source.Neg a) i h = λ r s le.
      run_one Neg (λ x. within_64 (neg_ℤ x)) (value_of a vars) (steps_at a i) i _ (depth a) r s (omega (arith, length-append (steps_at a i) (Neg ∷ []))) le (runs a i h) (λ x j. refl)
  runs (source.Not a) i h = λ r s le.
      run_one Not (λ x. Ok (truth_number (is_zero x))) (value_of a vars) (steps_at a i) i _ (depth a) r s (omega (arith, length-append (steps_at a i) (Not ∷ []))) le (runs a i h) (λ x j. refl)
  runs (source.Bin op a b) i h = λ r s le.
      let t = i + (step_count a + steps_between op + step_count b + 1) in
      let j = i + (step_count a + steps_between op) in
      let A = steps_at a i in
      let B = steps_at b j in
      let la = steps_length a i in
      let lb = steps_length b j in
      let n = i + length (steps_at (source.Bin op a b) i) in
      ap (λ l. run room vars i 0 l s) (regroup A (settling op t) B (joining op) r)
      ∙ run_two op (value_of a vars) (value_of b vars) A B i j t n (depth a) (depth b) r s (omega arith) (omega arith) (omega (arith, steps_length (source.Bin op a b) i)) le (runs a i h.0) (runs b j h.1)
      ∙ ap (λ v. bind v (λ y. run room vars n 0 r (y ∷ s))) (from_both op a b vars)

  -- the whole
  pub runs_whole : (e : Expression) → ExpressionBelow e (length vars) → depth e ≤ room → run room vars 0 0 (steps_of e) [] ≡ Some (value_of e vars)
  unfolding run
  runs_whole e h le =
      ap (λ l. run room vars 0 0 l []) (sym (append-nil (steps_of e)))
      ∙ runs e 0 h [] [] (omega arith)
      ∙ bind_same (value_of e vars) (λ y. the_one_value (y ∷ [])) (λ y. Some (Ok y)) (λ y. refl)
      ∙ bind_some (value_of e vars)
