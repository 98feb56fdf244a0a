-- One step of a run.
use Rattle.std.proofs.Common.{◌≡◌, ℕ, zero, suc, ◌+◌, ◌<◌, ℤ, Bool, true, false, List, [], ◌∷◌, length, drop, Option, Some, Ok, Err, refl, sym, ap, ◌∙◌, arith, ltb-true}
use Rattle.std.specs.Prelude.{nat_lt, if◌then◌else◌}
use Rattle.std.proofs.lemmas.List.{drop-drop}
use Rattle.gcl_core.specs.declared.answers.Fault.{Fault}
use Rattle.gcl_core.specs.meaning.Value.{State, Value}
use Rattle.formula.specs.declared.op.Op.{Op}
use Rattle.formula.specs.declared.running.Point.{Point}
use Rattle.formula.specs.inner.OnStack.{Moved, on, fails, stuck, pushed, move, after_move, the_one_value, run, CameTo, Goes, values}
use Rattle.formula.proofs.Runs.{run_drop}
use Rattle.formula.proofs.Slots.{values_length}

if_goes : (b : Bool) (k : ℕ) (s : List ℤ) → Goes (if b then on k s else stuck) → b ≡ true
if_goes true k s h = refl
if_goes false k s h = absurd h

if_goes_on : (b : Bool) (m : Moved) → Goes (if b then m else stuck) → Goes m
if_goes_on true m h = h
if_goes_on false m h = absurd h

-- a value that is put on top has its room
pub put_room : (room : ℕ) (v top : ℤ) (held : ℕ) (slots : List ℤ) → Goes (pushed room v (values top held slots)) → held < room
put_room room v top held slots h =
    let e = ltb-true (length (values top held slots)) room (if_goes (nat_lt (length (values top held slots)) room) 0 (v ∷ values top held slots) h) in
    let l = values_length top held slots in
    omega (arith, e, l)

-- a variable is put on top
pub load_room : (b : Bool) (room : ℕ) (v top : ℤ) (held : ℕ) (slots : List ℤ) →
    Goes (if b then pushed room v (values top held slots) else stuck) → held < room
load_room b room v top held slots h = put_room room v top held slots (if_goes_on b (pushed room v (values top held slots)) h)

module _ (room : ℕ) (vars : State) where
  goes_of : (m : Moved) (a : Value) (go : ℕ → List ℤ → Option Value) → after_move m go ≡ Some a → Goes m
  goes_of (on k s) a go e = tt
  goes_of (fails f) a go e = tt
  goes_of stuck a go e = absurd (cc)

  pub run_goes : (steps : List Op) (op : Op) (i : ℕ) (s : List ℤ) (a : Value) → drop i steps ≡ op ∷ drop (suc i) steps →
      run room vars i 0 (drop i steps) s ≡ Some a → Goes (move room vars op i s)
  unfolding run
  run_goes steps op i s a e h =
      goes_of (move room vars op i s) a (λ k t. run room vars (i + 1) k (drop (suc i) steps) t) (ap (λ l. run room vars i 0 l s) (sym e) ∙ h)

  past : (m : Moved) (i : ℕ) (l : List Op) (slots : List ℤ) (p : Point) (a : Value) → CameTo m i slots (Ok p) →
      after_move m (λ k u. run room vars (i + 1) k l u) ≡ Some a →
      (k : ℕ) × (p.at ≡ i + 1 + k) × (run room vars p.at 0 (drop k l) (values p.top p.held slots) ≡ Some a)
  past (on k s) i l slots p a c e =
      (k, c.0, ap (λ n. run room vars n 0 (drop k l) (values p.top p.held slots)) c.0 ∙ ap (λ u. run room vars (i + 1 + k) 0 (drop k l) u) c.1 ∙ sym (run_drop room vars k (i + 1) l s) ∙ e)
  past (fails f) i l slots p a c e = absurd c
  past stuck i l slots p a c e = absurd c

  pub run_next : (steps : List Op) (op : Op) (i : ℕ) (s : List ℤ) (slots : List ℤ) (p : Point) (a : Value) →
      drop i steps ≡ op ∷ drop (suc i) steps → CameTo (move room vars op i s) i slots (Ok p) → run room vars i 0 (drop i steps) s ≡ Some a →
      (i < p.at) × (run room vars p.at 0 (drop p.at steps) (values p.top p.held slots) ≡ Some a)
  unfolding run
  run_next steps op i s slots p a e c h =
      let q = past (move room vars op i s) i (drop (suc i) steps) slots p a c (ap (λ l. run room vars i 0 l s) (sym e) ∙ h) in
      let at : suc i + q.0 ≡ p.at = let f = q.1 in omega (arith, f) in
      (omega (arith, at), ap (λ l. run room vars p.at 0 l (values p.top p.held slots)) (ap (λ n. drop n steps) (sym at) ∙ sym (drop-drop q.0 (suc i) steps)) ∙ q.2)

  failed : (m : Moved) (i : ℕ) (slots : List ℤ) (f : Fault) (a : Value) (go : ℕ → List ℤ → Option Value) → CameTo m i slots (Err f) →
      after_move m go ≡ Some a → Err f ≡ a
  failed (on k s) i slots f a go c e = absurd c
  failed (fails g) i slots f a go c e = ap Err c ∙ (cc)
  failed stuck i slots f a go c e = absurd c

  pub run_fails : (steps : List Op) (op : Op) (i : ℕ) (s slots : List ℤ) (f : Fault) (a : Value) → drop i steps ≡ op ∷ drop (suc i) steps →
      CameTo (move room vars op i s) i slots (Err f) → run room vars i 0 (drop i steps) s ≡ Some a → Err f ≡ a
  unfolding run
  run_fails steps op i s slots f a e c h =
      failed (move room vars op i s) i slots f a (λ k u. run room vars (i + 1) k (drop (suc i) steps) u) c (ap (λ l. run room vars i 0 l s) (sym e) ∙ h)

  only_top : (top : ℤ) (held : ℕ) (slots : List ℤ) (a : Value) → the_one_value (values top held slots) ≡ Some a → Ok top ≡ a
  only_top top zero slots a e = absurd (cc)
  only_top top (suc zero) slots a e = cc
  only_top top (suc (suc n)) slots a e = absurd (cc)

  pub run_ends : (steps : List Op) (i : ℕ) (top : ℤ) (held : ℕ) (slots : List ℤ) (a : Value) → drop i steps ≡ [] →
      run room vars i 0 (drop i steps) (values top held slots) ≡ Some a → Ok top ≡ a
  unfolding run
  run_ends steps i top held slots a e h = only_top top held slots a (ap (λ l. run room vars i 0 l (values top held slots)) (sym e) ∙ h)
