-- A state that agrees with another on the variables of one set, and is 0 outside of it and wherever nothing may differ from 0.
use Rattle.std.proofs.Common.{◌≡◌, ℕ, zero, suc, ℤ, pos, ◌<◌, ◌≤◌, Bool, true, false, ◌&&◌, ⊎_elim, [], ◌∷◌, length, refl, sym, ap, subst, ◌∙◌, arith, true≢false}
use Rattle.std.specs.Prelude.{not, ◌==◌, slice_index_or, slice_set}
use Rattle.std.proofs.lemmas.Bool.{eq-eqb, eqb-true, cases_lt}
use Rattle.gcl_core.proofs.Booleans.{both}
use Rattle.gcl_core.specs.meaning.Value.{State}
use Rattle.forgetting.specs.Liveness.{Names}
use Rattle.forgetting.proofs.Agreeing.{Agree, agree_on, set_agrees, forgotten_agrees, right_and}

-- ---- states
same_length : (s : State) (x : ℕ) (v : ℤ) → length (slice_set s x v) ≡ length s
same_length [] x v = refl
same_length (z ∷ s) zero v = refl
same_length (z ∷ s) (suc x) v = ap suc (same_length s x v)

nought_set : (s : State) (x : ℕ) → slice_index_or (slice_set s x (pos 0)) x (pos 0) ≡ pos 0
nought_set [] x = refl
nought_set (z ∷ s) zero = refl
nought_set (z ∷ s) (suc x) = nought_set s x

-- another variable stays
other_set : (s : State) (y x : ℕ) (v : ℤ) → (x == y) ≡ false → slice_index_or (slice_set s y v) x (pos 0) ≡ slice_index_or s x (pos 0)
other_set s y x v e =
    let others : Names = λ z. not (z == y) in
    let all : Agree others s s = record { lengths = refl; values = λ z k. refl } in
    sym ((forgotten_agrees others y v s s (ap not (eq-eqb y y refl)) all).values x (ap not e))

outside : (s : State) (x : ℕ) → length s ≤ x → slice_index_or s x (pos 0) ≡ pos 0
outside [] x l = refl
outside (z ∷ s) zero l = absurd (omega arith)
outside (z ∷ s) (suc x) l = outside s x (omega arith)

same_state : (s t : State) → length s ≡ length t → ((x : ℕ) → slice_index_or s x (pos 0) ≡ slice_index_or t x (pos 0)) → s ≡ t
same_state [] [] l h = refl
same_state [] (y ∷ t) l h = absurd (omega arith)
same_state (z ∷ s) [] l h = absurd (omega arith)
same_state (z ∷ s) (y ∷ t) l h = ap (λ z. z ∷ s) (h 0) ∙ ap (λ s. y ∷ s) (same_state s t (omega arith) (λ x. h (suc x)))

-- ---- cleared states
pub record Cleared (count : ℕ) (N F : Names) (s t : State) : Type 0 where
  pub size : length t ≡ count
  pub agrees : Agree N s t
  pub nought : (x : ℕ) → (N x && F x) ≡ false → slice_index_or t x (pos 0) ≡ pos 0

-- it depends on the other state alone
pub cleared_once : (count : ℕ) (N F : Names) (s t s' t' : State) → Cleared count N F s t → Cleared count N F s' t' → s ≡ s' → t ≡ t'
cleared_once count N F s t s' t' a b e = same_state t t' (a.size ∙ sym b.size) (λ x. at x (N x && F x) refl)
  where
    at : (x : ℕ) (c : Bool) → (N x && F x) ≡ c → slice_index_or t x (pos 0) ≡ slice_index_or t' x (pos 0)
    at x true c =
        let k = (both (N x) (F x) c).0 in
        sym (a.agrees.values x k) ∙ ap (λ s. slice_index_or s x (pos 0)) e ∙ b.agrees.values x k
    at x false c = a.nought x c ∙ sym (b.nought x c)

-- fewer variables, where what may differ from 0 is among them
pub cleared_to : (count : ℕ) (N F K G : Names) (s t : State) → ((x : ℕ) → K x ≡ true → N x ≡ true) →
    ((x : ℕ) → N x ≡ true → F x ≡ true → (K x && G x) ≡ true) → Cleared count N F s t → Cleared count K G s t
cleared_to count N F K G s t fewer left a = record { size = a.size; agrees = agree_on N K s t fewer a.agrees; nought = λ x none. at x none (N x && F x) refl }
  where
    at : (x : ℕ) → (K x && G x) ≡ false → (c : Bool) → (N x && F x) ≡ c → slice_index_or t x (pos 0) ≡ pos 0
    at x none true c = absurd (true≢false (sym (left x (both (N x) (F x) c).0 (both (N x) (F x) c).1) ∙ none))
    at x none false c = a.nought x c

-- a variable that is set in both
pub cleared_set : (count : ℕ) (N F P G : Names) (y : ℕ) (z : ℤ) (s t : State) → ((x : ℕ) → (x == y) ≡ false → P x ≡ true → N x ≡ true) →
    ((x : ℕ) → (x == y) ≡ false → N x ≡ true → F x ≡ true → (P x && G x) ≡ true) → ((P y && G y) ≡ false → z ≡ pos 0) →
    Cleared count N F s t → Cleared count P G (slice_set s y z) (slice_set t y z)
cleared_set count N F P G y z s t agree left zero_there a = record {
  size = same_length t y z ∙ a.size;
  agrees = set_agrees P y z s t (agree_on N (λ x. not (x == y) && P x) s t (λ x k. elsewhere x (x == y) refl k) a.agrees);
  nought = λ x none. at x none (x == y) refl;
}
  where
    elsewhere : (x : ℕ) (b : Bool) → (x == y) ≡ b → (not b && P x) ≡ true → N x ≡ true
    elsewhere x true e k = absurd (true≢false (sym k))
    elsewhere x false e k = agree x e k

    kept : (x : ℕ) → (x == y) ≡ false → (P x && G x) ≡ false → (c : Bool) → (N x && F x) ≡ c → slice_index_or t x (pos 0) ≡ pos 0
    kept x e none true c = absurd (true≢false (sym (left x e (both (N x) (F x) c).0 (both (N x) (F x) c).1) ∙ none))
    kept x e none false c = a.nought x c

    at : (x : ℕ) → (P x && G x) ≡ false → (b : Bool) → (x == y) ≡ b → slice_index_or (slice_set t y z) x (pos 0) ≡ pos 0
    at x none true e =
        let same : x ≡ y = eqb-true x y e in
        let there : (P y && G y) ≡ false = subst (λ x. (P x && G x) ≡ false) same none in
        ap (λ x. slice_index_or (slice_set t y z) x (pos 0)) same ∙ ap (λ z. slice_index_or (slice_set t y z) y (pos 0)) (zero_there there) ∙ nought_set t y
    at x none false e = other_set t y x z e ∙ kept x e none (N x && F x) refl

-- a variable that is forgotten
pub cleared_more : (count : ℕ) (N F : Names) (y : ℕ) (s t : State) → Cleared count N F s t → Cleared count (λ x. not (x == y) && N x) F s (slice_set t y (pos 0))
cleared_more count N F y s t a = record {
  size = same_length t y (pos 0) ∙ a.size;
  agrees = forgotten_agrees (λ x. not (x == y) && N x) y (pos 0) s t (ap (λ b. not b && N y) (eq-eqb y y refl))
      (agree_on N (λ x. not (x == y) && N x) s t (λ x k. (both (not (x == y)) (N x) k).1) a.agrees);
  nought = λ x none. at x (x == y) refl none;
}
  where
    at : (x : ℕ) (b : Bool) → (x == y) ≡ b → ((not b && N x) && F x) ≡ false → slice_index_or (slice_set t y (pos 0)) x (pos 0) ≡ pos 0
    at x true e none = ap (λ x. slice_index_or (slice_set t y (pos 0)) x (pos 0)) (eqb-true x y e) ∙ nought_set t y
    at x false e none = other_set t y x (pos 0) e ∙ a.nought x none

-- all that was to be forgotten is
pub cleared_all : (count : ℕ) (N F K : Names) (s t : State) → ((x : ℕ) → K x ≡ true → N x ≡ true) →
    ((x : ℕ) → x < count → N x ≡ true → F x ≡ true → K x ≡ true) → Cleared count N F s t → Cleared count K F s t
cleared_all count N F K s t fewer left a = record {
  size = a.size;
  agrees = agree_on N K s t fewer a.agrees;
  nought = λ x none. ⊎_elim (λ (l : x < count). at x l none (N x && F x) refl) (λ (l : count ≤ x). outside t x (subst (λ n. n ≤ x) (sym a.size) l)) (cases_lt x count);
}
  where
    at : (x : ℕ) → x < count → (K x && F x) ≡ false → (c : Bool) → (N x && F x) ≡ c → slice_index_or t x (pos 0) ≡ pos 0
    at x l none true c =
        let f = (both (N x) (F x) c).1 in
        absurd (true≢false (sym (right_and (K x) (F x) (left x l (both (N x) (F x) c).0 f) f) ∙ none))
    at x l none false c = a.nought x c
