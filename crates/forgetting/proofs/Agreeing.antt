-- States that agree on the variables that matter.
use Rattle.std.proofs.Common.{◌≡◌, ℕ, zero, suc, ℤ, pos, Bool, true, false, ◌&&◌, ◌||◌, Ok, Err, [], ◌∷◌, length, refl, sym, ap, subst, ◌∙◌, arith, true≢false}
use Rattle.std.specs.Prelude.{not, ◌==◌, slice_index_or, slice_set, if◌then◌else◌}
use Rattle.std.proofs.lemmas.Bool.{eq-eqb, eqb-true, eqb-false}
use Rattle.gcl_core.specs.declared.syntax.BinOp.{BinOp}
use Rattle.gcl_core.specs.declared.syntax.BinOp.TheVariants.{Add, Sub, Mul, Div, Rem, Eq, Ne, Lt, Le, Gt, Ge, And, Or}
use Rattle.gcl_core.specs.meaning.Syntax.{Expression, Num, Truth, Var, Neg, Not, Bin}
use Rattle.gcl_core.specs.meaning.Value.{State, Value, value_of, ◌>>=◌, is_zero}
use Rattle.forgetting.specs.Liveness.{Names, reads}

-- ---- tests
pub left_or : (a b : Bool) → a ≡ true → (a || b) ≡ true
left_or true b e = refl
left_or false b e = absurd (true≢false (sym e))

pub right_or : (a b : Bool) → b ≡ true → (a || b) ≡ true
right_or true b e = refl
right_or false b e = e

pub right_and : (a b : Bool) → a ≡ true → b ≡ true → (a && b) ≡ true
right_and true b p q = q
right_and false b p q = absurd (true≢false (sym p))

-- ---- states
pub record Agree (L : Names) (s t : State) : Type 0 where
  pub lengths : length s ≡ length t
  pub values : (x : ℕ) → L x ≡ true → slice_index_or s x (pos 0) ≡ slice_index_or t x (pos 0)

pub agree_on : (L K : Names) (s t : State) → ((x : ℕ) → K x ≡ true → L x ≡ true) → Agree L s t → Agree K s t
agree_on L K s t h a = record { lengths = a.lengths; values = λ x k. a.values x (h x k) }

set_length : (s : State) (x : ℕ) (v : ℤ) → length (slice_set s x v) ≡ length s
set_length [] x v = refl
set_length (z ∷ s) zero v = refl
set_length (z ∷ s) (suc x) v = ap suc (set_length s x v)

-- a variable that is set to the same
set_same : (s t : State) (x : ℕ) (v : ℤ) → length s ≡ length t → slice_index_or (slice_set s x v) x (pos 0) ≡ slice_index_or (slice_set t x v) x (pos 0)
set_same [] [] x v e = refl
set_same [] (z ∷ t) x v e = absurd (omega arith)
set_same (y ∷ s) [] x v e = absurd (omega arith)
set_same (y ∷ s) (z ∷ t) zero v e = refl
set_same (y ∷ s) (z ∷ t) (suc x) v e = set_same s t x v (omega arith)

-- another variable stays
set_other : (s : State) (y x : ℕ) (v : ℤ) → (x ≡ y → ⊥) → slice_index_or (slice_set s y v) x (pos 0) ≡ slice_index_or s x (pos 0)
set_other [] y x v e = refl
set_other (z ∷ s) zero zero v e = absurd (e refl)
set_other (z ∷ s) zero (suc x) v e = refl
set_other (z ∷ s) (suc y) zero v e = refl
set_other (z ∷ s) (suc y) (suc x) v e = set_other s y x v (λ d. e (ap suc d))

both_set : (s t : State) (y x : ℕ) (v : ℤ) (b : Bool) → (x == y) ≡ b → length s ≡ length t →
    (b ≡ false → slice_index_or s x (pos 0) ≡ slice_index_or t x (pos 0)) →
    slice_index_or (slice_set s y v) x (pos 0) ≡ slice_index_or (slice_set t y v) x (pos 0)
both_set s t y x v true e l h = subst (λ y. slice_index_or (slice_set s y v) x (pos 0) ≡ slice_index_or (slice_set t y v) x (pos 0)) (eqb-true x y e) (set_same s t x v l)
both_set s t y x v false e l h = set_other s y x v (eqb-false x y e) ∙ h refl ∙ sym (set_other t y x v (eqb-false x y e))

-- what was set agrees, and the others did
pub set_agrees : (L : Names) (y : ℕ) (v : ℤ) (s t : State) → Agree (λ x. not (x == y) && L x) s t → Agree L (slice_set s y v) (slice_set t y v)
set_agrees L y v s t a = record {
  lengths = set_length s y v ∙ a.lengths ∙ sym (set_length t y v);
  values = λ x k. both_set s t y x v (x == y) refl a.lengths (λ e. a.values x (right_and (not (x == y)) (L x) (ap not e) k));
}

-- what does not matter may be set on one side alone
pub forgotten_agrees : (L : Names) (y : ℕ) (v : ℤ) (s t : State) → L y ≡ false → Agree L s t → Agree L s (slice_set t y v)
forgotten_agrees L y v s t gone a = record {
  lengths = a.lengths ∙ sym (set_length t y v);
  values = λ x k. a.values x k ∙ sym (set_other t y x v (eqb-false x y (apart x (x == y) refl k)));
}
  where
    apart : (x : ℕ) (b : Bool) → (x == y) ≡ b → L x ≡ true → b ≡ false
    apart x false e k = refl
    apart x true e k = absurd (true≢false (sym k ∙ ap L (eqb-true x y e) ∙ gone))

-- ---- values
then_same : (v w : Value) (f g : ℤ → Value) → v ≡ w → ((z : ℤ) → f z ≡ g z) → (v >>= f) ≡ (w >>= g)
then_same (Ok z) w f g e h = h z ∙ ap (λ u. u >>= g) e
then_same (Err k) w f g e h = ap (λ u. u >>= g) e

if_same : (b : Bool) (u u' v v' : Value) → u ≡ u' → v ≡ v' → ◌≡◌ {A = Value} (if b then u else v) (if b then u' else v')
if_same true u u' v v' e f = e
if_same false u u' v v' e f = f

sides_agree : (op : BinOp) (a b : Expression) (s t : State) → value_of a s ≡ value_of a t → value_of b s ≡ value_of b t → value_of (Bin op a b) s ≡ value_of (Bin op a b) t
sides_agree And a b s t left right = then_same _ _ _ _ left (λ z. if_same (is_zero z) _ _ _ _ refl (then_same _ _ _ _ right (λ y. refl)))
sides_agree Or a b s t left right = then_same _ _ _ _ left (λ z. if_same (is_zero z) _ _ _ _ (then_same _ _ _ _ right (λ y. refl)) refl)
sides_agree Add a b s t left right = then_same _ _ _ _ left (λ z. then_same _ _ _ _ right (λ y. refl))
sides_agree Sub a b s t left right = then_same _ _ _ _ left (λ z. then_same _ _ _ _ right (λ y. refl))
sides_agree Mul a b s t left right = then_same _ _ _ _ left (λ z. then_same _ _ _ _ right (λ y. refl))
sides_agree Div a b s t left right = then_same _ _ _ _ left (λ z. then_same _ _ _ _ right (λ y. refl))
sides_agree Rem a b s t left right = then_same _ _ _ _ left (λ z. then_same _ _ _ _ right (λ y. refl))
sides_agree Eq a b s t left right = then_same _ _ _ _ left (λ z. then_same _ _ _ _ right (λ y. refl))
sides_agree Ne a b s t left right = then_same _ _ _ _ left (λ z. then_same _ _ _ _ right (λ y. refl))
sides_agree Lt a b s t left right = then_same _ _ _ _ left (λ z. then_same _ _ _ _ right (λ y. refl))
sides_agree Le a b s t left right = then_same _ _ _ _ left (λ z. then_same _ _ _ _ right (λ y. refl))
sides_agree Gt a b s t left right = then_same _ _ _ _ left (λ z. then_same _ _ _ _ right (λ y. refl))
sides_agree Ge a b s t left right = then_same _ _ _ _ left (λ z. then_same _ _ _ _ right (λ y. refl))

module _ (s t : State) where
  pub values_agree : (e : Expression) → ((x : ℕ) → reads x e ≡ true → slice_index_or s x (pos 0) ≡ slice_index_or t x (pos 0)) → value_of e s ≡ value_of e t
  values_agree (Num z) h = refl
  values_agree (Truth b) h = refl
  values_agree (Var y) h = ap Ok (h y (eq-eqb y y refl))
  values_agree (Neg a) h = then_same _ _ _ _ (values_agree a h) (λ z. refl)
  values_agree (Not a) h = then_same _ _ _ _ (values_agree a h) (λ z. refl)
  values_agree (Bin op a b) h = sides_agree op a b s t (values_agree a (λ x k. h x (left_or (reads x a) (reads x b) k))) (values_agree b (λ x k. h x (right_or (reads x a) (reads x b) k)))

-- where the variables agree that an expression reads
pub value_agrees : (L : Names) (e : Expression) (s t : State) → ((x : ℕ) → reads x e ≡ true → L x ≡ true) → Agree L s t → value_of e s ≡ value_of e t
value_agrees L e s t h a = values_agree s t e (λ x k. a.values x (h x k))
