-- Numbers of 64 bits stay numbers of 64 bits: in states, and in the values of expressions.
use Rattle.std.proofs.Common.{◌≡◌, ◌↔◌, ℕ, zero, suc, ◌^◌, ◌≤◌, ◌<◌, ℤ, pos, negsuc, ◌+ℤ◌, ◌-ℤ◌, ◌*ℤ◌, neg_ℤ, Bool, true, false, ◌&&◌, ◌||◌, Ok, Err, [], ◌∷◌, refl, subst, arith, true≢false}
use Rattle.std.specs.Prelude.{if◌then◌else◌, FitsSigned, slice_index_or, slice_set, not, int_rem, int_div, int_lt, int_le, unsigned_abs}
use Rattle.std.specs.Int.{w64}
use Rattle.std.specs.Ordering.{int_eq}
use Rattle.std.proofs.lemmas.Bool.{ltb-true, lt-ltb}
use Rattle.std.proofs.lemmas.Int.{rem_below}
use Rattle.gcl_core.specs.declared.syntax.BinOp.{BinOp}
use Rattle.gcl_core.specs.declared.syntax.BinOp.TheVariants.{Add, Sub, Mul, Div, Rem, Eq, Ne, Lt, Le, Gt, Ge, And, Or}
use Rattle.gcl_core.specs.declared.answers.Fault.TheVariants.{Overflow, ZeroDivisor}
use Rattle.gcl_core.specs.meaning.Blocks.{End, on, failed, fault, limit}
use Rattle.gcl_core.specs.meaning.Bounds.{ExpressionFits}
use Rattle.gcl_core.specs.meaning.Fitting.{state_fits}
use Rattle.gcl_core.specs.meaning.Outcomes.{zeros}
use Rattle.gcl_core.specs.meaning.Syntax.{Expression, Num, Truth, Var, Neg, Not, Bin}
use Rattle.gcl_core.specs.meaning.Value.{State, Value, value_of, ◌>>=◌, fits_64, within_64, truth_number, is_zero, quotient_of, applied}
use Rattle.gcl_core.proofs.Booleans.{both}

-- ---- numbers

signed : (z : ℤ) → fits_64 z ≡ true → FitsSigned w64 z
signed (pos n) e = record { sfits = ltb-true _ _ e }
signed (negsuc n) e = record { sfits = ltb-true _ _ e }

fits_back : (z : ℤ) → FitsSigned w64 z → fits_64 z ≡ true
fits_back (pos n) h = lt-ltb _ _ h.sfits
fits_back (negsuc n) h = lt-ltb _ _ h.sfits

pub signed_64 : (z : ℤ) → (fits_64 z ≡ true) ↔ FitsSigned w64 z
signed_64 z = (signed z, fits_back z)

-- a number below a bound of 63 bits
pub number_fits : (i b : ℕ) → i < b → b < 2 ^ 63 → fits_64 (pos i) ≡ true
number_fits i b lt h = lt-ltb i (2 ^ 63) (omega arith)

-- ---- states

true_both : (a b : Bool) → a ≡ true → b ≡ true → (a && b) ≡ true
true_both a b p q = rw (p, q) refl

pub zeros_fit : (n : ℕ) → state_fits (zeros n) ≡ true
zeros_fit zero = refl
zeros_fit (suc n) = zeros_fit n

-- an end in such a state, or in none
abbrev pub end_fits : End → Bool
end_fits (on s) = state_fits s
end_fits failed = true
end_fits (fault f) = true
end_fits (limit l) = true

variable_fits : (s : State) (x : ℕ) → state_fits s ≡ true → fits_64 (slice_index_or s x (pos 0)) ≡ true
variable_fits [] x h = refl
variable_fits (z ∷ s) zero h = (both (fits_64 z) (state_fits s) h).0
variable_fits (z ∷ s) (suc x) h = variable_fits s x (both (fits_64 z) (state_fits s) h).1

pub set_fits : (s : State) (x : ℕ) (v : ℤ) → state_fits s ≡ true → fits_64 v ≡ true → state_fits (slice_set s x v) ≡ true
set_fits [] x v h k = refl
set_fits (z ∷ s) zero v h k = true_both (fits_64 v) (state_fits s) k (both (fits_64 z) (state_fits s) h).1
set_fits (z ∷ s) (suc x) v h k =
    let p = both (fits_64 z) (state_fits s) h in
    true_both (fits_64 z) (state_fits (slice_set s x v)) p.0 (set_fits s x v p.1 k)

-- ---- values

abbrev pub ValueFits : Value → Type 0
ValueFits (Ok v) = fits_64 v ≡ true
ValueFits (Err f) = Unit {0}

then_fits : (x : Value) (go : ℤ → Value) → ValueFits x → ((v : ℤ) → fits_64 v ≡ true → ValueFits (go v)) → ValueFits (x >>= go)
then_fits (Ok v) go h next = next v h
then_fits (Err f) go h next = tt

if_within : (b : Bool) (z : ℤ) → fits_64 z ≡ b → ValueFits (if b then Ok z else Err Overflow)
if_within true z e = e
if_within false z e = tt

within_fits : (z : ℤ) → ValueFits (within_64 z)
within_fits z = if_within (fits_64 z) z refl

if_fits : (b : Bool) (x y : Value) → (b ≡ true → ValueFits x) → (b ≡ false → ValueFits y) → ValueFits (if b then x else y)
if_fits true x y h i = h refl
if_fits false x y h i = i refl

truth_fits : (b : Bool) → fits_64 (truth_number b) ≡ true
truth_fits true = refl
truth_fits false = refl

abs_small : (z : ℤ) → fits_64 z ≡ true → unsigned_abs z ≤ 2 ^ 63
abs_small (pos n) h = let lt = ltb-true n (2 ^ 63) h in omega arith
abs_small (negsuc n) h = let lt = ltb-true n (2 ^ 63) h in omega arith

small_fits : (z : ℤ) → unsigned_abs z < 2 ^ 63 → fits_64 z ≡ true
small_fits (pos n) h = lt-ltb n (2 ^ 63) h
small_fits (negsuc n) h = lt-ltb n (2 ^ 63) (omega arith)

some_abs : (z : ℤ) → is_zero z ≡ false → 0 < unsigned_abs z
some_abs (pos zero) e = absurd (true≢false e)
some_abs (pos (suc n)) e = omega arith
some_abs (negsuc n) e = omega arith

-- a remainder is smaller than the divisor
rem_fits : (x y : ℤ) → fits_64 y ≡ true → is_zero y ≡ false → fits_64 (int_rem x y) ≡ true
rem_fits x y h e = let lt = rem_below x y (some_abs y e) in let le = abs_small y h in small_fits (int_rem x y) (omega arith)

quotient_fits : (x y : ℤ) → ValueFits (quotient_of x y)
quotient_fits x y = if_fits (is_zero y) (Err ZeroDivisor) (within_64 (int_div x y)) (λ e. tt) (λ e. within_fits (int_div x y))

remainder_fits : (b : Bool) (x y : ℤ) (q : Value) → is_zero y ≡ b → fits_64 y ≡ true → ValueFits q →
    ValueFits ((if b then Err ZeroDivisor else q) >>= λ _. Ok (int_rem x y))
remainder_fits true x y q e h fit = tt
remainder_fits false x y q e h fit = then_fits q (λ _. Ok (int_rem x y)) fit (λ v _. rem_fits x y h e)

applied_fits : (op : BinOp) (x y : ℤ) → fits_64 y ≡ true → ValueFits (applied op x y)
applied_fits Add x y h = within_fits (x +ℤ y)
applied_fits Sub x y h = within_fits (x -ℤ y)
applied_fits Mul x y h = within_fits (x *ℤ y)
applied_fits Div x y h = quotient_fits x y
applied_fits Rem x y h = remainder_fits (is_zero y) x y (within_64 (int_div x y)) refl h (within_fits (int_div x y))
applied_fits Eq x y h = truth_fits (int_eq x y)
applied_fits Ne x y h = truth_fits (not (int_eq x y))
applied_fits Lt x y h = truth_fits (int_lt x y)
applied_fits Le x y h = truth_fits (int_le x y)
applied_fits Gt x y h = truth_fits (int_lt y x)
applied_fits Ge x y h = truth_fits (int_le y x)
applied_fits And x y h = truth_fits (not (is_zero x) && not (is_zero y))
applied_fits Or x y h = truth_fits (not (is_zero x) || not (is_zero y))

right_fits : (op : BinOp) (x : ℤ) (v : Value) → ValueFits v → ValueFits (v >>= λ y. applied op x y)
right_fits op x v h = then_fits v _ h (λ y fy. applied_fits op x y fy)

pub each_value_fits : (e : Expression) (s : State) → ExpressionFits e → state_fits s ≡ true → ValueFits (value_of e s)
each_value_fits (Num z) s fit h = fit
each_value_fits (Truth b) s fit h = truth_fits b
each_value_fits (Var x) s fit h = variable_fits s x h
each_value_fits (Neg a) s fit h = then_fits (value_of a s) _ (each_value_fits a s fit h) (λ v _. within_fits (neg_ℤ v))
each_value_fits (Not a) s fit h = then_fits (value_of a s) _ (each_value_fits a s fit h) (λ v _. truth_fits (is_zero v))
each_value_fits (Bin And a b) s fit h =
    then_fits (value_of a s) _ (each_value_fits a s fit.0 h) (λ x _. if_fits (is_zero x) (Ok (pos 0)) _ (λ _. refl) (λ _. right_fits And x (value_of b s) (each_value_fits b s fit.1 h)))
each_value_fits (Bin Or a b) s fit h =
    then_fits (value_of a s) _ (each_value_fits a s fit.0 h) (λ x _. if_fits (is_zero x) _ (Ok (pos 1)) (λ _. right_fits Or x (value_of b s) (each_value_fits b s fit.1 h)) (λ _. refl))
each_value_fits (Bin op a b) s fit h =
    then_fits (value_of a s) _ (each_value_fits a s fit.0 h) (λ x _. right_fits op x (value_of b s) (each_value_fits b s fit.1 h))

pub value_fits : (e : Expression) (s : State) (v : ℤ) → ExpressionFits e → state_fits s ≡ true → value_of e s ≡ Ok v → fits_64 v ≡ true
value_fits e s v fit h is = subst ValueFits is (each_value_fits e s fit h)
