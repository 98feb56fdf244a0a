-- The value of an expression in a state, or the first fault: numbers of 64 bits, where a result outside them is a fault.
-- The expressions are those of cpGCL; the width, the faults and the order of evaluation are this project's own rule.
use Rattle.std.specs.Prelude.{zero, ◌^◌, ℤ, pos, negsuc, ◌+ℤ◌, ◌-ℤ◌, ◌*ℤ◌, neg_ℤ, Bool, true, false, not, ◌&&◌, ◌||◌, List, Result, Ok, Err, nat_lt, if◌then◌else◌, slice_index_or, int_lt, int_le, int_div, int_rem}
use Rattle.std.specs.Ordering.{int_eq}
use Rattle.gcl_core.specs.declared.syntax.BinOp.{BinOp}
use Rattle.gcl_core.specs.declared.syntax.BinOp.TheVariants.{Add, Sub, Mul, Div, Rem, Eq, Ne, Lt, Le, Gt, Ge, And, Or}
use Rattle.gcl_core.specs.declared.answers.Fault.{Fault}
use Rattle.gcl_core.specs.declared.answers.Fault.TheVariants.{Overflow, ZeroDivisor}
use Rattle.gcl_core.specs.meaning.Syntax.{Expression, Num, Truth, Var, Neg, Not, Bin}

-- A number for each name. A variable beyond the state would read as 0: that of a checked program lies below the count of the
-- names, and the numbers of its runs have 64 bits.
abbrev pub State : Type 0
State = List ℤ

abbrev pub Value : Type 0
Value = Result ℤ Fault

-- the first fault is the result
infixl 10 ◌>>=◌
abbrev pub ◌>>=◌ : Value → (ℤ → Value) → Value
(Ok x) >>= go = go x
(Err fault) >>= go = Err fault

-- a truth is the number 1 or 0
abbrev pub truth_number : Bool → ℤ
truth_number true = pos 1
truth_number false = pos 0

abbrev pub is_zero : ℤ → Bool
is_zero (pos zero) = true
is_zero _ = false

abbrev pub fits_64 : ℤ → Bool
fits_64 (pos n) = nat_lt n (2 ^ 63)
fits_64 (negsuc n) = nat_lt n (2 ^ 63)

-- the number, or overflow
abbrev pub within_64 : ℤ → Value
within_64 z = if fits_64 z then Ok z else Err Overflow

-- The quotient is cut towards 0, and the remainder has the dividend's sign. Both overflow where the quotient does.
abbrev pub quotient_of : ℤ → ℤ → Value
quotient_of x y = if is_zero y then Err ZeroDivisor else within_64 (int_div x y)

abbrev pub remainder_of : ℤ → ℤ → Value
remainder_of x y = quotient_of x y >>= λ _. Ok (int_rem x y)

-- An operator on the values of its two sides.
abbrev pub applied : BinOp → ℤ → ℤ → Value
applied Add x y = within_64 (x +ℤ y)
applied Sub x y = within_64 (x -ℤ y)
applied Mul x y = within_64 (x *ℤ y)
applied Div x y = quotient_of x y
applied Rem x y = remainder_of x y
applied Eq x y = Ok (truth_number (int_eq x y))
applied Ne x y = Ok (truth_number (not (int_eq x y)))
applied Lt x y = Ok (truth_number (int_lt x y))
applied Le x y = Ok (truth_number (int_le x y))
applied Gt x y = Ok (truth_number (int_lt y x))
applied Ge x y = Ok (truth_number (int_le y x))
applied And x y = Ok (truth_number (not (is_zero x) && not (is_zero y)))
applied Or x y = Ok (truth_number (not (is_zero x) || not (is_zero y)))

-- The left side is evaluated first. Where it settles `and` or `or`, the right side is not evaluated, and none of its faults
-- counts.
abbrev pub value_of : Expression → State → Value
value_of (Num z) s = Ok z
value_of (Truth b) s = Ok (truth_number b)
value_of (Var x) s = Ok (slice_index_or s x (pos 0))
value_of (Neg a) s = value_of a s >>= λ x. within_64 (neg_ℤ x)
value_of (Not a) s = value_of a s >>= λ x. Ok (truth_number (is_zero x))
value_of (Bin And a b) s = value_of a s >>= λ x. if is_zero x then Ok (pos 0) else (value_of b s >>= λ y. applied And x y)
value_of (Bin Or a b) s = value_of a s >>= λ x. if is_zero x then (value_of b s >>= λ y. applied Or x y) else Ok (pos 1)
value_of (Bin op a b) s = value_of a s >>= λ x. value_of b s >>= λ y. applied op x y
