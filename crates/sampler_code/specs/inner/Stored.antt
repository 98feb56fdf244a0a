-- Expressions as lists of numbers, from which they are read back: by this a proof tells them apart.
use Rattle.std.proofs.Common.{ap, ◌∙◌}
use Rattle.std.specs.Prelude.{◌≡◌, refl, ℕ, zero, suc, ℤ, pos, negsuc, Bool, true, false, List, [], ◌∷◌, slice_index_or}
use Rattle.std.specs.Coded.{Coded, code_by, coded×, coded_ℕ, coded_ℤ, coded_list}
use Rattle.gcl_core.specs.declared.syntax.BinOp.{BinOp}
use Rattle.gcl_core.specs.declared.syntax.BinOp.TheVariants.{Add, Sub, Mul, Div, Rem, Eq, Ne, Lt, Le, Gt, Ge, And, Or}
use Rattle.gcl_core.specs.meaning.Syntax.{Expression, Num, Truth, Var, Neg, Not, Bin}
use Rattle.gcl_core.specs.meaning.Value.{truth_number}

abbrev operator_number : BinOp → ℕ
operator_number Add = 0
operator_number Sub = 1
operator_number Mul = 2
operator_number Div = 3
operator_number Rem = 4
operator_number Eq = 5
operator_number Ne = 6
operator_number Lt = 7
operator_number Le = 8
operator_number Gt = 9
operator_number Ge = 10
operator_number And = 11
operator_number Or = 12

abbrev operator_of : ℤ → BinOp
operator_of (pos n) =
    slice_index_or (Add ∷ (Sub ∷ (Mul ∷ (Div ∷ (Rem ∷ (Eq ∷ (Ne ∷ (Lt ∷ (Le ∷ (Gt ∷ (Ge ∷ (And ∷ (Or ∷ []))))))))))))) n Add
operator_of (negsuc n) = Add

-- a form, and a number that goes with it
abbrev Mark : Type 0
Mark = ℕ × ℤ

-- the marks of an expression, operands first, before further marks
abbrev marks : Expression → List Mark → List Mark
marks (Num z) rest = (0, z) ∷ rest
marks (Truth b) rest = (1, truth_number b) ∷ rest
marks (Var x) rest = (2, pos x) ∷ rest
marks (Neg a) rest = marks a ((3, pos 0) ∷ rest)
marks (Not a) rest = marks a ((4, pos 0) ∷ rest)
marks (Bin op a b) rest = marks a (marks b ((5, pos (operator_number op)) ∷ rest))

abbrev is_one : ℤ → Bool
is_one (pos zero) = false
is_one (pos (suc n)) = true
is_one (negsuc n) = true

abbrev with_one : (Expression → Expression) → List Expression → List Expression
with_one f [] = []
with_one f (a ∷ s) = f a ∷ s

abbrev with_two : (Expression → Expression → Expression) → List Expression → List Expression
with_two f [] = []
with_two f (b ∷ []) = []
with_two f (b ∷ (a ∷ s)) = f a b ∷ s

-- a mark on a stack
abbrev push : ℕ → ℤ → List Expression → List Expression
push zero z s = Num z ∷ s
push (suc zero) z s = Truth (is_one z) ∷ s
push (suc (suc zero)) (pos x) s = Var x ∷ s
push (suc (suc zero)) (negsuc x) s = s
push (suc (suc (suc zero))) z s = with_one Neg s
push (suc (suc (suc (suc zero)))) z s = with_one Not s
push (suc (suc (suc (suc (suc n))))) z s = with_two (Bin (operator_of z)) s

abbrev read : List Mark → List Expression → List Expression
read [] s = s
read (m ∷ ms) s = read ms (push m.0 m.1 s)

abbrev first : List Expression → Expression
first [] = Truth false
first (e ∷ s) = e

operator_back : (op : BinOp) → operator_of (pos (operator_number op)) ≡ op
operator_back Add = refl
operator_back Sub = refl
operator_back Mul = refl
operator_back Div = refl
operator_back Rem = refl
operator_back Eq = refl
operator_back Ne = refl
operator_back Lt = refl
operator_back Le = refl
operator_back Gt = refl
operator_back Ge = refl
operator_back And = refl
operator_back Or = refl

truth_back : (b : Bool) → is_one (truth_number b) ≡ b
truth_back true = refl
truth_back false = refl

pub read_back : (e : Expression) (rest : List Mark) (s : List Expression) → read (marks e rest) s ≡ read rest (e ∷ s)
read_back (Num z) rest s = refl
read_back (Truth b) rest s = ap (λ c. read rest (Truth c ∷ s)) (truth_back b)
read_back (Var x) rest s = refl
read_back (Neg a) rest s = read_back a ((3, pos 0) ∷ rest) s
read_back (Not a) rest s = read_back a ((4, pos 0) ∷ rest) s
read_back (Bin op a b) rest s =
    read_back a (marks b ((5, pos (operator_number op)) ∷ rest)) s ∙ read_back b ((5, pos (operator_number op)) ∷ rest) (a ∷ s)
    ∙ ap (λ o. read rest (Bin o a b ∷ s)) (operator_back op)

abbrev pub expression_code : Coded Expression
expression_code =
    code_by (List Mark) (coded_list (coded× coded_ℕ coded_ℤ))
    (λ e. marks e []) (λ ms. first (read ms [])) (λ e. ap first (read_back e [] []))
