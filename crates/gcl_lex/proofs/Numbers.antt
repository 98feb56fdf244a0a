-- The value of digits.
use Rattle.std.proofs.Common.{◌≡◌, ℕ, suc, ◌<◌, ◌≤◌, ◌+◌, ◌-◌, ◌*◌, ◌^◌, refl, arith, Bool, true, false, ◌&&◌, nat_le, List, [], ◌∷◌, length, drop, get_or, None}
use Rattle.std.specs.List.{list_all}
use Rattle.std.proofs.Math.Seq.{drop-cons}
use Rattle.std.proofs.lemmas.Bool.Decides.{nat_tests}
use Rattle.std.specs.Char.{digit_value}
use Rattle.std.specs.Str.Parse.{digits_value, digits_value_after}
use Rattle.gcl_core.specs.declared.rules.TheConstants.{GREATEST_LITERAL}
use Rattle.gcl_core.specs.declared.tokens.PieceKind.TheVariants as kind
use Rattle.gcl_core.specs.text.Pieces.{is_digit, is_piece}
use Rattle.gcl_lex.specs.inner.Reads.{number_of_digits}

pub digit_value_is : (b : ℕ) → is_digit b ≡ true → digit_value b ≡ b - 48
digit_value_is b h = grind (arith, nat_tests)

pub number_digits : (bs : List ℕ) → is_piece kind.Number bs ≡ true → list_all is_digit bs ≡ true
unfolding is_piece
number_digits [] h = refl
number_digits (b ∷ bs) h = h

-- digits without a number are too wide
pub wide : (ds : List ℕ) → number_of_digits ds ≡ None → GREATEST_LITERAL < digits_value 10 ds
wide ds h = go (nat_le (digits_value 10 ds) GREATEST_LITERAL) refl
  where
    go : (b : Bool) → nat_le (digits_value 10 ds) GREATEST_LITERAL ≡ b → GREATEST_LITERAL < digits_value 10 ds
    go true e = absurd (let f = rw e at h in cc)
    go false e = grind (arith, nat_tests)

-- more digits make no smaller number
pub at_least : (n : ℕ) (ds : List ℕ) → n ≤ digits_value_after 10 n ds
at_least n [] = omega arith
at_least n (d ∷ ds) = let i = at_least (n * 10 + digit_value d) ds in omega (arith, i)

first_passes : (d : ℕ) (ds : List ℕ) → list_all is_digit (d ∷ ds) ≡ true → is_digit d ≡ true
first_passes d ds h = go (is_digit d) h
  where
    go : (b : Bool) → (b && list_all is_digit ds) ≡ true → b ≡ true
    go true h = refl
    go false h = cc

too_wide : (ds : List ℕ) → GREATEST_LITERAL < digits_value 10 ds → number_of_digits ds ≡ None
too_wide ds h = let n : nat_le (digits_value 10 ds) GREATEST_LITERAL ≡ false = grind (arith, nat_tests) in rw n

-- the value grows past 64 bits at the digit at place i
pub grows_wide : (ds : List ℕ) (v i : ℕ) → i < length ds → digits_value 10 ds ≡ digits_value_after 10 v (drop i ds) → list_all is_digit (drop i ds) ≡ true
    → 2 ^ 64 ≤ v * 10 + (get_or ds i 0 - 48) → number_of_digits ds ≡ None
grows_wide ds v i h e p w =
    let d = get_or ds i 0 in
    let q : list_all is_digit (d ∷ drop (suc i) ds) ≡ true = rw (drop-cons ds i 0) at p in
    let s : digits_value 10 ds ≡ digits_value_after 10 (v * 10 + digit_value d) (drop (suc i) ds) = rw (drop-cons ds i 0) at e in
    let a = at_least (v * 10 + digit_value d) (drop (suc i) ds) in
    let f = digit_value_is d (first_passes d (drop (suc i) ds) q) in
    too_wide ds (omega (arith, s, a, f, w))
