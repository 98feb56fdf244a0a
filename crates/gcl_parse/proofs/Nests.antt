-- The nesting rule, one token on.
use Rattle.std.proofs.Common.{◌≡◌, ℕ, ◌<◌, ◌≤◌, ◌+◌, refl, ap, arith, true, false, List, [], ◌∷◌, length, drop, get_or, drop-cons, add-one, Option, Some, None, option_map, ◌⊎◌}
use Rattle.std.specs.Prelude.{nat_lt, ◌||◌}
use Rattle.std.proofs.lemmas.Bool.Decides.{nat_tests}
use Rattle.gcl_core.specs.declared.tokens.Token.{Token}
use Rattle.gcl_core.specs.text.Words.{kinds_of}
use Rattle.gcl_core.specs.text.Nesting.{breaks_from, level_behind, count_behind}
use Rattle.gcl_core.specs.declared.rules.TheConstants.{DEEPEST_NESTING, MOST_OPERATORS}

pub next : (ts : List Token) (i : ℕ) (d : Token) → i < length ts → drop i ts ≡ get_or ts i d ∷ drop (i + 1) ts
next ts i d h = rw (add-one, drop-cons ts i d)

test_true : (a b : ℕ) → (DEEPEST_NESTING < a) ⊎ (MOST_OPERATORS < b) → (nat_lt DEEPEST_NESTING a || nat_lt MOST_OPERATORS b) ≡ true
test_true a b h = grind (arith, nat_tests)

pub test_false : (a b : ℕ) → a ≤ DEEPEST_NESTING → b ≤ MOST_OPERATORS → (nat_lt DEEPEST_NESTING a || nat_lt MOST_OPERATORS b) ≡ false
test_false a b h k = grind (arith, nat_tests)

pub broken : (ts : List Token) (i : ℕ) (d : Token) (n c a b : ℕ) → i < length ts → a ≡ level_behind (get_or ts i d).kind n → b ≡ count_behind (get_or ts i d).kind c → (DEEPEST_NESTING < a) ⊎ (MOST_OPERATORS < b)
    → breaks_from n c (kinds_of (drop i ts)) ≡ Some 0
unfolding breaks_from
broken ts i d n c a b h e f t = let q = test_true a b t in rw (next ts i d h, ← e, ← f, q)

pub goes : (ts : List Token) (i : ℕ) (d : Token) (n c a b : ℕ) → i < length ts → a ≡ level_behind (get_or ts i d).kind n → b ≡ count_behind (get_or ts i d).kind c → a ≤ DEEPEST_NESTING → b ≤ MOST_OPERATORS
    → breaks_from n c (kinds_of (drop i ts)) ≡ option_map (λ j. j + 1) (breaks_from a b (kinds_of (drop (i + 1) ts)))
unfolding breaks_from
goes ts i d n c a b h e f k l = let q = test_false a b k l in rw (next ts i d h, ← e, ← f, q)

pub some_mapped : (i : ℕ) (o : Option ℕ) → o ≡ Some 0 → option_map (λ j. j + i) o ≡ Some i
some_mapped i o h = rw h (ap Some (omega arith))

pub mapped : (i : ℕ) (o p : Option ℕ) → o ≡ option_map (λ j. j + 1) p → option_map (λ j. j + i) o ≡ option_map (λ j. j + (i + 1)) p
mapped i o p h = rw h (go p)
  where
    go : (p : Option ℕ) → option_map (λ j. j + i) (option_map (λ j. j + 1) p) ≡ option_map (λ j. j + (i + 1)) p
    go None = refl
    go (Some x) = ap Some (omega arith)

pub none_mapped : (i n c : ℕ) (ts : List Token) → ts ≡ [] → option_map (λ j. j + i) (breaks_from n c (kinds_of ts)) ≡ None
unfolding breaks_from
none_mapped i n c ts h = rw h
