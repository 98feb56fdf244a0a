-- Visits of the states of a loop that balance exactly: numerators over one denominator, where the weights of turns, and those that the loop is
-- entered with, are over another.
use Rattle.std.specs.Prelude.{◌≡◌, ℕ, ◌+◌, ◌*◌, ◌/◌, ◌^◌, ◌≤◌, ◌<◌, ◌==◌, if◌then◌else◌, Bool, ◌&&◌, List, [], ◌∷◌, ◌++◌, map, Contains}
use Rattle.std.specs.List.{filter, list_any}
use Rattle.numbers.specs.Fraction.{Fraction}

-- a turn from one state to another, with its weight; and a state in which the loop is entered, with its weight
abbrev pub Turn : Type 0
Turn = ℕ × ℕ × Fraction

abbrev pub Entry : Type 0
Entry = ℕ × Fraction

abbrev pub is_in : List ℕ → ℕ → Bool
is_in states s = list_any (λ t. t == s) states

-- ---- what stands within some states

abbrev pub turns_within : List ℕ → List Turn → List Turn
turns_within states turns = filter (λ e. is_in states e.0 && is_in states e.1) turns

abbrev pub entries_within : List ℕ → List Entry → List Entry
entries_within states entries = filter (λ e. is_in states e.0) entries

-- ---- over a common denominator

abbrev pub common : List Fraction → ℕ
common [] = 1
common (f ∷ fs) = f.1 * common fs

abbrev pub part : ℕ → Fraction → ℕ
part whole f = f.0 * (whole / f.1)

abbrev pub common_of : List Turn → List Entry → ℕ
common_of turns entries = common (map (λ e. e.2) turns ++ map (λ e. e.1) entries)

-- what the loop is entered with in a state, and what turns lead to it, by the visits of each
abbrev pub entered : ℕ → List Entry → ℕ → ℕ
entered whole [] s = 0
entered whole (e ∷ es) s = (if e.0 == s then part whole e.1 else 0) + entered whole es s

abbrev pub led : ℕ → List Turn → (ℕ → ℕ) → ℕ → ℕ
led whole [] v s = 0
led whole (e ∷ es) v s = (if e.1 == s then part whole e.2 * v e.0 else 0) + led whole es v s

-- ---- what balances

-- the visits of each of these states, v over `once`, are what the loop is entered with in it, and what turns within the states lead to it
abbrev pub BalanceExactly : List ℕ → List Turn → List Entry → ℕ → (ℕ → ℕ) → Type 0
BalanceExactly states turns entries once v =
    let inner = turns_within states turns in
    let begun = entries_within states entries in
    let whole = common_of inner begun in
    (s : ℕ) → Contains states s → whole * v s ≡ entered whole begun s * once + led whole inner v s

-- no turn leads to one of these states but from one of them
abbrev pub AreClosed : List ℕ → List Turn → Type 0
AreClosed states turns = (t s : ℕ) (f : Fraction) → Contains turns (t, s, f) → Contains states s → Contains states t

-- whatever visits balance, where those of a state are a fraction of two numbers below 2 ^ 128, it is equal to this one
abbrev pub IsOnly : List ℕ → List Turn → List Entry → ℕ → Fraction → Type 0
IsOnly states turns entries s f =
    (once : ℕ) (v : ℕ → ℕ) → 1 ≤ once → BalanceExactly states turns entries once v →
    (num den : ℕ) → 1 ≤ den → den < 2 ^ 128 → num < 2 ^ 128 → den * v s ≡ once * num → den * f.0 ≡ f.1 * num

-- what is found of some states is the only narrow visits of each
pub record AreOnly (turns : List Turn) (entries : List Entry) (found : List (ℕ × Fraction)) : Type 0 where
  pub closed : AreClosed (map (λ e. e.0) found) turns
  pub only : (s : ℕ) (f : Fraction) → Contains found (s, f) → IsOnly (map (λ e. e.0) found) turns entries s f

-- some state has no visits of two numbers below 2 ^ 128, whatever visits balance
pub record HaveNone (turns : List Turn) (entries : List Entry) : Type 0 where
  pub states : List ℕ
  pub closed : AreClosed states turns
  pub state : ℕ
  pub among : Contains states state
  pub none : (once : ℕ) (v : ℕ → ℕ) → 1 ≤ once → BalanceExactly states turns entries once v →
      (num den : ℕ) → 1 ≤ den → den < 2 ^ 128 → num < 2 ^ 128 → den * v state ≡ once * num → ⊥
