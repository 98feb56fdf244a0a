-- Weights over a common multiple of their denominators, at a modulus where these have inverses, and their residues.
use Rattle.std.specs.Prelude.{◌≡◌, ℕ, ◌*◌, ◌/◌, ◌+◌, ◌^◌, ◌<◌, List, map, Contains}
use Rattle.numbers.specs.Fraction.{Fraction}
use Rattle.narrow_fractions.specs.Remainders.{Same}
use Rattle.visit_finder.specs.declared.residues.Residues.{Residues}
use Rattle.visit_finder.specs.Places.{form_at}
use Rattle.visit_finder.specs.Equations.{entered_at, led_at}
use Rattle.visit_finder.specs.Exact.{Turn, Entry, turns_within, entered, led}

abbrev pub HasInverse : ℕ → ℕ → Type 0
HasInverse m n = (u : ℕ) × Same m (u * n) 1

abbrev pub HaveInverses : ℕ → List Fraction → Type 0
HaveInverses m fs = (f : Fraction) → Contains fs f → HasInverse m f.1

-- a multiple of each denominator
abbrev pub IsMultiple : ℕ → List Fraction → Type 0
IsMultiple whole fs = (f : Fraction) → Contains fs f → f.1 * (whole / f.1) ≡ whole

abbrev pub turn_weights : List Turn → List Fraction
turn_weights turns = map (λ e. e.2) turns

abbrev pub entry_weights : List Entry → List Fraction
entry_weights entries = map (λ e. e.1) entries

-- parts at a place are those of turns
pub record AreOfTurns (m place : ℕ) (turns : List Turn) (parts : List ((ℕ × ℕ) × Residues)) : Type 0 where
  pub inverses : HaveInverses m (turn_weights turns)
  pub leads : (whole : ℕ) → IsMultiple whole (turn_weights turns) → (v : ℕ → ℕ) (s : ℕ) → Same m (2 ^ 64 * led whole turns v s) (whole * led_at place parts v s)

-- what a loop is entered with at a place is that of entries
pub record AreOfEntries (m place : ℕ) (entries : List Entry) (begun : List (ℕ × Residues)) : Type 0 where
  pub inverses : HaveInverses m (entry_weights entries)
  pub enters : (whole : ℕ) → IsMultiple whole (entry_weights entries) → (s : ℕ) → Same m (2 ^ 64 * entered whole entries s) (whole * entered_at place begun s)

-- the visits v of a state are what the loop is entered with, `once` for each whole, and what turns lead to it
abbrev pub BalanceAt : ℕ → ℕ → List (ℕ × Residues) → List Turn → ℕ → ℕ → (ℕ → ℕ) → ℕ → Type 0
BalanceAt m place begun turns whole once v s = Same m (2 ^ 64 * (whole * v s)) (whole * (entered_at place begun s * once) + 2 ^ 64 * led whole turns v s)

-- whatever visits balance in all states with turns within them are, in each, `once` times what was found of it, in forms below the modulus
pub record AreVisits (m place : ℕ) (states : List ℕ) (turns : List Turn) (begun found : List (ℕ × Residues)) : Type 0 where
  pub inverses : HaveInverses m (turn_weights (turns_within states turns))
  pub known : (whole : ℕ) → IsMultiple whole (turn_weights (turns_within states turns)) → HasInverse m whole → (once : ℕ) (v : ℕ → ℕ) →
      ((s : ℕ) → Contains states s → BalanceAt m place begun (turns_within states turns) whole once v s) → (s : ℕ) → Contains states s →
      (r : Residues) × Contains found (s, r) × Same m (2 ^ 64 * v s) (once * form_at place r)
  pub below : (s : ℕ) (r : Residues) → Contains found (s, r) → form_at place r < m
