-- The equations of the visits of a loop at one modulus, over residues in Montgomery's form: a form is 2 ^ 64 times what it is of.
use Rattle.std.specs.Prelude.{ℕ, ◌+◌, ◌*◌, ◌^◌, ◌==◌, if◌then◌else◌, List, [], ◌∷◌, Contains}
use Rattle.narrow_fractions.specs.Remainders.{Same}
use Rattle.visit_finder.specs.declared.residues.Moduli.{Moduli}
use Rattle.visit_finder.specs.declared.residues.Residues.{Residues}
use Rattle.visit_finder.specs.Places.{modulus, form_at, AreForms}

-- each is below the moduli
abbrev pub AllForms : {K : Type 0} → Moduli → List (K × Residues) → Type 0
AllForms {K} moduli es = (k : K) (r : Residues) → Contains es (k, r) → AreForms moduli r

-- with what a loop is entered in a state
abbrev pub entered_at : ℕ → List (ℕ × Residues) → ℕ → ℕ
entered_at place [] s = 0
entered_at place (e ∷ es) s = (if e.0 == s then form_at place e.1 else 0) + entered_at place es s

-- what parts of turns, each from one state to another, lead to a state, by the visits of each
abbrev pub led_at : ℕ → List ((ℕ × ℕ) × Residues) → (ℕ → ℕ) → ℕ → ℕ
led_at place [] v s = 0
led_at place (e ∷ es) v s = (if e.0.1 == s then form_at place e.1 * v e.0.0 else 0) + led_at place es v s

-- the visits v of a state are what the loop is entered with, `once` for each whole, and what turns lead to it
abbrev pub Balances : ℕ → ℕ → List (ℕ × Residues) → List ((ℕ × ℕ) × Residues) → ℕ → (ℕ → ℕ) → ℕ → Type 0
Balances m place entered parts once v s = Same m (2 ^ 64 * v s) (entered_at place entered s * once + led_at place parts v s)

-- At a place, whatever visits balance in all states are, in each, `once` times what was found of it.
abbrev pub AreKnown : Moduli → ℕ → List (ℕ × Residues) → List ((ℕ × ℕ) × Residues) → List ℕ → List (ℕ × Residues) → Type 0
AreKnown moduli place entered parts states found =
    (once : ℕ) (v : ℕ → ℕ) → ((s : ℕ) → Contains states s → Balances (modulus moduli place) place entered parts once v s) → (s : ℕ) → Contains states s →
    (r : Residues) × Contains found (s, r) × Same (modulus moduli place) (2 ^ 64 * v s) (once * form_at place r)
