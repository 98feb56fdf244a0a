-- Visits at a place, by what elimination finds of the parts of turns.
use Rattle.std.proofs.Common.{◌≡◌, ℕ, ◌+◌, ◌*◌, ◌^◌, ◌<◌, List, Result, Ok, Err, IfOk, refl, sym, subst, arith}
use Rattle.std.specs.Prelude.{Contains}
use Rattle.narrow_fractions.specs.Remainders.{Same}
use Rattle.narrow_fractions.proofs.Congruence.{equal, chained, added, cancelled}
use Rattle.visit_finder.specs.declared.residues.Moduli.{Moduli}
use Rattle.visit_finder.specs.declared.residues.Residues.{Residues}
use Rattle.visit_finder.specs.Places.{modulus, form_at}
use Rattle.visit_finder.specs.Equations.{entered_at, led_at, AreKnown}
use Rattle.visit_finder.specs.Exact.{Turn, turns_within, led}
use Rattle.visit_finder.specs.Multiples.{AreOfTurns, AreVisits}

-- what balances over a multiple that has an inverse balances
without_multiple : (m whole u w x a l k : ℕ) → Same m (u * whole) 1 → Same m (w * (whole * x)) (whole * a + w * l) → Same m (w * l) (whole * k) → Same m (w * x) (a + k)
without_multiple m whole u w x a l k inverse balance leads =
    cancelled m whole u (w * x) (a + k) inverse (chained m _ _ _ (equal m _ (w * (whole * x)) (omega arith)) (chained m _ _ _ balance
    (chained m _ _ _ (added m (whole * a) (whole * a) (w * l) (whole * k) (equal m _ _ refl) leads) (equal m _ _ (omega arith)))))

pub visits_at_place : (moduli : Moduli) (m place : ℕ) (states : List ℕ) (turns : List Turn) (begun : List (ℕ × Residues)) (parts : List ((ℕ × ℕ) × Residues)) (found : List (ℕ × Residues)) →
    modulus moduli place ≡ m → AreOfTurns m place (turns_within states turns) parts → AreKnown moduli place begun parts states found →
    ((s : ℕ) (r : Residues) → Contains found (s, r) → form_at place r < modulus moduli place) → AreVisits m place states turns begun found
visits_at_place moduli m place states turns begun parts found same parts_of known below = record {
  inverses = parts_of.inverses;
  known = λ whole multiple inverse once v balance s c.
      let inner = turns_within states turns in
      let is = known once v (λ s c. subst (λ m. Same m (2 ^ 64 * v s) (entered_at place begun s * once + led_at place parts v s)) (sym same)
      (without_multiple m whole inverse.0 (2 ^ 64) (v s) (entered_at place begun s * once) (led whole inner v s) (led_at place parts v s) inverse.1 (balance s c) (parts_of.leads whole multiple v s))) s c in
      (is.0, is.1, subst (λ m. Same m (2 ^ 64 * v s) (once * form_at place is.0)) same is.2);
  below = λ s r c. subst (λ m. form_at place r < m) same (below s r c);
}

-- two facts of what is found give a third
pub if_both : {A E : Type 0} (r : Result A E) (P Q R : A → Type 0) → ((a : A) → P a → Q a → R a) → IfOk r P → IfOk r Q → IfOk r R
if_both (Ok a) P Q R both p q = both a p q
if_both (Err e) P Q R both p q = tt
