-- What a list of units holds of outcomes: of some and of all others it is all, and of outcomes of which none has a unit it is nothing.
use Rattle.std.proofs.Common.{◌≡◌, ℕ, ◌+◌, ◌*◌, Bool, true, false, cond, [], ◌∷◌, refl, ap, subst, arith}
use Rattle.std.specs.Prelude.{not, ◌&&◌}
use Rattle.gcl_core.specs.declared.answers.Outcome.{Outcome}
use Rattle.gcl_core.specs.declared.answers.Outcome.TheVariants as outcome
use Rattle.gcl_core.specs.meaning.Blocks.{End, on, failed, fault, limit}
use Rattle.gcl_core.specs.meaning.Outcomes.{same_outcome, outcome_of}
use Rattle.gcl_core.specs.meaning.Syntax.{Expression}
use Rattle.gcl_core.specs.meaning.Value.{value_of}
use Rattle.gcl_core.specs.weighing.Mass.{ends_in}
use Rattle.gcl_core.proofs.SameOutcomes.{outcome_itself}
use Rattle.units_law.specs.Units.{Units, held}

pub held_join : {A : Type 0} (G H K : A → ℕ) → ((a : A) → G a + H a ≡ K a) → (J : Units A) → held G J + held H J ≡ held K J
held_join G H K e [] = refl
held_join G H K e (x ∷ J) = let i = held_join G H K e J in let y = ap (λ t. x.1 * t) (e x.0) in omega arith

-- outcomes that count, of those that are meant
module _ (result : Expression) (counted : Outcome → Bool) where
  abbrev pub number : (Outcome → Bool) → End → ℕ
  number meant e = cond (ends_in result (λ x. meant x && counted x) e) 1 0

  module _ (meant : Outcome → Bool) where
    in_parts : (b c : Bool) → cond (b && c) 1 0 + cond (not b && c) 1 0 ≡ cond (true && c) 1 0
    in_parts true true = refl
    in_parts true false = refl
    in_parts false true = refl
    in_parts false false = refl

    pub numbers_join : (e : End) → number meant e + number (λ x. not (meant x)) e ≡ number (λ x. true) e
    numbers_join (on s) = let x = outcome_of (value_of result s) in in_parts (meant x) (counted x)
    numbers_join failed = refl
    numbers_join (fault f) = in_parts (meant (outcome.Fault f)) (counted (outcome.Fault f))
    numbers_join (limit l) = in_parts (meant (outcome.Limit l)) (counted (outcome.Limit l))

    nothing_of : (w : ℕ) (x : Outcome) → (meant x ≡ true → w * cond (same_outcome x x && counted x) 1 0 ≡ 0) → (b : Bool) → meant x ≡ b → w * cond (b && counted x) 1 0 ≡ 0
    nothing_of w x h true e = let y : w * cond (true && counted x) 1 0 ≡ 0 = subst (λ t. w * cond (t && counted x) 1 0 ≡ 0) (outcome_itself x) (h e) in y
    nothing_of w x h false e = omega arith

    nothing_at : (w : ℕ) (e : End) → ((x : Outcome) → meant x ≡ true → w * number (same_outcome x) e ≡ 0) → w * number meant e ≡ 0
    nothing_at w (on s) h = let x = outcome_of (value_of result s) in nothing_of w x (h x) (meant x) refl
    nothing_at w failed h = omega arith
    nothing_at w (fault f) h = nothing_of w (outcome.Fault f) (h (outcome.Fault f)) (meant (outcome.Fault f)) refl
    nothing_at w (limit l) h = nothing_of w (outcome.Limit l) (h (outcome.Limit l)) (meant (outcome.Limit l)) refl

    -- where none of them has a unit
    pub nothing_held : {A : Type 0} (end : A → End) (J : Units A) → ((x : Outcome) → meant x ≡ true → held (λ a. number (same_outcome x) (end a)) J ≡ 0) → held (λ a. number meant (end a)) J ≡ 0
    nothing_held end [] h = refl
    nothing_held end (e ∷ J) h =
        let first = nothing_at e.1 (end e.0) (λ x t. let y = h x t in omega arith) in
        let rest = nothing_held end J (λ x t. let y = h x t in omega arith) in
        omega arith
