-- The chance of an outcome, from its row.
use Rattle.std.proofs.Common.{◌≡◌, ℕ, zero, suc, ◌<◌, true, Option, Some, None, IfSome, IfNone, refl, subst, arith}
use Rattle.std.specs.List.{Contains}
use Rattle.numbers.specs.Fraction.{Fraction}
use Rattle.gcl_core.specs.declared.answers.Outcome.{Outcome}
use Rattle.gcl_core.specs.meaning.Syntax.{SourceProgram}
use Rattle.exact_fold.specs.Limits.{AreLimits}
use Rattle.mass_fold.specs.Rows.{Rows, AreMasses}
use Rattle.gcl_core.specs.meaning.Outcomes.{is_settled, same_outcome}
use Rattle.unlimited_law.specs.SettledMasses.{IsNear}
use Rattle.forgetting.specs.SameMeaning.{SameMeaning}
use Rattle.library_user.specs.Chance.{IsChance}
use Rattle.library_user.specs.LimitChance.{IsLimitChance}

none_above : (n : ℕ) → (0 < n → ⊥) → n ≡ 0
none_above zero h = refl
none_above (suc n) h = absurd (h (omega arith))

-- the fraction in its row, or none where it has none
pub chance_found : (mass : Outcome → Fraction) (rows : Rows) (x : Outcome) (answer : Option Fraction) → AreMasses mass rows
    → IfSome answer (λ f. Contains rows (x, f)) → IfNone answer ((f : Fraction) → Contains rows (x, f) → ⊥) → IsChance answer (mass x)
chance_found mass rows x (Some f) are found none = are.each x f found
chance_found mass rows x None are found none = none_above (mass x).0 (λ above. none _ (are.all x above))

-- the same of the limit of turns
pub limit_found : (p : SourceProgram) (x : Outcome) (rows : Rows) (endless rate : Fraction) (answer : Option Fraction) → is_settled x ≡ true → AreLimits p rows endless rate
    → IfSome answer (λ f. Contains rows (x, f)) → IfNone answer ((f : Fraction) → Contains rows (x, f) → ⊥) → IsLimitChance p x answer
limit_found p x rows endless rate (Some f) settled are found none = (rate, are.row x f found)
limit_found p x rows endless rate None settled are found none = are.others x settled none

-- programs that mean the same have the same chances
pub same_chance : (p q : SourceProgram) → SameMeaning p q → (x : Outcome) (answer : Option Fraction) → IsLimitChance q x answer → IsLimitChance p x answer
same_chance p q same x (Some f) h = (h.0, λ n some. subst (λ (m : Fraction). IsNear n h.0 m f) (same.masses n None None (same_outcome x)) (h.1 n some))
same_chance p q same x None h = λ n some. subst (λ (m : Fraction). m.0 ≡ 0) (same.masses n None None (same_outcome x)) (h n some)
