-- Outcomes as the keys of a table, and numbers in order.
use Rattle.std.proofs.Common.{◌≡◌, ℕ, ◌<◌, ◌≤◌, ⊎_elim, Bool, true, false, true≢false, Ordering, refl, sym, ◌∙◌, arith}
use Rattle.std.specs.Cmp.{IsTotalOrder}
use Rattle.std.proofs.lemmas.Bool.{cases_lt}
use Rattle.std.specs.BTreeMap.{insert_entry}
use Rattle.std.specs.Map.{keys_of}
use Rattle.std.specs.List.Sorted.{IsStrictlySortedBy}
use Rattle.gcl_core.specs.declared.answers.Outcome.{Outcome}
use Rattle.gcl_core.specs.weighing.Fractions.{Fraction}
use Rattle.numbers.specs.Arithmetic.{InLowest}
use Rattle.numbers.specs.Fraction.{lowest}
use Rattle.mass_fold.specs.Rows.{Rows}
use Rattle.mass_fold.specs.inner.Outcomes.{AddGives}
use Rattle.mass_fold.proofs.OutcomeKeys.{Tells, equal_is}
use Rattle.mass_fold.proofs.OutcomeRows.{lowest_is}
use Rattle.wide_fold.specs.inner.Adding.{SumsAt}
use Rattle.wide_fold.proofs.Insertion.{put_gives}

pub add_gives : (order : Outcome → Outcome → Ordering) → Tells order → IsTotalOrder order → (x : Outcome) (f v : Fraction) (es : Rows) → IsStrictlySortedBy order (keys_of es) → 0 < f.0 → SumsAt order es x f v →
    AddGives es (insert_entry order es x v) x f
add_gives order tells total x f v es h p s N pos r w = put_gives order total (equal_is order tells) x f v es h s N pos r p w

pub in_lowest : (f v : Fraction) → InLowest f → v ≡ lowest (f.0, f.1) → v ≡ f
in_lowest f v l e = e ∙ sym (lowest_is f f l (let z = l.positive in omega arith) refl)

pub below_from : (b : Bool) (n m : ℕ) → (m ≤ n → b ≡ true) → b ≡ false → n < m
below_from b n m h e = ⊎_elim (λ (lt : n < m). lt) (λ (le : m ≤ n). absurd (true≢false (sym (h le) ∙ e))) (cases_lt n m)
