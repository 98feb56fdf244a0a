-- One more weight among what has ended.
use Rattle.std.proofs.Common.{◌≡◌, ℕ, ◌+◌, ◌*◌, ◌≤◌, ◌<◌, ◌^◌, Some, None, refl, sym, ap, ◌∙◌, subst, arith}
use Rattle.gcl_core.specs.meaning.Blocks.{End}
use Rattle.gcl_core.specs.weighing.Fractions.{Fraction}
use Rattle.numbers.specs.Arithmetic.{InLowest, sum_of}
use Rattle.table_flow.specs.Scale.{whole, Whole, amount, Wholes}
use Rattle.table_flow.proofs.Wholes.{sum_whole, sum_refused}
use Rattle.mass_fold.specs.declared.ended.Gone.{Gone}
use Rattle.mass_fold.specs.declared.ended.Gone.TheVariants.{Failed, Overflow, Divisor, Bound, Turns, Attempts}
use Rattle.mass_fold.specs.declared.ended.Ended.{Ended}
use Rattle.mass_fold.specs.inner.Ended.{end_of, weight_of, with_weight, rows_of, EndGives, EndBlames}
use Rattle.mass_fold.specs.declared.error.MassError.TheVariants.{TooWide}

weight_whole : (N : ℕ) (E : Ended) (x : Gone) → Wholes N (rows_of E) → Whole N (weight_of E x) × (whole N (weight_of E x) ≤ amount N (λ x. 1) (rows_of E))
weight_whole N E Failed w = (w.0, omega arith)
weight_whole N E Overflow w = (w.1.0, omega arith)
weight_whole N E Divisor w = (w.1.1.0, omega arith)
weight_whole N E Bound w = (w.1.1.1.0, omega arith)
weight_whole N E Turns w = (w.1.1.1.1.0, omega arith)
weight_whole N E Attempts w = (w.1.1.1.1.1.0, omega arith)

replaced : (N : ℕ) (E : Ended) (x : Gone) (f v : Fraction) → Wholes N (rows_of E) → Whole N v → whole N v ≡ whole N (weight_of E x) + whole N f →
    Wholes N (rows_of (with_weight E x v)) × ((G : End → ℕ) → amount N G (rows_of (with_weight E x v)) ≡ amount N G (rows_of E) + whole N f * G (end_of x))
replaced N E Failed f v w h e = ((h, w.1), λ G. let z = ap (λ u. u * G (end_of Failed)) e in omega arith)
replaced N E Overflow f v w h e = ((w.0, (h, w.1.1)), λ G. let z = ap (λ u. u * G (end_of Overflow)) e in omega arith)
replaced N E Divisor f v w h e = ((w.0, (w.1.0, (h, w.1.1.1))), λ G. let z = ap (λ u. u * G (end_of Divisor)) e in omega arith)
replaced N E Bound f v w h e = ((w.0, (w.1.0, (w.1.1.0, (h, w.1.1.1.1)))), λ G. let z = ap (λ u. u * G (end_of Bound)) e in omega arith)
replaced N E Turns f v w h e = ((w.0, (w.1.0, (w.1.1.0, (w.1.1.1.0, (h, w.1.1.1.1.1))))), λ G. let z = ap (λ u. u * G (end_of Turns)) e in omega arith)
replaced N E Attempts f v w h e = ((w.0, (w.1.0, (w.1.1.0, (w.1.1.1.0, (w.1.1.1.1.0, (h, tt)))))), λ G. let z = ap (λ u. u * G (end_of Attempts)) e in omega arith)

pub end_gives : (E : Ended) (x : Gone) (f v : Fraction) → sum_of (weight_of E x) f ≡ Some v → EndGives E (with_weight E x v) x f
end_gives E x f v e N w h =
    let r = weight_whole N E x w in
    let u = sum_whole N (weight_of E x) f v r.0 h e in
    replaced N E x f v w u.1 u.0

pub end_wide : (E : Ended) (x : Gone) (f : Fraction) (N : ℕ) → InLowest (weight_of E x) → InLowest f → sum_of (weight_of E x) f ≡ None →
    0 < N → Wholes N (rows_of E) → Whole N f → amount N (λ x. 1) (rows_of E) + whole N f ≤ N → 2 ^ 128 ≤ N
end_wide E x f N lg lf e pos w h most =
    let r = weight_whole N E x w in
    sum_refused N (weight_of E x) f pos r.0 h lg lf (omega (arith, r.1)) e

pub ends_give : (E F : Ended) (x : Gone) (f v g : Fraction) → g ≡ weight_of E x → Some v ≡ sum_of g f → F ≡ with_weight E x v → EndGives E F x f
ends_give E F x f v g e h r = subst (λ F. EndGives E F x f) (sym r) (end_gives E x f v (ap (λ g. sum_of g f) (sym e) ∙ sym h))

pub ends_wide : (E : Ended) (x : Gone) (f g : Fraction) → g ≡ weight_of E x → InLowest g → InLowest f → None ≡ sum_of g f → EndBlames TooWide E x f
ends_wide E x f g e lg lf h = (refl, λ N. end_wide E x f N (subst InLowest e lg) lf (ap (λ g. sum_of g f) (sym e) ∙ sym h))
