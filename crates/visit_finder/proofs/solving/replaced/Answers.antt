use Rattle.std.proofs.Common.{ℕ, ◌+◌, ◌*◌, ◌^◌, ◌<◌, refl}
use Rattle.narrow_fractions.specs.Remainders.{Same}
use Rattle.narrow_fractions.proofs.Congruence.{chained, equal, added}
use Rattle.visit_finder.specs.Places.{modulus, form_at}
use Rattle.visit_finder.specs.inner.Columns.{row_at}
use Rattle.visit_finder.proofs.AtPlaces.{inverse_at, sum_at, product_at}
use Rattle.visit_finder.proofs.Eliminated.{column_told}
use Rattle.visit_finder.proofs.Rows.{IsTimes}
use Rattle.visit_finder.proofs.solving.replaced.Goals as goal

pub added-requires-clause-factor : goal.added-requires-clause-factor
added-requires-clause-factor c place within =
    (product_at c.args.moduli.now place _ _ _ (c.product-factor.ensures place within) (c.in_ok-others.ensures.part place within) (c.requires.pivot.over place within)).0

-- the forms of the factor, of what it adds, and of the sum
abbrev Made : goal.After-drop-column-2 → ℕ → Type 0
Made c place =
    let m = modulus c.args.moduli.now place in
    let part = form_at place c.in_ok-others.part in
    IsTimes m part (form_at place c.args.leaves.now) (form_at place c.product-factor.result)
    × IsTimes m (form_at place c.product-factor.result) (form_at place c.args.other.now.entered) (form_at place c.product-more.result)
    × ((form_at place c.sum.result < m) × Same m (form_at place c.sum.result) (form_at place c.args.column.entered + form_at place c.product-more.result))

made : (c : goal.After-drop-column-2) (place : ℕ) → place < 5 → Made c place
made c place within =
    let factor = product_at c.args.moduli.now place _ _ _ (c.product-factor.ensures place within) (c.in_ok-others.ensures.part place within) (c.requires.pivot.over place within) in
    let more = product_at c.args.moduli.now place _ _ _ (c.product-more.ensures place within) factor.0 (c.requires.pivot.from.entered place within) in
    (factor, more, sum_at c.args.moduli.now place _ _ _ (c.sum.ensures place within) (c.requires.column.entered place within) more.0)

pub returns-clause-forms : goal.returns-clause-forms
returns-clause-forms c = record { entered = λ place within. (made c place within).2.0; from = c.in_ok-from.ensures.forms }

pub returns-clause-hold : goal.returns-clause-hold
returns-clause-hold c place within once v pivot s holds =
    let m = modulus c.args.moduli.now place in
    let word = inverse_at c.args.moduli.now place _ (c.requires.pivot.over place within) in
    column_told (2 ^ 64) m word.0 once (v s) (v c.args.state) (form_at place c.args.column.entered) (form_at place c.in_ok-others.part) (row_at place c.in_ok-others.others.items v)
    (form_at place c.args.leaves.now) (form_at place c.args.other.now.entered) (row_at place c.args.other.now.from.items v) (form_at place c.product-factor.result)
    (form_at place c.product-more.result) (form_at place c.sum.result) (row_at place c.in_ok-from.from.items v) word.1
    (chained m _ _ _ holds (added m _ _ _ _ (equal m (form_at place c.args.column.entered * once) _ refl) (c.in_ok-others.ensures.sum place within v)))
    pivot (made c place within).0.1 (made c place within).1.1 (made c place within).2.1 (c.in_ok-from.ensures.sum place within v)
