use Rattle.std.proofs.Common.{◌≡◌, ℕ, ◌+◌, ◌*◌, ◌<◌, Contains, refl, sym, subst}
use Rattle.narrow_fractions.specs.Remainders.{Same}
use Rattle.visit_finder.specs.declared.columns.Column.{Column}
use Rattle.visit_finder.specs.Equations.{entered_at, led_at}
use Rattle.visit_finder.specs.Places.{modulus}
use Rattle.visit_finder.specs.inner.Columns.{sum_at, HasKey, ColumnsForms, ColumnHolds}
use Rattle.visit_finder.specs.inner.Pivots.{Takes, Renews, PivotHolds}
use Rattle.visit_finder.proofs.AtPlaces.{forms_before}
use Rattle.visit_finder.proofs.Eliminating.{Eliminating, eliminating_none, eliminating_more, all_known}
use Rattle.visit_finder.proofs.Losing.{column_forms_after, pivots_after}
use Rattle.visit_finder.proofs.solving.solved.Goals as goal

pub loop-state-init : goal.loop-state-init
loop-state-init c =
    eliminating_none c.args.moduli.now c.in_ok-left.left.columns.entries c.new-pivots.result.items c.new-pivots.ensures.items
    (subst (ColumnsForms c.args.moduli.now) (sym c.in_ok-left.ensures) c.in_ok-columns.ensures.forms)

pub eliminate-requires-clause-columns : goal.eliminate-requires-clause-columns
eliminate-requires-clause-columns c s column has =
    let h = c.loop-state.invariant in
    column_forms_after c.args.moduli.now c.loop-state.moduli h.loses column (h.forms s column (c.in-Some.ensures.some.from s column has))

pub eliminate-requires-clause-column : goal.eliminate-requires-clause-column
eliminate-requires-clause-column c =
    let h = c.loop-state.invariant in
    column_forms_after c.args.moduli.now c.loop-state.moduli h.loses c.in-Some.column (h.forms c.in-Some.state c.in-Some.column c.in-Some.ensures.some.had)

pub loop-state-preserved : goal.loop-state-preserved
loop-state-preserved c =
    let pivot = c.in_ok-eliminate.field-0 in
    let taken = c.taken.new.self.columns.entries in
    let renewed = c.eliminate.new.self.columns.entries in
    let is : c.in-Some.state ≡ pivot.state = sym c.in_ok-eliminate.ensures.state in
    subst (Eliminating c.args.moduli.now c.eliminate.new.moduli c.in_ok-left.left.columns.entries renewed) (sym c.in_ok-push.ensures.items)
    (eliminating_more c.args.moduli.now c.loop-state.moduli c.eliminate.new.moduli c.in_ok-left.left.columns.entries c.loop-state.left.columns.entries taken renewed c.loop-state.pivots.items
    c.in-Some.column pivot c.loop-state.invariant
    (subst (λ s. Takes c.loop-state.left.columns.entries s c.in-Some.column taken) is c.in-Some.ensures.some)
    c.in_ok-eliminate.ensures.loses c.in_ok-eliminate.ensures.pivot
    (subst (λ s. Renews c.loop-state.moduli s pivot.leaves pivot.column taken renewed) is c.in_ok-eliminate.ensures.renews)
    (λ place within kept once v. subst (λ s. ColumnHolds c.loop-state.moduli place once v s c.in-Some.column → PivotHolds c.loop-state.moduli place once v s pivot.leaves pivot.column) is
    (c.in_ok-eliminate.ensures.told place within kept once v)))

pub visits_by-requires : goal.visits_by-requires
visits_by-requires c = let h = c.loop-state.invariant in pivots_after c.args.moduli.now c.loop-state.moduli h.loses c.loop-state.pivots.items h.over

pub returns-clause-known : goal.returns-clause-known
returns-clause-known c =
    let old = c.args.moduli.now in
    let new = c.loop-state.moduli in
    let last = c.visits_by.new.moduli in
    let columns = c.in_ok-left.left.columns.entries in
    let pivots = c.loop-state.pivots.items in
    let is : columns ≡ c.in_ok-columns.columns.entries = c.in_ok-left.ensures in
    let ended = subst (λ left. Eliminating old new columns left pivots) (c.in_default.ensures.none refl) c.loop-state.invariant in
    let keys = λ (s : ℕ) (has : Contains c.args.states.now.items s). subst (λ es. HasKey es s) (sym is) (c.in_ok-columns.ensures.all s has) in
    let told : (place : ℕ) → place < 5 → (once : ℕ) (v : ℕ → ℕ) (s : ℕ) (column : Column) → Contains {X = ℕ × Column} columns (s, column) → Contains c.args.states.now.items s ×
    Same (modulus old place) (entered_at place c.args.entered.entries s * once + led_at place c.args.parts.now.entries v s) (sum_at place once v column.entered column.from.items)
    = λ place within once v s column has.
    let here = subst (λ es. Contains {X = ℕ × Column} es (s, column)) is has in
    (c.in_ok-columns.ensures.only s column here, c.in_ok-columns.ensures.hold place within once v s column here) in
    all_known old new last columns pivots c.args.entered.entries c.args.parts.now.entries c.args.states.now.items c.in_ok-found.found.entries ended c.in_ok-found.ensures.loses keys told
    c.in_ok-found.ensures.all c.in_ok-found.ensures.known

pub returns-clause-forms : goal.returns-clause-forms
returns-clause-forms c s r has = forms_before c.args.moduli.now c.loop-state.moduli r c.loop-state.invariant.loses (c.in_ok-found.ensures.forms s r has)
