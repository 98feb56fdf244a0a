use Rattle.std.proofs.Common.{◌≡◌, ℕ, ◌+◌, ◌≤◌, Bool, true, false, if◌then◌else◌, length, sym, ap, subst, ◌∙◌, arith}
use Rattle.std.specs.BTreeMap.{insert_entry}
use Rattle.std.specs.Option.{is_some}
use Rattle.std.specs.Ordering.{nat_cmp}
use Rattle.visit_finder.specs.inner.Pivots.{Renews}
use Rattle.visit_finder.proofs.Entries.{has_found}
use Rattle.visit_finder.proofs.Renewals.{renews_none, renews_one}
use Rattle.visit_finder.proofs.solving.renew.Goals as goal

pub replaced-requires-clause-column : goal.replaced-requires-clause-column
replaced-requires-clause-column c = c.requires.columns c.args.target c.in-Some.old (has_found c.args.columns.now.entries c.args.target c.in-Some.old (sym c.in-Some.ensures.value))

no_more : (b : Bool) (rest old new : ℕ) → rest + 1 ≡ old → new ≡ rest + (if b then 0 else 1) → new ≤ old
no_more true rest old new p q = omega arith
no_more false rest old new p q = omega arith

pub returns-in_ok-insert : goal.returns-in_ok-insert
returns-in_ok-insert c =
    let old = c.args.columns.now.entries in
    let is = c.in_ok-insert.ensures.entries ∙ ap (λ rest. insert_entry nat_cmp rest c.args.target c.in_ok-next.next) c.in-Some.ensures.entries in
    let count = no_more (is_some c.in_ok-insert.field-0) (length c.remove.new.self.entries) (length old) (length c.insert.new.self.entries) c.in-Some.ensures.len c.in_ok-insert.ensures.len in
    subst (λ new. Renews c.args.moduli.now c.args.state c.args.leaves.now c.args.column.now old new) (sym is)
    (renews_one c.args.moduli.now c.args.state c.args.leaves.now c.args.column.now old c.args.target c.in-Some.old c.in_ok-next.next
    (has_found old c.args.target c.in-Some.old (sym c.in-Some.ensures.value)) (λ forms. c.in_ok-next.ensures.forms)
    (λ place within once v pivot holds. c.in_ok-next.ensures.hold place within once v pivot c.args.target holds)
    (subst (λ es. length es ≤ length old) is count))

pub returns-in_default : goal.returns-in_default
returns-in_default c =
    subst (λ new. Renews c.args.moduli.now c.args.state c.args.leaves.now c.args.column.now c.args.columns.now.entries new) (sym c.in_default.ensures.unchanged)
    (renews_none c.args.moduli.now c.args.state c.args.leaves.now c.args.column.now c.args.columns.now.entries)
