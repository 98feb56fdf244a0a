use Rattle.std.proofs.Common.{◌≡◌, sym, ap, ◌∙◌}
use Rattle.visit_finder.specs.declared.solving.Left.{Left}
use Rattle.visit_finder.proofs.Taken.{takes_removed, takes_first_if}
use Rattle.visit_finder.proofs.solving.Left.taken.Goals as goal
use Rattle.visit_finder.proofs.solving.Left.taken.Goals.{in-Some+in_default-remove, in_default}

pub returns-in-Some-remove-clause-some : goal.returns-in-Some-remove-clause-some
returns-in-Some-remove-clause-some c = let e = c.in-Some-remove.ensures in takes_removed _ _ _ _ (sym e.value) e.entries e.len

pub returns-clause-some : goal.returns-clause-some
returns-clause-some c =
    let same : c.match-pop_first.self.columns.entries ≡ c.args.self.now.columns.entries = elim c.match-pop_first.branch [
      | in-Some+in_default-remove w ↦ ap (λ (left : Left). left.columns.entries) w.self-is ∙ w.in_default-remove.ensures.unchanged
      | in_default w ↦ ap (λ (left : Left). left.columns.entries) w.self-is
    ] in
    takes_first_if c.args.self.now.columns.entries _ _ c.pop_first-2.result same c.pop_first-2.ensures.removal
