use Rattle.std.proofs.Common.{◌≡◌, ℕ, List, Contains, get_or, take_all, sym, ap, subst, ◌∙◌}
use Rattle.std.specs.Global.{Vec}
use Rattle.visit_finder.specs.Exact.{Turn}
use Rattle.visit_finder.specs.Sources.{sources_of}
use Rattle.visit_finder.proofs.Closed.{found_items, puts, have_more, none_in}
use Rattle.visit_finder.proofs.turns.Turns.sums_and_sources.Goals.{in-Some-remove, in-None-remove}
use Rattle.visit_finder.proofs.turns.Turns.sums_and_sources.Goals as goal

pub loop-from-init : goal.loop-from-init
loop-from-init c = λ t s f none. absurd (none_in (t, s, f) none)

pub loop-from-preserved : goal.loop-from-preserved
loop-from-preserved c =
    let turn : Turn = c.loop-from-item.result in
    let is : turn ≡ get_or c.deref-from-items.result.now c.loop-from.from-index turn = c.loop-from-item.is in
    let was : c.match-remove.list.items ≡ sources_of c.loop-from.sources.entries turn.1 = elim c.match-remove.branch [
      | in-Some-remove w ↦ ap (λ (v : Vec ℕ). v.items) w.list-is ∙ ap found_items (sym w.in-Some-remove.is ∙ c.remove.ensures.value)
      | in-None-remove w ↦ ap (λ (v : Vec ℕ). v.items) w.list-is ∙ w.new-list.ensures.items ∙ ap found_items (sym w.in-None-remove.is ∙ c.remove.ensures.value)
    ] in
    have_more c.deref-from-items.result.now c.loop-from.from-index turn c.loop-from.sources.entries c.insert-in-loop-from.new.self.entries c.loop-from-test.true is
    (puts turn.1 turn.0 c.loop-from.sources c.remove.new.self c.insert-in-loop-from.new.self c.match-remove.list c.push.new.self was c.in_ok-push.ensures.items c.remove.ensures.updates c.in_ok-insert-2.ensures.updates)
    c.loop-from.invariant

pub returns-clause-turns : goal.returns-clause-turns
returns-clause-turns c = λ t s f there. c.loop-from.invariant t s f
    (subst (λ (turns : List Turn). Contains turns (t, s, f)) (sym (take_all c.loop-from.from-index c.deref-from-items.result.now c.loop-from-test.false ∙ c.deref-from-items.ensures.value ∙ c.self.view_is)) there)
