use Rattle.std.proofs.Common.{rules, ◌≡◌, ◌+◌, map, drop, length, sym, subst, subst₂, ◌∙◌}
use Rattle.std.proofs.lemmas.List.{drop_all}
use Rattle.visit_finder.specs.inner.Adding.{AreOverOne}
use Rattle.visit_finder.specs.inner.Parts.{AreBegun}
use Rattle.visit_finder.proofs.Members.{next_of}
use Rattle.visit_finder.proofs.Walks.{Entering, entering_skipped, entering_taken, entering_done, is_part}
use Rattle.visit_finder.proofs.turns.Turns.entered_at.Goals as goal
use Rattle.visit_finder.proofs.turns.Turns.entered_at.Goals.{then-may_leave+in_ok-add_entry, else-may_leave}

pub loop-number-preserved : goal.loop-number-preserved
loop-number-preserved c =
    let old = c.args.moduli.now in
    let states = map (λ e. e.0) c.args.leaving.now.entries in
    let items = c.deref-number-items.result.now in
    let i = c.loop-number.number-index in
    let e = c.loop-number-item.result in
    let was = subst (λ rest. Entering old c.loop-number.moduli states items rest c.loop-number.begun.entries) (next_of items i e c.loop-number-test.true c.loop-number-item.is) c.loop-number.invariant in
    elim c.if-may_leave.branch [
      | then-may_leave+in_ok-add_entry w ↦
          let moduli = w.over_of-over.new.moduli in
          let over = w.over_of-over.result in
          let part = w.times_over-part.result in
          let count : length moduli.primes ≡ 5 = search rules in
          subst₂ (λ moduli begun. Entering old moduli states items (drop (i + 1) items) begun.entries) (sym w.moduli-is) (sym w.begun-is)
          (entering_taken old c.loop-number.moduli moduli states items (drop (i + 1) items) e over part c.loop-number.begun.entries w.add_entry.new.begun.entries count w.over_of-over.ensures.loses
          (subst (AreOverOne moduli over) w.den.ensures.value w.over_of-over.ensures.over)
          (is_part moduli over part e.1 w.num.result w.num.ensures.value w.times_over-part.ensures.forms w.times_over-part.ensures.fraction)
          (sym c.may_leave.ensures ∙ w.if-may_leave.true) w.in_ok-add_entry.ensures.ok was)
      | else-may_leave w ↦
          subst₂ (λ moduli begun. Entering old moduli states items (drop (i + 1) items) begun.entries) (sym w.moduli-is) (sym w.begun-is)
          (entering_skipped old c.loop-number.moduli states items (drop (i + 1) items) e c.loop-number.begun.entries (sym c.may_leave.ensures ∙ w.if-may_leave.false) was)
    ]

pub returns-clause-begun : goal.returns-clause-begun
returns-clause-begun c =
    let old = c.args.moduli.now in
    let states = map (λ e. e.0) c.args.leaving.now.entries in
    let items = c.deref-number-items.result.now in
    let none = drop_all c.loop-number.number-index items c.loop-number-test.false in
    subst (λ entries. AreBegun c.loop-number.moduli states entries c.loop-number.begun.entries) c.deref-number-items.ensures.value
    (entering_done old c.loop-number.moduli states items c.loop-number.begun.entries (subst (λ rest. Entering old c.loop-number.moduli states items rest c.loop-number.begun.entries) none c.loop-number.invariant))
