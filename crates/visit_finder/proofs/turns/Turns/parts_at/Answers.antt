use Rattle.std.proofs.Common.{rules, ◌≡◌, ◌+◌, map, drop, length, sym, subst, ◌∙◌}
use Rattle.std.proofs.lemmas.List.{drop_all}
use Rattle.visit_finder.specs.inner.Adding.{AreOverOne}
use Rattle.visit_finder.specs.inner.Parts.{AreParts}
use Rattle.visit_finder.specs.Exact.{is_in}
use Rattle.visit_finder.proofs.Members.{next_of, first_out, second_out}
use Rattle.visit_finder.proofs.Walks.{Leading, walk_begun, walk_skipped, walk_taken, walk_moved, walk_done, is_part}
use Rattle.visit_finder.proofs.turns.Turns.parts_at.Goals as goal
use Rattle.visit_finder.proofs.turns.Turns.parts_at.Goals.{then-may_leave+then-may_leave-2+in_ok-add_part, else-may_leave, else-may_leave-via-then-may_leave+else-may_leave-2, else-may_leave-via-else-may_leave}

pub loop-from-init : goal.loop-from-init
loop-from-init c = walk_begun c.args.moduli.now (map (λ e. e.0) c.args.leaving.now.entries) c.deref-from-items.result.now c.of_number-over.result c.new-parts.result.entries c.of_number-over.ensures c.new-parts.ensures.empty

pub loop-from-preserved : goal.loop-from-preserved
loop-from-preserved c =
    let old = c.args.moduli.now in
    let before = c.loop-from.moduli in
    let states = map (λ e. e.0) c.args.leaving.now.entries in
    let items = c.deref-from-items.result.now in
    let i = c.loop-from.from-index in
    let e = c.loop-from-item.result in
    let last = c.loop-from.over in
    let den = c.loop-from.den in
    let was = subst (λ rest. Leading old before states items rest last den c.loop-from.parts.entries) (next_of items i e c.loop-from-test.true c.loop-from-item.is) c.loop-from.invariant in
    elim c.if-may_leave.branch [
      | then-may_leave+then-may_leave-2+in_ok-add_part w ↦
          let moduli = w.keep_over.new.moduli in
          let over = w.keep_over.new.over in
          let part = w.times_over-part.result in
          let count : length moduli.primes ≡ 5 = search rules in
          walk_moved old moduli _ states items (drop (i + 1) items) over _ e.2.1 _ w.add_part.new.parts _ w.moduli-is w.parts-is (w.den-is ∙ w.den-den.ensures.value) w.over-is
          (walk_taken old before moduli states items (drop (i + 1) items) e last over part den c.loop-from.parts.entries w.add_part.new.parts.entries count w.keep_over.ensures.loses
          (subst (AreOverOne moduli over) w.den.ensures.value (w.keep_over.ensures.over c.loop-from.invariant.kept))
          (is_part moduli over part e.2 w.num.result w.num.ensures.value w.times_over-part.ensures.forms w.times_over-part.ensures.fraction)
          (sym c.may_leave.ensures ∙ w.if-may_leave.true) (sym w.may_leave-then-may_leave.ensures ∙ w.if-may_leave-2.true) w.in_ok-add_part.ensures.ok was)
      | else-may_leave w ↦
          walk_moved old before _ states items (drop (i + 1) items) last _ den _ c.loop-from.parts _ w.moduli-is w.parts-is w.den-is w.over-is
          (walk_skipped old before states items (drop (i + 1) items) e last den c.loop-from.parts.entries (elim w.else-may_leave.branch [
            | else-may_leave-via-then-may_leave+else-may_leave-2 w' ↦ second_out (is_in states e.0) (is_in states e.1) (sym w'.may_leave-then-may_leave.ensures ∙ w'.if-may_leave-2.false)
            | else-may_leave-via-else-may_leave w' ↦ first_out (is_in states e.0) (is_in states e.1) (sym c.may_leave.ensures ∙ w'.if-may_leave.false)
          ]) was)
    ]

pub returns-clause-parts : goal.returns-clause-parts
returns-clause-parts c =
    let old = c.args.moduli.now in
    let states = map (λ e. e.0) c.args.leaving.now.entries in
    let items = c.deref-from-items.result.now in
    let none = drop_all c.loop-from.from-index items c.loop-from-test.false in
    subst (λ turns. AreParts c.loop-from.moduli states turns c.loop-from.parts.entries) (c.deref-from-items.ensures.value ∙ c.self.view_is)
    (walk_done old c.loop-from.moduli states items c.loop-from.over c.loop-from.den c.loop-from.parts.entries
    (subst (λ rest. Leading old c.loop-from.moduli states items rest c.loop-from.over c.loop-from.den c.loop-from.parts.entries) none c.loop-from.invariant))
