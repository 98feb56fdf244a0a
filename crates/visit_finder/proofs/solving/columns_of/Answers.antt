use Rattle.std.proofs.Common.{◌∷◌, [], take_all, sym, subst, subst₂, refl, ◌∙◌}
use Rattle.std.proofs.lemmas.List.{take_more}
use Rattle.visit_finder.specs.declared.columns.Column.{Column}
use Rattle.visit_finder.specs.Equations.{AllForms}
use Rattle.visit_finder.proofs.ColumnsOf.{Each, HasEntered, HasLed, each_none, each_put, each_written, each_passed, each_same, nothing_entered, entered_here, entered_apart, nothing_led, led_here, led_apart, all_told, first_forms, later_forms}
use Rattle.visit_finder.proofs.solving.columns_of.Goals as goal

pub loop-state-init : goal.loop-state-init
loop-state-init c = each_none (HasEntered c.args.moduli.now c.args.entered.now.entries c.args.entered.now.entries) c.new-columns.result c.new-columns.ensures.empty c.new-columns.ensures.ordered

pub loop-state-preserved : goal.loop-state-preserved
loop-state-preserved c =
    let moduli = c.args.moduli.now in
    let entered = c.args.entered.now.entries in
    let e = c.in_ok-insert.ensures in
    subst (λ states. Each states (HasEntered moduli entered entered) c.insert.new.self) (sym (take_more c.deref-state-items.result.now c.loop-state.state-index _ c.loop-state-test.true))
    (each_put _ (HasEntered moduli entered entered) c.loop-state.columns c.insert.new.self _ _ e.updates e.ordered (nothing_entered moduli entered _ _ c.of_number-nothing.ensures c.new.ensures.items) c.loop-state.invariant)

pub loop-state-2-init : goal.loop-state-2-init
loop-state-2-init c =
    let moduli = c.args.moduli.now in
    let entered = c.args.entered.now.entries in
    let whole = c.into_iter-state-iterator.ensures.into_iter_gives.0 in
    let states = take_all c.loop-state.state-index c.deref-state-items.result.now c.loop-state-test.false ∙ c.deref-state-items.ensures.value in (
      subst (AllForms moduli) (sym whole) c.requires.entered,
      subst₂ (λ states rest. Each states (HasEntered moduli entered rest) c.loop-state.columns) states (sym whole) c.loop-state.invariant,
    )

pub loop-state-2-preserved-in-Some-get_mut : goal.loop-state-2-preserved-in-Some-get_mut
loop-state-2-preserved-in-Some-get_mut c =
    let moduli = c.args.moduli.now in
    let entered = c.args.entered.now.entries in
    let states = c.args.states.now.items in
    let columns = c.loop-state-2.columns in
    let k = c.in-Some.state.now in
    let part = c.in-Some.part.now in
    let rest = c.next.new.self in
    let before = c.in-Some-get_mut.column.now in
    let after : Column = record { entered = c.sum-column.result; from = before.from } in
    let steps = c.in-Some.ensures.steps in (
      later_forms moduli _ rest (k, part) steps c.loop-state-2.invariant.0,
      each_written states (HasEntered moduli entered ((k, part) ∷ rest)) (HasEntered moduli entered rest) columns (c.get_mut.follows.lender after) k before after (sym c.in-Some-get_mut.ensures.value)
          (c.get_mut.follows.holds after)
          (entered_here moduli entered rest k part c.sum-column.result before after (first_forms moduli _ rest (k, part) steps c.loop-state-2.invariant.0) c.sum-column.ensures refl refl)
          (entered_apart moduli entered rest k part)
          (subst (λ it. Each states (HasEntered moduli entered it) columns) steps c.loop-state-2.invariant.1),
    )

pub loop-state-2-preserved : goal.loop-state-2-preserved
loop-state-2-preserved c =
    let moduli = c.args.moduli.now in
    let entered = c.args.entered.now.entries in
    let states = c.args.states.now.items in
    let columns = c.loop-state-2.columns in
    let k = c.in-Some.state.now in
    let part = c.in-Some.part.now in
    let rest = c.next.new.self in
    let steps = c.in-Some.ensures.steps in (
      later_forms moduli _ rest (k, part) steps c.loop-state-2.invariant.0,
      each_passed states (HasEntered moduli entered ((k, part) ∷ rest)) (HasEntered moduli entered rest) columns c.get_mut.follows.lender-at-none k (sym c.in_default.ensures.value) c.get_mut.follows.holds-at-none
          (entered_apart moduli entered rest k part)
          (subst (λ it. Each states (HasEntered moduli entered it) columns) steps c.loop-state-2.invariant.1),
    )

pub loop-ends-init : goal.loop-ends-init
loop-ends-init c =
    let moduli = c.args.moduli.now in
    let entered = c.args.entered.now.entries in
    let parts = c.args.parts.now.entries in
    let states = c.args.states.now.items in
    let columns = c.loop-state-2.columns in
    let whole = c.into_iter-ends-iterator.ensures.into_iter_gives.0 in
    let all = subst (λ it. Each states (HasEntered moduli entered it) columns) c.in-None.ensures.steps.0 c.loop-state-2.invariant.1 in (
      subst (AllForms moduli) (sym whole) c.requires.parts,
      subst (λ rest. Each states (HasLed moduli entered parts rest) columns) (sym whole) (each_same states (HasEntered moduli entered []) (HasLed moduli entered parts parts) columns (nothing_led moduli entered parts) all),
    )

pub loop-ends-preserved-in-Continue-branch-3 : goal.loop-ends-preserved-in-Continue-branch-3
loop-ends-preserved-in-Continue-branch-3 c =
    let moduli = c.args.moduli.now in
    let entered = c.args.entered.now.entries in
    let parts = c.args.parts.now.entries in
    let states = c.args.states.now.items in
    let columns = c.loop-ends.columns in
    let ends = c.in-Some-2.ends.now in
    let part = c.in-Some-2.part.now in
    let rest = c.next-in-loop-ends.new.self in
    let before = c.in-Some-get_mut-2.column.now in
    let after : Column = record { entered = before.entered; from = c.push.new.self } in
    let steps = c.in-Some-2.ensures.steps in (
      later_forms moduli _ rest (ends, part) steps c.loop-ends.invariant.0,
      each_written states (HasLed moduli entered parts ((ends, part) ∷ rest)) (HasLed moduli entered parts rest) columns (c.get_mut-in-loop-ends.follows.lender after) ends.1 before after
          (sym c.in-Some-get_mut-2.ensures.value) (c.get_mut-in-loop-ends.follows.holds after)
          (led_here moduli entered parts rest ends.0 ends.1 part before after (first_forms moduli _ rest (ends, part) steps c.loop-ends.invariant.0) refl c.in_ok-push.ensures.items)
          (led_apart moduli entered parts rest ends.0 ends.1 part)
          (subst (λ it. Each states (HasLed moduli entered parts it) columns) steps c.loop-ends.invariant.1),
    )

pub loop-ends-preserved : goal.loop-ends-preserved
loop-ends-preserved c =
    let moduli = c.args.moduli.now in
    let entered = c.args.entered.now.entries in
    let parts = c.args.parts.now.entries in
    let states = c.args.states.now.items in
    let columns = c.loop-ends.columns in
    let ends = c.in-Some-2.ends.now in
    let part = c.in-Some-2.part.now in
    let rest = c.next-in-loop-ends.new.self in
    let steps = c.in-Some-2.ensures.steps in (
      later_forms moduli _ rest (ends, part) steps c.loop-ends.invariant.0,
      each_passed states (HasLed moduli entered parts ((ends, part) ∷ rest)) (HasLed moduli entered parts rest) columns c.get_mut-in-loop-ends.follows.lender-at-none ends.1
          (sym c.in_default-get_mut.ensures.value) c.get_mut-in-loop-ends.follows.holds-at-none (led_apart moduli entered parts rest ends.0 ends.1 part)
          (subst (λ it. Each states (HasLed moduli entered parts it) columns) steps c.loop-ends.invariant.1),
    )

pub returns-clause-forms : goal.returns-clause-forms
returns-clause-forms c =
    let moduli = c.args.moduli.now in
    let entered = c.args.entered.now.entries in
    let parts = c.args.parts.now.entries in
    let states = c.args.states.now.items in
    (all_told moduli entered parts states c.loop-ends.columns
    (subst (λ it. Each states (HasLed moduli entered parts it) c.loop-ends.columns) c.in-None-2.ensures.steps.0 c.loop-ends.invariant.1)).0

pub returns-clause-all : goal.returns-clause-all
returns-clause-all c =
    let moduli = c.args.moduli.now in
    let entered = c.args.entered.now.entries in
    let parts = c.args.parts.now.entries in
    let states = c.args.states.now.items in
    (all_told moduli entered parts states c.loop-ends.columns
    (subst (λ it. Each states (HasLed moduli entered parts it) c.loop-ends.columns) c.in-None-2.ensures.steps.0 c.loop-ends.invariant.1)).1

pub returns-clause-only : goal.returns-clause-only
returns-clause-only c =
    let moduli = c.args.moduli.now in
    let entered = c.args.entered.now.entries in
    let parts = c.args.parts.now.entries in
    let states = c.args.states.now.items in
    (all_told moduli entered parts states c.loop-ends.columns
    (subst (λ it. Each states (HasLed moduli entered parts it) c.loop-ends.columns) c.in-None-2.ensures.steps.0 c.loop-ends.invariant.1)).2

pub returns-clause-hold : goal.returns-clause-hold
returns-clause-hold c =
    let moduli = c.args.moduli.now in
    let entered = c.args.entered.now.entries in
    let parts = c.args.parts.now.entries in
    let states = c.args.states.now.items in
    (all_told moduli entered parts states c.loop-ends.columns
    (subst (λ it. Each states (HasLed moduli entered parts it) c.loop-ends.columns) c.in-None-2.ensures.steps.0 c.loop-ends.invariant.1)).3
