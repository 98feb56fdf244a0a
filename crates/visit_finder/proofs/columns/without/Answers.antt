use Rattle.std.proofs.Common.{ℕ, ◌+◌, [], drop, get_or, sym, ap, subst, subst₂, ◌∙◌, arith}
use Rattle.std.proofs.lemmas.List.{drop_all}
use Rattle.narrow_fractions.proofs.Congruence.{chained, equal}
use Rattle.visit_finder.specs.declared.residues.Residues.{Residues}
use Rattle.visit_finder.specs.Places.{modulus}
use Rattle.visit_finder.specs.inner.Columns.{row_at}
use Rattle.visit_finder.proofs.AtPlaces.{sum_at}
use Rattle.visit_finder.proofs.Rows.{one_step, Without, none_without, another_without, part_without}
use Rattle.visit_finder.proofs.columns.without.Goals as goal
use Rattle.visit_finder.proofs.columns.without.Goals.{then-entry-state, else-entry-state+in_ok-push}

pub loop-entry-init : goal.loop-entry-init
loop-entry-init c =
    let moduli = c.args.moduli.now in
    subst₂ (λ others rest. Without moduli c.args.state c.args.column.now.from.items c.zero-part.result others rest) (sym c.in_ok-others.ensures.items) (sym c.deref-entry-items.ensures.value)
    (none_without moduli c.args.state c.args.column.now.from.items c.zero-part.result (λ place within. c.zero-part.ensures moduli place (let h = c.requires.entered place within in omega (arith, h))) c.requires.from)

pub loop-entry-preserved : goal.loop-entry-preserved
loop-entry-preserved c =
    let moduli = c.args.moduli.now in
    let entries = c.deref-entry-items.result.now in
    let at = c.loop-entry.entry-index in
    let none : ℕ × Residues = (0, record { at = [] }) in
    let entry = get_or entries at none in
    let rest = drop (at + 1) entries in
    let before = subst (λ left. Without moduli c.args.state c.args.column.now.from.items c.loop-entry.part c.loop-entry.others.items left) (one_step entries at none c.loop-entry-test.true) c.loop-entry.invariant in
    elim c.if-entry-state.branch [
      | then-entry-state w ↦
          subst₂ (λ part others. Without moduli c.args.state c.args.column.now.from.items part others.items rest) (sym w.part-is) (sym w.others-is)
          (part_without moduli c.args.state c.args.column.now.from.items c.loop-entry.part c.loop-entry.others.items rest entry.0 entry.1 w.sum-part.result w.if-entry-state.true
          (λ place within. sum_at moduli place _ _ _ (w.sum-part.ensures place within)) before)
      | else-entry-state+in_ok-push w ↦
          subst₂ (λ part others. Without moduli c.args.state c.args.column.now.from.items part others rest) (sym w.part-is) (sym (ap (λ others. others.items) w.others-is ∙ w.in_ok-push.ensures.items))
          (another_without moduli c.args.state c.args.column.now.from.items c.loop-entry.part c.loop-entry.others.items rest entry.0 entry.1 before)
    ]

pub returns-clause-sum : goal.returns-clause-sum
returns-clause-sum c place within v =
    let m = modulus c.args.moduli.now place in
    let none = ap (λ row. row_at place row v) (drop_all c.loop-entry.entry-index c.deref-entry-items.result.now c.loop-entry-test.false) in
    chained m _ _ _ (c.loop-entry.invariant.sum place within v) (equal m _ _ (omega (arith, none)))
