use Rattle.std.proofs.Common.{◌*◌, ◌^◌, ◌<◌, refl, sym, subst, subst₂, arith}
use Rattle.narrow_fractions.proofs.Congruence.{chained, equal, added}
use Rattle.visit_finder.specs.Forms.{IsInverse}
use Rattle.visit_finder.specs.Places.{modulus, form_at}
use Rattle.visit_finder.specs.inner.Columns.{ColumnsForms}
use Rattle.visit_finder.specs.inner.Pivots.{Renews}
use Rattle.visit_finder.proofs.AtPlaces.{difference_at, over_inverse_at, same_modulus}
use Rattle.visit_finder.proofs.Eliminated.{pivot_told}
use Rattle.visit_finder.proofs.solving.Left.eliminate.Goals as goal

pub replace-requires-clause-columns : goal.replace-requires-clause-columns
replace-requires-clause-columns c = subst (λ columns. ColumnsForms c.args.moduli.now columns) (sym c.stand_down.ensures) c.requires.columns

pub replace-requires-clause-pivot : goal.replace-requires-clause-pivot
replace-requires-clause-pivot c = record {
  over = λ place within. subst (λ m. form_at place c.inverse-leaves.result < m) (same_modulus c.args.moduli.now c.inverse-leaves.new.self place c.inverse-leaves.ensures.loses) (c.inverse-leaves.ensures.forms place within);
  from = record { entered = c.requires.column.entered; from = c.in_ok-from.ensures.others };
}

pub returns-clause-pivot : goal.returns-clause-pivot
returns-clause-pivot c = record {
  over = λ place within. subst (λ m. form_at place c.inverse-leaves.result < m) (same_modulus c.args.moduli.now c.inverse-leaves.new.self place c.inverse-leaves.ensures.loses) (c.inverse-leaves.ensures.forms place within);
  from = record { entered = c.requires.column.entered; from = c.in_ok-from.ensures.others };
}

pub returns-clause-renews : goal.returns-clause-renews
returns-clause-renews c =
    subst₂ (λ old new. Renews c.args.moduli.now c.args.state c.inverse-leaves.result record { entered = c.args.column.entered; from = c.in_ok-from.from } old new) c.stand_down.ensures (sym c.rank_all.ensures) c.in_ok-replace.ensures

pub returns-clause-told : goal.returns-clause-told
returns-clause-told c place within kept once v holds =
    let moduli = c.args.moduli.now in
    let m = modulus moduli place in
    let back = form_at place c.in_ok-from.back in
    let one = c.of_number.ensures place within in
    let rest = difference_at moduli place c.of_number.result c.in_ok-from.back c.difference-rest.result (c.difference-rest.ensures place within) one.0 (c.in_ok-from.ensures.part place within) in
    let inverse = subst (λ m. IsInverse m (form_at place c.difference-rest.result) (form_at place c.inverse-leaves.result)) (same_modulus c.args.moduli.now c.inverse-leaves.new.self place c.inverse-leaves.ensures.loses) (c.inverse-leaves.ensures.inverse place within kept) in
    pivot_told (2 ^ 64) m (form_at place c.difference-rest.result) back (form_at place c.inverse-leaves.result) (v c.args.state) _
    (chained m _ _ _ rest.1 (chained m _ _ _ one.1 (equal m _ _ (omega arith))))
    (over_inverse_at moduli place c.difference-rest.result c.inverse-leaves.result inverse rest.0)
    (chained m _ _ _ holds
    (chained m _ _ _ (added m _ _ _ _ (equal m (form_at place c.args.column.entered * once) _ refl) (c.in_ok-from.ensures.sum place within v)) (equal m _ _ (omega arith))))
