use Rattle.std.proofs.Common.{◌≡◌, ℕ, ◌+◌, ◌*◌, ◌^◌, ◌<◌, [], ◌∷◌, ◌++◌, length, drop, get_or, append_assoc, append-nil, sym, ap, subst, subst₂, ◌∙◌, arith}
use Rattle.std.proofs.lemmas.List.{drop_all, get_or_default}
use Rattle.std.proofs.lemmas.List.Elements.{Contains-append_left}
use Rattle.narrow_fractions.proofs.Congruence.{chained, equal}
use Rattle.visit_finder.specs.declared.residues.Residues.{Residues}
use Rattle.visit_finder.specs.Places.{modulus, form_at}
use Rattle.visit_finder.specs.inner.Columns.{row_at}
use Rattle.visit_finder.proofs.AtPlaces.{sum_at, product_at}
use Rattle.visit_finder.proofs.Rows.{one_step, Joined, none_joined, other_joined, both_joined}
use Rattle.visit_finder.proofs.columns.added.Goals as goal
use Rattle.visit_finder.proofs.columns.added.Goals.{then-at-len+then-index-entry+in_ok-push, else-at-len+in_ok-push-2}

pub loop-entry-init : goal.loop-entry-init
loop-entry-init c = record {
  within = omega arith;
  joined =
      subst₂ (λ all rest. Joined c.args.moduli.now c.args.factor.now c.args.row.now.items c.args.other.now.items (all ++ c.args.row.now.items) rest) (sym c.in_ok-all.ensures.items) (sym c.deref-entry-items.ensures.value)
      (none_joined c.args.moduli.now c.args.factor.now c.args.row.now.items c.args.other.now.items c.requires.row c.requires.other);
}

pub copied_below-requires : goal.copied_below-requires
copied_below-requires c = c.loop-entry.invariant.within

pub loop-entry-preserved : goal.loop-entry-preserved
loop-entry-preserved c =
    let moduli = c.args.moduli.now in
    let factor = c.args.factor.now in
    let row = c.args.row.now.items in
    let other = c.args.other.now.items in
    let entries = c.deref-entry-items.result.now in
    let none : ℕ × Residues = (0, record { at = [] }) in
    let entry = get_or entries c.loop-entry.entry-index none in
    let rest = drop (c.loop-entry.entry-index + 1) entries in
    let all = c.copied_below.new.all.items in
    let at = c.in_ok-at.at in
    let before =
    subst₂ (λ put left. Joined moduli factor row other put left) (sym c.in_ok-at.ensures.moved)
    (one_step entries c.loop-entry.entry-index none c.loop-entry-test.true) c.loop-entry.invariant.joined in
    let times = λ (place : ℕ) (within : place < 5) (below : form_at place entry.1 < modulus moduli place).
    product_at moduli place _ _ _ (c.product-more.ensures place within) (c.requires.factor place within) below in
    elim c.if-at-len.branch [
      | then-at-len+then-index-entry+in_ok-push w ↦
          let below : at < length row = omega (arith, w.if-at-len.true, c.len-in-loop-entry.ensures) in
          let here = w.index-then-index-entry.result.now in
          let behind = drop (at + 1) row in
          let same : here.0 ≡ entry.0 = ap (λ e. e.0) (w.index-then-index-entry.ensures ∙ get_or_default row at here w.index.result.now below ∙ sym w.index.ensures) ∙ w.if-index-entry.true in
          let first : drop at row ≡ (entry.0, here.1) ∷ behind = one_step row at here below ∙ ap (λ e. e ∷ behind) (sym w.index-then-index-entry.ensures) ∙ ap (λ s. (s, here.1) ∷ behind) same in
          let adds = λ (place : ℕ) (within : place < 5) (first : form_at place here.1 < modulus moduli place) (second : form_at place c.product-more.result < modulus moduli place).
          sum_at moduli place _ _ _ (w.sum.ensures place within) first second in record {
            within = omega (arith, below, w.at-is);
            joined =
                subst₂ (λ put at. Joined moduli factor row other (put ++ drop at row) rest) (sym (ap (λ all. all.items) w.all-is ∙ w.in_ok-push.ensures.items)) (sym w.at-is)
                (both_joined moduli factor row other all behind rest entry.0 entry.1 here.1 c.product-more.result w.sum.result times adds
                (subst (λ left. Joined moduli factor row other (all ++ left) (entry ∷ rest)) first before));
          }
      | else-at-len+in_ok-push-2 w ↦ record {
        within = omega (arith, c.in_ok-at.ensures.within, w.at-is);
        joined =
            subst₂ (λ put at. Joined moduli factor row other (put ++ drop at row) rest) (sym (ap (λ all. all.items) w.all-is ∙ w.in_ok-push-2.ensures.items)) (sym w.at-is)
            (other_joined moduli factor row other all (drop at row) rest entry.0 entry.1 c.product-more.result times before);
      }
    ]

pub loop-at-init : goal.loop-at-init
loop-at-init c = record {
  within = c.loop-entry.invariant.within;
  joined =
      subst (λ rest. Joined c.args.moduli.now c.args.factor.now c.args.row.now.items c.args.other.now.items (c.loop-entry.all.items ++ drop c.loop-entry.at c.args.row.now.items) rest)
      (drop_all c.loop-entry.entry-index c.deref-entry-items.result.now c.loop-entry-test.false) c.loop-entry.invariant.joined;
}

pub loop-at-preserved : goal.loop-at-preserved
loop-at-preserved c =
    let row = c.args.row.now.items in
    let at = c.loop-at.at in
    let below : at < length row = omega (arith, c.loop-at-test.true, c.len-in-loop-at.ensures) in record {
      within = omega (arith, below);
      joined =
          subst (λ put. Joined c.args.moduli.now c.args.factor.now row c.args.other.now.items put [])
          (ap (λ rest. c.loop-at.all.items ++ rest) (one_step row at c.index-in-loop-at.result.now below) ∙ sym (append_assoc c.loop-at.all.items (get_or row at c.index-in-loop-at.result.now ∷ []) (drop (at + 1) row)) ∙ ap (λ put. put ++ drop (at + 1) row) (ap (λ e. c.loop-at.all.items ++ e ∷ []) (sym c.index-in-loop-at.ensures) ∙ sym c.in_ok-push-3.ensures.items)) c.loop-at.invariant.joined;
    }

pub returns-clause-forms : goal.returns-clause-forms
returns-clause-forms c k r h place within =
    c.loop-at.invariant.joined.put_by k r (Contains-append_left c.loop-at.all.items _ (k, r) h) place within

pub returns-clause-sum : goal.returns-clause-sum
returns-clause-sum c place within v =
    let m = modulus c.args.moduli.now place in
    let row = c.args.row.now.items in
    let past = drop_all c.loop-at.at row (omega (arith, c.loop-at-test.false, c.len-in-loop-at.ensures)) in
    let whole : c.loop-at.all.items ++ drop c.loop-at.at row ≡ c.loop-at.all.items = ap (λ rest. c.loop-at.all.items ++ rest) past ∙ append-nil c.loop-at.all.items in
    chained m _ _ _ (equal m _ (2 ^ 64 * row_at place (c.loop-at.all.items ++ drop c.loop-at.at row) v + form_at place c.args.factor.now * 0) (let e = ap (λ put. 2 ^ 64 * row_at place put v) whole in omega (arith, e)))
    (c.loop-at.invariant.joined.sum place within v)
