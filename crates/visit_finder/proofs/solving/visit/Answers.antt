use Rattle.std.proofs.Common.{◌+◌, sym, subst, subst₂}
use Rattle.std.proofs.lemmas.List.Elements.{Contains-get_or}
use Rattle.visit_finder.specs.Equations.{AllForms}
use Rattle.visit_finder.proofs.Entries.{has_found}
use Rattle.visit_finder.proofs.Visited.{IsVisiting, visiting_first, visiting_more, visiting_lost, visiting_last}
use Rattle.visit_finder.proofs.solving.visit.Goals as goal
use Rattle.visit_finder.proofs.solving.visit.Goals.{in-Some, in-None}

pub loop-source-init : goal.loop-source-init
loop-source-init c = visiting_first c.args.moduli.now c.args.visits.now.entries c.args.pivot.now.column.entered c.deref-source-items.result.now c.requires.pivot.from.entered

pub loop-source-preserved : goal.loop-source-preserved
loop-source-preserved c =
    let old = c.args.moduli.now in
    let visits = c.args.visits.now.entries in
    let row = c.deref-source-items.result.now in
    let k = c.loop-source.source-index in
    let forms : AllForms old row = subst (AllForms old) (sym c.deref-source-items.ensures.value) c.requires.pivot.from.from in
    elim c.match-get.branch [
      | in-Some w ↦
          let has = has_found visits _ w.in-Some.visited.now (sym w.in-Some.ensures.value) in
          subst₂ (λ new sum. IsVisiting old new visits c.args.pivot.now.column.entered sum row (k + 1)) (sym w.moduli-is) (sym w.sum-is)
          (visiting_more old c.loop-source.moduli visits c.args.pivot.now.column.entered c.loop-source.sum w.product.result w.sum-sum.result row k _ w.in-Some.visited.now c.loop-source-test.true
          (forms _ _ (Contains-get_or row k _ c.loop-source-test.true)) (c.requires.visits _ _ has) has w.product.ensures w.sum-sum.ensures c.loop-source.invariant)
      | in-None w ↦
          subst₂ (λ new sum. IsVisiting old new visits c.args.pivot.now.column.entered sum row (k + 1)) (sym w.moduli-is) (sym w.sum-is)
          (visiting_lost old c.loop-source.moduli w.lose.new.self visits c.args.pivot.now.column.entered c.loop-source.sum row k w.lose.ensures.loses w.lose.ensures.all c.loop-source.invariant)
    ]

pub returns-clause-loses : goal.returns-clause-loses
returns-clause-loses c = c.loop-source.invariant.loses

pub returns-clause-forms : goal.returns-clause-forms
returns-clause-forms c =
    let pivot = c.args.pivot.now in
    (visiting_last c.args.moduli.now c.loop-source.moduli c.args.visits.now.entries pivot.state pivot.column c.loop-source.sum pivot.leaves c.product-2.result c.deref-source-items.result.now c.loop-source.source-index
    c.deref-source-items.ensures.value c.loop-source-test.false c.requires.pivot.over c.product-2.ensures c.loop-source.invariant).0

pub returns-clause-known : goal.returns-clause-known
returns-clause-known c =
    let pivot = c.args.pivot.now in
    (visiting_last c.args.moduli.now c.loop-source.moduli c.args.visits.now.entries pivot.state pivot.column c.loop-source.sum pivot.leaves c.product-2.result c.deref-source-items.result.now c.loop-source.source-index
    c.deref-source-items.ensures.value c.loop-source-test.false c.requires.pivot.over c.product-2.ensures c.loop-source.invariant).1
