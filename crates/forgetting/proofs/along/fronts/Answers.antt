use Rattle.std.proofs.Common.{◌≡◌, ◌∙◌, ◌+◌, ◌<◌, [], ◌∷◌, length, arith, subst, sym, ap}
use Rattle.std.proofs.lemmas.List.{length-append}
use Rattle.std.proofs.Math.Path.{fun_ext}
use Rattle.gcl_core.specs.declared.rules.TheConstants.{MOST_NAMES}
use Rattle.gcl_core.specs.meaning.Bounds.{StatementBelow}
use Rattle.gcl_core.specs.meaning.Views.{statement_of}
use Rattle.forgetting.specs.Marks.{marked}
use Rattle.forgetting.specs.Filling.{behind_statement}
use Rattle.forgetting.specs.inner.Fronts.{filled_at}
use Rattle.forgetting.proofs.FilledPlaces.{filled_next, more_sets}
use Rattle.forgetting.proofs.Marking.{below_at}
use Rattle.forgetting.proofs.along.fronts.Goals as goal

pub behind_statement-set-requires : goal.behind_statement-set-requires
behind_statement-set-requires c =
    subst (λ s. StatementBelow MOST_NAMES (statement_of s)) (sym c.index.ensures)
    (below_at MOST_NAMES c.args.block.now.stmts.items c.loop-i.i c.index.result.now (omega (arith, c.loop-i-test.true, c.loop-i.auto.i-end, c.len-i-end.ensures)) c.requires)

pub loop-i-preserved : goal.loop-i-preserved
loop-i-preserved c =
    let ss = c.args.block.now.stmts.items in
    let filled = marked c.args.filled.marks in
    let lt : c.loop-i.i < length ss = omega (arith, c.loop-i-test.true, c.loop-i.auto.i-end, c.len-i-end.ensures) in
    let front : marked c.behind_statement-set.result.marks ≡ filled_at (c.loop-i.i + 1) ss filled =
    fun_ext c.behind_statement-set.ensures ∙ ap (behind_statement (statement_of c.index.result.now)) c.loop-i.invariant.front
    ∙ sym (filled_next ss filled c.loop-i.i (c.loop-i.i + 1) c.index.result.now lt (omega arith) c.index.ensures) in
    record {
      place = omega (arith, lt);
      length = ap length c.in_ok-push-2.ensures.items ∙ length-append c.loop-i.sets.items (c.behind_statement-set.result ∷ []) ∙ ap (λ n. n + 1) c.loop-i.invariant.length;
      front = front;
      sets = more_sets ss filled c.loop-i.sets.items c.push-in-loop-i.new.self.items c.behind_statement-set.result c.loop-i.i (c.loop-i.i + 1) c.loop-i.invariant.length (omega arith)
          c.in_ok-push-2.ensures.items c.loop-i.invariant.sets front;
    }
