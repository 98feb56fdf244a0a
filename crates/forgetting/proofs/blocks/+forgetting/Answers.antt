use Rattle.std.proofs.Common.{◌≡◌, rules, arith, subst, ap, sym, ◌∙◌, ℕ, ◌-◌, reverse}
use Rattle.std.proofs.Math.Path.{fun_ext}
use Rattle.gcl_core.specs.declared.rules.TheConstants.{MOST_NAMES}
use Rattle.gcl_core.specs.declared.syntax.Arms.{out-Arms}
use Rattle.gcl_core.specs.declared.syntax.Block.{Block}
use Rattle.gcl_core.specs.declared.syntax.Stmt.{the_lemmas}
use Rattle.gcl_core.specs.meaning.Bounds.{StatementBelow, BlockBelow}
use Rattle.gcl_core.specs.meaning.Views.{statement_of, list_of, statements_of}
use Rattle.gcl_core.proofs.ViewLemmas.{views}
use Rattle.forgetting.specs.declared.name_set.NameSet.{NameSet}
use Rattle.forgetting.specs.Liveness.{both}
use Rattle.forgetting.specs.Forgetful.{ends_with}
use Rattle.forgetting.specs.Marks.{marked}
use Rattle.forgetting.specs.inner.Fronts.{filled_at}
use Rattle.forgetting.proofs.Marking.{below_at, arm_below_at}
use Rattle.forgetting.proofs.Making.{put, next_before, next_made}
use Rattle.forgetting.proofs.blocks.+forgetting.Goals as goal

pub forgetful_arms-forgetful_branch-requires : goal.forgetful_arms-forgetful_branch-requires
forgetful_arms-forgetful_branch-requires t c = (
  search (rules, the_lemmas),
  (
    subst (λ (a : ℕ × Block). BlockBelow MOST_NAMES (statements_of a.1)) (sym c.index.ensures)
        (arm_below_at MOST_NAMES (out-Arms c.args.arms.now).arms.items (c.loop-i.i - 1) c.index.result.now (omega (arith, c.loop-i-test.true, c.loop-i.invariant.place)) c.requires.below),
    c.requires.few,
  ),
)

pub forgetful_branch-names_ended-requires : goal.forgetful_branch-names_ended-requires
forgetful_branch-names_ended-requires t c =
    subst (λ s. StatementBelow MOST_NAMES (statement_of s)) (sym c.index-statement.ensures)
    (below_at MOST_NAMES c.args.block.now.stmts.items (c.loop-i.i - 1) c.index-statement.result.now (omega (arith, c.loop-i-test.true, c.loop-i.invariant.place)) c.requires.below)

pub forgetful_branch-forgetful_statement-requires : goal.forgetful_branch-forgetful_statement-requires
forgetful_branch-forgetful_statement-requires t c = (
  search (rules, the_lemmas),
  (
    subst (λ s. StatementBelow MOST_NAMES (statement_of s)) (sym c.index-statement.ensures)
        (below_at MOST_NAMES c.args.block.now.stmts.items (c.loop-i.i - 1) c.index-statement.result.now (omega (arith, c.loop-i-test.true, c.loop-i.invariant.place)) c.requires.below),
    c.requires.few,
  ),
)

pub forgetful_branch-before_statement-set-requires : goal.forgetful_branch-before_statement-set-requires
forgetful_branch-before_statement-set-requires t c =
    subst (λ s. StatementBelow MOST_NAMES (statement_of s)) (sym c.index-statement.ensures)
    (below_at MOST_NAMES c.args.block.now.stmts.items (c.loop-i.i - 1) c.index-statement.result.now (omega (arith, c.loop-i-test.true, c.loop-i.invariant.place)) c.requires.below)

pub forgetful_branch-index-behind-requires : goal.forgetful_branch-index-behind-requires
forgetful_branch-index-behind-requires t c = omega (arith, c.loop-i.invariant.place, c.in_ok-fronts.ensures.length)

pub forgetful_branch-index-front-requires : goal.forgetful_branch-index-front-requires
forgetful_branch-index-front-requires t c = omega (arith, c.loop-i-test.true, c.loop-i.invariant.place, c.in_ok-fronts.ensures.length)

pub forgetful_branch-index-statement-requires : goal.forgetful_branch-index-statement-requires
forgetful_branch-index-statement-requires t c = omega (arith, c.loop-i-test.true, c.loop-i.invariant.place)

pub forgetful_branch-loop-i-preserved : goal.forgetful_branch-loop-i-preserved
forgetful_branch-loop-i-preserved t c =
    let ss = c.args.block.now.stmts.items in
    let filled = marked c.args.filled.marks in
    let behind : marked c.index-behind.result.now.marks ≡ filled_at c.loop-i.i ss filled =
    ap (λ (s : NameSet). marked s.marks) c.index-behind.ensures ∙ c.in_ok-fronts.ensures.sets c.loop-i.i c.index-behind.result.now c.loop-i.invariant.place in
    let front : marked c.index-front.result.now.marks ≡ filled_at (c.loop-i.i - 1) ss filled =
    ap (λ (s : NameSet). marked s.marks) c.index-front.ensures
    ∙ c.in_ok-fronts.ensures.sets (c.loop-i.i - 1) c.index-front.result.now (omega (arith, c.loop-i.invariant.place)) in
    record {
      place = omega (arith, c.loop-i.invariant.place);
      set = next_before ss (c.loop-i.i - 1) c.loop-i.i c.index-statement.result.now (marked c.args.after.marks) (marked c.loop-i.set.marks) _
          (omega (arith, c.loop-i-test.true, c.loop-i.invariant.place)) (omega (arith, c.loop-i-test.true)) c.index-statement.ensures c.loop-i.invariant.set (fun_ext c.before_statement-set.ensures);
      made =
          ap (λ ms. list_of (reverse ms)) c.in_ok-push.ensures.items ∙ put c.in_ok-reversed.reversed.items c.in_ok-forgetful_statement.field-0
          ∙ next_made c.args.count ss (c.loop-i.i - 1) c.loop-i.i c.index-statement.result.now filled (marked c.args.after.marks) (marked c.loop-i.set.marks) _ _ _ _ _
          (omega (arith, c.loop-i-test.true, c.loop-i.invariant.place)) (omega (arith, c.loop-i-test.true)) c.index-statement.ensures c.loop-i.invariant.set c.loop-i.invariant.made
          (c.names_ended.ensures ∙ ap (both (ends_with (statement_of c.index-statement.result.now) (marked c.loop-i.set.marks))) behind)
          c.in_ok-reversed.ensures front c.in_ok-forgetful_statement.ensures;
    }

pub forgetful_statement-forgetful_branch-requires : goal.forgetful_statement-forgetful_branch-requires
forgetful_statement-forgetful_branch-requires t c = (search (rules, the_lemmas), grind (arith, views))

pub forgetful_statement-forgetful_branch-requires-in-If : goal.forgetful_statement-forgetful_branch-requires-in-If
forgetful_statement-forgetful_branch-requires-in-If t c = (search (rules, the_lemmas), grind (arith, views))

pub forgetful_statement-forgetful_branch-requires-in-While : goal.forgetful_statement-forgetful_branch-requires-in-While
forgetful_statement-forgetful_branch-requires-in-While t c = (search (rules, the_lemmas), grind (arith, views))

pub forgetful_statement-forgetful_branch-requires-in-Choice : goal.forgetful_statement-forgetful_branch-requires-in-Choice
forgetful_statement-forgetful_branch-requires-in-Choice t c = (search (rules, the_lemmas), grind (arith, views))

pub forgetful_statement-forgetful_branch-requires-in-Choice-2 : goal.forgetful_statement-forgetful_branch-requires-in-Choice-2
forgetful_statement-forgetful_branch-requires-in-Choice-2 t c = (search (rules, the_lemmas), grind (arith, views))

pub forgetful_statement-forgetful_arms-requires : goal.forgetful_statement-forgetful_arms-requires
forgetful_statement-forgetful_arms-requires t c = (search (rules, the_lemmas), grind (arith, views))
