use Rattle.std.proofs.Common.{rules, arith, subst, sym, ℕ, ◌-◌}
use Rattle.gcl_core.specs.declared.rules.TheConstants.{MOST_NAMES}
use Rattle.gcl_core.specs.declared.syntax.Arms.{out-Arms}
use Rattle.gcl_core.specs.declared.syntax.Block.{Block}
use Rattle.gcl_core.specs.meaning.Bounds.{StatementBelow, BlockBelow}
use Rattle.gcl_core.specs.meaning.Views.{statement_of, statements_of}
use Rattle.gcl_core.specs.declared.syntax.Stmt.{the_lemmas}
use Rattle.gcl_core.proofs.ViewLemmas.{views}
use Rattle.forgetting.proofs.Marking.{below_at, arm_below_at}
use Rattle.forgetting.proofs.filled.+filling.Goals as goal

pub behind_arms-behind_block-requires : goal.behind_arms-behind_block-requires
behind_arms-behind_block-requires t c = (
  search (rules, the_lemmas),
  subst (λ (a : ℕ × Block). BlockBelow MOST_NAMES (statements_of a.1)) (sym c.index.ensures)
      (arm_below_at MOST_NAMES (out-Arms c.args.arms.now).arms.items (c.loop-i.i - 1) c.index.result.now (omega (arith, c.loop-i-test.true, c.loop-i.invariant.place)) c.requires),
)

pub behind_block-behind_statement-set-requires : goal.behind_block-behind_statement-set-requires
behind_block-behind_statement-set-requires t c = (
  search (rules, the_lemmas),
  subst (λ s. StatementBelow MOST_NAMES (statement_of s)) (sym c.index.ensures)
      (below_at MOST_NAMES c.args.block.now.stmts.items c.loop-i.i c.index.result.now (omega (arith, c.loop-i-test.true, c.loop-i.auto.i-end, c.len-i-end.ensures)) c.requires),
)

pub behind_statement-behind_block-requires : goal.behind_statement-behind_block-requires
behind_statement-behind_block-requires t c = (search (rules, the_lemmas), grind (arith, views))

pub behind_statement-behind_block-requires-in-If : goal.behind_statement-behind_block-requires-in-If
behind_statement-behind_block-requires-in-If t c = (search (rules, the_lemmas), grind (arith, views))

pub behind_statement-behind_block-requires-in-If-2 : goal.behind_statement-behind_block-requires-in-If-2
behind_statement-behind_block-requires-in-If-2 t c = (search (rules, the_lemmas), grind (arith, views))

pub behind_statement-behind_arms-requires : goal.behind_statement-behind_arms-requires
behind_statement-behind_arms-requires t c = (search (rules, the_lemmas), grind (arith, views))
