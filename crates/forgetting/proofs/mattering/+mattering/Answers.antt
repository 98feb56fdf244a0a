use Rattle.std.proofs.Common.{rules, arith, subst, sym, ℕ, ◌-◌}
use Rattle.gcl_core.specs.declared.rules.TheConstants.{MOST_NAMES}
use Rattle.gcl_core.specs.declared.syntax.Arms.{out-Arms}
use Rattle.gcl_core.specs.declared.syntax.Block.{Block}
use Rattle.gcl_core.specs.meaning.Bounds.{StatementBelow, BlockBelow}
use Rattle.gcl_core.specs.meaning.Views.{statement_of, statements_of}
use Rattle.gcl_core.specs.declared.syntax.Stmt.{the_lemmas}
use Rattle.gcl_core.proofs.ViewLemmas.{views}
use Rattle.forgetting.proofs.Marking.{below_at, arm_below_at}
use Rattle.forgetting.proofs.mattering.+mattering.Goals as goal

pub before_arms-before_block-requires : goal.before_arms-before_block-requires
before_arms-before_block-requires t c = (
  search (rules, the_lemmas),
  subst (λ (a : ℕ × Block). BlockBelow MOST_NAMES (statements_of a.1)) (sym c.index.ensures)
      (arm_below_at MOST_NAMES (out-Arms c.args.arms.now).arms.items (c.loop-i.i - 1) c.index.result.now (omega (arith, c.loop-i-test.true, c.loop-i.invariant.place)) c.requires),
)

pub before_block-before_statement-set-requires : goal.before_block-before_statement-set-requires
before_block-before_statement-set-requires t c = (
  search (rules, the_lemmas),
  subst (λ s. StatementBelow MOST_NAMES (statement_of s)) (sym c.index.ensures)
      (below_at MOST_NAMES c.args.block.now.stmts.items (c.loop-i.i - 1) c.index.result.now (omega (arith, c.loop-i-test.true, c.loop-i.invariant.place)) c.requires),
)

pub before_statement-before_block-requires : goal.before_statement-before_block-requires
before_statement-before_block-requires t c = (search (rules, the_lemmas), grind (arith, views))

pub before_statement-before_block-requires-in-If : goal.before_statement-before_block-requires-in-If
before_statement-before_block-requires-in-If t c = (search (rules, the_lemmas), grind (arith, views))

pub before_statement-before_block-requires-in-While : goal.before_statement-before_block-requires-in-While
before_statement-before_block-requires-in-While t c = (search (rules, the_lemmas), grind (arith, views))

pub before_statement-before_block-requires-in-Choice : goal.before_statement-before_block-requires-in-Choice
before_statement-before_block-requires-in-Choice t c = (search (rules, the_lemmas), grind (arith, views))

pub before_statement-before_block-requires-in-Choice-2 : goal.before_statement-before_block-requires-in-Choice-2
before_statement-before_block-requires-in-Choice-2 t c = (search (rules, the_lemmas), grind (arith, views))

pub before_statement-before_arms-requires : goal.before_statement-before_arms-requires
before_statement-before_arms-requires t c = (search (rules, the_lemmas), grind (arith, views))
