use Rattle.std.proofs.Common.{◌≡◌, ◌∙◌, Bool, true, false, ◌||◌, sym, ap}
use Rattle.std.proofs.lemmas.List.Folds.{list_any-append}
use Rattle.std.specs.List.{list_any}
use Rattle.gcl_core.specs.declared.syntax.Block.{Block}
use Rattle.gcl_core.specs.declared.syntax.Expr.{Expr}
use Rattle.gcl_core.specs.declared.syntax.Stmt.{Stmt}
use Rattle.gcl_core.specs.declared.syntax.Stmt.TheVariants as stmt
use Rattle.gcl_core.specs.declared.syntax.Weight.{Weight}
use Rattle.gcl_core.specs.meaning.Views.{statement_of, statements_of}
use Rattle.gcl_core.specs.text.ReadingOrder.{statement_listed, listed}
use Rattle.gcl_core.proofs.ViewLemmas.{if_view, choice_view}
use Rattle.exact_fold.specs.Loops.{is_loop, any_loops}
use Rattle.exact_fold.proofs.loops.+loops.Goals as goal

abbrev loops_in : Stmt → Bool
loops_in s = list_any is_loop (statement_listed (statement_of s))

abbrev either_loops : Block → Block → Bool
either_loops a b = any_loops (statements_of a) || any_loops (statements_of b)

if_loops : (s : Stmt) (e : Expr) (a b : Block) → s ≡ stmt.If e a b → loops_in s ≡ either_loops a b
if_loops s e a b is =
    ap (λ s. list_any is_loop (statement_listed s)) (ap statement_of is ∙ if_view e a b) ∙ list_any-append is_loop (listed (statements_of a)) (listed (statements_of b))

choice_loops : (s : Stmt) (w : Weight) (a b : Block) → s ≡ stmt.Choice w a b → loops_in s ≡ either_loops a b
choice_loops s w a b is =
    ap (λ s. list_any is_loop (statement_listed s)) (ap statement_of is ∙ choice_view w a b)
    ∙ list_any-append is_loop (listed (statements_of a)) (listed (statements_of b))

first_does : (all a b r : Bool) → all ≡ (a || b) → r ≡ a → r ≡ true → r ≡ all
first_does all a b r e f g = g ∙ sym (e ∙ ap (λ x. x || b) (sym f ∙ g))

second_may : (all a b r q : Bool) → all ≡ (a || b) → r ≡ a → r ≡ false → q ≡ b → q ≡ all
second_may all a b r q e f g h = h ∙ sym (e ∙ ap (λ x. x || b) (sym f ∙ g))

pub statement_loops-returns-then-block_loops : goal.statement_loops-returns-then-block_loops
statement_loops-returns-then-block_loops t c =
    first_does _ _ _ _ (if_loops _ c.in-If.field-0 c.in-If.first c.in-If.second c.in-If.is) c.block_loops.ensures c.if-block_loops.true

pub statement_loops-returns-else-block_loops : goal.statement_loops-returns-else-block_loops
statement_loops-returns-else-block_loops t c =
    second_may _ _ _ _ _ (if_loops _ c.in-If.field-0 c.in-If.first c.in-If.second c.in-If.is) c.block_loops.ensures c.if-block_loops.false c.block_loops-else-block_loops.ensures

pub statement_loops-returns-then-block_loops-2 : goal.statement_loops-returns-then-block_loops-2
statement_loops-returns-then-block_loops-2 t c =
    first_does _ _ _ _ (choice_loops _ c.in-Choice.field-0 c.in-Choice.first c.in-Choice.second c.in-Choice.is) c.block_loops-in-Choice.ensures c.if-block_loops-2.true

pub statement_loops-returns-else-block_loops-2 : goal.statement_loops-returns-else-block_loops-2
statement_loops-returns-else-block_loops-2 t c =
    second_may _ _ _ _ _ (choice_loops _ c.in-Choice.field-0 c.in-Choice.first c.in-Choice.second c.in-Choice.is) c.block_loops-in-Choice.ensures c.if-block_loops-2.false c.block_loops-else-block_loops-2.ensures
